use Rattle.std.proofs.Common.{◌≡◌, drop, map}
use Rattle.sd_conf.specs.Values.{servers_in, with_front}
use Rattle.sd_conf.proofs.servers.listed.Given as goal

-- the servers so far and those of the items left are those of all
abbrev pub invariant-loop-item : goal.invariant-loop-item
invariant-loop-item l = with_front l.found (servers_in l.is_uri (map (λ x. x.now) (drop l.item-index l.items))) ≡ servers_in l.is_uri (map (λ x. x.now) l.items)
