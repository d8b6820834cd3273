use Rattle.std.proofs.Common.{◌≡◌, take, map}
use Rattle.sd_conf.proofs.choices.owned.Given as goal

-- the items so far
abbrev pub invariant-loop-item : goal.invariant-loop-item
invariant-loop-item l = l.found ≡ map (λ x. x.now) (take l.item-index l.items)
