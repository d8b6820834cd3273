use Rattle.std.proofs.Common.{◌≡◌, ◌++◌, take}
use Rattle.sd_conf.proofs.config.append.Given as goal

-- the servers so far
abbrev pub invariant-loop-server : goal.invariant-loop-server
invariant-loop-server l = l.servers ≡ l.fn.servers ++ take l.server-index l.server-items
