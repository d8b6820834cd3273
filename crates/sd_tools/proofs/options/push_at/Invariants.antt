use Rattle.std.proofs.Common.{◌≡◌, ◌++◌, drop}
use Rattle.sd_tools.specs.Options as options
use Rattle.sd_tools.proofs.options.push_at.Given as goal

-- what was put, and then what the options left put, is all
abbrev pub invariant-loop-item : goal.invariant-loop-item
invariant-loop-item l = l.requests.items ++ options.voids_at l.place (drop l.item-index l.items) ≡ l.fn.requests.items ++ options.voids_at l.place l.items
