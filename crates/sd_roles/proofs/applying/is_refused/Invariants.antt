use Rattle.std.proofs.Common.{◌≡◌, drop}
use Rattle.std.specs.List.{list_any}
use Rattle.sd_roles.specs.Applying as applying
use Rattle.sd_roles.proofs.applying.is_refused.Given as goal

-- the values that are left decide
abbrev pub invariant-loop-value : goal.invariant-loop-value
invariant-loop-value l =
    list_any (applying.refuses l.asker l.nets) (drop l.value-index l.users) ≡ list_any (applying.refuses l.asker l.nets) l.users
