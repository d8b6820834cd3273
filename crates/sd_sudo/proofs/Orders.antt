-- The order of rules is one.
use Rattle.std.specs.Cmp.{IsTotalOrder, IsStrictWeakOrder}
use Rattle.std.specs.Cmp.Rules.{comparing}
use Rattle.std.proofs.Common.{rules}
use Rattle.std.proofs.lemmas.List.Sorted.{ranks_by}
use Rattle.std.specs.Ordering.{is_lt}
use Rattle.sd_roles.specs.declared.roles.Role.{Role}
use Rattle.sd_sudo.specs.Applied.{role_cmp}

role_total : IsTotalOrder role_cmp
role_total = search (comparing, rules)

pub ranks : IsStrictWeakOrder (λ (a b : Role). is_lt (role_cmp a b))
ranks = ranks_by role_total (λ (r : Role). r)
