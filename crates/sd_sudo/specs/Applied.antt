-- Which sudo rules apply, and in which order.
use Rattle.std.specs.Prelude.{ℕ, List, filter}
use Rattle.std.specs.Cmp.Lexicographic.{slice_cmp}
use Rattle.std.specs.List.Sorted.{IsPermutation, IsSorted, IsStable}
use Rattle.std.specs.Ordering.{nat_cmp, int_cmp, on, then_cmp}
use Rattle.std.specs.declared.cmp.Ordering.{Ordering}
use Rattle.sd_roles.specs.declared.roles.Role.{Role}
use Rattle.sd_roles.specs.declared.applying.Asker.{Asker}
use Rattle.sd_roles.specs.Applying.{applies}

-- by the order as a number, then by the bytes of the name
abbrev pub role_cmp : Role → Role → Ordering
role_cmp = then_cmp (on (λ (r : Role). r.order) int_cmp) (on (λ (r : Role). r.name) (slice_cmp nat_cmp))

-- the same rules by their order; those that it doesn't part stand as in the list
pub record AreInOrder (roles ordered : List Role) : Type 0 where
  pub same : IsPermutation roles ordered
  pub sorted : IsSorted role_cmp ordered
  pub stable : IsStable role_cmp roles ordered

-- the rules that apply to an asker who stands in these netgroups
abbrev pub applying : List Role → Asker → List (List ℕ) → List Role
applying roles asker nets = filter (λ (r : Role). applies r asker nets) roles

-- those in their order
abbrev pub AreApplied : List Role → Asker → List (List ℕ) → List Role → Type 0
AreApplied roles asker nets applied = AreInOrder (applying roles asker nets) applied
