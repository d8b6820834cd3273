-- What the two tables of the slices keep.
use Rattle.std.specs.Prelude.{◌≡◌, ℕ, ◌≤◌, true, false, List, [], ◌∷◌, length, map, nat_lt, nat_eq, ◌==◌, not, is_some, Bool, Option, ◌/◌, ◌%◌, ◌-◌}
use Rattle.std.specs.List.{list_all, list_any}
use Rattle.std.specs.Map.{lookup}
use Rattle.std.specs.Option.{option_map}
use Rattle.sd_idmap.specs.declared.sids.Sid.{Sid}
use Rattle.sd_idmap.specs.Slicing.{Placed, placed, same_domain}

-- no two domains are the same, and no two slices
abbrev pub AreApart : Placed → Type 0
AreApart [] = Unit {0}
AreApart (p ∷ ps) = (list_any (λ q. same_domain p.0 q.0) ps ≡ false) × ((list_any (λ q. p.1 == q.1) ps ≡ false) × AreApart ps)

abbrev pub turned : List ℕ × ℕ → ℕ × List ℕ
turned p = (p.1, p.0)

-- one table by the domains and one by the slices, with the same pairs in the same order
pub record AreTables (by_domain : Placed) (by_slice : List (ℕ × List ℕ)) : Type 0 where
  pub as_placed : by_domain ≡ placed (map (λ p. p.0) by_domain)
  pub turned_is : by_slice ≡ map turned by_domain
  pub apart : AreApart by_domain
  pub small : list_all (λ p. nat_lt p.1 10000) by_domain ≡ true
  pub few : length by_domain ≤ 10000

-- the table by slices has none there
abbrev pub is_empty_at : List (ℕ × List ℕ) → ℕ → Bool
is_empty_at by_slice slice = not (is_some (lookup (nat_eq slice) by_slice))

-- the SID of a number, by the slice that dividing gives
abbrev pub divided : List (ℕ × List ℕ) → ℕ → Option Sid
divided by_slice id =
    option_map (λ domain. record { domain = domain; rid = id % 200000 }) (lookup (nat_eq (id / 200000 - 1)) by_slice)
