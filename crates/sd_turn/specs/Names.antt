-- The names of the seats, and which seat stands in whose list.
--
-- The first seat's name is the empty list. A seat that is split from another has the other's name, and behind it the number of splits that the other had made.
use Rattle.std.specs.Prelude.{◌≡◌, ℕ, ◌<◌, ◌==◌, Bool, true, not, ◌⊎◌, List, [], ◌∷◌, ◌++◌, length, filter, Contains}
use Rattle.std.specs.Cmp.Lexicographic.{pointwise}
use mathlib.Core.Option.{some}
use lib.ListN.{get_elem?}

abbrev pub child_name : List ℕ → ℕ → List ℕ
child_name name splits = name ++ splits ∷ []

-- the names, without each that is this one
abbrev pub without : List ℕ → List (List ℕ) → List (List ℕ)
without name names = filter (λ other. not (pointwise ◌==◌ name other)) names

-- what the names of a seat rest on. A seat that was joined into another lives no more.
pub record Member : Type 0 where
  pub lives : Bool
  pub name : List ℕ
  pub splits : ℕ
  pub out : List (List ℕ)

pub record Family (members : List Member) : Type 0 where
  -- No two seats that live have one name.
  pub unique : (i j : ℕ) (m n : Member) → get_elem? members i ≡ some m → get_elem? members j ≡ some n → m.lives ≡ true → n.lives ≡ true → m.name ≡ n.name → i ≡ j
  -- A name that goes on from that of a seat goes on with the number of a split that the seat has made.
  pub fresh : (i j : ℕ) (m n : Member) (split : ℕ) (rest : List ℕ) → get_elem? members i ≡ some m → get_elem? members j ≡ some n → m.lives ≡ true → n.lives ≡ true → n.name ≡ m.name ++ split ∷ rest → split < m.splits
  -- The names in the list of a seat are longer than its own.
  pub longer : (i : ℕ) (m : Member) (name : List ℕ) → get_elem? members i ≡ some m → m.lives ≡ true → Contains m.out name → length m.name < length name
  -- Each seat but the first stands in the list of another.
  pub parents : (i : ℕ) (m : Member) → get_elem? members i ≡ some m → m.lives ≡ true → (m.name ≡ []) ⊎ ((j : ℕ) × (p : Member) × (get_elem? members j ≡ some p) × (p.lives ≡ true) × Contains p.out m.name)
