-- Names in byte order, each once.
use Rattle.std.specs.Prelude.{◌≡◌, ◌↔◌, ℕ, Bool, true, false, ◌&&◌, ◌||◌, ◌==◌, nat_lt, min, if◌then◌else◌, List, [], ◌∷◌, map, Option, Some, None}
use Rattle.std.specs.List.{All, Contains}
use Rattle.sd_rules.specs.Keys.{same_name}
use Rattle.sd_rules.specs.declared.records.GroupRef.{GroupRef}

-- before it in byte order
abbrev pub is_before : List ℕ → List ℕ → Bool
is_before [] [] = false
is_before [] (b ∷ bs) = true
is_before (a ∷ rest) [] = false
is_before (a ∷ rest) (b ∷ bs) = nat_lt a b || (a == b && is_before rest bs)

-- all of these are after it
abbrev pub AllAfter : List ℕ → List (List ℕ) → Type 0
AllAfter name [] = Unit {0}
AllAfter name (other ∷ others) = (is_before name other ≡ true) × AllAfter name others

-- names that rise strictly in byte order
abbrev pub Ascends : List (List ℕ) → Type 0
Ascends [] = Unit {0}
Ascends (name ∷ names) = AllAfter name names × Ascends names

-- names in byte order, each once: they rise strictly, and are the same names
pub record AreInOrder (names ordered : List (List ℕ)) : Type 0 where
  pub rise : Ascends ordered
  pub same : (name : List ℕ) → Contains ordered name ↔ Contains names name

-- one name more, in its place among those in order
abbrev pub with_name : List ℕ → List (List ℕ) → List (List ℕ)
with_name name [] = name ∷ []
with_name name (other ∷ others) =
    if same_name name other then other ∷ others
    else if is_before name other then name ∷ other ∷ others
    else other ∷ with_name name others

-- the list in order of some names, put in their places one by one
abbrev pub in_order : List (List ℕ) → List (List ℕ)
in_order [] = []
in_order (name ∷ names) = with_name name (in_order names)

-- the lesser of two numbers, where there are two
abbrev pub lesser : Option ℕ → Option ℕ → Option ℕ
lesser None b = b
lesser (Some a) None = Some a
lesser (Some a) (Some b) = Some (min a b)

-- a group, with the lesser of its number and that of another
abbrev pub with_lesser : GroupRef → GroupRef → GroupRef
with_lesser group other = record { name = group.name; gid = lesser group.gid other.gid }

-- the least number of those with this name, where one has a number
abbrev pub least_gid : List ℕ → List GroupRef → Option ℕ
least_gid name [] = None
least_gid name (r ∷ rs) = if same_name r.name name then lesser r.gid (least_gid name rs) else least_gid name rs

abbrev pub names_of : List GroupRef → List (List ℕ)
names_of refs = map (λ (r : GroupRef). r.name) refs

-- groups in byte order of their names, each name once, with the least number of that name
pub record AreRefsInOrder (refs ordered : List GroupRef) : Type 0 where
  pub names : AreInOrder (names_of refs) (names_of ordered)
  pub least : All (λ (r : GroupRef). r.gid ≡ least_gid r.name refs) ordered

abbrev pub ref_among : List GroupRef → List ℕ → GroupRef
ref_among refs name = record { name = name; gid = least_gid name refs }

-- the list in order of some groups
abbrev pub refs_in_order : List GroupRef → List GroupRef
refs_in_order refs = map (ref_among refs) (in_order (names_of refs))
