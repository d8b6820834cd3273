-- The name of a DN: two DNs are equal just where their names are.
use Rattle.std.specs.Prelude.{◌≡◌, ℕ, Bool, List, map, Option, Some, None}
use Rattle.std.specs.Char.{to_ascii_lowercase}
use Rattle.std.specs.List.{All}
use Rattle.sd_dn.specs.declared.Pair.{Pair}
use Rattle.sd_names.specs.declared.naming.Part.{Part}
use Rattle.sd_names.specs.declared.naming.Level.{Level}
use Rattle.sd_names.specs.declared.naming.Name.{Name}
use Rattle.sd_names.specs.contracts.naming.NamePartialEq.TheImpl as name_equality

abbrev pub lower : List ℕ → List ℕ
lower text = map to_ascii_lowercase text

abbrev pub lower_pair : Pair → Part
lower_pair p = record { name = lower p.name; value = lower p.value }

-- types and values in lower case, in the same order
abbrev pub lower_dn : List (List Pair) → List (List Part)
lower_dn dn = map (λ (rdn : List Pair). map lower_pair rdn) dn

abbrev pub parts_of : List Level → List (List Part)
parts_of levels = map (λ (level : Level). level.parts.items) levels

abbrev pub parts : Name → List (List Part)
parts name = parts_of name.levels.items

abbrev pub lowered : Option (List (List Pair)) → Option (List (List Part))
lowered (Some dn) = Some (lower_dn dn)
lowered None = None

-- a name is that of a DN; what is no DN has none
abbrev pub IsNameOf : Option Name → Option (List (List Pair)) → Type 0
IsNameOf (Some name) dn = lowered dn ≡ Some (parts name)
IsNameOf None dn = lowered dn ≡ None

-- what `==` says of two names, by which they are found
abbrev pub names_equal : Name → Name → Bool
names_equal = (name_equality.ghosts).eq

-- each DN stands beside its name
abbrev pub AreNames : List (Name × List (List Pair)) → Type 0
AreNames entries = All (λ (e : Name × List (List Pair)). parts e.0 ≡ lower_dn e.1) entries
