-- Numbers by which an entry is found: equal DNs and equal values have equal numbers, other ones seldom.
use Rattle.std.specs.Prelude.{ℕ, ◌+◌, ◌-◌, ◌*◌, ◌%◌, Bool, false, ◌++◌, if◌then◌else◌, List, [], ◌∷◌, fold, map, flat_map, Option, Some, None}
use Rattle.sd_dn.specs.declared.Pair.{Pair}
use Rattle.sd_dn.specs.Texts.{spelled}
use Rattle.sd_ldap.specs.declared.entry.Attribute.{Attribute}
use Rattle.sd_ldap.specs.declared.entry.DirEntry.{DirEntry}
use Rattle.sd_match.specs.Matching.{holds_dns, holds_numbers}
use Rattle.sd_names.specs.declared.naming.Part.{Part}
use Rattle.sd_names.specs.Naming.{lower, lower_dn}

-- a number and a byte behind it; decimal digits come to the number that they spell
unfoldable pub one_more : Bool → ℕ → ℕ → ℕ
one_more decimal n b = ((if decimal then n * 10 else n * 257) + (b - 48)) % 4294967291

-- a number of two
unfoldable pub mixed : ℕ → ℕ → ℕ
mixed a b = (a * 65599 + b) % 4294967291

abbrev pub bytes_number : Bool → List ℕ → ℕ
bytes_number decimal bytes = fold (λ (n b : ℕ). one_more decimal n b) 0 bytes

-- ---- DNs in lower case

abbrev pub part_number : Part → ℕ
part_number p = mixed (bytes_number false p.name) (bytes_number false p.value)

abbrev pub level_number : List Part → ℕ
level_number parts = fold (λ (n : ℕ) (p : Part). mixed n (part_number p)) 1 parts

abbrev pub levels_number : List (List Part) → ℕ
levels_number [] = 2
levels_number (level ∷ above) = mixed (levels_number above) (level_number level)

-- those of a DN and of all above it
abbrev pub base_numbers : List (List Part) → List ℕ
base_numbers [] = levels_number [] ∷ []
base_numbers (level ∷ above) = base_numbers above ++ levels_number (level ∷ above) ∷ []

-- that of a base; a base that is no DN has none of its own
abbrev pub base_number : Option (List (List Pair)) → ℕ
base_number (Some dn) = levels_number (lower_dn dn)
base_number None = 0

-- ---- values

-- a value that is to be a DN and is none has the number 0
abbrev pub dn_value_number : List ℕ → Option (List (List Pair)) → ℕ
dn_value_number name (Some dn) = mixed (bytes_number false (lower name)) (levels_number (lower_dn dn))
dn_value_number name None = 0

abbrev pub text_value_number : Bool → List ℕ → List ℕ → ℕ
text_value_number decimal name value = mixed (bytes_number false (lower name)) (bytes_number decimal (lower value))

abbrev pub value_number : List ℕ → List ℕ → ℕ
value_number name value = if holds_dns name then dn_value_number name (spelled value) else text_value_number (holds_numbers name) name value

abbrev pub values_numbers : List ℕ → List (List ℕ) → List ℕ
values_numbers name values = map (λ (value : List ℕ). value_number name value) values

-- ---- entries

abbrev pub attributes_numbers : List Attribute → List ℕ
attributes_numbers attributes = flat_map (λ (a : Attribute). values_numbers a.name a.values) attributes

abbrev pub place_numbers : Option (List (List Pair)) → List ℕ
place_numbers (Some dn) = base_numbers (lower_dn dn)
place_numbers None = []

-- those under which an entry is found: of its DN and all above it, and of its values
abbrev pub entry_numbers : DirEntry → List ℕ
entry_numbers e = place_numbers (spelled e.dn) ++ attributes_numbers e.attributes
