-- What an entry's attributes hold. Names and classes are compared without ASCII case.
use Rattle.std.specs.Prelude.{ℕ, Bool, ◌&&◌, if◌then◌else◌, List, [], ◌∷◌, Option, Some, None, codes}
use Rattle.std.specs.List.{list_any, flat_map, slice_get}
pub use Rattle.sd_pieces.specs.Digits.{is_digit, value_of, is_number, number_of}
use Rattle.sd_dn.specs.Comparing.{same_text}
use Rattle.sd_ldap.specs.declared.entry.Attribute.{Attribute}

-- the first of two, where there is one
abbrev pub or_else : Option (List ℕ) → Option (List ℕ) → Option (List ℕ)
or_else (Some value) other = Some value
or_else None other = other

-- the first value of an attribute, where it has this name
abbrev pub own_first : List ℕ → Attribute → Option (List ℕ)
own_first name a = if same_text a.name name then slice_get a.values 0 else None

-- the first value of a name
abbrev pub first_of : List ℕ → List Attribute → Option (List ℕ)
first_of name [] = None
first_of name (a ∷ rest) = or_else (own_first name a) (first_of name rest)

-- all values of an attribute, where it has this name
abbrev pub own_values : List ℕ → Attribute → List (List ℕ)
own_values name a = if same_text a.name name then a.values else []

-- all values of a name, in the entry's order
abbrev pub values_of : List ℕ → List Attribute → List (List ℕ)
values_of name attributes = flat_map (own_values name) attributes

-- a value is this text, without ASCII case
abbrev pub has_text : List ℕ → List (List ℕ) → Bool
has_text text values = list_any (λ value. same_text value text) values

-- an attribute has this name and this text
abbrev pub own_says : List ℕ → List ℕ → Attribute → Bool
own_says name text a = same_text a.name name && has_text text a.values

abbrev pub says : List ℕ → List ℕ → List Attribute → Bool
says name text attributes = list_any (λ (a : Attribute). own_says name text a) attributes

-- the entry is of a class
abbrev pub has_class : List ℕ → List Attribute → Bool
has_class class attributes = says (codes "objectClass") class attributes
