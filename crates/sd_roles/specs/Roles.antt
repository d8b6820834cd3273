-- Sudo rules, as entries have them (sudoers.ldap(5)). Names of attributes and classes are compared without ASCII case.
use Rattle.std.specs.Prelude.{ℕ, ℤ, pos, ◌-ℤ◌, ◌==◌, nat_le, if◌then◌else◌, List, [], ◌∷◌, length, codes, Option, Some, None}
use Rattle.sd_ldap.specs.declared.entry.Attribute.{Attribute}
use Rattle.sd_ldap.specs.declared.entry.DirEntry.{DirEntry}
pub use Rattle.sd_entry.specs.Values.{own_values, values_of}
use Rattle.sd_entry.specs.Values.{first_of, has_class, number_of}
use Rattle.sd_roles.specs.declared.roles.Role.{Role}

abbrev pub at_most : ℕ → Option ℕ → Option ℕ
at_most limit None = None
at_most limit (Some n) = if nat_le n limit then Some n else None

-- a number of one to nine digits
abbrev pub small_number : List ℕ → Option ℕ
small_number digits = if nat_le (length digits) 9 then at_most 999999999 (number_of digits) else None

abbrev pub above : Option ℕ → ℤ
above None = pos 0
above (Some n) = pos n

abbrev pub below : Option ℕ → ℤ
below None = pos 0
below (Some n) = pos 0 -ℤ pos n

-- an optional `-` and one to nine digits, else 0
abbrev pub order_in : List ℕ → ℤ
order_in [] = pos 0
order_in (b ∷ bs) = if b == 45 then below (small_number bs) else above (small_number (b ∷ bs))

abbrev pub order_of : Option (List ℕ) → ℤ
order_of None = pos 0
order_of (Some text) = order_in text

abbrev pub handed_as : List ℕ → List Attribute → Attribute
handed_as name attributes = record { name = name; values = values_of name attributes }

-- what is handed on to sudo, unread
abbrev pub handed_of : List Attribute → List Attribute
handed_of attributes =
    handed_as (codes "sudoHost") attributes
    ∷ handed_as (codes "sudoCommand") attributes
    ∷ handed_as (codes "sudoRunAsUser") attributes
    ∷ handed_as (codes "sudoRunAsGroup") attributes
    ∷ handed_as (codes "sudoOption") attributes
    ∷ []

abbrev pub role_named : DirEntry → List ℕ → Role
role_named e name = record {
  name = name;
  order = order_of (first_of (codes "sudoOrder") e.attributes);
  users = values_of (codes "sudoUser") e.attributes;
  handed = handed_of e.attributes;
}

-- a rule has a first cn that is not empty
abbrev pub role_by : DirEntry → Option (List ℕ) → Option Role
role_by e None = None
role_by e (Some []) = None
role_by e (Some (b ∷ bs)) = Some (role_named e (b ∷ bs))

-- the rule that an entry has, where it is one
abbrev pub role_of : DirEntry → Option Role
role_of e = if has_class (codes "sudoRole") e.attributes then role_by e (first_of (codes "cn") e.attributes) else None
