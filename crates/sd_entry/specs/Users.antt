-- Which entries are users (RFC 2307, posixAccount).
use Rattle.std.specs.Prelude.{ℕ, Bool, false, ◌&&◌, nat_le, List, length, Option, Some, None, codes}
use Rattle.sd_ldap.specs.declared.entry.Attribute.{Attribute}
use Rattle.sd_entry.specs.Values.{first_of, has_class, is_number}

abbrev pub is_filled : Option (List ℕ) → Bool
is_filled None = false
is_filled (Some value) = nat_le 1 (length value)

abbrev pub holds_number : Option (List ℕ) → Bool
holds_number None = false
holds_number (Some value) = is_number value

-- the first uid and home directory are not empty, and the first numbers are numbers
abbrev pub has_user_values : List Attribute → Bool
has_user_values attributes =
    is_filled (first_of (codes "uid") attributes) && (holds_number (first_of (codes "uidNumber") attributes)
    && (holds_number (first_of (codes "gidNumber") attributes) && is_filled (first_of (codes "homeDirectory") attributes)))

abbrev pub is_user : List Attribute → Bool
is_user attributes = has_class (codes "posixAccount") attributes && has_user_values attributes
