-- Entries that fit a message whatever is asked of them: their sizes are told by four octets.
use Rattle.std.specs.Prelude.{ℕ, ◌+◌, ◌^◌, nat_lt, Bool, List, [], ◌∷◌, length}
use Rattle.std.specs.List.{list_all}
use Rattle.sd_ldap.specs.declared.entry.Attribute.{Attribute}
use Rattle.sd_ldap.specs.declared.entry.DirEntry.{DirEntry}

-- an element has at most six bytes in front of its contents
abbrev pub text_room : List ℕ → ℕ
text_room text = 6 + length text

abbrev pub texts_room : List (List ℕ) → ℕ
texts_room [] = 0
texts_room (text ∷ texts) = text_room text + texts_room texts

-- a sequence of a type and a set of values
abbrev pub attribute_room : Attribute → ℕ
attribute_room a = 6 + (text_room a.name + (6 + texts_room a.values))

abbrev pub attributes_room : List Attribute → ℕ
attributes_room [] = 0
attributes_room (a ∷ attributes) = attribute_room a + attributes_room attributes

-- no more bytes than these are in a message about an entry, but for 64 that hold everything else
abbrev pub entry_room : DirEntry → ℕ
entry_room e = text_room e.dn + (6 + attributes_room e.attributes)

-- an entry takes less than 4 GiB in a message
abbrev pub is_short : DirEntry → Bool
is_short e = nat_lt (entry_room e + 64) (2 ^ 32)

unfoldable pub are_short : List DirEntry → Bool
are_short entries = list_all (λ (e : DirEntry). is_short e) entries
