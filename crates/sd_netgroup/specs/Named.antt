-- Which entries are netgroups of a name, and what they say (RFC 2307).
use Rattle.std.specs.Prelude.{ℕ, Bool, ◌&&◌, List, [], ◌∷◌, filter, Option, Some, None, codes}
use Rattle.std.specs.List.{flat_map}
use Rattle.sd_ldap.specs.declared.entry.Attribute.{Attribute}
use Rattle.sd_ldap.specs.declared.entry.DirEntry.{DirEntry}
pub use Rattle.sd_entry.specs.Values.{own_values, values_of}
use Rattle.sd_entry.specs.Values.{has_class}
use Rattle.sd_match.specs.Matching.{has_value}
use Rattle.sd_match.specs.Answering.{same_bytes, is_at_or_under}
use Rattle.sd_triples.specs.declared.triples.Triple.{Triple}
use Rattle.sd_triples.specs.Reading.{triple_in}

-- of class nisNetgroup, with a cn that is the name byte for byte
abbrev pub is_called : List ℕ → List Attribute → Bool
is_called name attributes = has_class (codes "nisNetgroup") attributes && has_value (codes "cn") (λ value. same_bytes value name) attributes

-- at or under the base, too
abbrev pub is_named : List ℕ → List ℕ → DirEntry → Bool
is_named base name e = is_at_or_under base e && is_called name e.attributes

-- the netgroups of a name
abbrev pub named_in : List DirEntry → List ℕ → List ℕ → List DirEntry
named_in entries base name = filter (λ (e : DirEntry). is_named base name e) entries

-- the names of the netgroups that are members
abbrev pub members_of : DirEntry → List (List ℕ)
members_of e = values_of (codes "memberNisNetgroup") e.attributes

-- the texts that are to spell triples
abbrev pub texts_of : DirEntry → List (List ℕ)
texts_of e = values_of (codes "nisNetgroupTriple") e.attributes

abbrev pub listed : Option Triple → List Triple
listed None = []
listed (Some triple) = triple ∷ []

-- the triples that texts spell, in their order; what spells none is passed over
abbrev pub spelled_by : List (List ℕ) → List Triple
spelled_by texts = flat_map (λ text. listed (triple_in text)) texts
