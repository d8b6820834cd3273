-- The entries of a directory as they are put and taken out, in the order in which they were first put.
use Rattle.std.specs.Prelude.{ℕ, if◌then◌else◌, not, filter, List, [], ◌∷◌, fold}
use Rattle.sd_dn.specs.Texts.{same_dn_text}
use Rattle.sd_ldap.specs.declared.entry.DirEntry.{DirEntry}

-- an entry stands in the place of the one that has its DN, else behind all; a text that is no DN equals none
abbrev pub put : List DirEntry → DirEntry → List DirEntry
put [] e = e ∷ []
put (k ∷ rest) e = if same_dn_text k.dn e.dn then e ∷ rest else k ∷ put rest e

-- of entries with one DN the last, in the place of the first
abbrev pub kept : List DirEntry → List DirEntry
kept entries = fold put [] entries

-- one after the other
abbrev pub put_all : List DirEntry → List DirEntry → List DirEntry
put_all entries [] = entries
put_all entries (e ∷ more) = put_all (put entries e) more

-- the entry of a DN is taken out where it is there; no two have one DN
abbrev pub removed : List DirEntry → List ℕ → List DirEntry
removed entries dn = filter (λ (e : DirEntry). not (same_dn_text e.dn dn)) entries
