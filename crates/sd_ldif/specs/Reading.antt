-- Reading line by line, from the first on. It is not the grammar; it is proved to read it.
use Rattle.std.specs.Prelude.{ℕ, if◌then◌else◌, List, [], ◌∷◌, ◌++◌, Option, Some, None, Result, Ok}
use Rattle.std.specs.Option.{option_map}
use Rattle.sd_dn.specs.Comparing.{same_text}
use Rattle.sd_ldap.specs.declared.entry.Attribute.{Attribute}
use Rattle.sd_ldap.specs.declared.entry.DirEntry.{DirEntry}
use Rattle.sd_ldif.specs.declared.LdifFault.{LdifFault}
use Rattle.sd_ldif.specs.declared.records.Draft.{Draft}
use Rattle.sd_ldif.specs.declared.records.Records.{Records}
use Rattle.sd_ldif.specs.declared.reading.Reader.{Reader}
use Rattle.sd_ldif.specs.Lines.{Line, line, next_number, begins_with_space, continued, seen}
use Rattle.sd_ldif.specs.Forms.{is_empty, is_passed}
use Rattle.sd_ldif.specs.Records.{◌>>=◌, Pair, pair_of, dn_of, attribute, entry}

-- a value more: the last of its attribute, or of a new one
abbrev pub with_value : Pair → List Attribute → List Attribute
with_value p [] = attribute p.name (p.value ∷ []) ∷ []
with_value p (a ∷ rest) = if same_text a.name p.name then attribute a.name (a.values ++ p.value ∷ []) ∷ rest else a ∷ with_value p rest

-- the entries that are whole, and the one at hand
pub record State : Type 0 where
  pub entries : List DirEntry
  pub draft : Option DirEntry

abbrev pub state : List DirEntry → Option DirEntry → State
state entries draft = record { entries = entries; draft = draft }

-- no entry is at hand from now on
abbrev pub ended : List DirEntry → Option DirEntry → List DirEntry
ended entries None = entries
ended entries (Some draft) = entries ++ draft ∷ []

abbrev pub parted : State → State
parted s = state (ended s.entries s.draft) None

-- an entry at hand, begun with this DN
abbrev pub draft_of : Result (List ℕ) LdifFault → Result DirEntry LdifFault
draft_of dn = dn >>= λ dn. Ok (entry dn [])

abbrev pub draft_with : DirEntry → Result Pair LdifFault → Result DirEntry LdifFault
draft_with draft p = p >>= λ p. Ok (entry draft.dn (with_value p draft.attributes))

abbrev pub with_draft : List DirEntry → Result DirEntry LdifFault → Result State LdifFault
with_draft entries draft = draft >>= λ draft. Ok (state entries (Some draft))

abbrev pub taken : List DirEntry → Option DirEntry → Line → Result State LdifFault
taken entries None l = with_draft entries (draft_of (dn_of l))
taken entries (Some draft) l = with_draft entries (draft_with draft (pair_of l))

abbrev pub step : State → Line → Result State LdifFault
step s l =
    if is_passed l then Ok s
    else if is_empty l.text then Ok (parted s)
    else taken s.entries s.draft l

-- how far reading has come: the line at hand may go on
pub record Reading : Type 0 where
  pub state : State
  pub line : Line
  -- the number of the last line taken
  pub number : ℕ

abbrev pub reading : State → Line → ℕ → Reading
reading s l number = record { state = s; line = l; number = number }

-- the line at hand is whole where the next one begins
abbrev pub after_start : Reading → List ℕ → Result Reading LdifFault
after_start r text = step r.state r.line >>= λ s. Ok (reading s (line (next_number r.number) text) (next_number r.number))

abbrev pub after_line : Reading → List ℕ → Result Reading LdifFault
after_line r text = if begins_with_space text then Ok (reading r.state (continued r.line text) (next_number r.number)) else after_start r text

abbrev pub at_end : Reading → Result (List DirEntry) LdifFault
at_end r = step r.state r.line >>= λ s. Ok (parted s).entries

abbrev pub run : Reading → List (List ℕ) → Result (List DirEntry) LdifFault
run r [] = at_end r
run r (text ∷ texts) = after_line r text >>= λ next. run next texts

-- the first line is at hand
abbrev pub begun : List ℕ → Reading
begun text = reading (state [] None) (line 1 text) 1

abbrev pub run_all : List (List ℕ) → Result (List DirEntry) LdifFault
run_all [] = Ok []
run_all (text ∷ texts) = run (begun text) texts

-- ---- what the code keeps

abbrev pub seen_draft : Draft → DirEntry
seen_draft d = entry d.dn d.attributes.items

abbrev pub seen_records : Records → State
seen_records r = state r.entries (option_map seen_draft r.draft)

abbrev pub seen_reader : Reader → Reading
seen_reader r = reading (seen_records r.records) (seen r.line) r.number
