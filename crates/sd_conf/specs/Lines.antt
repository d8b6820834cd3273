-- What the lines of a configuration say. Lists of lines stand newest first, as the past of the line that follows.
use Rattle.std.specs.Prelude.{◌≡◌, Result, Ok, Err, ℕ, ◌+◌, ◌-◌, ◌^◌, min, ◌&&◌, ◌||◌, ◌==◌, if◌then◌else◌, List, [], ◌∷◌, length, map, reverse, Option, Some, None, nat_lt, slice_index, slice_range, is_some}
use Rattle.std.specs.Option.{option_copied}
use Rattle.sd_conf.specs.declared.lines.Line.{Line}
use Rattle.sd_conf.specs.declared.lines.Line.TheVariants as lines
use Rattle.sd_conf.specs.declared.lines.Entry.{Entry}
use Rattle.sd_conf.specs.declared.lines.Walk.{Walk}
use Rattle.sd_conf.specs.declared.ConfFault.{ConfFault}
use Rattle.sd_conf.specs.declared.ConfFault.TheVariants as faults
use Rattle.sd_pieces.specs.Pieces.{cut_of}
use Rattle.sd_conf.specs.Texts.{trimmed, is_empty}

-- what a line says
pub data Form : Type 0 where
  Blank : Form
  Section : List ℕ → Form
  Pair : List ℕ → List ℕ → Form
  Malformed : Form

-- `[NAME]`, where something stands between the brackets
abbrev pub section_of : List ℕ → Option (List ℕ)
section_of bs = if nat_lt 2 (length bs) && (slice_index bs 0 == 91 && slice_index bs (length bs - 1) == 93) then Some (slice_range bs 1 (length bs - 1)) else None

-- `KEY = VALUE`, cut at the first `=`; the key is not empty
abbrev pub pair_of : List ℕ → Option (List ℕ) → Form
pair_of key None = Malformed
pair_of key (Some value) = if is_empty key then Malformed else Pair key (trimmed value)

abbrev pub section_or_pair : List ℕ → Option (List ℕ) → Form
section_or_pair bs (Some name) = Section name
section_or_pair bs None = pair_of (trimmed (cut_of 61 bs).0) (cut_of 61 bs).1

-- a comment begins with `#` or `;`
abbrev pub form_of_trimmed : List ℕ → Form
form_of_trimmed [] = Blank
form_of_trimmed (b ∷ bs) = if b == 35 || b == 59 then Blank else section_or_pair (b ∷ bs) (section_of (b ∷ bs))

abbrev pub form_of : List ℕ → Form
form_of line = form_of_trimmed (trimmed line)

-- the forms of the lines of a text, newest first
abbrev pub forms_of : List (List ℕ) → List Form
forms_of lines = reverse (map form_of lines)

-- the section that the next line stands in
abbrev pub section_in : List Form → Option (List ℕ)
section_in [] = None
section_in (Section name ∷ past) = Some name
section_in (Pair key value ∷ past) = section_in past
section_in (Blank ∷ past) = section_in past
section_in (Malformed ∷ past) = section_in past

-- the number of the next line, as far as it is told
abbrev pub next_number : List Form → ℕ
next_number past = min (length past + 1) (2 ^ 32 - 1)

-- a key's line: its section, its key, its value, its number
pub record Setting : Type 0 where
  pub section : List ℕ
  pub key : List ℕ
  pub value : List ℕ
  pub line : ℕ

abbrev pub with_setting : Option (List ℕ) → List ℕ → List ℕ → ℕ → List Setting → List Setting
with_setting None key value line older = older
with_setting (Some section) key value line older = record { section = section; key = key; value = value; line = line } ∷ older

-- the keys' lines, newest first
abbrev pub settings_in : List Form → List Setting
settings_in [] = []
settings_in (Pair key value ∷ past) = with_setting (section_in past) key value (next_number past) (settings_in past)
settings_in (Section name ∷ past) = settings_in past
settings_in (Blank ∷ past) = settings_in past
settings_in (Malformed ∷ past) = settings_in past

-- why a line is refused behind these lines
abbrev pub fault_of : Form → List Form → Option ConfFault
fault_of Blank past = None
fault_of (Section name) past = None
fault_of (Pair key value) past = if is_some (section_in past) then None else Some (faults.NoSection (next_number past))
fault_of Malformed past = Some (faults.BadLine (next_number past))

abbrev pub or_else : {X : Type 0} → Option X → Option X → Option X
or_else None other = other
or_else (Some x) other = Some x

-- the first line that is refused
abbrev pub fault_in : List Form → Option ConfFault
fault_in [] = None
fault_in (line ∷ past) = or_else (fault_in past) (fault_of line past)

-- ---- what the code keeps

abbrev pub seen_line : Line → Form
seen_line lines.Blank = Blank
seen_line (lines.Section name) = Section name.now
seen_line (lines.Pair key value) = Pair key.now value.now
seen_line lines.Malformed = Malformed

abbrev pub seen : Entry → Setting
seen e = record { section = e.section.now; key = e.key.now; value = e.value.now; line = e.line }

-- entries stand oldest first in the code
abbrev pub settings_seen : List Entry → List Setting
settings_seen es = reverse (map seen es)

-- what a walk over the lines has found behind these
pub record Stands (walk : Walk) (past : List Form) : Type 0 where
  pub section : option_copied walk.section ≡ section_in past
  pub settings : settings_seen walk.entries.items ≡ settings_in past
  pub fine : fault_in past ≡ None

-- a refusal of the first line that is refused
abbrev pub Told : ConfFault → List Form → Type 0
Told faults.Memory past = Unit {0}
Told (faults.BadLine line) past = fault_in past ≡ Some (faults.BadLine line)
Told (faults.NoSection line) past = fault_in past ≡ Some (faults.NoSection line)
Told (faults.BadValue line) past = ⊥
Told (faults.ManyDomains count) past = ⊥
Told faults.NoDomain past = ⊥
Told (faults.Missing name) past = ⊥

-- how a step of the walk ended, whose line is the newest of these
abbrev pub Walks : {X : Type 0} → Result X ConfFault → Walk → List Form → Type 0
Walks (Ok x) walk past = Stands walk past
Walks (Err fault) walk past = Told fault past

-- what was found in all lines
abbrev pub Finds : {X : Type 0} → (X → List Entry) → Result X ConfFault → List Form → Type 0
Finds items (Ok found) past = (fault_in past ≡ None) × (settings_seen (items found) ≡ settings_in past)
Finds items (Err fault) past = Told fault past
