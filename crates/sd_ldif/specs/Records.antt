-- The grammar: records of lines, and their entries (RFC 2849, in this project's profile).
use Rattle.std.specs.Prelude.{◌≡◌, ℕ, Bool, true, false, not, ◌||◌, if◌then◌else◌, List, [], ◌∷◌, map, filter, Option, Some, None, Result, Ok, Err, codes}
use Rattle.std.specs.List.{slice_split}
use Rattle.sd_dn.specs.Comparing.{same_text}
use Rattle.sd_ldap.specs.declared.entry.Attribute.{Attribute}
use Rattle.sd_ldap.specs.declared.entry.DirEntry.{DirEntry}
use Rattle.sd_ldif.specs.declared.LdifFault.{LdifFault}
use Rattle.sd_ldif.specs.declared.LdifFault.TheVariants as faults
use Rattle.sd_ldif.specs.Lines.{Line, lines_in}
use Rattle.sd_ldif.specs.Forms.{Form, form_of, value_of, is_empty, is_passed}

infixl 10 ◌>>=◌
abbrev pub ◌>>=◌ : {A B : Type 0} → Result A LdifFault → (A → Result B LdifFault) → Result B LdifFault
(Ok x) >>= f = f x
(Err fault) >>= f = Err fault

-- what each of a list gives, or the first refusal
abbrev pub all_of : {A B : Type 0} → (A → Result B LdifFault) → List A → Result (List B) LdifFault
all_of one [] = Ok []
all_of one (x ∷ xs) = one x >>= λ y. all_of one xs >>= λ ys. Ok (y ∷ ys)

-- a value, or the refusal of the line where it is no base64
abbrev pub value_at : ℕ → Option (List ℕ) → Result (List ℕ) LdifFault
value_at number None = Err (faults.BadBase64 number)
value_at number (Some value) = Ok value

-- a record begins with `dn: TEXT` or `dn:: BASE64`
abbrev pub dn_at : ℕ → Option Form → Result (List ℕ) LdifFault
dn_at number None = Err (faults.NoDn number)
dn_at number (Some f) = if same_text f.name (codes "dn") then value_at number (value_of f) else Err (faults.NoDn number)

abbrev pub dn_of : Line → Result (List ℕ) LdifFault
dn_of l = dn_at l.number (form_of l.text)

-- one value of an attribute
pub record Pair : Type 0 where
  pub name : List ℕ
  pub value : List ℕ

abbrev pub pair : List ℕ → List ℕ → Pair
pair name value = record { name = name; value = value }

-- records of changes are not read
abbrev pub is_of_changes : List ℕ → Bool
is_of_changes name = same_text name (codes "changetype") || same_text name (codes "control")

abbrev pub pair_at : ℕ → Option Form → Result Pair LdifFault
pair_at number None = Err (faults.BadLine number)
pair_at number (Some f) = if is_of_changes f.name then Err (faults.BadLine number) else (value_at number (value_of f) >>= λ value. Ok (pair f.name value))

-- the other lines of a record are `NAME: TEXT` or `NAME:: BASE64`
abbrev pub pair_of : Line → Result Pair LdifFault
pair_of l = pair_at l.number (form_of l.text)

-- the values of a name, without ASCII case, in their order
abbrev pub values_of : List ℕ → List Pair → List (List ℕ)
values_of name pairs = map (λ (p : Pair). p.value) (filter (λ (p : Pair). same_text p.name name) pairs)

-- the attributes of other names
abbrev pub others : List ℕ → List Attribute → List Attribute
others name attributes = filter (λ (a : Attribute). not (same_text a.name name)) attributes

abbrev pub attribute : List ℕ → List (List ℕ) → Attribute
attribute name values = record { name = name; values = values }

-- the values of one name are one attribute, in the place and the spelling of the first
abbrev pub attributes_of : List Pair → List Attribute
attributes_of [] = []
attributes_of (p ∷ ps) = attribute p.name (p.value ∷ values_of p.name ps) ∷ others p.name (attributes_of ps)

abbrev pub entry : List ℕ → List Attribute → DirEntry
entry dn attributes = record { dn = dn; attributes = attributes }

-- the entry of a record's lines
abbrev pub record_of : List Line → Result DirEntry LdifFault
record_of [] = Ok (entry [] [])
record_of (first ∷ rest) = dn_of first >>= λ dn. all_of pair_of rest >>= λ pairs. Ok (entry dn (attributes_of pairs))

abbrev pub has_lines : List Line → Bool
has_lines [] = false
has_lines (l ∷ ls) = true

abbrev pub parts : Line → Bool
parts l = is_empty l.text

-- the lines that count
abbrev pub counted : List Line → List Line
counted lines = filter (λ l. not (is_passed l)) lines

-- records are parted by empty lines
abbrev pub records_in : List Line → List (List Line)
records_in lines = filter has_lines (slice_split parts (counted lines))

-- the records of a text
abbrev pub records_of : List ℕ → List (List Line)
records_of text = records_in (lines_in text)

-- What a text says: the entries of its records, or the refusal of the first line that is refused.
abbrev pub ldif_of : List ℕ → Result (List DirEntry) LdifFault
ldif_of text = all_of record_of (records_of text)

-- a fault is the one that is said, unless memory ran out
abbrev pub Fails : {A : Type 0} → LdifFault → Result A LdifFault → Type 0
Fails faults.Memory said = Unit {0}
Fails (faults.BadLine number) said = said ≡ Err (faults.BadLine number)
Fails (faults.BadBase64 number) said = said ≡ Err (faults.BadBase64 number)
Fails (faults.NoDn number) said = said ≡ Err (faults.NoDn number)

-- what was answered is what is said
abbrev pub Answers : {X A : Type 0} → (X → A) → Result X LdifFault → Result A LdifFault → Type 0
Answers view (Ok x) said = said ≡ Ok (view x)
Answers view (Err fault) said = Fails fault said
