-- What reading says of the records of a text, one by one.
use Rattle.std.specs.Prelude.{◌≡◌, ◌⊎◌, ℕ, List, [], ◌∷◌, ◌++◌, map, Result, Ok, Err}
use Rattle.sd_ldap.specs.declared.entry.DirEntry.{DirEntry}
use Rattle.sd_ldif.specs.declared.LdifFault.{LdifFault}
use Rattle.sd_ldif.specs.declared.LdifFault.TheVariants as faults
use Rattle.sd_ldif.specs.Lines.{Line}
use Rattle.sd_ldif.specs.Records.{dn_of, pair_of, record_of, records_of}

-- each record's lines give its entry, in order
abbrev pub Gives : List ℕ → List DirEntry → Type 0
Gives text entries = map record_of (records_of text) ≡ map (λ e. Ok e) entries

-- the first of a list that is refused: each before it gives something
pub record IsFirstRefused {A B : Type 0} (one : A → Result B LdifFault) (xs : List A) (fault : LdifFault) : Type 0 where
  pub before : List A
  pub refused : A
  pub after : List A
  pub given : List B
  pub parts : xs ≡ before ++ refused ∷ after
  pub read : map one before ≡ map (λ y. Ok y) given
  pub refusal : one refused ≡ Err fault

-- a record is refused at its first line, which is no `dn:` line, or at the first other line that is refused
abbrev pub IsRefusedRecord : LdifFault → List Line → Type 0
IsRefusedRecord fault [] = ⊥
IsRefusedRecord fault (first ∷ rest) = (dn_of first ≡ Err fault) ⊎ ((dn : List ℕ) × (dn_of first ≡ Ok dn) × IsFirstRefused pair_of rest fault)

-- the first record that is refused, and how
pub record IsRefused (text : List ℕ) (fault : LdifFault) : Type 0 where
  pub records : IsFirstRefused record_of (records_of text) fault
  pub lines : IsRefusedRecord fault records.refused

-- the same of what was answered
abbrev pub Refuses : LdifFault → List ℕ → Type 0
Refuses faults.Memory text = Unit {0}
Refuses (faults.BadLine number) text = IsRefused text (faults.BadLine number)
Refuses (faults.BadBase64 number) text = IsRefused text (faults.BadBase64 number)
Refuses (faults.NoDn number) text = IsRefused text (faults.NoDn number)
