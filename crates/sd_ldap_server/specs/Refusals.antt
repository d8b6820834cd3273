-- What becomes of an LDIF, what is written where it is refused, and which statuses the server ends with.
use Rattle.std.specs.Prelude.{◌≡◌, ◌⊎◌, ◌<◌, ◌≤◌, ◌++◌, ℕ, List, Option, Ok, Err, IfSome, IsOk, length, codes}
use Rattle.sd_ldap.specs.declared.entry.DirEntry.{DirEntry}
use Rattle.sd_ldif.specs.declared.LdifFault.{LdifFault}
use Rattle.sd_ldif.specs.declared.LdifFault.TheVariants as faults
use Rattle.sd_ldif.specs.Records.{ldif_of}
use Rattle.sd_places.specs.Keeping.{kept}
use Rattle.sd_ldap_server.specs.declared.refusals.Stop.{Stop}
use Rattle.sd_ldap_server.specs.declared.refusals.Stop.TheVariants as stops
use Rattle.sd_wire.specs.Forms.{numbered}

-- the most bytes that an LDIF has: 64 MiB
abbrev pub ldif_limit : ℕ
ldif_limit = 67108864

-- a text is within the limit, and a directory keeps the entries that it has
pub record IsDirectory (text : List ℕ) (directory : List DirEntry) : Type 0 where
  pub within : length text ≤ ldif_limit
  pub entries : List DirEntry
  pub taken : ldif_of text ≡ Ok entries
  pub keeps : directory ≡ kept entries

-- a text is within the limit, and is refused for this reason
pub record IsRefusedText (fault : LdifFault) (text : List ℕ) : Type 0 where
  pub within : length text ≤ ldif_limit
  pub refusal : ldif_of text ≡ Err fault

-- why a text has no directory
abbrev pub Stops : Stop → List ℕ → Type 0
Stops stops.ReadFault text = Unit {0}
Stops stops.TooLong text = ldif_limit < length text
Stops (stops.Refused fault) text = IsRefusedText fault text
Stops stops.Memory text = Unit {0}

-- a text that was read whole is refused, or memory is wanting
abbrev pub StopsRead : Stop → List ℕ → Type 0
StopsRead stops.ReadFault text = ⊥
StopsRead stops.TooLong text = ⊥
StopsRead (stops.Refused fault) text = IsRefusedText fault text
StopsRead stops.Memory text = Unit {0}

-- the LDIF, where it is told, has more than the limit
abbrev pub IsTooLong : Option (List ℕ) → Type 0
IsTooLong told = IfSome told (λ text. ldif_limit < length text)

-- the LDIF, where it is told, has no more, and is refused for this reason
abbrev pub IsRefused : LdifFault → Option (List ℕ) → Type 0
IsRefused fault told = IfSome told (λ text. IsRefusedText fault text)

-- the LDIF, where it is told, has no more, and is not refused
abbrev pub IsTaken : Option (List ℕ) → Type 0
IsTaken told = IfSome told (λ text. (length text ≤ ldif_limit) × IsOk (ldif_of text))

-- the refusal's name, and the number of its line
abbrev pub why_refused : LdifFault → List ℕ
why_refused (faults.BadLine n) = numbered (codes "BadLine ") n
why_refused (faults.BadBase64 n) = numbered (codes "BadBase64 ") n
why_refused (faults.NoDn n) = numbered (codes "NoDn ") n
why_refused faults.Memory = codes ""

-- what is written where the LDIF is refused
abbrev pub refused : LdifFault → List ℕ
refused fault = codes "refused " ++ (why_refused fault ++ codes "\n")

-- the statuses where serving did not begin: the source, or the sink, failed; want of memory; the LDIF is too long; it is refused
abbrev pub IsStopStatus : ℕ → Type 0
IsStopStatus status = (status ≡ 3) ⊎ ((status ≡ 4) ⊎ ((status ≡ 7) ⊎ ((status ≡ 8) ⊎ (status ≡ 10))))

-- the statuses where it began, or the doors could not be made: done; the sink failed; the doors failed
abbrev pub IsServedStatus : ℕ → Type 0
IsServedStatus status = (status ≡ 0) ⊎ ((status ≡ 4) ⊎ (status ≡ 9))

abbrev pub IsStatus : ℕ → Type 0
IsStatus status = IsServedStatus status ⊎ IsStopStatus status
