-- How the tools end: by which status, and what is written.
use Rattle.std.specs.Prelude.{◌≡◌, ◌⊎◌, ℕ, true, false, List, codes, Option, IfSome}
use Rattle.sd_base.specs.declared.Why.{Why}
use Rattle.sd_conf.specs.declared.config.Config.{Config}
use Rattle.sd_inputs.specs.declared.endings.TheConstants.{REFUSED}
use Rattle.sd_inputs.specs.Endings.{too_long}
use Rattle.sd_inputs.specs.Inputs.{IsConfig, AreEntries, AreTooLong, AreRefused}
use Rattle.sd_ldap.specs.declared.entry.DirEntry.{DirEntry}
use Rattle.sd_dial.specs.Entries.{Behind, shortest}
use Rattle.sd_places.specs.Keeping.{kept}
use Rattle.sd_tools.specs.declared.endings.TheConstants.{DONE, USAGE, READ_FAULT, WRITE_FAULT, NO_MEMORY, TOO_LONG}
use Rattle.sd_triples.specs.declared.triples.Triple.{Triple}
use Rattle.sd_netgroup.specs.declared.asking.Netted.{Netted}
use Rattle.sd_netgroup.specs.declared.asking.Netted.TheVariants as nets
use Rattle.sd_netgroup.specs.declared.directory.Answer.{Answer}
use Rattle.sd_netgroup.specs.declared.directory.Answer.TheVariants as answers
use Rattle.sd_netgroup.specs.declared.tool.TheConstants.{NO_NETGROUP, DIRECTORY_LIMIT}
use Rattle.sd_netgroup.specs.declared.words.Question.{Question}
use Rattle.sd_netgroup.specs.Named.{named_in}
use Rattle.sd_netgroup.specs.Paths.{AreTriplesOf}
use Rattle.sd_netgroup.specs.Rounds.{is_some}
use Rattle.sd_netgroup.specs.Printing.{printed}
use Rattle.sd_netgroup.specs.Told.{AreWithin, MeetLimit}

-- ---- over a directory in memory

-- a directory of these entries, whose messages have the shortest lengths
abbrev pub directory_of : List DirEntry → Behind
directory_of entries = record { entries = entries; framing = shortest }

-- the triples of a netgroup, where no search meets a limit
pub record AreFound (entries : List DirEntry) (base name : List ℕ) (triples : List Triple) : Type 0 where
  pub within : AreWithin (directory_of entries) 0 1 base name
  pub named : is_some (named_in entries base name) ≡ true
  pub are : AreTriplesOf entries base name triples

-- no netgroup has the name, and no search meets a limit
pub record IsAbsent (entries : List DirEntry) (base name : List ℕ) : Type 0 where
  pub within : AreWithin (directory_of entries) 0 1 base name
  pub none : is_some (named_in entries base name) ≡ false

-- a search that is sent meets a limit
abbrev pub IsLimited : List DirEntry → List ℕ → List ℕ → Type 0
IsLimited entries base name = (why : Why) × MeetLimit (directory_of entries) 0 1 base name why

abbrev pub IsAnswer : List DirEntry → List ℕ → List ℕ → Answer → Type 0
IsAnswer entries base name (answers.Found triples) = AreFound entries base name triples
IsAnswer entries base name answers.Absent = IsAbsent entries base name
IsAnswer entries base name answers.Limit = IsLimited entries base name

-- the same of what asking came to
abbrev pub Answers : List DirEntry → List ℕ → List ℕ → Netted → Type 0
Answers entries base name (nets.Found triples) = AreFound entries base name triples
Answers entries base name nets.Absent = IsAbsent entries base name
Answers entries base name (nets.Code code) = ⊥
Answers entries base name (nets.Failed why) = IsLimited entries base name
Answers entries base name nets.Memory = Unit {0}

-- ---- what is written

abbrev pub no_netgroup : List ℕ
no_netgroup = codes "no netgroup\n"

abbrev pub directory_limit : List ℕ
directory_limit = codes "directory limit\n"

-- ---- by the texts of the two inputs

-- The configuration is read, and the directory is made of these entries: of those with equal DNs it keeps the last.
pub record Reads (conf ldif : List ℕ) (config : Config) (entries : List DirEntry) : Type 0 where
  pub is_config : IsConfig conf config
  pub read : List DirEntry
  pub are_read : AreEntries ldif read
  pub keeps : entries ≡ kept read

-- an answer to a question, by the two texts
pub record Tells (conf ldif : List ℕ) (q : Question) (answer : Answer) : Type 0 where
  pub config : Config
  pub entries : List DirEntry
  pub reads : Reads conf ldif config entries
  pub is : IsAnswer entries config.base q.name answer

-- the entries and the search base, and what holds of them
pub record OfDirectory (conf ldif : List ℕ) (P : List DirEntry → List ℕ → Type 0) : Type 0 where
  pub config : Config
  pub entries : List DirEntry
  pub reads : Reads conf ldif config entries
  pub holds : P entries config.base

-- the triples are printed as asked
pub record IsPrinted (q : Question) (output : List ℕ) (entries : List DirEntry) (base : List ℕ) : Type 0 where
  pub triples : List Triple
  pub found : AreFound entries base q.name triples
  pub is : output ≡ printed triples q.member

-- The status and the output: done; no netgroup; a limit of the directory; an input too long; an input refused.
abbrev pub Ends : Question → List ℕ → List ℕ → ℕ → List ℕ → Type 0
Ends q conf ldif status output =
    ((status ≡ DONE) × OfDirectory conf ldif (IsPrinted q output))
    ⊎ (((status ≡ NO_NETGROUP) × (output ≡ no_netgroup) × OfDirectory conf ldif (λ entries base. IsAbsent entries base q.name))
    ⊎ (((status ≡ DIRECTORY_LIMIT) × (output ≡ directory_limit) × OfDirectory conf ldif (λ entries base. IsLimited entries base q.name))
    ⊎ (((status ≡ TOO_LONG) × (output ≡ too_long) × AreTooLong conf ldif)
    ⊎ ((status ≡ REFUSED) × AreRefused conf ldif output))))

-- the statuses of these
abbrev pub IsEnding : ℕ → Type 0
IsEnding status = (status ≡ DONE) ⊎ ((status ≡ NO_NETGROUP) ⊎ ((status ≡ DIRECTORY_LIMIT) ⊎ ((status ≡ TOO_LONG) ⊎ (status ≡ REFUSED))))

-- a fact of what the words ask and of the two inputs, where the words have a form and the sources tell
abbrev pub OfInputs : Option Question → Option (List ℕ) → Option (List ℕ) → (Question → List ℕ → List ℕ → Type 0) → Type 0
OfInputs question conf ldif P = IfSome question (λ q. IfSome conf (λ c. IfSome ldif (λ l. P q c l)))

-- the statuses of the tools
abbrev pub IsStatus : ℕ → Type 0
IsStatus status =
    (status ≡ DONE) ⊎ ((status ≡ USAGE) ⊎ ((status ≡ READ_FAULT) ⊎ ((status ≡ WRITE_FAULT) ⊎ ((status ≡ NO_MEMORY)
    ⊎ ((status ≡ TOO_LONG) ⊎ ((status ≡ REFUSED) ⊎ ((status ≡ NO_NETGROUP) ⊎ (status ≡ DIRECTORY_LIMIT))))))))
