-- How the tool ends: by which status, and what is written.
use Rattle.std.specs.Prelude.{◌≡◌, ◌⊎◌, ℕ, List, codes, Option, IfSome, Result}
use Rattle.sd_conf.specs.declared.config.Config.{Config}
use Rattle.sd_ldap.specs.declared.entry.DirEntry.{DirEntry}
use Rattle.sd_places.specs.Keeping.{kept}
use Rattle.sd_tools.specs.declared.endings.TheConstants.{DONE, USAGE, READ_FAULT, WRITE_FAULT, NO_MEMORY, TOO_LONG}
use Rattle.sd_inputs.specs.declared.endings.TheConstants.{REFUSED}
use Rattle.sd_inputs.specs.Inputs.{IsConfig, AreEntries, AreTooLong, AreRefused}
use Rattle.sd_inputs.specs.Endings.{too_long}
use Rattle.sd_netgroup.specs.declared.tool.TheConstants.{DIRECTORY_LIMIT}
use Rattle.sd_netgroup.specs.Endings.{directory_limit}
use Rattle.sd_roles.specs.declared.roles.Role.{Role}
use Rattle.sd_sudo.specs.declared.tool.TheConstants.{NO_USER}
use Rattle.sd_sudo.specs.declared.answer.Answer.{Answer}
use Rattle.sd_sudo.specs.declared.lookups.Halt.{Halt}
use Rattle.sd_sudo.specs.Answering.{HasNoUser, AreRulesOf, IsLimited, IsOutcome}
use Rattle.sd_sudo.specs.Printing.{lines_of}

abbrev pub no_user : List ℕ
no_user = codes "no user\n"

-- The configuration is read, and the directory is made of these entries: of those with equal DNs it keeps the last.
pub record Reads (conf ldif : List ℕ) (config : Config) (entries : List DirEntry) : Type 0 where
  pub is_config : IsConfig conf config
  pub read : List DirEntry
  pub are_read : AreEntries ldif read
  pub keeps : entries ≡ kept read

-- an outcome for a user, by the two texts
pub record Tells (conf ldif user : List ℕ) (outcome : Result Answer Halt) : Type 0 where
  pub config : Config
  pub entries : List DirEntry
  pub reads : Reads conf ldif config entries
  pub is : IsOutcome config entries user outcome

-- the configuration and the entries, and what holds of them
pub record OfDirectory (conf ldif : List ℕ) (P : List DirEntry → Config → Type 0) : Type 0 where
  pub config : Config
  pub entries : List DirEntry
  pub reads : Reads conf ldif config entries
  pub holds : P entries config

-- the rules that apply to the user are printed
pub record ArePrinted (user output : List ℕ) (entries : List DirEntry) (config : Config) : Type 0 where
  pub applied : List Role
  pub are : AreRulesOf config entries user applied
  pub is : output ≡ lines_of applied

-- The status and the output: done; no user; a limit of the directory; an input too long; an input refused.
abbrev pub Ends : List ℕ → List ℕ → List ℕ → ℕ → List ℕ → Type 0
Ends user conf ldif status output =
    ((status ≡ DONE) × OfDirectory conf ldif (ArePrinted user output))
    ⊎ (((status ≡ NO_USER) × (output ≡ no_user) × OfDirectory conf ldif (λ entries config. HasNoUser config entries user))
    ⊎ (((status ≡ DIRECTORY_LIMIT) × (output ≡ directory_limit) × OfDirectory conf ldif (λ entries config. IsLimited config entries user))
    ⊎ (((status ≡ TOO_LONG) × (output ≡ too_long) × AreTooLong conf ldif)
    ⊎ ((status ≡ REFUSED) × AreRefused conf ldif output))))

-- the statuses of these
abbrev pub IsEnding : ℕ → Type 0
IsEnding status = (status ≡ DONE) ⊎ ((status ≡ NO_USER) ⊎ ((status ≡ DIRECTORY_LIMIT) ⊎ ((status ≡ TOO_LONG) ⊎ (status ≡ REFUSED))))

-- a fact of the user whom the words name and of the two inputs, where the words have a form and the sources tell
abbrev pub OfInputs : Option (List ℕ) → Option (List ℕ) → Option (List ℕ) → (List ℕ → List ℕ → List ℕ → Type 0) → Type 0
OfInputs user conf ldif P = IfSome user (λ u. IfSome conf (λ c. IfSome ldif (λ l. P u c l)))

-- the statuses of the tool
abbrev pub IsStatus : ℕ → Type 0
IsStatus status =
    (status ≡ DONE) ⊎ ((status ≡ USAGE) ⊎ ((status ≡ READ_FAULT) ⊎ ((status ≡ WRITE_FAULT) ⊎ ((status ≡ NO_MEMORY)
    ⊎ ((status ≡ TOO_LONG) ⊎ ((status ≡ REFUSED) ⊎ ((status ≡ NO_USER) ⊎ (status ≡ DIRECTORY_LIMIT))))))))
