-- What the texts of a configuration and of entries come to.
use Rattle.std.specs.Prelude.{◌≡◌, ◌⊎◌, ℕ, ◌<◌, ◌≤◌, ◌++◌, List, [], length, codes, Ok, Err}
use Rattle.sd_conf.specs.declared.config.Config.{Config}
use Rattle.sd_conf.specs.declared.ConfFault.{ConfFault}
use Rattle.sd_conf.specs.declared.ConfFault.TheVariants as conf_faults
use Rattle.sd_conf.specs.Config.{conf_of}
use Rattle.sd_ldap.specs.declared.entry.DirEntry.{DirEntry}
use Rattle.sd_ldif.specs.declared.LdifFault.{LdifFault}
use Rattle.sd_ldif.specs.declared.LdifFault.TheVariants as ldif_faults
use Rattle.sd_ldif.specs.Records.{ldif_of}
use Rattle.sd_wire.specs.Forms.{numbered}
use Rattle.sd_inputs.specs.declared.inputs.Inputs.{Inputs}
use Rattle.sd_inputs.specs.declared.inputs.Stop.{Stop}
use Rattle.sd_inputs.specs.declared.inputs.Stop.TheVariants as stops

-- the most bytes of a configuration, 1 MiB, and of entries, 64 MiB
abbrev pub conf_limit : ℕ
conf_limit = 1048576

abbrev pub ldif_limit : ℕ
ldif_limit = 67108864

-- a configuration is taken
pub record IsConfig (conf : List ℕ) (config : Config) : Type 0 where
  pub within : length conf ≤ conf_limit
  pub taken : conf_of conf ≡ Ok config

-- entries are taken
pub record AreEntries (ldif : List ℕ) (entries : List DirEntry) : Type 0 where
  pub within : length ldif ≤ ldif_limit
  pub taken : ldif_of ldif ≡ Ok entries

-- both are taken
pub record AreInputs (conf ldif : List ℕ) (inputs : Inputs) : Type 0 where
  pub is_config : IsConfig conf inputs.config
  pub are_entries : AreEntries ldif inputs.entries

-- what is written where an input is refused: the refusal's name, and a space and its value where it has one
abbrev pub refused : List ℕ → List ℕ → List ℕ
refused name value = codes "refused " ++ (name ++ (value ++ codes "\n"))

abbrev pub conf_name : ConfFault → List ℕ
conf_name (conf_faults.BadLine n) = codes "BadLine"
conf_name (conf_faults.NoSection n) = codes "NoSection"
conf_name (conf_faults.BadValue n) = codes "BadValue"
conf_name (conf_faults.ManyDomains n) = codes "ManyDomains"
conf_name conf_faults.NoDomain = codes "NoDomain"
conf_name (conf_faults.Missing option) = codes "Missing"
conf_name conf_faults.Memory = codes "Memory"

abbrev pub conf_value : ConfFault → List ℕ
conf_value (conf_faults.BadLine n) = numbered (codes " ") n
conf_value (conf_faults.NoSection n) = numbered (codes " ") n
conf_value (conf_faults.BadValue n) = numbered (codes " ") n
conf_value (conf_faults.ManyDomains n) = numbered (codes " ") n
conf_value conf_faults.NoDomain = []
conf_value (conf_faults.Missing option) = codes " " ++ option
conf_value conf_faults.Memory = []

abbrev pub conf_refused : ConfFault → List ℕ
conf_refused fault = refused (conf_name fault) (conf_value fault)

abbrev pub ldif_name : LdifFault → List ℕ
ldif_name (ldif_faults.BadLine n) = codes "BadLine"
ldif_name (ldif_faults.BadBase64 n) = codes "BadBase64"
ldif_name (ldif_faults.NoDn n) = codes "NoDn"
ldif_name ldif_faults.Memory = codes "Memory"

abbrev pub ldif_value : LdifFault → List ℕ
ldif_value (ldif_faults.BadLine n) = numbered (codes " ") n
ldif_value (ldif_faults.BadBase64 n) = numbered (codes " ") n
ldif_value (ldif_faults.NoDn n) = numbered (codes " ") n
ldif_value ldif_faults.Memory = []

abbrev pub ldif_refused : LdifFault → List ℕ
ldif_refused fault = refused (ldif_name fault) (ldif_value fault)

-- a configuration is refused, and this is written
pub record IsConfRefused (conf output : List ℕ) : Type 0 where
  pub within : length conf ≤ conf_limit
  pub fault : ConfFault
  pub refusal : conf_of conf ≡ Err fault
  pub is : output ≡ conf_refused fault

-- entries are refused, and this is written
pub record IsLdifRefused (ldif output : List ℕ) : Type 0 where
  pub within : length ldif ≤ ldif_limit
  pub fault : LdifFault
  pub refusal : ldif_of ldif ≡ Err fault
  pub is : output ≡ ldif_refused fault

-- why a configuration was not taken
abbrev pub StopsConf : Stop → List ℕ → Type 0
StopsConf stops.ReadFault conf = Unit {0}
StopsConf stops.TooLong conf = conf_limit < length conf
StopsConf (stops.Refused output) conf = IsConfRefused conf output
StopsConf stops.Memory conf = Unit {0}

-- why entries were not taken
abbrev pub StopsLdif : Stop → List ℕ → Type 0
StopsLdif stops.ReadFault ldif = Unit {0}
StopsLdif stops.TooLong ldif = ldif_limit < length ldif
StopsLdif (stops.Refused output) ldif = IsLdifRefused ldif output
StopsLdif stops.Memory ldif = Unit {0}

-- a text that was read whole is refused, or memory is wanting
abbrev pub StopsReadConf : Stop → List ℕ → Type 0
StopsReadConf stops.ReadFault conf = ⊥
StopsReadConf stops.TooLong conf = ⊥
StopsReadConf (stops.Refused output) conf = IsConfRefused conf output
StopsReadConf stops.Memory conf = Unit {0}

abbrev pub StopsReadLdif : Stop → List ℕ → Type 0
StopsReadLdif stops.ReadFault ldif = ⊥
StopsReadLdif stops.TooLong ldif = ⊥
StopsReadLdif (stops.Refused output) ldif = IsLdifRefused ldif output
StopsReadLdif stops.Memory ldif = Unit {0}

-- ---- of both

-- the configuration is too long; or it is taken, and the entries are too long
abbrev pub AreTooLong : List ℕ → List ℕ → Type 0
AreTooLong conf ldif = (conf_limit < length conf) ⊎ ((config : Config) × IsConfig conf config × (ldif_limit < length ldif))

-- the configuration is refused; or it is taken, and the entries are refused
abbrev pub AreRefused : List ℕ → List ℕ → List ℕ → Type 0
AreRefused conf ldif output = IsConfRefused conf output ⊎ ((config : Config) × IsConfig conf config × IsLdifRefused ldif output)

-- why they were not taken
abbrev pub StopsAt : Stop → List ℕ → List ℕ → Type 0
StopsAt stops.ReadFault conf ldif = Unit {0}
StopsAt stops.TooLong conf ldif = AreTooLong conf ldif
StopsAt (stops.Refused output) conf ldif = AreRefused conf ldif output
StopsAt stops.Memory conf ldif = Unit {0}
