-- What the two inputs tell, one behind the other.
use Rattle.std.specs.Prelude.{IfSome}
use Rattle.std.proofs.Common.{◌≡◌, ℕ, List, Option, Some, None, inl, inr}
use Rattle.sd_conf.specs.declared.config.Config.{Config}
use Rattle.sd_ldap.specs.declared.entry.DirEntry.{DirEntry}
use Rattle.sd_inputs.specs.declared.inputs.Stop.{Stop}
use Rattle.sd_inputs.specs.declared.inputs.Stop.TheVariants as stops
use Rattle.sd_inputs.specs.Inputs.{IsConfig, AreEntries, AreInputs, StopsConf, StopsLdif, StopsAt}

pub both_read : (conf ldif : Option (List ℕ)) (config : Config) (entries : List DirEntry) → IfSome conf (λ c. IsConfig c config) → IfSome ldif (λ l. AreEntries l entries)
    → IfSome conf (λ c. IfSome ldif (λ l. AreInputs c l (record { config = config; entries = entries })))
both_read None ldif config entries h k = tt
both_read (Some c) None config entries h k = tt
both_read (Some c) (Some l) config entries h k = record { is_config = h; are_entries = k }

-- the configuration was not taken
conf_stops : (stop : Stop) (c l : List ℕ) → StopsConf stop c → StopsAt stop c l
conf_stops stops.ReadFault c l h = tt
conf_stops stops.TooLong c l h = inl h
conf_stops (stops.Refused output) c l h = inl h
conf_stops stops.Memory c l h = tt

pub conf_stopped : (conf ldif : Option (List ℕ)) (stop : Stop) → IfSome conf (λ c. StopsConf stop c) → IfSome conf (λ c. IfSome ldif (λ l. StopsAt stop c l))
conf_stopped None ldif stop h = tt
conf_stopped (Some c) None stop h = tt
conf_stopped (Some c) (Some l) stop h = conf_stops stop c l h

-- it was, and the entries were not
ldif_stops : (stop : Stop) (config : Config) (c l : List ℕ) → IsConfig c config → StopsLdif stop l → StopsAt stop c l
ldif_stops stops.ReadFault config c l h k = tt
ldif_stops stops.TooLong config c l h k = inr (config, h, k)
ldif_stops (stops.Refused output) config c l h k = inr (config, h, k)
ldif_stops stops.Memory config c l h k = tt

pub ldif_stopped : (conf ldif : Option (List ℕ)) (config : Config) (stop : Stop) → IfSome conf (λ c. IsConfig c config) → IfSome ldif (λ l. StopsLdif stop l) → IfSome conf (λ c. IfSome ldif (λ l. StopsAt stop c l))
ldif_stopped None ldif config stop h k = tt
ldif_stopped (Some c) None config stop h k = tt
ldif_stopped (Some c) (Some l) config stop h k = ldif_stops stop config c l h k
