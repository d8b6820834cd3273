-- The searches of a lookup are sound.
use Rattle.std.proofs.Common.{arith}
use Rattle.sd_ldap.specs.Sound.{IsSoundSearch}
use Rattle.sd_rules.specs.declared.keys.Key.{Key}
use Rattle.sd_rules.specs.declared.keys.Key.TheVariants as keys
use Rattle.sd_conf.specs.declared.config.Config.{Config}
use Rattle.sd_fetch.specs.Searches.{first_search, services_search}

pub sound_first : (config : Config) (key : Key) → IsSoundSearch (first_search config key)
sound_first config (keys.User name) = record { scope = omega arith; deref = omega arith; size = omega arith; time = omega arith; levels = omega arith; parts = (tt, (tt, tt)) }
sound_first config (keys.Uid uid) = record { scope = omega arith; deref = omega arith; size = omega arith; time = omega arith; levels = omega arith; parts = (tt, (tt, tt)) }
sound_first config (keys.Group name) = record { scope = omega arith; deref = omega arith; size = omega arith; time = omega arith; levels = omega arith; parts = (tt, (tt, tt)) }
sound_first config (keys.Gid gid) = record { scope = omega arith; deref = omega arith; size = omega arith; time = omega arith; levels = omega arith; parts = (tt, (tt, tt)) }
sound_first config (keys.GroupsOf name) = record { scope = omega arith; deref = omega arith; size = omega arith; time = omega arith; levels = omega arith; parts = (tt, (tt, tt)) }
sound_first config keys.Host = record { scope = omega arith; deref = omega arith; size = omega arith; time = omega arith; levels = omega arith; parts = (tt, (tt, tt)) }
sound_first config keys.Rules = record { scope = omega arith; deref = omega arith; size = omega arith; time = omega arith; levels = omega arith; parts = tt }

pub sound_services : (config : Config) → IsSoundSearch (services_search config.base)
sound_services config = record { scope = omega arith; deref = omega arith; size = omega arith; time = omega arith; levels = omega arith; parts = tt }
