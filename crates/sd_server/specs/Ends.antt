-- Why no more clients are let in.
use Rattle.std.specs.Prelude.{◌≡◌, ◌+◌, ◌&&◌, nat_le, length, Bool, true, Result, Ok, Err}
use Rattle.sd_keeper.specs.declared.keeper.KeeperFault.{KeeperFault}
use Rattle.sd_conf.specs.declared.config.Config.{Config}
use Rattle.sd_server.specs.declared.serving.ServeEnd.{ServeEnd}
use Rattle.sd_server.specs.declared.serving.ServeEnd.TheVariants as ends

-- the word to end comes only behind a connection; that none will come was answered by the doors; a failure is one of the doors
abbrev pub EndsBy : ServeEnd → Bool → Bool → Type 0 → Type 0
EndsBy ends.Stopped gave ended failed = gave ≡ true
EndsBy ends.NoneToCome gave ended failed = ended ≡ true
EndsBy ends.DoorFailed gave ended failed = failed

-- what is told where the last call on a keeper failed: that it did, want of memory, or that doors failed
abbrev pub TellsFailure : Result ServeEnd KeeperFault → Type 0
TellsFailure (Ok ends.DoorFailed) = Unit {0}
TellsFailure (Ok end) = ⊥
TellsFailure (Err fault) = Unit {0}

-- a configuration has at most 64 servers, and a pwfield of at most 255 bytes
abbrev pub is_servable : Config → Bool
is_servable config = nat_le (config.settings.primaries + config.settings.backups) 64 && nat_le (length config.pwfield) 255
