-- What an early end of the code says of the definitions.
use Rattle.std.specs.Prelude.{◌≡◌, ℕ, List, Result, Err}
use Rattle.sd_world.specs.declared.stop.Stop.{Stop}
use Rattle.sd_world.specs.declared.stop.Stop.TheVariants.{Full, Memory}
use Rattle.sd_world.specs.Tasks as tasks
use Rattle.sd_world.specs.Tasks.{Halt}

-- a full journal is what the definitions say; want of memory is free
abbrev pub Fails : {Y : Type 0} → Stop → Result Y ℕ → Type 0
Fails Memory r = Unit {0}
Fails (Full n) r = r ≡ Err n

-- the same with what was printed before
abbrev pub Halts : {Y : Type 0} → Stop → Result Y Halt → List ℕ → Type 0
Halts Memory r printed = Unit {0}
Halts (Full n) r printed = r ≡ Err (tasks.Full n printed)
