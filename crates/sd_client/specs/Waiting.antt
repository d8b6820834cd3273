-- What is known of a message in front before it is read.
use Rattle.std.specs.Prelude.{ℕ, ◌<◌, ◌≤◌, Bool, true, false}
use Rattle.sd_ldap.specs.MessageReading.{DecodedValue, whole, unfinished, wrong}
use Rattle.sd_base.specs.declared.Why.{Why}
use Rattle.sd_base.specs.declared.Why.TheVariants.{Link, Bytes, Code, Message, Flood}
use Rattle.sd_client.specs.declared.step.Step.{Step}
use Rattle.sd_client.specs.declared.step.Step.TheVariants.{Waits, Passed, Found, Ended, Failed}

-- more bytes are waited for
abbrev pub is_waiting : DecodedValue → Bool
is_waiting (whole m used) = false
is_waiting unfinished = true
is_waiting (wrong at) = false

-- a failure that bytes alone can be
abbrev pub IsByBytes : Why → Type 0
IsByBytes (Bytes at) = Unit {0}
IsByBytes (Message tag) = Unit {0}
IsByBytes Link = ⊥
IsByBytes (Code code) = ⊥
IsByBytes (Flood count) = ⊥

-- a message takes at least one byte, and no more than there are
abbrev pub IsWithin : Step → ℕ → Type 0
IsWithin Waits count = Unit {0}
IsWithin (Passed used) count = (0 < used) × (used ≤ count)
IsWithin (Found entry used) count = (0 < used) × (used ≤ count)
IsWithin (Ended code used) count = (0 < used) × (used ≤ count)
IsWithin (Failed why) count = IsByBytes why
