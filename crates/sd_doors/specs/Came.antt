-- What doors tell of what they answered.
use Rattle.std.specs.Prelude.{◌≡◌, ℕ, Bool, true, Option, Some, None, Result, Ok, Err}

-- whether a connection was given so far
abbrev pub gave_after : {C E : Type 0} → Bool → Result (Option C) E → Bool
gave_after gave (Ok (Some came)) = true
gave_after gave (Ok None) = gave
gave_after gave (Err failed) = gave

-- whether it was answered so far that no connection will come
abbrev pub ended_after : {C E : Type 0} → Bool → Result (Option C) E → Bool
ended_after ended (Ok None) = true
ended_after ended (Ok (Some came)) = ended
ended_after ended (Err failed) = ended

-- no fault is counted at a source and at a sink
abbrev pub IsUntouched : ℕ → ℕ → Type 0
IsUntouched source sink = (source ≡ 0) × (sink ≡ 0)
