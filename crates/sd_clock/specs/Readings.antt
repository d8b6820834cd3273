-- What clocks tell.
use Rattle.std.specs.Prelude.{◌≡◌, ℕ, ◌-◌, ◌^◌, zero, suc, nat_lt, min, List, [], ◌∷◌, ◌++◌, length, slice_index, if◌then◌else◌, Some, None}
use Rattle.std.specs.declared.option.Option.{Option}

-- a clock that tells its readings after a call told them before, and they grew by the answer alone
abbrev pub FollowsOn : Option (List ℕ) → ℕ → Option (List ℕ) → Type 0
FollowsOn before moment None = Unit {0}
FollowsOn None moment (Some readings) = ⊥
FollowsOn (Some earlier) moment (Some readings) = readings ≡ earlier ++ moment ∷ []

-- a clock in memory: its moments, and how often it was asked
pub record Moments : Type 0 where
  pub moments : List ℕ
  pub calls : ℕ

-- what a clock of these moments gives at a call, counted from 0: behind all of them the last one again, and 0 where it has none
abbrev pub reading_at : List ℕ → ℕ → ℕ
reading_at moments call = slice_index moments (min call (length moments - 1))

-- what it gave at so many calls, the first first
abbrev pub readings_before : List ℕ → ℕ → List ℕ
readings_before moments zero = []
readings_before moments (suc calls) = readings_before moments calls ++ reading_at moments calls ∷ []

-- a count at its end is told no more
abbrev pub readings_of : Moments → Option (List ℕ)
readings_of c = if nat_lt c.calls (2 ^ 64 - 1) then Some (readings_before c.moments c.calls) else None
