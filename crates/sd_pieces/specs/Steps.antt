-- Reading a text from left to right: a step goes over one byte, or refuses it.
use Rattle.std.specs.Prelude.{◌≡◌, ℕ, ◌+◌, ◌<◌, ◌≤◌, List, [], ◌∷◌, ◌++◌, length, take, slice_index, Option, Some, None, ◌⊎◌}
use Rattle.std.specs.Option.{option_and_then}

-- where reading stands behind all bytes, unless a step refuses one
abbrev pub run_by : {S : Type 0} → (S → ℕ → Option S) → S → List ℕ → Option S
run_by step s [] = Some s
run_by step s (b ∷ bs) = option_and_then (λ t. run_by step t bs) (step s b)

-- reading goes as far as the place, and not over the byte there
pub record StopsAt {S : Type 0} (step : S → ℕ → Option S) (start : S) (text : List ℕ) (place : ℕ) : Type 0 where
  pub within : place < length text
  pub reached : S
  pub front : run_by step start (take place text) ≡ Some reached
  pub refused : step reached (slice_index text place) ≡ None

-- reading goes to the end, where no value ends
pub record EndsShort {S T : Type 0} (step : S → ℕ → Option S) (start : S) (ended : S → Option T) (text : List ℕ) (place : ℕ) : Type 0 where
  pub at_end : place ≡ length text
  pub reached : S
  pub whole : run_by step start text ≡ Some reached
  pub none : ended reached ≡ None

-- reading fails at the place
abbrev pub IsBadAt : {S T : Type 0} → (S → ℕ → Option S) → S → (S → Option T) → List ℕ → ℕ → Type 0
IsBadAt step start ended text place = StopsAt step start text place ⊎ EndsShort step start ended text place

-- a front of the text of some value
abbrev pub GoesOn : {T : Type 0} → (List ℕ → T → Type 0) → List ℕ → Type 0
GoesOn {T} Spells text = (more : List ℕ) × (value : T) × Spells (text ++ more) value

-- The place of the first byte with which no value goes on, or the length of a text that ends too soon: the
-- bytes before it go on to a value in some way, and with the byte there they don't in any.
pub record IsFirstBad {T : Type 0} (Spells : List ℕ → T → Type 0) (text : List ℕ) (place : ℕ) : Type 0 where
  pub within : place ≤ length text
  pub front : GoesOn Spells (take place text)
  pub stop : place < length text → (more : List ℕ) → (value : T) → Spells (take (place + 1) text ++ more) value → ⊥
  pub short : place ≡ length text → (value : T) → Spells text value → ⊥
