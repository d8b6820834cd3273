-- What comes of taking bytes.
use Rattle.std.specs.Prelude.{◌≡◌, ℕ, ◌+◌, ◌<◌, ◌≤◌, List, [], ◌++◌, length, max}
use Rattle.std.specs.declared.option.Option.{Option}
use Rattle.std.specs.Io.KnownBytes.{Consumes, IsAtEnd}
use Rattle.sd_inbox.specs.declared.taking.Taken.{Taken}
use Rattle.sd_inbox.specs.declared.taking.Taken.TheVariants as takes

-- Bytes that were not passed yet, and the place of the input at which they begin.
pub record Unread : Type 0 where
  pub place : ℕ
  pub bytes : List ℕ

-- how a piece was taken; room is what may still be read
abbrev pub TakenBy : Taken → List ℕ → Option (List ℕ) → List ℕ → List ℕ → ℕ → Type 0 → Type 0
TakenBy takes.Bytes piece left' old new room reads = (new ≡ old ++ piece) × (0 < length piece) × (length piece ≤ room)
TakenBy takes.End piece left' old new room reads = (piece ≡ []) × IsAtEnd left' × (new ≡ old)
TakenBy takes.Over piece left' old new room reads = (0 < length piece) × (room ≡ 0) × (new ≡ old)
TakenBy takes.Failed piece left' old new room reads = (piece ≡ []) × reads × (new ≡ old)
TakenBy takes.Memory piece left' old new room reads = (new ≡ old) × (length piece ≤ room)

pub record Takes (taken : Taken) (left left' : Option (List ℕ)) (old new : List ℕ) (room : ℕ) (reads : Type 0) : Type 0 where
  pub piece : List ℕ
  pub consumed : Consumes left left' piece
  pub few : length piece ≤ max room 1
  pub by : TakenBy taken piece left' old new room reads

-- the same of an inbox: where so many bytes as may be were read, one more shows that the input goes on
abbrev pub ArrivesBy : Taken → List ℕ → Option (List ℕ) → Unread → Unread → Type 0 → Type 0
ArrivesBy takes.Bytes piece left' old new reads = (new ≡ record { place = old.place; bytes = old.bytes ++ piece }) × (0 < length piece) × (old.place + length old.bytes + length piece ≤ 1073741824)
ArrivesBy takes.End piece left' old new reads = (piece ≡ []) × IsAtEnd left' × (new ≡ old)
ArrivesBy takes.Over piece left' old new reads = (length piece ≡ 1) × (old.place + length old.bytes ≡ 1073741824) × (new ≡ old)
ArrivesBy takes.Failed piece left' old new reads = (piece ≡ []) × reads × (new ≡ old)
ArrivesBy takes.Memory piece left' old new reads = new ≡ old

pub record Arrives (taken : Taken) (left left' : Option (List ℕ)) (old new : Unread) (reads : Type 0) : Type 0 where
  pub piece : List ℕ
  pub consumed : Consumes left left' piece
  pub by : ArrivesBy taken piece left' old new reads
