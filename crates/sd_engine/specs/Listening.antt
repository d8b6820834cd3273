-- What comes of listening for a frame.
use Rattle.std.specs.Prelude.{◌≡◌, ◌≢◌, ℕ, ◌+◌, ◌<◌, List, [], ◌∷◌, ◌++◌, length}
use Rattle.std.specs.declared.option.Option.{Option}
use Rattle.std.specs.Io.KnownBytes.{Consumes, IsAtEnd}
use Rattle.sd_inbox.specs.Taking.{Unread}
use Rattle.sd_wire.specs.Frames.{IsCarried, frame_of, IsCut, IsBad}
use Rattle.sd_wire.specs.declared.requests.Request.{Request}
use Rattle.sd_engine.specs.declared.ending.SessionEnd.{SessionEnd}
use Rattle.sd_engine.specs.declared.ending.SessionEnd.TheVariants as ends
use Rattle.sd_engine.specs.declared.listening.Listened.{Listened}
use Rattle.sd_engine.specs.declared.listening.Listened.TheVariants.{Heard, Waits, Ended}

-- the end of an input that ended with these bytes
abbrev pub end_of : List ℕ → SessionEnd
end_of [] = ends.Closed
end_of (byte ∷ bytes) = ends.Cut

-- the frame of a request was in front, and was passed
pub record IsHeardFrame (request : Request) (old new : Unread) : Type 0 where
  pub carried : IsCarried request
  pub bytes : old.bytes ≡ frame_of request ++ new.bytes
  pub place : new.place ≡ old.place + length (frame_of request)

-- some bytes came behind those that were there
pub record IsTaken (old new : Unread) (left left' : Option (List ℕ)) : Type 0 where
  pub piece : List ℕ
  pub consumed : Consumes left left' piece
  pub some : 0 < length piece
  pub cut : IsCut old.bytes
  pub bytes : new ≡ record { place = old.place; bytes = old.bytes ++ piece }

-- one byte came where no more may be read
pub record IsOver (count : ℕ) (old : Unread) (left left' : Option (List ℕ)) : Type 0 where
  pub all : count ≡ 1073741824
  pub read : old.place + length old.bytes ≡ 1073741824
  pub cut : IsCut old.bytes
  pub piece : List ℕ
  pub one : length piece ≡ 1
  pub consumed : Consumes left left' piece

-- some bytes came, and were lost for want of memory
pub record IsLost (left left' : Option (List ℕ)) : Type 0 where
  pub piece : List ℕ
  pub consumed : Consumes left left' piece

-- why listening ends a session, by the bytes that were not heard
abbrev pub EndsBy : SessionEnd → Unread → Option (List ℕ) → Option (List ℕ) → Type 0 → Type 0
EndsBy ends.Closed old left left' reads = (old.bytes ≡ []) × IsAtEnd left' × Consumes left left' []
EndsBy ends.Cut old left left' reads = (old.bytes ≢ []) × IsCut old.bytes × IsAtEnd left' × Consumes left left' []
EndsBy (ends.BadFrame at) old left left' reads = (at ≡ old.place) × IsBad old.bytes × (left' ≡ left)
EndsBy (ends.Long count) old left left' reads = IsOver count old left left'
EndsBy ends.ReadFault old left left' reads = reads × IsCut old.bytes × Consumes left left' []
EndsBy ends.Memory old left left' reads = IsLost left left'
EndsBy ends.Stopped old left left' reads = ⊥
EndsBy ends.WriteFault old left left' reads = ⊥
EndsBy (ends.JournalFull count) old left left' reads = ⊥

abbrev pub Listens : Listened → Unread → Unread → Option (List ℕ) → Option (List ℕ) → Type 0 → Type 0
Listens (Heard request) old new left left' reads = IsHeardFrame request old new × (left' ≡ left)
Listens Waits old new left left' reads = IsTaken old new left left'
Listens (Ended ending) old new left left' reads = EndsBy ending old left left' reads × (new ≡ old)

abbrev pub IsHeard : Listened → Request → Unread → Unread → Type 0
IsHeard (Heard heard) request old new = (heard ≡ request) × IsHeardFrame request old new
IsHeard Waits request old new = ⊥
IsHeard (Ended ending) request old new = ⊥
