-- What contracts see of a link to a directory in memory, and what its calls make of it.
use Rattle.std.specs.Prelude.{◌≡◌, ℕ, ◌+◌, ◌-◌, ◌^◌, ◌<◌, min, Bool, true, false, ◌==◌, ◌&&◌, if◌then◌else◌, List, [], ◌∷◌, ◌++◌, length, take, drop, Some, None, ◌⊎◌}
use Rattle.std.specs.List.{list_any}
use Rattle.std.specs.declared.option.Option.{Option}
use Rattle.sd_ldap.specs.declared.entry.DirEntry.{DirEntry}
use Rattle.sd_stub.specs.declared.Mode.{Mode}
use Rattle.sd_dial.specs.Entries.{Framing, Behind}
use Rattle.sd_dial.specs.Rooms.{are_short}
use Rattle.sd_stub_link.specs.Distinct.{have_own_dns}
use Rattle.sd_stub_link.specs.Modes.{answer_by, framing_of, has_ended}

-- the entries of the directory, the mode, all bytes that replies have put and how many of them were
-- received, the pieces sent, the number of calls with the `before` that were counted before its making,
-- those that are to fail, the number of faults, and whether a call found no memory
pub record Standing : Type 0 where
  pub entries : List DirEntry
  pub mode : Mode
  pub put : List ℕ
  pub at : ℕ
  pub pieces : List (List ℕ)
  pub before : ℕ
  pub calls : ℕ
  pub failing : List ℕ
  pub faults : ℕ
  pub starved : Bool

-- a link that was made: nothing was asked or comes, and its calls are counted on from a number
abbrev pub made : List DirEntry → Mode → List ℕ → ℕ → Standing
made entries mode failing before =
    record { entries = entries; mode = mode; put = []; at = 0; pieces = []; before = before; calls = before; failing = failing; faults = 0; starved = false }

-- the bytes to come
abbrev pub rest_of : Standing → List ℕ
rest_of s = drop s.at s.put

abbrev pub coming_of : Standing → Option (List ℕ)
coming_of s = Some (rest_of s)

-- the bytes received
abbrev pub received_of : Standing → List ℕ
received_of s = take s.at s.put

-- what answers a piece: nothing once a cut link has ended
abbrev pub answer_of : Standing → List ℕ → List ℕ
answer_of s piece = if has_ended s.mode s.put then [] else answer_by s.mode s.entries piece

abbrev pub behind_in : Option Framing → List DirEntry → Option Behind
behind_in (Some framing) entries = Some (record { entries = entries; framing = framing })
behind_in None entries = None

-- a directory is told where each entry has a DN of its own, and each is short
abbrev pub behind_by : Mode → List DirEntry → Option Behind
behind_by mode entries = if have_own_dns entries && are_short entries then behind_in (framing_of mode) entries else None

-- it is told in the modes up and long
abbrev pub behind_of : Standing → Option Behind
behind_of s = behind_by s.mode s.entries

-- counts stand still at the greatest number
abbrev pub counted : ℕ → ℕ
counted n = min (n + 1) (2 ^ 64 - 1)

-- a call of this number is to fail
abbrev pub is_listed : List ℕ → ℕ → Bool
is_listed failing call = list_any (λ n. n == call) failing

-- the next call is to fail
abbrev pub is_next_listed : Standing → Bool
is_next_listed s = is_listed s.failing (counted s.calls)

-- a call that failed
abbrev pub refused : Standing → Standing
refused s = record s { calls = counted s.calls; faults = counted s.faults }

abbrev pub refused_starving : Standing → Standing
refused_starving s = record s { calls = counted s.calls; faults = counted s.faults; starved = true }

-- a piece that was sent, and its reply
abbrev pub with_reply : Standing → List ℕ → List ℕ → Standing
with_reply s piece reply = record s { calls = counted s.calls; put = s.put ++ reply; pieces = s.pieces ++ piece ∷ [] }

-- so many bytes more were received
abbrev pub with_received : Standing → ℕ → Standing
with_received s count = record s { calls = counted s.calls; at = s.at + count }

-- A send fails only where its call is listed or the link is starved.
abbrev pub IsSendRefused : Standing → Standing → Type 0
IsSendRefused old new = ((is_next_listed old ≡ true) × (new ≡ refused old)) ⊎ (new ≡ refused_starving old)

-- A receive fails only where its call is listed or no byte is to come.
abbrev pub IsReceiveRefused : Standing → Standing → Type 0
IsReceiveRefused old new = (new ≡ refused old) × ((is_next_listed old ≡ true) ⊎ (rest_of old ≡ []))

-- What is so once a send has failed: its call is listed, or the link is starved.
abbrev pub Refuses : Standing → Type 0
Refuses s = (is_listed s.failing s.calls ≡ true) ⊎ (s.starved ≡ true)

-- What is so once a receive has failed: its call is listed, or no byte is to come.
abbrev pub Ends : Standing → Type 0
Ends s = (is_listed s.failing s.calls ≡ true) ⊎ (rest_of s ≡ [])

-- a piece was kept, or none
abbrev pub WentBy : Standing → Option (List ℕ) → Standing → Type 0
WentBy old (Some piece) new = (new.pieces ≡ old.pieces ++ piece ∷ []) × (length piece < 2 ^ 32)
WentBy old None new = new.pieces ≡ old.pieces

-- the directory and its mode stay
pub record Went (old : Standing) (piece : Option (List ℕ)) (new : Standing) : Type 0 where
  pub entries : new.entries ≡ old.entries
  pub mode : new.mode ≡ old.mode
  pub pieces : WentBy old piece new
