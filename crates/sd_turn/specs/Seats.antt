-- What the contracts read of a seat and of a turn.
use Rattle.std.specs.Prelude.{◌≡◌, ℕ, true, List, [], ◌∷◌, ◌++◌, Some, None}
use Rattle.sd_turn.specs.declared.chronicle.Chronicle.{Ghosts}
use Rattle.sd_turn.specs.declared.view.History.{History}
use Rattle.sd_turn.specs.declared.view.View.{View}
use Rattle.sd_turn.specs.declared.view.Stage.TheVariants.{Free}
use Rattle.sd_turn.specs.declared.turn.Seat.{Seat}
use Rattle.sd_turn.specs.declared.turn.Turn.{Turn}
use Rattle.sd_turn.specs.Names.{without}
use Rattle.sd_turn.specs.Views.{left_by_split, made_by_split, is_held, taken_in, now_in}

-- the value that the turn was made with
abbrev pub opening : {V E C : Type 0} → Turn V E C → V
opening t = t.table.shared.key.value

module _ {V E C : Type 0} {g : Ghosts V E C} where
  abbrev pub view_of : Seat V E C g → View E C
  view_of s = s.seat.me.0

  -- the latest history that the seat gave, or began with
  abbrev pub front : Seat V E C g → History E
  front s = s.seat.me.0.front

  -- the entries that the seat appended
  abbrev pub mine : Seat V E C g → List E
  mine s = s.seat.me.0.mine

  abbrev pub name : Seat V E C g → List ℕ
  name s = s.seat.me.0.name

  -- how many splits the seat has made
  abbrev pub splits : Seat V E C g → ℕ
  splits s = s.seat.me.0.splits

  -- the names of the seats that are out
  abbrev pub out : Seat V E C g → List (List ℕ)
  out s = s.seat.me.0.out

  -- how often the seat tried to take the turn
  abbrev pub takes : Seat V E C g → ℕ
  takes s = s.seat.me.0.takes

  -- the turn word that the last such try found
  abbrev pub found : Seat V E C g → ℕ
  found s = s.seat.me.0.found

  -- the number of the last entry, as the last look at the count word found it
  abbrev pub seen : Seat V E C g → ℕ
  seen s = s.seat.me.0.seen

  -- The seat is one of this turn.
  abbrev pub IsOwn : Turn V E C → Seat V E C g → Type 0
  IsOwn t s = (s.seat.table_id ≡ t.table.shared.table_id) × (s.seat.me.0.setting ≡ Some (g.setting (opening t)))

  abbrev pub HoldsNoTurn : Seat V E C g → Type 0
  HoldsNoTurn s = (s.seat.me.0.stage ≡ Free) × (s.seat.me.1 ≡ [])

  abbrev pub HoldsTurn : Seat V E C g → Type 0
  HoldsTurn s = (is_held s.seat.me.0.stage ≡ true) × (s.seat.me.1 ≡ (0, None) ∷ [])

  -- the history that the seat took, while it holds the turn
  abbrev pub history_taken : Seat V E C g → History E
  history_taken s = taken_in s.seat.me.0.front s.seat.me.0.stage

  -- the history that it took with what it appended since, while it holds the turn
  abbrev pub history_now : Seat V E C g → History E
  history_now s = now_in s.seat.me.0.front s.seat.me.0.stage

  -- The seat holds the turn, took this history, and appended nothing yet.
  abbrev pub HasTaken : Seat V E C g → History E → Type 0
  HasTaken s h = HoldsTurn s × (history_taken s ≡ h) × (history_now s ≡ h)

  -- Name, number of splits and list of seats out are the same.
  abbrev pub IsSameSeat : Seat V E C g → Seat V E C g → Type 0
  IsSameSeat old new = (name new ≡ name old) × (splits new ≡ splits old) × (out new ≡ out old)

  -- The seat did not try to take the turn in between.
  abbrev pub SameTries : Seat V E C g → Seat V E C g → Type 0
  SameTries old new = (takes new ≡ takes old) × (found new ≡ found old)

  -- The seat looked at the count word, and nothing else of it changed.
  abbrev pub HasLooked : Seat V E C g → Seat V E C g → ℕ → Type 0
  HasLooked old new count = new.seat.me ≡ (record (view_of old) { seen = count }, old.seat.me.1)

  -- The seat is the first of its turn and has done nothing yet.
  abbrev pub IsFirst : Seat V E C g → Type 0
  IsFirst s = (name s ≡ []) × (splits s ≡ 0) × (out s ≡ []) × (mine s ≡ []) × (takes s ≡ 0)

  -- The old seat was split in two.
  abbrev pub IsSplit : Seat V E C g → Seat V E C g → Seat V E C g → Type 0
  IsSplit old new child = (view_of new ≡ left_by_split (view_of old)) × (view_of child ≡ made_by_split (view_of old))

  -- The other seat was joined into the old one. Of the fronts this says nothing.
  abbrev pub IsJoined : Seat V E C g → Seat V E C g → Seat V E C g → Type 0
  IsJoined old other new = (name new ≡ name old) × (splits new ≡ splits old) × (out new ≡ without (name other) (out old) ++ out other)
      × (mine new ≡ mine old ++ mine other) × SameTries old new
