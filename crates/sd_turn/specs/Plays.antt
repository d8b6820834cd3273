-- What each step tells the seat that makes it.
use Rattle.std.specs.Prelude.{◌≡◌, ◌≢◌, ◌⊎◌, ℕ, ◌+◌, ◌≤◌, max, List, [], ◌∷◌, ◌++◌, map, Option, Some}
use Rattle.atomic_table.specs.Table.{Me, Step}
use Rattle.sd_turn.specs.declared.chronicle.Chronicle.{Ghosts}
use Rattle.sd_turn.specs.declared.view.History.{History}
use Rattle.sd_turn.specs.declared.view.View.{View}
use Rattle.sd_turn.specs.declared.view.Stage.TheVariants.{Free, Holds, Met}
use Rattle.sd_turn.specs.Counts.{AreDistinct}
use Rattle.sd_turn.specs.Histories.{with_entries}

module _ {V E C : Type 0} (chronicle : Ghosts V E C) where
  open chronicle use {setting, history, number, follows, fits}

  abbrev TurnSeat : Type 0
  TurnSeat = Me (Option V) (View E C)

  abbrev TurnStep : Type 0
  TurnStep = Step (Option V)

  -- the view, after one try more, which found this turn word
  abbrev pub tried : View E C → ℕ → View E C
  tried v found = record v { takes = v.takes + 1; found = found }

  -- Where the turn was free, the seat has the value, and its history follows the front.
  abbrev pub took : TurnStep → TurnSeat → ℕ → TurnSeat → Type 0
  took s old found new =
      (found ≢ 0 → new ≡ (tried old.0 found, old.1))
      × (found ≡ 0 → (value : V) × (place : ℕ) × (new ≡ (record (tried old.0 found) { stage = Holds (history value) place (history value) }, (0, Some value) ∷ old.1))
      × ((c : C) → old.0.setting ≡ Some c → (setting value ≡ c) × follows c old.0.front (history value) × fits c (history value)))

  -- The entries are the seat's own, and the first of them has the number behind the one found.
  abbrev pub counted : List E → TurnStep → TurnSeat → ℕ → TurnSeat → Type 0
  counted entries s old found new = (taken now : History E) (place : ℕ) → old.0.stage ≡ Holds taken place now
      → (new ≡ (record old.0 { mine = old.0.mine ++ entries; stage = Holds taken place (with_entries now entries) }, old.1)) × (now.next ≡ found + 1)

  -- The front is the history of the value that was given, and follows the front before.
  abbrev pub gave : TurnStep → TurnSeat → ℕ → TurnSeat → Type 0
  gave s old found new = (taken now : History E) (place : ℕ) (value : V) → old.0.stage ≡ Holds taken place now → old.1 ≡ (0, Some value) ∷ []
      → (new ≡ (record old.0 { front = history value; place = place + 1; stage = Free }, [])) × ((c : C) → old.0.setting ≡ Some c → follows c old.0.front (history value))

  -- The seat has seen the number of the last entry, which is no less than that of the last in its front.
  abbrev pub looked : TurnStep → TurnSeat → ℕ → TurnSeat → Type 0
  looked s old found new = (new ≡ (record old.0 { seen = found }, old.1)) × ((c : C) → old.0.setting ≡ Some c → old.0.front.next ≤ found + 1)

  -- The front is the later of the two, which follows both.
  abbrev pub Settles : C → History E → TurnSeat → TurnSeat → Type 0
  Settles c met old new = (front : History E) × (later : ℕ) × (new ≡ (record old.0 { front = front; place = later; stage = Free }, old.1))
      × ((front ≡ old.0.front) ⊎ (front ≡ met)) × follows c old.0.front front × follows c met front × (front.next ≡ max old.0.front.next met.next)

  -- After a join: no number stands twice among the seat's own.
  abbrev pub settled : TurnStep → TurnSeat → ℕ → TurnSeat → Type 0
  settled s old found new = AreDistinct (map number old.0.mine)
      × ((c : C) (met : History E) (place : ℕ) → old.0.setting ≡ Some c → old.0.stage ≡ Met met place → Settles c met old new)
