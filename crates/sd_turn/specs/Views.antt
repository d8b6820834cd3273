-- What the steps make of what a seat knows.
use Rattle.std.specs.Prelude.{ℕ, ◌+◌, Bool, true, false, [], ◌∷◌, ◌++◌, Option, Some, None}
use Rattle.sd_turn.specs.declared.chronicle.Chronicle.{Ghosts}
use Rattle.sd_turn.specs.declared.view.History.{History}
use Rattle.sd_turn.specs.declared.view.View.{View}
use Rattle.sd_turn.specs.declared.view.Stage.{Stage}
use Rattle.sd_turn.specs.declared.view.Stage.TheVariants.{Free, Holds, Met}
use Rattle.sd_turn.specs.Names.{Member, child_name, without}

module _ {E : Type 0} where
  abbrev pub is_held : Stage E → Bool
  is_held (Holds taken place now) = true
  is_held _ = false

  -- the history that was taken. Where no turn is held, the front stands in.
  abbrev pub taken_in : History E → Stage E → History E
  taken_in front (Holds taken place now) = taken
  taken_in front _ = front

  -- the history with what was appended since. Where no turn is held, the front stands in.
  abbrev pub now_in : History E → Stage E → History E
  now_in front (Holds taken place now) = now
  now_in front _ = front

  abbrev pub place_in : Stage E → ℕ
  place_in (Holds taken place now) = place
  place_in _ = 0

-- A seat that was joined into another has no setting.
abbrev pub lives : {C : Type 0} → Option C → Bool
lives (Some c) = true
lives None = false

module _ {E C : Type 0} where
  -- what the names rest on
  abbrev pub member : View E C → Member
  member v = record { lives = lives v.setting; name = v.name; splits = v.splits; out = v.out }

  -- the seat, after another was split from it
  abbrev pub left_by_split : View E C → View E C
  left_by_split v = record v { splits = v.splits + 1; out = v.out ++ child_name v.name v.splits ∷ [] }

  -- the seat that was split from it
  abbrev pub made_by_split : View E C → View E C
  made_by_split v = record { setting = v.setting; name = child_name v.name v.splits; splits = 0; out = []; mine = []; front = v.front; place = v.place; takes = 0; found = 0; seen = 0; stage = Free }

  -- the seat, after another was joined into it. A load then tells which of the two fronts is the later.
  abbrev pub joined : View E C → View E C → View E C
  joined v w = record v { out = without w.name v.out ++ w.out; mine = v.mine ++ w.mine; stage = Met w.front w.place }

  -- what is left of the other
  abbrev pub spent : View E C
  spent = record { setting = None; name = []; splits = 0; out = []; mine = []; front = record { entries = []; next = 0 }; place = 0; takes = 0; found = 0; seen = 0; stage = Free }

-- the first seat of a turn that is made with a value
abbrev pub newcomer : {V E C : Type 0} → Ghosts V E C → V → View E C
newcomer chronicle value = record { setting = Some (chronicle.setting value); name = []; splits = 0; out = []; mine = []; front = chronicle.history value; place = 0; takes = 0; found = 0; seen = 0; stage = Free }
