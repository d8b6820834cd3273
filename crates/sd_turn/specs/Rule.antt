-- The rule of the table of a turn.
--
-- Word 0, the turn word, is 0 while the turn is free, and else 1. Word 1, the count word, is the number of the last entry. Slot 0 has the value while the turn is free.
use Rattle.std.specs.Prelude.{◌≡◌, ◌≢◌, ℕ, ◌+◌, ◌≤◌, true, List, [], ◌∷◌, ◌++◌, map, length, slice_index, sum_by, Option, Some, None}
use mathlib.Core.Option.{some}
use mathlib.Core.Option as maybe
use lib.ListN.{get_elem?}
use Rattle.atomic_table.specs.Table.{State}
use Rattle.sd_turn.specs.declared.chronicle.Chronicle.{Ghosts}
use Rattle.sd_turn.specs.declared.view.History.{History}
use Rattle.sd_turn.specs.declared.view.View.{View}
use Rattle.sd_turn.specs.declared.view.Stage.{Stage}
use Rattle.sd_turn.specs.declared.view.Stage.TheVariants.{Free, Holds, Met}
use Rattle.sd_turn.specs.Counts.{occurrences, once_between}
use Rattle.sd_turn.specs.Names.{Family}
use Rattle.sd_turn.specs.Views.{lives, member}

module _ {V E C : Type 0} (chronicle : Ghosts V E C) where
  open chronicle use {setting, history, number, follows, fits}

  -- Of two histories that were given, the later follows the earlier.
  abbrev pub Rises : C → List (History E) → Type 0
  Rises c given = (i j : ℕ) (x y : History E) → i ≤ j → get_elem? given i ≡ some x → get_elem? given j ≡ some y → follows c x y × (x.next ≤ y.next)

  -- The histories given are `before`, and then `last`. Word 0 is `turn`, word 1 is `count`, and only the seat `holder` may hold the turn.
  module _ (c : C) (before : List (History E)) (last : History E) (turn count holder seat : ℕ) where
    abbrev pub StandsAt : History E → ℕ → Type 0
    StandsAt x place = get_elem? (before ++ last ∷ []) place ≡ some x

    abbrev pub KnowsStage : Stage E → Type 0
    KnowsStage Free = Unit {0}
    KnowsStage (Holds taken place now) = (seat ≡ holder) × (turn ≡ 1) × (taken ≡ last) × (place ≡ length before) × (count + 1 ≡ now.next)
    KnowsStage (Met x place) = StandsAt x place

    -- A seat that was joined into another has no entry left.
    abbrev pub KnowsUnder : Option C → View E C → Type 0
    KnowsUnder (Some d) v = (d ≡ c) × StandsAt v.front v.place × KnowsStage v.stage
    KnowsUnder None v = v.mine ≡ []

    -- What a seat knows is true.
    abbrev pub Knows : View E C → Type 0
    Knows v = KnowsUnder v.setting v

  -- the numbers of a seat's entries
  abbrev pub numbers : View E C → List ℕ
  numbers v = map number v.mine

  -- The value is in its slot, and has the last history.
  abbrev pub IsHome : C → History E → ℕ → List (maybe.Option (Option V)) → Type 0
  IsHome c last count homes = (value : V) × (get_elem? homes 0 ≡ some (some (Some value))) × (setting value ≡ c) × (history value ≡ last) × (count + 1 ≡ last.next)

  -- The seat `holder` holds the turn.
  abbrev pub IsHeld : ℕ → List (View E C) → Type 0
  IsHeld holder views = (v : View E C) × (taken now : History E) × (place : ℕ) × (get_elem? views holder ≡ some v) × (lives v.setting ≡ true) × (v.stage ≡ Holds taken place now)

  -- What stands while word 0 is `turn` and word 1 is `count`, in a turn that was made with the value `opening`.
  pub record Stands (opening : V) (turn count : ℕ) (homes : List (maybe.Option (Option V))) (views : List (View E C)) : Type 0 where
    -- the histories given before the last, the last, and the seat that holds the turn, if one does
    pub before : List (History E)
    pub last : History E
    pub holder : ℕ
    pub rises : Rises (setting opening) (before ++ last ∷ [])
    pub fit : (place : ℕ) (x : History E) → get_elem? (before ++ last ∷ []) place ≡ some x → fits (setting opening) x
    pub each_seat : (i : ℕ) (v : View E C) → get_elem? views i ≡ some v → Knows (setting opening) before last turn count holder i v
    pub free : turn ≡ 0 → IsHome (setting opening) last count homes
    pub taken : turn ≢ 0 → IsHeld holder views
    pub behind : last.next ≤ count + 1
    pub begun : (history opening).next ≤ count + 1
    -- Each number that was given stands once among the entries of all seats, and no other number does.
    pub tallied : (n : ℕ) → sum_by (λ v. occurrences n (numbers v)) views ≡ once_between (history opening).next (count + 1) n
    pub family : Family (map member views)

  abbrev pub Kept : V → State (Option V) (View E C) → Type 0
  Kept opening s = (length s.words ≡ 2) × (length s.homes ≡ 1) × Stands opening (slice_index s.words 0) (slice_index s.words 1) s.homes s.views
