-- What the proofs share that the steps keep the rule.
use Rattle.std.proofs.Common.{◌≡◌, ℕ, ◌+◌, true, false, List, [], ◌∷◌, ◌++◌, map, length, get_or, set, sym, refl, ap, ◌∙◌, subst, arith, Option, Some, None}
use mathlib.Core.Logic.{dite}
use mathlib.Core.Option as maybe
use mathlib.Core.Option.{some}
use native.Mathlib.Decide.{ℕ_discrete}
use lib.ListN.{get_elem?}
use Rattle.atomic_table.specs.Table.{State, Me, Act, stepped, Valid, carried_after}
use Rattle.atomic_table.proofs.Lists.{set_else}
use Rattle.sd_turn.specs.declared.chronicle.Chronicle.{Ghosts}
use Rattle.sd_turn.specs.declared.view.History.{History}
use Rattle.sd_turn.specs.declared.view.View.{View}
use Rattle.sd_turn.specs.declared.view.Stage.{Stage}
use Rattle.sd_turn.specs.declared.view.Stage.TheVariants.{Free, Holds, Met}
use Rattle.sd_turn.specs.Counts.{occurrences}
use Rattle.sd_turn.specs.Names.{Family}
use Rattle.sd_turn.specs.Views.{lives, member, is_held, taken_in, now_in, place_in}
use Rattle.sd_turn.specs.Rule.{KnowsStage, KnowsUnder, Knows, numbers, IsHeld, Stands, Kept}
use Rattle.sd_turn.proofs.Lists.{at_put, at_one, each_set, map_same, sum_same}

-- A stage that holds the turn, by its parts.
pub held_is : {E : Type 0} (front : History E) (stage : Stage E) → is_held stage ≡ true → stage ≡ Holds (taken_in front stage) (place_in stage) (now_in front stage)
held_is front (Holds x k y) e = refl
held_is front Free e = cc
held_is front (Met x k) e = cc

pub zero_one : ¬ (◌≡◌ {A = ℕ} 0 1)
zero_one e = omega arith

module _ {V E C : Type 0} (chronicle : Ghosts V E C) (opening : V) where
  open chronicle use {setting, history, number, follows, fits}

  abbrev pub TurnState : Type 0
  TurnState = State (Option V) (View E C)

  abbrev pub TurnSeat : Type 0
  TurnSeat = Me (Option V) (View E C)

  abbrev pub Homes : Type 0
  Homes = List (maybe.Option (Option V))

  abbrev pub Rule : TurnState → Type 0
  Rule = Kept chronicle opening

  abbrev pub StandsAs : ℕ → ℕ → Homes → List (View E C) → Type 0
  StandsAs = Stands chronicle opening

  -- The step on a word that becomes `new` can be made, and tells the seat `then`.
  abbrev pub CanStep : TurnState → ℕ → TurnSeat → ℕ → ℕ → (ℕ → TurnSeat → Type 0) → Type 0
  CanStep s id me word new then = (w : View E C) × (act : Act (Option V)) × Valid s.homes me.1 act × Rule (stepped s word new id me.1 w act) × then (get_or s.words word 0) (w, carried_after me.1 act)

  -- The words after a step, and what stands with them.
  pub kept : (words : List ℕ) (homes : Homes) (views : List (View E C)) (turn count : ℕ) → length words ≡ 2 → length homes ≡ 1 → get_or words 0 0 ≡ turn → get_or words 1 0 ≡ count → StandsAs turn count homes views
      → Rule record { words = words; homes = homes; views = views }
  kept words homes views turn count wide deep a b stands = (wide, deep, subst (λ (z : ℕ × ℕ). StandsAs z.0 z.1 homes views) (λ i. (sym a i, sym b i)) stands)

  -- The seat that holds the turn is still seen to hold it.
  pub still_held : (holder : ℕ) (views : List (View E C)) (id : ℕ) (v w : View E C) → get_elem? views id ≡ some v → lives w.setting ≡ lives v.setting → ((x y : History E) (k : ℕ) → v.stage ≡ Holds x k y → w.stage ≡ Holds x k y)
      → IsHeld chronicle holder views → IsHeld chronicle holder (set views id w)
  still_held holder views id v w at same holds (u, taken, now, k, at_u, lives_u, stage) = dite (ℕ_discrete holder id)
      (λ e. let one : u ≡ v = at_one views holder id u v at_u at e in
      (w, taken, now, k, ap (get_elem? (set views id w)) e ∙ at_put views id v w at, same ∙ (ap (λ z. lives z.setting) (sym one) ∙ lives_u), holds taken now k (ap (λ z. z.stage) (sym one) ∙ stage)))
      (λ differ. (u, taken, now, k, set_else views id holder w differ ∙ at_u, lives_u, stage))

  -- A seat that does not hold the turn changes nothing of who does.
  pub still_held_elsewhere : (holder : ℕ) (views : List (View E C)) (id : ℕ) (v w : View E C) → get_elem? views id ≡ some v → is_held v.stage ≡ false → IsHeld chronicle holder views → IsHeld chronicle holder (set views id w)
  still_held_elsewhere holder views id v w at free (u, taken, now, k, at_u, lives_u, stage) = dite (ℕ_discrete holder id)
      (λ e. let one : u ≡ v = at_one views holder id u v at_u at e in let held : is_held v.stage ≡ true = ap (λ z. is_held z.stage) (sym one) ∙ ap is_held stage in cc)
      (λ differ. (u, taken, now, k, set_else views id holder w differ ∙ at_u, lives_u, stage))

  -- What a seat knows that has the setting of the turn, and the other way round.
  pub knows_under : (before : List (History E)) (last : History E) (turn count holder id : ℕ) (v : View E C) (d : C) → v.setting ≡ Some d → Knows chronicle (setting opening) before last turn count holder id v
      → (d ≡ setting opening) × (get_elem? (before ++ last ∷ []) v.place ≡ some v.front) × KnowsStage chronicle (setting opening) before last turn count holder id v.stage
  knows_under before last turn count holder id v d e k = subst (λ (o : Option C). KnowsUnder chronicle (setting opening) before last turn count holder id o v) e k

  pub knows : (before : List (History E)) (last : History E) (turn count holder id : ℕ) (v : View E C) (d : C) → v.setting ≡ Some d
      → (d ≡ setting opening) × (get_elem? (before ++ last ∷ []) v.place ≡ some v.front) × KnowsStage chronicle (setting opening) before last turn count holder id v.stage
      → Knows chronicle (setting opening) before last turn count holder id v
  knows before last turn count holder id v d e k = subst (λ (o : Option C). KnowsUnder chronicle (setting opening) before last turn count holder id o v) (sym e) k

  pub lives_knows : (before : List (History E)) (last : History E) (turn count holder id : ℕ) (o : Option C) (v : View E C) → lives o ≡ true → KnowsUnder chronicle (setting opening) before last turn count holder id o v
      → KnowsStage chronicle (setting opening) before last turn count holder id v.stage
  lives_knows before last turn count holder id (Some d) v e k = k.2
  lives_knows before last turn count holder id None v e k = cc

  pub gone_has_none : (before : List (History E)) (last : History E) (turn count holder id : ℕ) (o : Option C) (v : View E C) → ¬ (lives o ≡ true) → KnowsUnder chronicle (setting opening) before last turn count holder id o v → v.mine ≡ []
  gone_has_none before last turn count holder id (Some d) v gone k = absurd (gone refl)
  gone_has_none before last turn count holder id None v gone k = k

  -- What another seat knows stays true where the histories given stay, and what it may know of a turn that it holds.
  abbrev pub Stays : List (History E) → History E → ℕ → ℕ → ℕ → List (History E) → History E → ℕ → ℕ → ℕ → ℕ → Type 0
  Stays before last turn count holder before' last' turn' count' holder' id = ((x : History E) (k : ℕ) → get_elem? (before ++ last ∷ []) k ≡ some x → get_elem? (before' ++ last' ∷ []) k ≡ some x)
      × ((x y : History E) (k : ℕ) → (id ≡ holder) × (turn ≡ 1) × (x ≡ last) × (k ≡ length before) × (count + 1 ≡ y.next) → (id ≡ holder') × (turn' ≡ 1) × (x ≡ last') × (k ≡ length before') × (count' + 1 ≡ y.next))

  stage_stays : (before : List (History E)) (last : History E) (turn count holder : ℕ) (before' : List (History E)) (last' : History E) (turn' count' holder' id : ℕ) → Stays before last turn count holder before' last' turn' count' holder' id → (stage : Stage E)
      → KnowsStage chronicle (setting opening) before last turn count holder id stage → KnowsStage chronicle (setting opening) before' last' turn' count' holder' id stage
  stage_stays before last turn count holder before' last' turn' count' holder' id stays Free k = tt
  stage_stays before last turn count holder before' last' turn' count' holder' id stays (Holds x i y) k = stays.1 x y i k
  stage_stays before last turn count holder before' last' turn' count' holder' id stays (Met x i) k = stays.0 x i k

  pub knows_still : (before : List (History E)) (last : History E) (turn count holder : ℕ) (before' : List (History E)) (last' : History E) (turn' count' holder' id : ℕ) → Stays before last turn count holder before' last' turn' count' holder' id → (o : Option C) (v : View E C)
      → KnowsUnder chronicle (setting opening) before last turn count holder id o v → KnowsUnder chronicle (setting opening) before' last' turn' count' holder' id o v
  knows_still before last turn count holder before' last' turn' count' holder' id stays (Some d) v k = (k.0, stays.0 v.front v.place k.1, stage_stays before last turn count holder before' last' turn' count' holder' id stays v.stage k.2)
  knows_still before last turn count holder before' last' turn' count' holder' id stays None v k = k

  -- A step that changes nothing but the seat's view, and there neither its name and list nor its entries.
  pub unmoved : (turn count : ℕ) (homes : Homes) (views : List (View E C)) (r : StandsAs turn count homes views) (id : ℕ) (v w : View E C) → get_elem? views id ≡ some v → member w ≡ member v → w.mine ≡ v.mine
      → ((x y : History E) (k : ℕ) → v.stage ≡ Holds x k y → w.stage ≡ Holds x k y) → Knows chronicle (setting opening) r.before r.last turn count r.holder id w → StandsAs turn count homes (set views id w)
  unmoved turn count homes views r id v w at same mine holds known = record {
    before = r.before;
    last = r.last;
    holder = r.holder;
    rises = r.rises;
    fit = r.fit;
    each_seat = each_set (Knows chronicle (setting opening) r.before r.last turn count r.holder) views id w known (λ j u _. r.each_seat j u);
    free = r.free;
    taken = λ z. still_held r.holder views id v w at (ap (λ m. m.lives) same) holds (r.taken z);
    behind = r.behind;
    begun = r.begun;
    tallied = λ n. sum_same (λ u. occurrences n (numbers chronicle u)) views id v w at (ap (λ es. occurrences n (map number es)) mine) ∙ r.tallied n;
    family = subst Family (sym (map_same member views id v w at same)) r.family;
  }
