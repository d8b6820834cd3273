-- The seat that holds the turn gives it back.
use Rattle.std.proofs.Common.{◌≡◌, ℕ, ◌+◌, ◌≤◌, List, [], ◌∷◌, ◌++◌, length, get_or, set, sym, refl, ap, ◌∙◌, subst, ⊎_elim, arith, le_refl, length-set, length-append, get_or-set_other, get_or-set_same, Option, Some}
use mathlib.Core.Option.{none, some}
use lib.ListN.{get_elem?}
use Rattle.atomic_table.specs.Table.{step, gives, Allows}
use Rattle.atomic_table.proofs.Lists.{set_here, at_snoc, at_last, at_longer}
use Rattle.sd_turn.specs.declared.chronicle.Chronicle.{Ghosts}
use Rattle.sd_turn.specs.declared.view.History.{History}
use Rattle.sd_turn.specs.declared.view.View.{View}
use Rattle.sd_turn.specs.declared.view.Stage.TheVariants.{Free, Holds}
use Rattle.sd_turn.specs.Counts.{occurrences}
use Rattle.sd_turn.specs.Names.{Family}
use Rattle.sd_turn.specs.Views.{member, place_in}
use Rattle.sd_turn.specs.Rule.{Rises, KnowsStage, Knows, numbers}
use Rattle.sd_turn.specs.Plays.{gave}
use Rattle.sd_turn.proofs.Lists.{each_set, map_same, sum_same, at_length, at_before, last_place}
use Rattle.sd_turn.proofs.Keeping.{TurnState, TurnSeat, Rule, CanStep, kept, knows_under, knows, knows_still}

module _ {V E C : Type 0} (chronicle : Ghosts V E C) (opening : V) where
  open chronicle use {setting, history, number, follows, fits}

  abbrev c : C
  c = setting opening

  abbrev value_or : V → List (ℕ × Option V) → V
  value_or x ((i, Some y) ∷ cs) = y
  value_or x _ = x

  -- The histories given, and one more that follows each.
  rises_more : (given : List (History E)) (new : History E) → Rises chronicle c given
      → ((x : History E) (k : ℕ) → get_elem? given k ≡ some x → follows c x new × (x.next ≤ new.next)) → follows c new new → Rises chronicle c (given ++ new ∷ [])
  rises_more given new rises over itself m n x y le ex ey = ⊎_elim
      (λ (old_y : get_elem? given n ≡ some y). rises m n x y le (at_before given (new ∷ []) m x (omega (arith, at_length given n y old_y)) ex) old_y)
      (λ (new_y : new ≡ y). ⊎_elim
      (λ (old_x : get_elem? given m ≡ some x). subst (λ z. follows c x z × (x.next ≤ z.next)) new_y (over x m old_x))
      (λ (new_x : new ≡ x). subst (λ (z : History E × History E). follows c z.0 z.1 × (z.0.next ≤ z.1.next)) (λ i. (new_x i, new_y i)) (itself, le_refl new.next))
      (at_snoc given new x m ex))
      (at_snoc given new y n ey)

  module _ (itself : (d : C) (x : History E) → follows d x x) (through : (d : C) (x y z : History E) → follows d x y → follows d y z → follows d x z) where
    gives_value : (s : TurnState chronicle opening) (r : Rule chronicle opening s) (id : ℕ) (v : View E C) (x : V) (d : C) (taken now : History E) (k : ℕ) → v.setting ≡ Some d → v.stage ≡ Holds taken k now → follows c taken (history x) → (history x).next ≡ now.next
        → setting x ≡ c → fits c (history x) → get_elem? s.views id ≡ some v → (slots : ℕ) → CanStep chronicle opening s id (v, (0, Some x) ∷ []) 0 0 (λ _. gave chronicle (step slots 0 0 0 none) (v, (0, Some x) ∷ []) 0)
    gives_value s (wide, deep, r) id v x d taken now k sets stage after next same fit at slots =
        let turn : ℕ = get_or s.words 0 0 in
        let count : ℕ = get_or s.words 1 0 in
        let given : List (History E) = r.before ++ r.last ∷ [] in
        let w : View E C = record v { front = history x; place = k + 1; stage = Free } in
        let own = knows_under chronicle opening r.before r.last turn count r.holder id v d sets (r.each_seat id v at) in
        let held = subst (KnowsStage chronicle c r.before r.last turn count r.holder id) stage own.2 in
        let number_next : count + 1 ≡ (history x).next = held.4 ∙ sym next in
        let long : length given ≡ k + 1 = length-append r.before (r.last ∷ []) ∙ ap (λ z. z + 1) (sym held.3) in
        let newest = at_last r.before r.last (length r.before) refl in
        let over : (y : History E) (i : ℕ) → get_elem? given i ≡ some y → follows c y (history x) × (y.next ≤ (history x).next) =
        λ y i e. let up = r.rises i (length r.before) y r.last (last_place r.before r.last y i e) e newest in
        (through c y r.last (history x) up.0 (subst (λ z. follows c z (history x)) held.2 after), (let b = r.behind in let u = up.1 in omega arith)) in (
          w,
          gives,
          tt,
          kept chronicle opening (set s.words 0 0) (set s.homes 0 (some (Some x))) (set s.views id w) 0 count (length-set s.words 0 0 ∙ wide) (length-set s.homes 0 (some (Some x)) ∙ deep) (get_or-set_same s.words 0 0 0 (omega arith)) (get_or-set_other s.words 0 1 0 0 (λ e. omega arith)) record {
            before = given;
            last = history x;
            holder = r.holder;
            rises = rises_more given (history x) r.rises over (itself c (history x));
            fit = λ i y e. ⊎_elim (λ o. r.fit i y o) (λ n. subst (fits c) n fit) (at_snoc given (history x) y i e);
            each_seat = each_set (Knows chronicle c given (history x) 0 count r.holder) s.views id w
                (knows chronicle opening given (history x) 0 count r.holder id w d sets (own.0, at_last given (history x) (k + 1) long, tt))
                (λ j u differ e. knows_still chronicle opening r.before r.last turn count r.holder given (history x) 0 count r.holder j
                ((λ y i o. at_longer given (history x ∷ []) i y o), λ _ _ _ h. absurd (differ (h.0 ∙ sym held.0))) u.setting u (r.each_seat j u e));
            free = λ _. (x, set_here s.homes 0 (some (Some x)) (omega arith), same, refl, number_next);
            taken = λ n. absurd (n refl);
            behind = omega arith;
            begun = r.begun;
            tallied = λ n. sum_same (λ u. occurrences n (numbers chronicle u)) s.views id v w at refl ∙ r.tallied n;
            family = subst Family (sym (map_same member s.views id v w at refl)) r.family;
          },
          λ taken' now' k' x' stage' held'. let same_place : k ≡ k' = ap place_in (sym stage ∙ stage') in let same_value : x ≡ x' = ap (value_or x) held' in (
            (λ i. (record v { front = history (same_value i); place = same_place i + 1; stage = Free }, [])),
            λ e is. let m = knows_under chronicle opening r.before r.last turn count r.holder id v e is (r.each_seat id v at) in
                subst (λ (z : C × V). follows z.0 v.front (history z.1)) (λ i. (sym m.0 i, same_value i)) (over v.front v.place own.1).0,
          ),
        )

    pub gives_turn : (slots id : ℕ) (me : TurnSeat chronicle opening) (x : V) (d : C) (taken now : History E) (k : ℕ) → me.0.setting ≡ Some d → me.0.stage ≡ Holds taken k now → me.1 ≡ (0, Some x) ∷ [] → follows c taken (history x) → (history x).next ≡ now.next
        → setting x ≡ c → fits c (history x) → Allows (Rule chronicle opening) slots id me 0 (λ _. 0) (λ _. gave chronicle (step slots 0 0 0 none) me 0)
    gives_turn slots id me x d taken now k sets stage held after next same fit = subst (λ cs. Allows (Rule chronicle opening) slots id (me.0, cs) 0 (λ _. 0) (λ _. gave chronicle (step slots 0 0 0 none) (me.0, cs) 0)) (sym held)
        (λ s r _ at _. gives_value s r id me.0 x d taken now k sets stage after next same fit at slots)
