-- The seat that holds the turn gives an entry its number.
use Rattle.std.proofs.Common.{◌≡◌, ℕ, ◌+◌, ◌%◌, ◌<◌, List, [], ◌∷◌, ◌++◌, map, get_or, set, sym, refl, ap, ◌∙◌, subst, arith, length-set, get_or-set_other, get_or-set_same, sum_by, Some}
use Rattle.std.proofs.Math.Nat.{mod-eq_of_lt}
use mathlib.Core.Option.{none, some}
use lib.ListN.{get_elem?}
use Rattle.atomic_table.specs.Table.{step, keeps, Allows}
use Rattle.sd_turn.specs.declared.chronicle.Chronicle.{Ghosts}
use Rattle.sd_turn.specs.declared.view.History.{History}
use Rattle.sd_turn.specs.declared.view.View.{View}
use Rattle.sd_turn.specs.declared.view.Stage.TheVariants.{Holds}
use Rattle.sd_turn.specs.Counts.{occurrences, once_between}
use Rattle.sd_turn.specs.Histories.{with_entry}
use Rattle.sd_turn.specs.Names.{Family}
use Rattle.sd_turn.specs.Views.{lives, member, taken_in, now_in, place_in}
use Rattle.sd_turn.specs.Rule.{KnowsStage, Knows, numbers}
use Rattle.sd_turn.specs.Plays.{counted}
use Rattle.sd_turn.proofs.Lists.{at_put, each_set, map_same, sum_put, occurrences-map-append, once_between-more}
use Rattle.sd_turn.proofs.Keeping.{zero_one, TurnState, TurnSeat, Rule, CanStep, kept, knows_under, knows, knows_still}

module _ {V E C : Type 0} (chronicle : Ghosts V E C) (opening : V) where
  open chronicle use {setting, history, number, follows, fits}

  -- The number joins those that were given.
  tallied_more : (s : TurnState chronicle opening) (r : Rule chronicle opening s) (id : ℕ) (v w : View E C) (e : E) → get_elem? s.views id ≡ some v → w.mine ≡ v.mine ++ e ∷ [] → number e ≡ get_or s.words 1 0 + 1
      → (n : ℕ) → sum_by (λ u. occurrences n (numbers chronicle u)) (set s.views id w) ≡ once_between (history opening).next (get_or s.words 1 0 + 1 + 1) n
  tallied_more s r id v w e at grew is n =
      let next : ℕ = get_or s.words 1 0 + 1 in
      let f : View E C → ℕ = λ u. occurrences n (numbers chronicle u) in
      let put : sum_by f (set s.views id w) + f v ≡ sum_by f s.views + f w = sum_put f s.views id v w at in
      let one_more : f w ≡ f v + occurrences n (number e ∷ []) = ap (λ es. occurrences n (map number es)) grew ∙ occurrences-map-append number n v.mine (e ∷ []) in
      let new : occurrences n (number e ∷ []) ≡ occurrences n (next ∷ []) = ap (λ k. occurrences n (k ∷ [])) is in
      let given : sum_by f s.views ≡ once_between (history opening).next next n = r.2.tallied n in
      let more = once_between-more (history opening).next next n r.2.begun in
      omega arith

  counts_one : (s : TurnState chronicle opening) (r : Rule chronicle opening s) (id : ℕ) (me : TurnSeat chronicle opening) (e : E) (d : C) (taken now : History E) (k : ℕ) → me.0.setting ≡ Some d → me.0.stage ≡ Holds taken k now → number e ≡ now.next → get_elem? s.views id ≡ some me.0 → (slots : ℕ)
      → CanStep chronicle opening s id me 1 (get_or s.words 1 0 + 1) (counted chronicle (e ∷ []) (step slots 1 1 0 none) me)
  counts_one s (wide, deep, r) id me e d taken now k sets stage is at slots =
      let turn : ℕ = get_or s.words 0 0 in
      let count : ℕ = get_or s.words 1 0 in
      let v : View E C = me.0 in
      let later : History E = with_entry now e in
      let w : View E C = record v { mine = v.mine ++ e ∷ []; stage = Holds taken k later } in
      let own = knows_under chronicle opening r.before r.last turn count r.holder id v d sets (r.each_seat id v at) in
      let held = subst (KnowsStage chronicle (setting opening) r.before r.last turn count r.holder id) stage own.2 in
      let number_next : count + 1 ≡ now.next = held.4 in (
        w,
        keeps,
        tt,
        kept chronicle opening (set s.words 1 (count + 1)) s.homes (set s.views id w) turn (count + 1) (length-set s.words 1 (count + 1) ∙ wide) deep (get_or-set_other s.words 1 0 (count + 1) 0 (λ e. omega arith)) (get_or-set_same s.words 1 (count + 1) 0 (omega arith)) record {
          before = r.before;
          last = r.last;
          holder = r.holder;
          rises = r.rises;
          fit = r.fit;
          each_seat = each_set (Knows chronicle (setting opening) r.before r.last turn (count + 1) r.holder) s.views id w
              (knows chronicle opening r.before r.last turn (count + 1) r.holder id w d sets (own.0, own.1, (held.0, held.1, held.2, held.3, omega arith)))
              (λ j u differ o. knows_still chronicle opening r.before r.last turn count r.holder r.before r.last turn (count + 1) r.holder j ((λ _ _ z. z), λ _ _ _ h. absurd (differ (h.0 ∙ sym held.0))) u.setting u (r.each_seat j u o));
          free = λ z. absurd (zero_one (sym z ∙ held.1));
          taken = λ _. (w, taken, later, k, ap (get_elem? (set s.views id w)) (sym held.0) ∙ at_put s.views id v w at, ap lives sets, refl);
          behind = (let b = r.behind in omega arith);
          begun = (let b = r.begun in omega arith);
          tallied = tallied_more s (wide, deep, r) id v w e at refl (is ∙ sym number_next);
          family = subst Family (sym (map_same member s.views id v w at refl)) r.family;
        },
        λ taken' now' k' stage'. let both = sym stage ∙ stage' in let same : now ≡ now' = ap (now_in now) both in (
          (λ i. (record v { mine = v.mine ++ e ∷ []; stage = Holds (ap (taken_in taken) both i) (ap place_in both i) (with_entry (same i) e) }, me.1)),
          ap (λ (z : History E). z.next) (sym same) ∙ sym number_next,
        ),
      )

  pub counts_turn : (slots id : ℕ) (me : TurnSeat chronicle opening) (es : List E) (e : E) (d : C) (taken now : History E) (k : ℕ) → es ≡ e ∷ [] → me.0.setting ≡ Some d → me.0.stage ≡ Holds taken k now → number e ≡ now.next → now.next < 18446744073709551616
      → Allows (Rule chronicle opening) slots id me 1 (λ n. (n + 1) % 18446744073709551616) (counted chronicle es (step slots 1 1 0 none) me)
  counts_turn slots id me es e d taken now k one sets stage is fits64 s r _ at _ =
      let turn : ℕ = get_or s.words 0 0 in
      let count : ℕ = get_or s.words 1 0 in
      let own = knows_under chronicle opening r.2.before r.2.last turn count r.2.holder id me.0 d sets (r.2.each_seat id me.0 at) in
      let held = subst (KnowsStage chronicle (setting opening) r.2.before r.2.last turn count r.2.holder id) stage own.2 in
      let number_next : count + 1 ≡ now.next = held.4 in
      let small : (count + 1) % 18446744073709551616 ≡ count + 1 = mod-eq_of_lt (omega arith) in
      subst (λ (z : ℕ × List E). CanStep chronicle opening s id me 1 z.0 (counted chronicle z.1 (step slots 1 1 0 none) me)) (λ i. (sym small i, sym one i)) (counts_one s r id me e d taken now k sets stage is at slots)
