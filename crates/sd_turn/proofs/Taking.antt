-- A seat tries to take the turn.
use Rattle.std.proofs.Common.{◌≡◌, ℕ, ◌+◌, ◌≢◌, eqb, length, get_or, set, sym, refl, ap, ◌∙◌, subst, arith, length-set, get_or-set_other, get_or-set_same, Some}
use mathlib.Core.Option.{none, some}
use lib.ListN.{get_elem?}
use lib.Seq.{set-get_or}
use prog.Atomic.{either}
use Rattle.atomic_table.specs.Table.{step, keeps, takes, Allows}
use Rattle.atomic_table.proofs.Lists.{at_last, exchanged}
use Rattle.sd_turn.specs.declared.chronicle.Chronicle.{Ghosts}
use Rattle.sd_turn.specs.declared.view.View.{View}
use Rattle.sd_turn.specs.declared.view.Stage.TheVariants.{Free, Holds}
use Rattle.sd_turn.specs.Counts.{occurrences}
use Rattle.sd_turn.specs.Names.{Family}
use Rattle.sd_turn.specs.Views.{lives, member}
use Rattle.sd_turn.specs.Rule.{Knows, numbers}
use Rattle.sd_turn.specs.Plays.{tried, took}
use Rattle.sd_turn.proofs.Lists.{at_put, each_set, map_same, sum_same, last_place}
use Rattle.sd_turn.proofs.Keeping.{zero_one, TurnState, TurnSeat, Rule, CanStep, kept, knows_under, knows, knows_still, unmoved}

module _ {V E C : Type 0} (chronicle : Ghosts V E C) (opening : V) where
  open chronicle use {setting, history, number, follows, fits}

  takes_free : (s : TurnState chronicle opening) (r : Rule chronicle opening s) (id : ℕ) (me : TurnSeat chronicle opening) (d : C) → me.0.setting ≡ Some d → me.0.stage ≡ Free → get_elem? s.views id ≡ some me.0 → get_or s.words 0 0 ≡ 0 → (slots : ℕ)
      → CanStep chronicle opening s id me 0 1 (took chronicle (step slots 0 0 1 none) me)
  takes_free s (wide, deep, r) id me d sets stage at free slots =
      let turn : ℕ = get_or s.words 0 0 in
      let count : ℕ = get_or s.words 1 0 in
      let home = r.free free in
      let x : V = home.0 in
      let place : ℕ = length r.before in
      let v : View E C = me.0 in
      let w : View E C = record (tried chronicle v turn) { stage = Holds (history x) place (history x) } in
      let known = r.each_seat id v at in
      let own = knows_under chronicle opening r.before r.last turn count r.holder id v d sets known in
      let number_next : count + 1 ≡ (history x).next = home.4 ∙ ap (λ z. z.next) (sym home.3) in (
        w,
        takes 0 (Some x),
        home.1,
        kept chronicle opening (set s.words 0 1) (set s.homes 0 none) (set s.views id w) 1 count (length-set s.words 0 1 ∙ wide) (length-set s.homes 0 none ∙ deep) (get_or-set_same s.words 0 1 0 (omega arith)) (get_or-set_other s.words 0 1 1 0 (λ e. omega arith)) record {
          before = r.before;
          last = r.last;
          holder = id;
          rises = r.rises;
          fit = r.fit;
          each_seat = each_set (Knows chronicle (setting opening) r.before r.last 1 count id) s.views id w (knows chronicle opening r.before r.last 1 count id id w d sets (own.0, own.1, (refl, refl, home.3, refl, number_next)))
              (λ j u differ e. knows_still chronicle opening r.before r.last turn count r.holder r.before r.last 1 count id j ((λ _ _ z. z), λ _ _ _ (_, one, _, _, _). absurd (zero_one (sym free ∙ one))) u.setting u (r.each_seat j u e));
          free = λ z. absurd (zero_one (sym z));
          taken = λ _. (w, history x, history x, place, at_put s.views id v w at, ap lives sets, refl);
          behind = r.behind;
          begun = r.begun;
          tallied = λ n. sum_same (λ u. occurrences n (numbers chronicle u)) s.views id v w at refl ∙ r.tallied n;
          family = subst Family (sym (map_same member s.views id v w at refl)) r.family;
        },
        (
          (λ taken. absurd (taken free)),
          λ _. (
            x,
            place,
            refl,
            λ e is. let m = knows_under chronicle opening r.before r.last turn count r.holder id v e is known in (
              home.2 ∙ sym m.0,
              subst (λ z. follows z v.front (history x)) (sym m.0) (subst (λ z. follows (setting opening) v.front z) (sym home.3) ((r.rises v.place place v.front r.last (last_place r.before r.last v.front v.place m.1) m.1 (at_last r.before r.last place refl)).0)),
              subst (λ z. fits z (history x)) (sym m.0) (subst (fits (setting opening)) (sym home.3) (r.fit place r.last (at_last r.before r.last place refl))),
            ),
          ),
        ),
      )

  takes_none : (s : TurnState chronicle opening) (r : Rule chronicle opening s) (id : ℕ) (me : TurnSeat chronicle opening) (d : C) → me.0.setting ≡ Some d → get_elem? s.views id ≡ some me.0 → get_or s.words 0 0 ≢ 0 → (slots : ℕ)
      → CanStep chronicle opening s id me 0 (get_or s.words 0 0) (took chronicle (step slots 0 0 1 none) me)
  takes_none s (wide, deep, r) id me d sets at taken slots =
      let turn : ℕ = get_or s.words 0 0 in
      let count : ℕ = get_or s.words 1 0 in
      let v : View E C = me.0 in
      let w : View E C = tried chronicle v turn in
      let own = knows_under chronicle opening r.before r.last turn count r.holder id v d sets (r.each_seat id v at) in (
        w,
        keeps,
        tt,
        subst (λ words. Rule chronicle opening record { words = words; homes = s.homes; views = set s.views id w }) (sym (set-get_or s.words 0 0))
            (wide, deep, unmoved chronicle opening turn count s.homes s.views r id v w at refl refl (λ _ _ _ e. e) (knows chronicle opening r.before r.last turn count r.holder id w d sets own)),
        ((λ _. refl), λ free. absurd (taken free)),
      )

  pub takes_turn : (slots id : ℕ) (me : TurnSeat chronicle opening) (d : C) → me.0.setting ≡ Some d → me.0.stage ≡ Free → Allows (Rule chronicle opening) slots id me 0 (λ n. either (eqb n 0) 1 n) (took chronicle (step slots 0 0 1 none) me)
  takes_turn slots id me d sets stage s r _ at _ = exchanged (get_or s.words 0 0) 0 1 (λ z. CanStep chronicle opening s id me 0 z (took chronicle (step slots 0 0 1 none) me))
      (λ free. takes_free s r id me d sets stage at free slots) (λ taken. takes_none s r id me d sets at taken slots)
