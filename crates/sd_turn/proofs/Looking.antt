-- A seat looks at the count word.
use Rattle.std.proofs.Common.{◌≡◌, ℕ, length, get_or, set, sym, refl, arith, subst, Some}
use mathlib.Core.Option.{none}
use lib.Seq.{set-get_or}
use Rattle.atomic_table.specs.Table.{step, keeps, Allows}
use Rattle.atomic_table.proofs.Lists.{at_last}
use Rattle.sd_turn.specs.declared.chronicle.Chronicle.{Ghosts}
use Rattle.sd_turn.specs.declared.view.View.{View}
use Rattle.sd_turn.specs.Plays.{looked}
use Rattle.sd_turn.proofs.Lists.{last_place}
use Rattle.sd_turn.proofs.Keeping.{TurnSeat, Rule, knows_under, knows, unmoved}

module _ {V E C : Type 0} (chronicle : Ghosts V E C) (opening : V) where
  pub looks : (slots id : ℕ) (me : TurnSeat chronicle opening) (d : C) → me.0.setting ≡ Some d → Allows (Rule chronicle opening) slots id me 1 (λ n. n) (looked chronicle (step slots 1 0 0 none) me)
  looks slots id me d sets s (wide, deep, r) _ at _ =
      let turn : ℕ = get_or s.words 0 0 in
      let count : ℕ = get_or s.words 1 0 in
      let v : View E C = me.0 in
      let w : View E C = record v { seen = count } in
      let own = knows_under chronicle opening r.before r.last turn count r.holder id v d sets (r.each_seat id v at) in
      let up = r.rises v.place (length r.before) v.front r.last (last_place r.before r.last v.front v.place own.1) own.1 (at_last r.before r.last (length r.before) refl) in (
        w,
        keeps,
        tt,
        subst (λ words. Rule chronicle opening record { words = words; homes = s.homes; views = set s.views id w }) (sym (set-get_or s.words 1 0))
            (wide, deep, unmoved chronicle opening turn count s.homes s.views r id v w at refl refl (λ _ _ _ e. e) (knows chronicle opening r.before r.last turn count r.holder id w d sets own)),
        (refl, λ _ _. let u = up.1 in let b = r.behind in omega arith),
      )
