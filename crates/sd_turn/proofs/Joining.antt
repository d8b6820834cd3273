-- A seat is joined into another, which then learns the later of the two fronts.
use Rattle.std.proofs.Common.{◌≡◌, ◌⊎◌, ℕ, ◌+◌, ◌≤◌, max, true, ◌++◌, map, get_or, set, sym, refl, ap, ◌∙◌, subst, inl, inr, arith, sum_by, Some}
use Rattle.std.proofs.Math.Nat.{lt_of_not-le}
use mathlib.Core.Logic.{dite}
use mathlib.Core.Option.{none, some}
use native.Mathlib.Decide.{dec_le}
use lib.ListN.{get_elem?}
use lib.Seq.{set-get_or, map-set}
use Rattle.std.specs.Prelude.{Contains}
use Rattle.atomic_table.specs.Table.{step, keeps, stepped, Allows, Joins}
use Rattle.atomic_table.proofs.Lists.{set_else, at_map}
use Rattle.sd_turn.specs.declared.chronicle.Chronicle.{Ghosts}
use Rattle.sd_turn.specs.declared.view.History.{History}
use Rattle.sd_turn.specs.declared.view.View.{View}
use Rattle.sd_turn.specs.declared.view.Stage.{Stage}
use Rattle.sd_turn.specs.declared.view.Stage.TheVariants.{Free, Met}
use Rattle.sd_turn.specs.Counts.{occurrences, once_between, AreDistinct}
use Rattle.sd_turn.specs.Names.{Family}
use Rattle.sd_turn.specs.Views.{lives, member, is_held, joined, spent}
use Rattle.sd_turn.specs.Rule.{KnowsStage, Knows, numbers}
use Rattle.sd_turn.specs.Plays.{settled}
use Rattle.sd_turn.proofs.Lists.{each_set, sum_put, sum_at_least, occurrences-map-append, once_between-le}
use Rattle.sd_turn.proofs.Families.{family-join}
use Rattle.sd_turn.proofs.Keeping.{TurnSeat, Rule, still_held_elsewhere, knows_under, knows, unmoved}

module _ {V E C : Type 0} (chronicle : Ghosts V E C) (opening : V) where
  open chronicle use {setting, history, number, follows, fits}

  pub joins_seats : (id : ℕ) (v : View E C) (other : ℕ) (w : View E C) (d e : C) → v.setting ≡ Some d → w.setting ≡ Some e → v.stage ≡ Free → w.stage ≡ Free → Contains v.out w.name → Joins (Rule chronicle opening) id v other w (joined v w) spent
  joins_seats id v other w d e sets sets_other free free_other there s (wide, deep, r) at differ at_then =
      let turn : ℕ = get_or s.words 0 0 in
      let count : ℕ = get_or s.words 1 0 in
      let both : View E C = joined v w in
      let gone : View E C = spent in
      let views = set s.views id both in
      let at_other : get_elem? s.views other ≡ some w = sym (set_else s.views id other both differ) ∙ at_then in
      let Knows' : ℕ → View E C → Type 0 = Knows chronicle (setting opening) r.before r.last turn count r.holder in
      let own = knows_under chronicle opening r.before r.last turn count r.holder id v d sets (r.each_seat id v at) in
      let theirs = knows_under chronicle opening r.before r.last turn count r.holder other w e sets_other (r.each_seat other w at_other) in
      let here : lives v.setting ≡ true = ap lives sets in
      let here_other : lives w.setting ≡ true = ap lives sets_other in (
        wide,
        deep,
        record {
          before = r.before;
          last = r.last;
          holder = r.holder;
          rises = r.rises;
          fit = r.fit;
          each_seat = each_set Knows' views other gone refl (λ j u _ o. each_set Knows' s.views id both (knows chronicle opening r.before r.last turn count r.holder id both d sets (own.0, own.1, theirs.1)) (λ i x _ q. r.each_seat i x q) j u o);
          free = r.free;
          taken = λ n. still_held_elsewhere chronicle opening r.holder views other w gone at_then (ap is_held free_other) (still_held_elsewhere chronicle opening r.holder s.views id v both at (ap is_held free) (r.taken n));
          behind = r.behind;
          begun = r.begun;
          tallied = λ n. let f : View E C → ℕ = λ u. occurrences n (numbers chronicle u) in
              let p : sum_by f (set views other gone) + f w ≡ sum_by f views + f gone = sum_put f views other w gone at_then in
              let q : sum_by f views + f v ≡ sum_by f s.views + f both = sum_put f s.views id v both at in
              let e : f both ≡ f v + f w = occurrences-map-append number n v.mine w.mine in
              let o : f gone ≡ 0 = refl in
              let t : sum_by f s.views ≡ once_between (history opening).next (count + 1) n = r.tallied n in omega arith;
          family = subst Family (sym (map-set member views other gone ∙ ap (λ q. set q other (member gone)) (map-set member s.views id both)))
              (family-join (map member s.views) r.family id other (member v) (member w) (member gone) (at_map member s.views id v at) (at_map member s.views other w at_other) differ here here_other there refl);
        },
      )

  abbrev met_or : History E → Stage E → History E
  met_or x (Met y k) = y
  met_or x _ = x

  pub settles : ((d : C) (x : History E) → follows d x x) → (slots id : ℕ) (me : TurnSeat chronicle opening) (d : C) (x : History E) (k : ℕ) → me.0.setting ≡ Some d → me.0.stage ≡ Met x k → Allows (Rule chronicle opening) slots id me 1 (λ n. n) (settled chronicle (step slots 1 0 0 none) me)
  settles itself slots id me d x k sets stage s (wide, deep, r) _ at _ =
      let turn : ℕ = get_or s.words 0 0 in
      let count : ℕ = get_or s.words 1 0 in
      let v : View E C = me.0 in
      let own = knows_under chronicle opening r.before r.last turn count r.holder id v d sets (r.each_seat id v at) in
      let there = subst (KnowsStage chronicle (setting opening) r.before r.last turn count r.holder id) stage own.2 in
      let StillKept : View E C → Type 0 = λ w. Rule chronicle opening (stepped s 1 count id me.1 w keeps) in
      let moved : (w : View E C) → member w ≡ member v → w.mine ≡ v.mine → Knows chronicle (setting opening) r.before r.last turn count r.holder id w → StillKept w =
      λ w same mine known. subst (λ words. Rule chronicle opening record { words = words; homes = s.homes; views = set s.views id w }) (sym (set-get_or s.words 1 0))
      (wide, deep, unmoved chronicle opening turn count s.homes s.views r id v w at same mine (λ a b i e. let held : is_held (Met x k) ≡ true = ap is_held (sym stage ∙ e) in cc) known) in
      let apart : (n : ℕ) → occurrences n (numbers chronicle v) ≤ 1 = λ n. let a = sum_at_least (λ u. occurrences n (numbers chronicle u)) s.views id v at in
      let b : sum_by (λ u. occurrences n (numbers chronicle u)) s.views ≡ once_between (history opening).next (count + 1) n = r.tallied n in let o = once_between-le (history opening).next (count + 1) n in omega arith in
      dite (dec_le k v.place)
      (λ le. let w : View E C = record v { stage = Free } in let up = r.rises k v.place x v.front le there own.1 in (
        w,
        keeps,
        tt,
        moved w refl refl (knows chronicle opening r.before r.last turn count r.holder id w d sets (own.0, own.1, tt)),
        (
          apart,
          λ e y l is met. let m : d ≡ e = cc (sets, is) in let same : x ≡ y = ap (met_or x) (sym stage ∙ met) in (
            v.front,
            v.place,
            refl,
            inl refl,
            itself e v.front,
            subst (λ (z : C × History E). follows z.0 z.1 v.front) (λ i. ((sym own.0 ∙ m) i, same i)) up.0,
            subst (λ z. v.front.next ≡ max v.front.next z.next) same (let u = up.1 in omega arith),
          ),
        ),
      ))
      (λ gt. let w : View E C = record v { front = x; place = k; stage = Free } in let up = r.rises v.place k v.front x (omega (arith, lt_of_not-le gt)) own.1 there in (
        w,
        keeps,
        tt,
        moved w refl refl (knows chronicle opening r.before r.last turn count r.holder id w d sets (own.0, there, tt)),
        (
          apart,
          λ e y l is met. let m : d ≡ e = cc (sets, is) in let same : x ≡ y = ap (met_or x) (sym stage ∙ met) in (
            x,
            k,
            refl,
            inr same,
            subst (λ z. follows z v.front x) (sym own.0 ∙ m) up.0,
            subst (λ z. follows e z x) same (itself e x),
            subst (λ z. x.next ≡ max v.front.next z.next) same (let u = up.1 in omega arith),
          ),
        ),
      ))

  -- What a seat knows, after another was joined into it and the load told which front is the later.
  pub record Joined (old other new : TurnSeat chronicle opening) : Type 0 where
    pub front : History E
    pub place : ℕ
    pub is : new ≡ (record (joined old.0 other.0) { front = front; place = place; stage = Free }, old.1)
    pub either : (front ≡ old.0.front) ⊎ (front ≡ other.0.front)
    pub follows_own : follows (setting opening) old.0.front front
    pub follows_other : follows (setting opening) other.0.front front
    pub next : front.next ≡ max old.0.front.next other.0.front.next
    pub apart : AreDistinct (map number (old.0.mine ++ other.0.mine))

  pub joins : (old other met new : TurnSeat chronicle opening) → old.0.setting ≡ Some (setting opening) → met ≡ (joined old.0 other.0, old.1) → settled chronicle (step 1 1 0 0 none) met 0 new → Joined old other new
  joins old other met new sets is told =
      let t = subst (λ m. settled chronicle (step 1 1 0 0 none) m 0 new) is told in
      let u = t.1 (setting opening) other.0.front other.0.place sets refl in
      record { front = u.0; place = u.1; is = u.2; either = u.3; follows_own = u.4; follows_other = u.5; next = u.6; apart = t.0 }
