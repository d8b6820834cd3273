-- A seat is split in two.
use Rattle.std.proofs.Common.{◌≡◌, ℕ, ◌+◌, true, [], ◌∷◌, ◌++◌, map, get_or, set, sym, refl, ap, ◌∙◌, subst, ⊎_elim, arith, sum_by, Some}
use Rattle.std.proofs.lemmas.List.Sums.{sum_by_push}
use mathlib.Core.Option.{some}
use mathlib.Core.List.{map-append}
use lib.ListN.{get_elem?}
use lib.Seq.{map-set}
use Rattle.atomic_table.specs.Table.{Splits}
use Rattle.atomic_table.proofs.Lists.{at_snoc, at_map, at_longer}
use Rattle.sd_turn.specs.declared.chronicle.Chronicle.{Ghosts}
use Rattle.sd_turn.specs.declared.view.View.{View}
use Rattle.sd_turn.specs.Counts.{occurrences, once_between}
use Rattle.sd_turn.specs.Names.{child_name, Family}
use Rattle.sd_turn.specs.Views.{lives, member, left_by_split, made_by_split}
use Rattle.sd_turn.specs.Rule.{Knows, numbers}
use Rattle.sd_turn.proofs.Lists.{each_set, sum_same}
use Rattle.sd_turn.proofs.Families.{family-split}
use Rattle.sd_turn.proofs.Keeping.{Rule, still_held, knows_under, knows}

module _ {V E C : Type 0} (chronicle : Ghosts V E C) (opening : V) where
  open chronicle use {setting, history, number, follows, fits}

  pub splits_seat : (id : ℕ) (v : View E C) (d : C) → v.setting ≡ Some d → Splits (Rule chronicle opening) id v (left_by_split v) (made_by_split v)
  splits_seat id v d sets s (wide, deep, r) at =
      let turn : ℕ = get_or s.words 0 0 in
      let count : ℕ = get_or s.words 1 0 in
      let left : View E C = left_by_split v in
      let child : View E C = made_by_split v in
      let own = knows_under chronicle opening r.before r.last turn count r.holder id v d sets (r.each_seat id v at) in
      let Knows' : ℕ → View E C → Type 0 = Knows chronicle (setting opening) r.before r.last turn count r.holder in
      let here : lives v.setting ≡ true = ap lives sets in (
        wide,
        deep,
        record {
          before = r.before;
          last = r.last;
          holder = r.holder;
          rises = r.rises;
          fit = r.fit;
          each_seat = λ j u e. ⊎_elim
              (λ (o : get_elem? (set s.views id left) j ≡ some u). each_set Knows' s.views id left (knows chronicle opening r.before r.last turn count r.holder id left d sets own) (λ i x _ q. r.each_seat i x q) j u o)
              (λ (n : child ≡ u). subst (Knows' j) n (knows chronicle opening r.before r.last turn count r.holder j child d sets (own.0, own.1, tt)))
              (at_snoc (set s.views id left) child u j e);
          free = r.free;
          taken = λ z. let t = still_held chronicle opening r.holder s.views id v left at refl (λ _ _ _ e. e) (r.taken z) in (t.0, t.1, t.2, t.3, at_longer (set s.views id left) (child ∷ []) r.holder t.0 t.4, t.5, t.6);
          behind = r.behind;
          begun = r.begun;
          tallied = λ n. let f : View E C → ℕ = λ u. occurrences n (numbers chronicle u) in
              let p : sum_by f (set s.views id left ++ child ∷ []) ≡ sum_by f (set s.views id left) + f child = sum_by_push f (set s.views id left) child in
              let q : sum_by f (set s.views id left) ≡ sum_by f s.views = sum_same f s.views id v left at refl in
              let z : f child ≡ 0 = refl in
              let t : sum_by f s.views ≡ once_between (history opening).next (count + 1) n = r.tallied n in omega arith;
          family = subst Family (sym (map-append member (set s.views id left) (child ∷ []) ∙ (λ i. map-set member s.views id left i ++ (record { lives = here i; name = child_name v.name v.splits; splits = 0; out = [] }) ∷ [])))
              (family-split (map member s.views) r.family id (member v) (at_map member s.views id v at) here);
        },
      )
