-- How a turn begins and ends.
use Rattle.std.proofs.Common.{◌≡◌, ℕ, ◌+◌, ◌≤◌, ◌≢◌, true, false, List, [], ◌∷◌, map, length, get_or, sym, refl, ap, ◌∙◌, subst, arith, le_refl, Option, Some, None}
use mathlib.Core.Logic.{dite}
use mathlib.Core.Option.{some, some-injective}
use native.Mathlib.Decide.{ℕ_discrete}
use lib.ListN.{get_elem?}
use Rattle.atomic_table.specs.Table.{Final, Seen, opening as opened}
use Rattle.atomic_table.proofs.Lists.{at_last, at_map}
use Rattle.sd_turn.specs.declared.chronicle.Chronicle.{Ghosts}
use Rattle.sd_turn.specs.declared.view.History.{History}
use Rattle.sd_turn.specs.declared.view.View.{View}
use Rattle.sd_turn.specs.declared.view.Stage.TheVariants.{Free}
use Rattle.sd_turn.specs.Counts.{occurrences, once_between, AreAllBetween}
use Rattle.sd_turn.specs.Views.{lives, member, is_held, newcomer}
use Rattle.sd_turn.specs.Rule.{KnowsStage, Knows, numbers}
use Rattle.sd_turn.proofs.Lists.{at_one, at_only, last_place, sum_one, once_between-none}
use Rattle.sd_turn.proofs.Families.{alone, family-single}
use Rattle.sd_turn.proofs.Keeping.{Rule, knows_under, lives_knows, gone_has_none}

module _ {V E C : Type 0} (chronicle : Ghosts V E C) (opening : V) where
  open chronicle use {setting, history, number, follows, fits}

  pub opens : (n : ℕ) → ((d : C) (x : History E) → follows d x x) → fits (setting opening) (history opening) → n + 1 ≡ (history opening).next → Rule chronicle opening (opened (0 ∷ n ∷ []) (Some opening ∷ []) (newcomer chronicle opening))
  opens n itself fit above =
      let v : View E C = newcomer chronicle opening in (
        refl,
        refl,
        record {
          before = [];
          last = history opening;
          holder = 0;
          rises = λ i j x y le ex ey. let a = (at_only (history opening) i x ex).1 in let b = (at_only (history opening) j y ey).1 in
              subst (λ (z : History E × History E). follows (setting opening) z.0 z.1 × (z.0.next ≤ z.1.next)) (λ q. (a q, b q)) (itself (setting opening) (history opening), le_refl (history opening).next);
          fit = λ k x e. subst (fits (setting opening)) (at_only (history opening) k x e).1 fit;
          each_seat = λ j u e. subst (Knows chronicle (setting opening) [] (history opening) 0 n 0 j) (at_only v j u e).1 (refl, refl, tt);
          free = λ _. (opening, refl, refl, refl, above);
          taken = λ z. absurd (z refl);
          behind = omega arith;
          begun = omega arith;
          tallied = λ k. sym (ap (λ z. once_between (history opening).next z k) above ∙ once_between-none (history opening).next k);
          family = family-single;
        },
      )

  abbrev some_or : V → Option V → V
  some_or d (Some x) = x
  some_or d None = d

  -- What the words and the slot are at the end, by a seat that holds no turn.
  pub record Closes (words : List ℕ) (slots : List (Option V)) (v : View E C) : Type 0 where
    pub value : get_or words 0 0 ≡ 0 → (x : V) × (get_elem? slots 0 ≡ some (Some x)) × (setting x ≡ setting opening) × follows (setting opening) v.front (history x) × fits (setting opening) (history x)
    pub held : get_or words 0 0 ≢ 0 → get_or words 0 0 ≡ 1
    pub first : v.name ≡ [] → v.out ≡ [] → get_or words 0 0 ≡ 0
    pub all : v.name ≡ [] → v.out ≡ [] → (x : V) → get_elem? slots 0 ≡ some (Some x) → AreAllBetween (history opening).next (history x).next (numbers chronicle v)

  pub closes : (words : List ℕ) (slots : List (Option V)) (id : ℕ) (v : View E C) (d : C) → v.setting ≡ Some d → v.stage ≡ Free → Final (Seen (Rule chronicle opening) id v) words slots → Closes words slots v
  closes words slots id v d sets free (s, ((wide, deep, r), at), same_words, long, homes) =
      let turn : ℕ = get_or s.words 0 0 in
      let count : ℕ = get_or s.words 1 0 in
      let own = knows_under chronicle opening r.before r.last turn count r.holder id v d sets (r.each_seat id v at) in
      let here : lives v.setting ≡ true = ap lives sets in
      let same : turn ≡ get_or words 0 0 = ap (λ z. get_or z 0 0) same_words in
      let newest = at_last r.before r.last (length r.before) refl in
      let only : v.name ≡ [] → v.out ≡ [] → (i : ℕ) (u : View E C) → get_elem? s.views i ≡ some u → lives u.setting ≡ true → i ≡ id =
      λ first none_out i u e lives_u. alone (map member s.views) r.family id (member v) (at_map member s.views id v at) here first none_out i (member u) (at_map member s.views i u e) lives_u in
      let not_held : v.name ≡ [] → v.out ≡ [] → turn ≡ 0 = λ first none_out. dite (ℕ_discrete turn 0) (λ z. z) (λ n.
      let t = r.taken n in
      let one : t.0 ≡ v = at_one s.views r.holder id t.0 v t.4 at (only first none_out r.holder t.0 t.4 t.5) in
      let held : is_held v.stage ≡ true = ap (λ u. is_held u.stage) (sym one) ∙ ap is_held t.6 in
      let not : is_held v.stage ≡ false = ap is_held free in cc) in
      record {
        value = λ z. let f = r.free (same ∙ z) in (
          f.0,
          homes 0 (Some f.0) f.1,
          f.2,
          subst (follows (setting opening) v.front) (sym f.3) (r.rises v.place (length r.before) v.front r.last (last_place r.before r.last v.front v.place own.1) own.1 newest).0,
          subst (fits (setting opening)) (sym f.3) (r.fit (length r.before) r.last newest),
        );
        held = λ n. let t = r.taken (λ z. n (sym same ∙ z)) in
            sym same ∙ (subst (KnowsStage chronicle (setting opening) r.before r.last turn count r.holder r.holder) t.6 (lives_knows chronicle opening r.before r.last turn count r.holder r.holder t.0.setting t.0 t.5 (r.each_seat r.holder t.0 t.4))).1;
        first = λ first none_out. sym same ∙ not_held first none_out;
        all = λ first none_out x there n.
            let f = r.free (not_held first none_out) in
            let one : f.0 ≡ x = ap (some_or f.0) (some-injective (Some f.0) (Some x) (sym (homes 0 (Some f.0) f.1) ∙ there)) in
            let next : count + 1 ≡ (history x).next = f.4 ∙ (ap (λ y. y.next) (sym f.3) ∙ ap (λ y. (history y).next) one) in
            sym (sum_one (λ u. occurrences n (numbers chronicle u)) s.views id v at
            (λ j u differ e. ap (λ es. occurrences n (map number es)) (gone_has_none chronicle opening r.before r.last turn count r.holder j u.setting u (λ h. differ (only first none_out j u e h)) (r.each_seat j u e))))
            ∙ (r.tallied n ∙ ap (λ z. once_between (history opening).next z n) next);
      }
