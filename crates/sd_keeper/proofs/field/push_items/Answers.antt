use Rattle.std.proofs.Common.{◌≡◌, ◌<◌, ◌+◌, ◌++◌, ◌∷◌, [], List, ℕ, length, get_or, take, ap, sym, ◌∙◌}
use Rattle.std.proofs.lemmas.List.{take_more, flat_map_more}
use Rattle.std.specs.List.{flat_map}
use Rattle.sd_keeper.proofs.field.push_items.Goals as goal

one_more : {X A : Type 0} (f : X → List A) (start before after : List A) (xs : List X) (i : ℕ) (x : X) → i < length xs → x ≡ get_or xs i x → before ≡ start ++ flat_map f (take i xs) → after ≡ before ++ f x
    → after ≡ start ++ flat_map f (take (i + 1) xs)
one_more f start before after xs i x within is known more =
    more ∙ (ap (λ z. z ++ f x) known ∙ (flat_map_more f start (take i xs) x ∙ ap (λ z. start ++ flat_map f z) (ap (λ z. take i xs ++ z ∷ []) is ∙ sym (take_more xs i x within))))

pub loop-item-preserved : goal.loop-item-preserved
loop-item-preserved g c = one_more g.T.Field.spelled c.args.out.now.items c.loop-item.out.items c.spell.new.out.items c.args.items.now c.loop-item.item-index c.item-item.result c.loop-item-test.true c.item-item.is c.loop-item.invariant c.in_ok-spell.ensures
