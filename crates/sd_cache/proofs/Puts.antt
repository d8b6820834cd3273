-- What is kept after an answer is put, and that it stays what a journal says.
use Rattle.std.proofs.Common.{◌≡◌, Bool, true, false, cond, ◌||◌, List, ◌∷◌, Option, None, Some, refl, sym, ◌∙◌, ap}
use Rattle.std.specs.Prelude.{Result, Ok, Err, IsOk, OnOk}
use Rattle.std.specs.Option.{option_map}
use Rattle.sd_rules.specs.declared.keys.Key.{Key}
use Rattle.sd_rules.specs.declared.replies.Entry.{Entry}
use Rattle.sd_rules.specs.Keys.{speaks_of}
use Rattle.sd_rules.specs.Past.{Standing, newest, answer_in, spoken, or_else}
use Rattle.sd_cache.specs.declared.kept.Newest.{Newest}
use Rattle.sd_cache.specs.Kept.{kept_of}
use Rattle.sd_cache.specs.Cache.{newest_in, after_put, HoldsNewest}

-- what holds of every Ok, where it is one
pub of_ok : {X Y : Type 0} (r : Result X Y) (P : Type 0) → IsOk r → OnOk r P → P
of_ok (Ok x) P is p = p
of_ok (Err y) P is p = absurd (cc)

-- what follows from what holds of every Ok
pub on_ok : {X Y : Type 0} (r : Result X Y) (P Q : Type 0) → (P → Q) → OnOk r P → OnOk r Q
on_ok (Ok x) P Q f p = f p
on_ok (Err y) P Q f p = p

-- three keys of the same answer
pub three_puts : (a b c : Bool) (n x y z : Newest) (o : Option Newest) → x ≡ n → y ≡ n → z ≡ n
    → cond c (Some z) (cond b (Some y) (cond a (Some x) o)) ≡ cond (a || (b || c)) (Some n) o
three_puts true true true n x y z o ex ey ez = cc
three_puts true true false n x y z o ex ey ez = cc
three_puts true false true n x y z o ex ey ez = cc
three_puts true false false n x y z o ex ey ez = cc
three_puts false true true n x y z o ex ey ez = cc
three_puts false true false n x y z o ex ey ez = cc
three_puts false false true n x y z o ex ey ez = cc
three_puts false false false n x y z o ex ey ez = refl

newest_after : (b : Bool) (a : Standing) (o : Option Standing)
    → option_map kept_of (or_else (cond b (Some a) None) o) ≡ cond b (Some (kept_of a)) (option_map kept_of o)
newest_after true a o = refl
newest_after false a o = refl

-- an entry that holds the answer which is put
pub holds_put : (past : List Entry) (e : Entry) (a : Standing) (old new : List (Key × Newest))
    → ((k : Key) → newest_in new k ≡ after_put a k (newest_in old k)) → answer_in past e ≡ Some a → HoldsNewest past old → HoldsNewest (e ∷ past) new
holds_put past e a old new is answer holds = record {
  each = λ k.
      is k
      ∙ ap (λ (o : Option Newest). cond (speaks_of a.own a.answered k) (Some (kept_of a)) o) (holds.each k)
      ∙ sym (newest_after (speaks_of a.own a.answered k) a (newest past k))
      ∙ ap (λ (o : Option Standing). option_map kept_of (or_else (spoken k o) (newest past k))) (sym answer);
}

-- an entry that holds no answer
pub holds_other : (past : List Entry) (e : Entry) (answers : List (Key × Newest)) → answer_in past e ≡ None → HoldsNewest past answers → HoldsNewest (e ∷ past) answers
holds_other past e answers answer holds = record {
  each = λ k. holds.each k ∙ ap (λ (o : Option Standing). option_map kept_of (or_else (spoken k o) (newest past k))) (sym answer);
}
