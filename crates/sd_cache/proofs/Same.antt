-- A look-up by what `==` says of keys is one by their definitions.
use Rattle.std.proofs.Common.{◌≡◌, Bool, true, cond, List, [], ◌∷◌, Option, Some, refl, sym, ◌∙◌, ap}
use Rattle.std.specs.Map.{lookup}
use Rattle.sd_rules.specs.declared.keys.Key.{Key}
use Rattle.sd_rules.specs.Keys.{same_key}
use Rattle.sd_rules.proofs.SameKeys.{same_key_is, keys_equal, keys_equal_is}
use Rattle.sd_cache.specs.declared.kept.Newest.{Newest}
use Rattle.sd_cache.specs.Cache.{newest_in}

pub look_up_is : (answers : List (Key × Newest)) (k : Key) → lookup (keys_equal k) answers ≡ newest_in answers k
look_up_is [] k = refl
look_up_is (a ∷ answers) k =
    ap (λ (b : Bool). cond b (Some a.1) (lookup (keys_equal k) answers)) (keys_equal_is k a.0)
    ∙ ap (λ (o : Option Newest). cond (same_key k a.0) (Some a.1) o) (look_up_is answers k)

-- what is kept under a key is kept under an equal one
pub found_again : (answers : List (Key × Newest)) (own key : Key) (a : Newest) → keys_equal own key ≡ true → lookup (keys_equal own) answers ≡ Some a → newest_in answers key ≡ Some a
found_again answers own key a same is =
    ap (λ (k : Key). newest_in answers k) (sym (same_key_is own key (sym (keys_equal_is own key) ∙ same)))
    ∙ sym (look_up_is answers own)
    ∙ is
