-- The open requests by their keys: no two have the same.
use Rattle.std.proofs.Common.{◌≡◌, ℕ, Bool, true, false, cond, ◌==◌, List, [], ◌∷◌, Option, None, Some, refl, sym, ◌∙◌, ap, true≢false, arith}
use Rattle.std.proofs.lemmas.Bool.Decides.{nat_tests}
use Rattle.std.specs.declared.cmp.Ordering.{Ordering}
use Rattle.std.specs.declared.cmp.Ordering.TheVariants.{Less, Equal, Greater}
use Rattle.std.specs.Ordering.{nat_cmp, match_ordering}
use Rattle.std.specs.Map.{remove_entry}
use Rattle.std.specs.BTreeMap.{insert_entry}
use Rattle.sd_rules.specs.declared.keys.Key.{Key}
use Rattle.sd_rules.specs.Keys.{same_key}
use Rattle.sd_rules.proofs.SameKeys.{same_key_is, same_key_same}
use Rattle.sd_table.specs.Table.{at_number, open_for}
use Rattle.sd_table.specs.Kept.{OneForKey}
use Rattle.sd_table.proofs.Numbered.{none_there, none_after, either_order}

-- a request that is found by no key is at no number
found_step : (b : Bool) (same : Bool) (n : ℕ) (own key : Key) (x : Option Key) (y : Option ℕ) → same_key own key ≡ same → cond b (Some own) x ≡ Some key → cond same (Some n) y ≡ None
    → (x ≡ Some key → y ≡ None → false ≡ true) → false ≡ true
found_step true same n own key x y is there none rest =
    let eq : own ≡ key = cc in
    let yes : same ≡ true = sym is ∙ ap (λ k. same_key k key) eq ∙ same_key_same key in
    let found : Some n ≡ None = sym (ap (λ b. cond b (Some n) y) yes) ∙ none in
    cc
found_step false true n own key x y is there none rest = cc
found_step false false n own key x y is there none rest = rest there none

pub found : (es : List (ℕ × Key)) (n : ℕ) (key : Key) → at_number es n ≡ Some key → open_for es key ≡ None → false ≡ true
found [] n key there none = cc
found (e ∷ es) n key there none = found_step (e.0 == n) (same_key e.1 key) e.0 e.1 key (at_number es n) (open_for es key) refl there none (found es n key)

-- a key that is none of the others', where the head's is the same as both
same_twice : (own key k : Key) (n : ℕ) (y : Option ℕ) → cond (same_key own key) (Some n) y ≡ None → same_key own k ≡ true → same_key key k ≡ true → false ≡ true
same_twice own key k n y none first second =
    let eq : own ≡ key = same_key_is own k first ∙ sym (same_key_is key k second) in
    let yes : same_key own key ≡ true = ap (λ o. same_key o key) eq ∙ same_key_same key in
    let found : Some n ≡ None = sym (ap (λ b. cond b (Some n) y) yes) ∙ none in
    cc

-- ---- a request is opened for a key that has none

open_put_step : (n : ℕ) (key k : Key) (e : ℕ × Key) (es put : List (ℕ × Key)) (o : Ordering) → nat_cmp n e.0 ≡ o → at_number (e ∷ es) n ≡ None → open_for (e ∷ es) key ≡ None
    → open_for put k ≡ cond (same_key key k) (Some n) (open_for es k)
    → open_for (match_ordering o ((n, key) ∷ e ∷ es) ((e.0, key) ∷ es) (e ∷ put)) k ≡ cond (same_key key k) (Some n) (cond (same_key e.1 k) (Some e.0) (open_for es k))
open_put_step n key k e es put Less is none free rest = refl
open_put_step n key k e es put Equal is none free rest = let no = none_there n e.0 (at_number es n) e.1 is none in cc
open_put_step n key k e es put Greater is none free rest =
    ap (λ o. cond (same_key e.1 k) (Some e.0) o) rest
    ∙ either_order (same_key e.1 k) (same_key key k) (Some e.0) (Some n) (open_for es k) (same_twice e.1 key k e.0 (open_for es key) free)

pub open_for-insert_entry : (es : List (ℕ × Key)) (n : ℕ) (key k : Key) → at_number es n ≡ None → open_for es key ≡ None
    → open_for (insert_entry nat_cmp es n key) k ≡ cond (same_key key k) (Some n) (open_for es k)
open_for-insert_entry [] n key k none free = refl
open_for-insert_entry (e ∷ es) n key k none free =
    open_put_step n key k e es (insert_entry nat_cmp es n key) (nat_cmp n e.0) refl none free
    (open_for-insert_entry es n key k (none_after (e.0 == n) e.1 (at_number es n) none) (none_after (same_key e.1 key) e.0 (open_for es key) free))

one_put_step : (n : ℕ) (key : Key) (e : ℕ × Key) (es put : List (ℕ × Key)) (o : Ordering) → nat_cmp n e.0 ≡ o → at_number (e ∷ es) n ≡ None → open_for (e ∷ es) key ≡ None
    → OneForKey (e ∷ es) → open_for put e.1 ≡ None → OneForKey put
    → OneForKey (match_ordering o ((n, key) ∷ e ∷ es) ((e.0, key) ∷ es) (e ∷ put))
one_put_step n key e es put Less is none free one apart rest = (free, one)
one_put_step n key e es put Equal is none free one apart rest = let no = none_there n e.0 (at_number es n) e.1 is none in absurd (true≢false (sym no))
one_put_step n key e es put Greater is none free one apart rest = (apart, rest)

apart_step : (n m : ℕ) (key own : Key) (x y : Option ℕ) (b : Bool) → same_key key own ≡ b → cond (same_key own key) (Some m) y ≡ None → x ≡ None → cond b (Some n) x ≡ None
apart_step n m key own x y true is free none =
    let eq : key ≡ own = same_key_is key own is in
    let yes : same_key own key ≡ true = ap (λ k. same_key own k) eq ∙ same_key_same own in
    let found : Some m ≡ None = sym (ap (λ b. cond b (Some m) y) yes) ∙ free in
    cc
apart_step n m key own x y false is free none = none

pub OneForKey-insert_entry : (es : List (ℕ × Key)) (n : ℕ) (key : Key) → at_number es n ≡ None → open_for es key ≡ None → OneForKey es → OneForKey (insert_entry nat_cmp es n key)
OneForKey-insert_entry [] n key none free one = (refl, tt)
OneForKey-insert_entry (e ∷ es) n key none free one =
    let none_left : at_number es n ≡ None = none_after (e.0 == n) e.1 (at_number es n) none in
    let free_left : open_for es key ≡ None = none_after (same_key e.1 key) e.0 (open_for es key) free in
    one_put_step n key e es (insert_entry nat_cmp es n key) (nat_cmp n e.0) refl none free one
    (open_for-insert_entry es n key e.1 none_left free_left ∙ apart_step n e.0 key e.1 (open_for es e.1) (open_for es key) (same_key key e.1) refl free one.0)
    (OneForKey-insert_entry es n key none_left free_left one.1)

-- ---- a request is closed

none_out_step : (k : Key) (e : ℕ × Key) (es out : List (ℕ × Key)) (b same : Bool) → same_key e.1 k ≡ same → cond same (Some e.0) (open_for es k) ≡ None
    → (open_for es k ≡ None → open_for out k ≡ None) → open_for (cond b es (e ∷ out)) k ≡ None
none_out_step k e es out b true is none rest = cc
none_out_step k e es out true false is none rest = none
none_out_step k e es out false false is none rest = ap (λ b. cond b (Some e.0) (open_for out k)) is ∙ rest none

none_out : (test : ℕ → Bool) (es : List (ℕ × Key)) (k : Key) → open_for es k ≡ None → open_for (remove_entry test es) k ≡ None
none_out test [] k none = refl
none_out test (e ∷ es) k none = none_out_step k e es (remove_entry test es) (test e.0) (same_key e.1 k) refl none (none_out test es k)

one_out_step : (e : ℕ × Key) (es out : List (ℕ × Key)) (b : Bool) → OneForKey es → open_for out e.1 ≡ None → OneForKey out → OneForKey (cond b es (e ∷ out))
one_out_step e es out true one apart rest = one
one_out_step e es out false one apart rest = (apart, rest)

pub OneForKey-remove_entry : (test : ℕ → Bool) (es : List (ℕ × Key)) → OneForKey es → OneForKey (remove_entry test es)
OneForKey-remove_entry test [] one = tt
OneForKey-remove_entry test (e ∷ es) one =
    one_out_step e es (remove_entry test es) (test e.0) one.1 (none_out test es e.1 one.0) (OneForKey-remove_entry test es one.1)

-- the head is the one that is closed
closed_here : (n : ℕ) (own key k : Key) (y : Option ℕ) (b : Bool) → own ≡ key → same_key key k ≡ b → (same_key own k ≡ true → y ≡ None) → y ≡ cond b None (cond (same_key own k) (Some n) y)
closed_here n own key k y true eq is none = none (ap (λ o. same_key o k) eq ∙ is)
closed_here n own key k y false eq is none = sym (ap (λ b. cond b (Some n) y) (ap (λ o. same_key o k) eq ∙ is))

free_of : (es : List (ℕ × Key)) (own k : Key) → open_for es own ≡ None → same_key own k ≡ true → open_for es k ≡ None
free_of es own k none is = sym (ap (open_for es) (same_key_is own k is)) ∙ none

-- the closed request is further on, so its key is not the head's
closed_apart : (es : List (ℕ × Key)) (n : ℕ) (own key k : Key) → at_number es n ≡ Some key → open_for es own ≡ None → same_key own k ≡ true → same_key key k ≡ true → false ≡ true
closed_apart es n own key k there none first second =
    let eq : own ≡ key = same_key_is own k first ∙ sym (same_key_is key k second) in
    found es n key there (sym (ap (open_for es) eq) ∙ none)

open_out_step : (n : ℕ) (key k : Key) (e : ℕ × Key) (es out : List (ℕ × Key)) (b : Bool) → cond b (Some e.1) (at_number es n) ≡ Some key → open_for es e.1 ≡ None
    → (at_number es n ≡ Some key → open_for out k ≡ cond (same_key key k) None (open_for es k))
    → open_for (cond b es (e ∷ out)) k ≡ cond (same_key key k) None (cond (same_key e.1 k) (Some e.0) (open_for es k))
open_out_step n key k e es out true there none rest =
    let eq : e.1 ≡ key = cc in
    closed_here e.0 e.1 key k (open_for es k) (same_key key k) eq refl (free_of es e.1 k none)
open_out_step n key k e es out false there none rest =
    ap (λ o. cond (same_key e.1 k) (Some e.0) o) (rest there)
    ∙ either_order (same_key e.1 k) (same_key key k) (Some e.0) None (open_for es k) (closed_apart es n e.1 key k there none)

pub open_for-remove_entry : (es : List (ℕ × Key)) (n : ℕ) (key k : Key) → OneForKey es → at_number es n ≡ Some key
    → open_for (remove_entry (λ m. m == n) es) k ≡ cond (same_key key k) None (open_for es k)
open_for-remove_entry [] n key k one there = cc
open_for-remove_entry (e ∷ es) n key k one there =
    open_out_step n key k e es (remove_entry (λ m. m == n) es) (e.0 == n) there one.0 (open_for-remove_entry es n key k one.1)

-- ---- the request at a number is the one that is open for its key

own_step : (n : ℕ) (own key : Key) (m : ℕ) (x : Option Key) (y : Option ℕ) (b same : Bool) → (m == n) ≡ b → same_key own key ≡ same → cond b (Some own) x ≡ Some key
    → (own ≡ key → x ≡ Some key → y ≡ None) → (x ≡ Some key → y ≡ None → false ≡ true) → (x ≡ Some key → y ≡ Some n) → cond same (Some m) y ≡ Some n
own_step n own key m x y true same at is there free apart rest =
    let eq : own ≡ key = cc in
    let yes : same ≡ true = sym is ∙ ap (λ k. same_key k key) eq ∙ same_key_same key in
    ap (λ b. cond b (Some m) y) yes ∙ ap Some (number_eq m n at)
  where
    number_eq : (m n : ℕ) → (m == n) ≡ true → m ≡ n
    number_eq m n h = grind (arith, nat_tests)
own_step n own key m x y false true at is there free apart rest = let no = apart there (free (same_key_is own key is) there) in cc
own_step n own key m x y false false at is there free apart rest = rest there

pub open_for-own : (es : List (ℕ × Key)) (n : ℕ) (key : Key) → OneForKey es → at_number es n ≡ Some key → open_for es key ≡ Some n
open_for-own [] n key one there = cc
open_for-own (e ∷ es) n key one there =
    own_step n e.1 key e.0 (at_number es n) (open_for es key) (e.0 == n) (same_key e.1 key) refl refl there
    (λ same h. sym (ap (open_for es) same) ∙ one.0) (found es n key) (open_for-own es n key one.1)
