-- Entries by their numbers: what stands at a number after one is put, changed or taken out.
use Rattle.std.proofs.Common.{◌≡◌, ℕ, ◌+◌, ◌≤◌, Bool, true, false, cond, ◌==◌, List, [], ◌∷◌, map, length, Option, None, Some, refl, sym, ◌∙◌, ap, arith}
use Rattle.std.proofs.lemmas.Bool.Decides.{nat_tests}
use Rattle.std.specs.declared.cmp.Ordering.{Ordering}
use Rattle.std.specs.declared.cmp.Ordering.TheVariants.{Less, Equal, Greater}
use Rattle.std.specs.Ordering.{nat_cmp, is_eq, match_ordering}
use Rattle.std.specs.Option.{option_map}
use Rattle.std.specs.Map.{lookup, remove_entry}
use Rattle.std.specs.BTreeMap.{insert_entry, is_at}
use Rattle.sd_table.specs.Table.{at_number}
use Rattle.sd_table.specs.Kept.{waiting_count}

pub is_at_number : (n m : ℕ) → is_eq (nat_cmp n m) ≡ (m == n)
is_at_number n m = grind (arith, nat_tests)

pub same_number : (n : ℕ) → (n == n) ≡ true
same_number n = grind (arith, nat_tests)

pub some_same : {X : Type 0} (x y : X) → Some x ≡ Some y → x ≡ y
some_same x y h = cc

module _ {X : Type 0} where
  pub lookup-at_number : (es : List (ℕ × X)) (n : ℕ) → lookup (is_at (nat_cmp n)) es ≡ at_number es n
  lookup-at_number [] n = refl
  lookup-at_number (e ∷ es) n = λ i. cond (is_at_number n e.0 i) (Some e.1) (lookup-at_number es n i)

  pub remove_entry-at_number : (es : List (ℕ × X)) (n : ℕ) → remove_entry (is_at (nat_cmp n)) es ≡ remove_entry (λ m. m == n) es
  remove_entry-at_number [] n = refl
  remove_entry-at_number (e ∷ es) n = λ i. cond (is_at_number n e.0 i) es (e ∷ remove_entry-at_number es n i)

  absent_step : (b : Bool) (e : ℕ × X) (x : Option X) (es out : List (ℕ × X)) → cond b (Some e.1) x ≡ None → (x ≡ None → out ≡ es) → cond b es (e ∷ out) ≡ e ∷ es
  absent_step true e x es out none rest = cc
  absent_step false e x es out none rest = ap (λ es. e ∷ es) (rest none)

  pub remove_entry-absent : (es : List (ℕ × X)) (n : ℕ) → at_number es n ≡ None → remove_entry (λ m. m == n) es ≡ es
  remove_entry-absent [] n none = refl
  remove_entry-absent (e ∷ es) n none = absent_step (e.0 == n) e (at_number es n) es (remove_entry (λ m. m == n) es) none (remove_entry-absent es n)

  -- an entry whose number was not there, taken out again
  undo_step : (n : ℕ) (v : X) (e : ℕ × X) (es put : List (ℕ × X)) (o : Ordering) → nat_cmp n e.0 ≡ o → cond (is_eq o) (Some e.1) (lookup (is_at (nat_cmp n)) es) ≡ None
      → (lookup (is_at (nat_cmp n)) es ≡ None → remove_entry (is_at (nat_cmp n)) put ≡ es)
      → remove_entry (is_at (nat_cmp n)) (match_ordering o ((n, v) ∷ e ∷ es) ((e.0, v) ∷ es) (e ∷ put)) ≡ e ∷ es
  undo_step n v e es put Less is none rest = ap (λ b. cond b (e ∷ es) ((n, v) ∷ remove_entry (is_at (nat_cmp n)) (e ∷ es))) (is_at_number n n ∙ same_number n)
  undo_step n v e es put Equal is none rest = cc
  undo_step n v e es put Greater is none rest =
      ap (λ o. cond (is_eq o) put (e ∷ remove_entry (is_at (nat_cmp n)) put)) is ∙ ap (λ es. e ∷ es) (rest none)

  pub remove_entry-insert_entry : (es : List (ℕ × X)) (n : ℕ) (v : X) → lookup (is_at (nat_cmp n)) es ≡ None → remove_entry (is_at (nat_cmp n)) (insert_entry nat_cmp es n v) ≡ es
  remove_entry-insert_entry [] n v none = ap (λ b. cond b [] ((n, v) ∷ [])) (is_at_number n n ∙ same_number n)
  remove_entry-insert_entry (e ∷ es) n v none = undo_step n v e es (insert_entry nat_cmp es n v) (nat_cmp n e.0) refl none (remove_entry-insert_entry es n v)

  -- an entry of the number n at the head is there
  pub none_there : (n m : ℕ) (x : Option X) (v : X) → nat_cmp n m ≡ Equal → cond (m == n) (Some v) x ≡ None → false ≡ true
  none_there n m x v is none =
      let same : (m == n) ≡ true = sym (is_at_number n m) ∙ ap is_eq is in
      let there : Some v ≡ None = sym (ap (λ b. cond b (Some v) x) same) ∙ none in
      cc

  pub none_after : (b : Bool) (v : X) (x : Option X) → cond b (Some v) x ≡ None → x ≡ None
  none_after true v x none = cc
  none_after false v x none = none

-- two tests of which one at most holds, in either order
pub either_order : {X : Type 0} (a b : Bool) (x y z : X) → (a ≡ true → b ≡ true → false ≡ true) → cond a x (cond b y z) ≡ cond b y (cond a x z)
either_order true true x y z apart = let no = apart refl refl in cc
either_order true false x y z apart = refl
either_order false true x y z apart = refl
either_order false false x y z apart = refl

greater_apart : (n e m : ℕ) → nat_cmp n e ≡ Greater → (e == m) ≡ true → (m == n) ≡ true → false ≡ true
greater_apart n e m is first second = grind (arith, nat_tests)

pub turned : (a b : ℕ) → (a == b) ≡ (b == a)
turned a b = grind (arith, nat_tests)

module _ {X : Type 0} where
  at_put_step : (n m : ℕ) (v : X) (e : ℕ × X) (es put : List (ℕ × X)) (o : Ordering) → nat_cmp n e.0 ≡ o → at_number (e ∷ es) n ≡ None → at_number put m ≡ cond (m == n) (Some v) (at_number es m)
      → at_number (match_ordering o ((n, v) ∷ e ∷ es) ((e.0, v) ∷ es) (e ∷ put)) m ≡ cond (m == n) (Some v) (cond (e.0 == m) (Some e.1) (at_number es m))
  at_put_step n m v e es put Less is none rest = ap (λ b. cond b (Some v) (cond (e.0 == m) (Some e.1) (at_number es m))) (turned n m)
  at_put_step n m v e es put Equal is none rest = let no = none_there n e.0 (at_number es n) e.1 is none in cc
  at_put_step n m v e es put Greater is none rest =
      ap (λ o. cond (e.0 == m) (Some e.1) o) rest ∙ either_order (e.0 == m) (m == n) (Some e.1) (Some v) (at_number es m) (greater_apart n e.0 m is)

  pub at_number-insert_entry : (es : List (ℕ × X)) (n : ℕ) (v : X) (m : ℕ) → at_number es n ≡ None → at_number (insert_entry nat_cmp es n v) m ≡ cond (m == n) (Some v) (at_number es m)
  at_number-insert_entry [] n v m none = ap (λ b. cond b (Some v) None) (turned n m)
  at_number-insert_entry (e ∷ es) n v m none =
      at_put_step n m v e es (insert_entry nat_cmp es n v) (nat_cmp n e.0) refl none (at_number-insert_entry es n v m (none_after (e.0 == n) e.1 (at_number es n) none))

module _ {X Y : Type 0} (f : X → Y) where
  map_put_step : (n : ℕ) (v : X) (e : ℕ × X) (es put : List (ℕ × X)) (into : List (ℕ × Y)) (o : Ordering) → map (λ (e : ℕ × X). (e.0, f e.1)) put ≡ into
      → map (λ (e : ℕ × X). (e.0, f e.1)) (match_ordering o ((n, v) ∷ e ∷ es) ((e.0, v) ∷ es) (e ∷ put))
      ≡ match_ordering o ((n, f v) ∷ (e.0, f e.1) ∷ map (λ (e : ℕ × X). (e.0, f e.1)) es) ((e.0, f v) ∷ map (λ (e : ℕ × X). (e.0, f e.1)) es) ((e.0, f e.1) ∷ into)
  map_put_step n v e es put into Less rest = refl
  map_put_step n v e es put into Equal rest = refl
  map_put_step n v e es put into Greater rest = ap (λ es. (e.0, f e.1) ∷ es) rest

  pub map-insert_entry : (es : List (ℕ × X)) (n : ℕ) (v : X) → map (λ (e : ℕ × X). (e.0, f e.1)) (insert_entry nat_cmp es n v) ≡ insert_entry nat_cmp (map (λ (e : ℕ × X). (e.0, f e.1)) es) n (f v)
  map-insert_entry [] n v = refl
  map-insert_entry (e ∷ es) n v =
      map_put_step n v e es (insert_entry nat_cmp es n v) (insert_entry nat_cmp (map (λ (e : ℕ × X). (e.0, f e.1)) es) n (f v)) (nat_cmp n e.0) (map-insert_entry es n v)

  map_out_step : (e : ℕ × X) (es out : List (ℕ × X)) (into : List (ℕ × Y)) (b : Bool) → map (λ (e : ℕ × X). (e.0, f e.1)) out ≡ into
      → map (λ (e : ℕ × X). (e.0, f e.1)) (cond b es (e ∷ out)) ≡ cond b (map (λ (e : ℕ × X). (e.0, f e.1)) es) ((e.0, f e.1) ∷ into)
  map_out_step e es out into true rest = refl
  map_out_step e es out into false rest = ap (λ es. (e.0, f e.1) ∷ es) rest

  pub map-remove_entry : (test : ℕ → Bool) (es : List (ℕ × X)) → map (λ (e : ℕ × X). (e.0, f e.1)) (remove_entry test es) ≡ remove_entry test (map (λ (e : ℕ × X). (e.0, f e.1)) es)
  map-remove_entry test [] = refl
  map-remove_entry test (e ∷ es) = map_out_step e es (remove_entry test es) (remove_entry test (map (λ (e : ℕ × X). (e.0, f e.1)) es)) (test e.0) (map-remove_entry test es)

  option_map-cond : (b : Bool) (v : X) (x : Option X) (y : Option Y) → y ≡ option_map f x → cond b (Some (f v)) y ≡ option_map f (cond b (Some v) x)
  option_map-cond true v x y rest = refl
  option_map-cond false v x y rest = rest

  pub at_number-map : (es : List (ℕ × X)) (n : ℕ) → at_number (map (λ (e : ℕ × X). (e.0, f e.1)) es) n ≡ option_map f (at_number es n)
  at_number-map [] n = refl
  at_number-map (e ∷ es) n = option_map-cond (e.0 == n) e.1 (at_number es n) (at_number (map (λ (e : ℕ × X). (e.0, f e.1)) es) n) (at_number-map es n)

-- ---- how many tickets wait for a request

count_put_step : (t n r : ℕ) (e : ℕ × ℕ) (es put : List (ℕ × ℕ)) (o : Ordering) → nat_cmp t e.0 ≡ o → at_number (e ∷ es) t ≡ None → waiting_count put r ≡ cond (n == r) 1 0 + waiting_count es r
    → waiting_count (match_ordering o ((t, n) ∷ e ∷ es) ((e.0, n) ∷ es) (e ∷ put)) r ≡ cond (n == r) 1 0 + (cond (e.1 == r) 1 0 + waiting_count es r)
count_put_step t n r e es put Less is none rest = refl
count_put_step t n r e es put Equal is none rest = let no = none_there t e.0 (at_number es t) e.1 is none in cc
count_put_step t n r e es put Greater is none rest = omega (arith, rest)

pub waiting_count-insert_entry : (es : List (ℕ × ℕ)) (t n r : ℕ) → at_number es t ≡ None → waiting_count (insert_entry nat_cmp es t n) r ≡ cond (n == r) 1 0 + waiting_count es r
waiting_count-insert_entry [] t n r none = refl
waiting_count-insert_entry (e ∷ es) t n r none =
    count_put_step t n r e es (insert_entry nat_cmp es t n) (nat_cmp t e.0) refl none (waiting_count-insert_entry es t n r (none_after (e.0 == t) e.1 (at_number es t) none))

count_out_step : (n r : ℕ) (e : ℕ × ℕ) (es out : List (ℕ × ℕ)) (x : Option ℕ) (b : Bool) → cond b (Some e.1) x ≡ Some n → (x ≡ Some n → cond (n == r) 1 0 + waiting_count out r ≡ waiting_count es r)
    → cond (n == r) 1 0 + waiting_count (cond b es (e ∷ out)) r ≡ cond (e.1 == r) 1 0 + waiting_count es r
count_out_step n r e es out x true is rest = let same : e.1 ≡ n = cc in ap (λ m. cond (m == r) 1 0 + waiting_count es r) (sym same)
count_out_step n r e es out x false is rest = omega (arith, rest is)

pub waiting_count-remove_entry : (es : List (ℕ × ℕ)) (t n r : ℕ) → at_number es t ≡ Some n → cond (n == r) 1 0 + waiting_count (remove_entry (λ m. m == t) es) r ≡ waiting_count es r
waiting_count-remove_entry [] t n r is = cc
waiting_count-remove_entry (e ∷ es) t n r is =
    count_out_step n r e es (remove_entry (λ m. m == t) es) (at_number es t) (e.0 == t) is (waiting_count-remove_entry es t n r)

pub waiting_count-le-length : (es : List (ℕ × ℕ)) (r : ℕ) → waiting_count es r ≤ length es
waiting_count-le-length [] r = omega arith
waiting_count-le-length (e ∷ es) r = grind (arith, nat_tests, waiting_count-le-length es r)
