-- What a list of falls says of each server, once a fall, an online or the close of a request is told.
use Rattle.std.proofs.Common.{◌≡◌, ℕ, ◌+◌, Bool, true, false, cond, not, ◌&&◌, ◌||◌, List, [], ◌∷◌, ◌++◌, map, filter, Option, None, Some, is_some, refl, sym, ◌∙◌, ap, arith, ◌==◌, nat_lt, nat_le}
use Rattle.std.proofs.lemmas.List.Folds.{list_any-append}
use Rattle.std.proofs.lemmas.Bool.Decides.{nat_tests}
use Rattle.std.specs.List.{list_any}
use Rattle.sd_failover.specs.declared.falls.Fall.{Fall}
use Rattle.sd_failover.specs.Falls as told

or_true : (a : Bool) → (a || true) ≡ true
or_true true = refl
or_true false = refl

or_false : (a : Bool) → (a || false) ≡ a
or_false true = refl
or_false false = refl

or_assoc : (a b c : Bool) → ((a || b) || c) ≡ (a || (b || c))
or_assoc true b c = refl
or_assoc false b c = refl

not_true : (v : Bool) → (v ≡ true → false ≡ true) → v ≡ false
not_true true h = sym (h refl)
not_true false h = refl

module _ {X Y : Type 0} where
  any_map : (p : Y → Bool) (f : X → Y) (xs : List X) → list_any p (map f xs) ≡ list_any (λ x. p (f x)) xs
  any_map p f [] = refl
  any_map p f (x ∷ xs) = ap (λ b. p (f x) || b) (any_map p f xs)

module _ {X : Type 0} where
  any_same : (p q : X → Bool) → ((x : X) → p x ≡ q x) → (xs : List X) → list_any p xs ≡ list_any q xs
  any_same p q same [] = refl
  any_same p q same (x ∷ xs) = ap (λ b. b || list_any p xs) (same x) ∙ ap (λ b. q x || b) (any_same p q same xs)

  any_never : (p : X → Bool) → ((x : X) → p x ≡ false) → (xs : List X) → list_any p xs ≡ false
  any_never p never [] = refl
  any_never p never (x ∷ xs) = ap (λ b. b || list_any p xs) (never x) ∙ any_never p never xs

  any_and : (b : Bool) (p : X → Bool) (xs : List X) → list_any (λ x. b && p x) xs ≡ (b && list_any p xs)
  any_and true p xs = refl
  any_and false p xs = any_never (λ x. false) (λ x. refl) xs

  any_kept : (p q : X → Bool) (x : X) (xs : List X) (v : Bool) → q x ≡ v → (v ≡ false → p x ≡ false)
      → list_any p (filter q xs) ≡ list_any p xs → list_any p (cond v (x ∷ filter q xs) (filter q xs)) ≡ (p x || list_any p xs)
  any_kept p q x xs true e out rest = ap (λ b. p x || b) rest
  any_kept p q x xs false e out rest = rest ∙ ap (λ b. b || list_any p xs) (sym (out refl))

  -- what a filter leaves out says nothing, where none of it passes
  any_filter : (p q : X → Bool) → ((x : X) → q x ≡ false → p x ≡ false) → (xs : List X) → list_any p (filter q xs) ≡ list_any p xs
  any_filter p q out [] = refl
  any_filter p q out (x ∷ xs) = any_kept p q x xs (q x) refl (out x) (any_filter p q out xs)

  -- nor where b stands for it
  any_covered : (p q : X → Bool) (b : Bool) → ((x : X) → q x ≡ false → p x ≡ true → b ≡ true) → (xs : List X) → (list_any p (filter q xs) || b) ≡ (list_any p xs || b)
  any_covered p q true out xs = or_true (list_any p (filter q xs)) ∙ sym (or_true (list_any p xs))
  any_covered p q false out xs = ap (λ b. b || false) (any_filter p q (λ x e. not_true (p x) (out x e)) xs)

-- ---- a fall is told

and_left : (a b : Bool) → (a && b) ≡ true → a ≡ true
and_left true b h = refl
and_left false b h = h

and_right : (a b : Bool) → (a && b) ≡ true → b ≡ true
and_right true b h = h
and_right false b h = cc

and_both : (a b : Bool) → a ≡ true → b ≡ true → (a && b) ≡ true
and_both true b h k = k
and_both false b h k = h

not_false : (a : Bool) → not a ≡ false → a ≡ true
not_false true h = refl
not_false false h = cc

same_server : (a b s : ℕ) → (a == b) ≡ true → (a == s) ≡ true → (b == s) ≡ true
same_server a b s e h = grind (arith, nat_tests)

later_still : (t a b : ℕ) → nat_le a b ≡ true → nat_lt t (a + 30) ≡ true → nat_lt t (b + 30) ≡ true
later_still t a b e h = grind (arith, nat_tests)

-- a fall is replaced only by one under the same request, or once its own is closed
under_replaced : (own : Option ℕ) (later : Fall) (r : ℕ) → told.is_or_none own later ≡ true → told.is_number own r ≡ true → told.is_under later r ≡ true
under_replaced None later r e h = cc
under_replaced (Some q) later r e h = under_same later.request q r e h
  where
    under_same : (own : Option ℕ) (q r : ℕ) → told.is_number own q ≡ true → (q == r) ≡ true → told.is_number own r ≡ true
    under_same None q r e h = e
    under_same (Some p) q r e h = grind (arith, nat_tests)

covers_under : (fall x : Fall) (r s : ℕ) → not (told.is_replaced x fall) ≡ false → told.falls_under x r s ≡ true → told.falls_under fall r s ≡ true
covers_under fall x r s out h =
    let replaced = not_false _ out in
    let placed = and_left ((x.server == fall.server) && nat_le x.moment fall.moment) _ replaced in
    and_both _ _ (under_replaced x.request fall r (and_right _ _ replaced) (and_left _ _ h)) (same_server _ _ s (and_left _ _ placed) (and_right _ _ h))

covers_lately : (fall x : Fall) (t s : ℕ) → fall.online_since ≡ false → not (told.is_replaced x fall) ≡ false → told.falls_lately x t s ≡ true → told.falls_lately fall t s ≡ true
covers_lately fall x t s since out h =
    let replaced = not_false _ out in
    let placed = and_left ((x.server == fall.server) && nat_le x.moment fall.moment) _ replaced in
    let first = and_left (not x.online_since && (x.server == s)) _ h in
    and_both _ _ (and_both _ _ (ap not since) (same_server _ _ s (and_left _ _ placed) (and_right _ _ first))) (later_still t x.moment fall.moment (and_right _ _ placed) (and_right _ _ h))

one_more : {X : Type 0} (p : X → Bool) (xs : List X) (x : X) → list_any p (xs ++ x ∷ []) ≡ (list_any p xs || p x)
one_more p xs x = list_any-append p xs (x ∷ []) ∙ ap (λ b. list_any p xs || b) (or_false (p x))

-- what is told of a server under a request is what was told before, and the new fall
pub has_fallen_under-with_fall : (fall : Fall) (falls : List Fall) (r s : ℕ)
    → told.has_fallen_under (told.with_fall fall falls) r s ≡ (told.has_fallen_under falls r s || told.falls_under fall r s)
has_fallen_under-with_fall fall falls r s =
    one_more (λ x. told.falls_under x r s) (filter (λ x. not (told.is_replaced x fall)) falls) fall
    ∙ any_covered (λ x. told.falls_under x r s) (λ x. not (told.is_replaced x fall)) (told.falls_under fall r s) (λ x. covers_under fall x r s) falls

pub has_fallen_lately-with_fall : (fall : Fall) (falls : List Fall) (t s : ℕ) → fall.online_since ≡ false
    → told.has_fallen_lately (told.with_fall fall falls) t s ≡ (told.has_fallen_lately falls t s || told.falls_lately fall t s)
has_fallen_lately-with_fall fall falls t s since =
    one_more (λ x. told.falls_lately x t s) (filter (λ x. not (told.is_replaced x fall)) falls) fall
    ∙ any_covered (λ x. told.falls_lately x t s) (λ x. not (told.is_replaced x fall)) (told.falls_lately fall t s) (λ x. covers_lately fall x t s since) falls

-- ---- an online is told

under_none : (own : Option ℕ) (r s i : ℕ) → is_some own ≡ false → (told.is_number own r && (i == s)) ≡ false
under_none None r s i h = refl
under_none (Some q) r s i h = cc

-- under each request a server fell as before
pub has_fallen_under-after_online : (falls : List Fall) (r s : ℕ) → told.has_fallen_under (told.after_online falls) r s ≡ told.has_fallen_under falls r s
has_fallen_under-after_online falls r s =
    any_map (λ x. told.falls_under x r s) told.with_online (filter (λ x. is_some x.request) falls)
    ∙ any_filter (λ x. told.falls_under x r s) (λ x. is_some x.request) (λ x. under_none x.request r s x.server) falls

-- and no server fell lately
pub has_fallen_lately-after_online : (falls : List Fall) (t s : ℕ) → told.has_fallen_lately (told.after_online falls) t s ≡ false
has_fallen_lately-after_online falls t s =
    any_map (λ x. told.falls_lately x t s) told.with_online (filter (λ x. is_some x.request) falls)
    ∙ any_never (λ x. told.falls_lately (told.with_online x) t s) (λ x. refl) (filter (λ x. is_some x.request) falls)

-- ---- a request is closed

under_apart : (own : Option ℕ) (c r : ℕ) → told.is_number own c ≡ true → (r == c) ≡ false → told.is_number own r ≡ false
under_apart None c r h e = refl
under_apart (Some q) c r h e = grind (arith, nat_tests)

under_same : (own : Option ℕ) (c r : ℕ) → told.is_number own c ≡ false → (r == c) ≡ true → told.is_number own r ≡ false
under_same None c r h e = refl
under_same (Some q) c r h e = grind (arith, nat_tests)

under_released : (x : Fall) (c r s : ℕ) (v b : Bool) → told.is_under x c ≡ v → (r == c) ≡ b
    → told.falls_under (cond v (record x { request = None }) x) r s ≡ (not b && told.falls_under x r s)
under_released x c r s true true h e = refl
under_released x c r s true false h e = sym (ap (λ w. w && (x.server == s)) (under_apart x.request c r h e))
under_released x c r s false true h e = ap (λ w. w && (x.server == s)) (under_same x.request c r h e)
under_released x c r s false false h e = refl

spent_under : (x : Fall) (c r s : ℕ) (v since : Bool) → told.is_under x c ≡ v → not (v && since) ≡ false
    → told.falls_under (cond v (record x { request = None }) x) r s ≡ false
spent_under x c r s true since h e = refl
spent_under x c r s false since h e = cc

-- under the closed request no server counts as fallen any more, and under each other one it counts as before
pub has_fallen_under-after_closed : (c : ℕ) (falls : List Fall) (r s : ℕ)
    → told.has_fallen_under (told.after_closed c falls) r s ≡ (not (r == c) && told.has_fallen_under falls r s)
has_fallen_under-after_closed c falls r s =
    any_map (λ x. told.falls_under x r s) (told.released c) (filter (λ x. not (told.is_spent x c)) falls)
    ∙ any_filter (λ x. told.falls_under (told.released c x) r s) (λ x. not (told.is_spent x c)) (λ x e. spent_under x c r s (told.is_under x c) x.online_since refl e) falls
    ∙ any_same (λ x. told.falls_under (told.released c x) r s) (λ x. not (r == c) && told.falls_under x r s) (λ x. under_released x c r s (told.is_under x c) (r == c) refl refl) falls
    ∙ any_and (not (r == c)) (λ x. told.falls_under x r s) falls

lately_released : (x : Fall) (t s : ℕ) (v : Bool) → told.falls_lately (cond v (record x { request = None }) x) t s ≡ told.falls_lately x t s
lately_released x t s true = refl
lately_released x t s false = refl

spent_lately : (x : Fall) (t s : ℕ) (v since : Bool) → since ≡ x.online_since → not (v && since) ≡ false → told.falls_lately x t s ≡ false
spent_lately x t s true true h e = ap (λ b. (not b && (x.server == s)) && told.is_shortly_after t x.moment) (sym h)
spent_lately x t s true false h e = cc
spent_lately x t s false since h e = cc

-- each server that fell lately still did
pub has_fallen_lately-after_closed : (c : ℕ) (falls : List Fall) (t s : ℕ) → told.has_fallen_lately (told.after_closed c falls) t s ≡ told.has_fallen_lately falls t s
has_fallen_lately-after_closed c falls t s =
    any_map (λ x. told.falls_lately x t s) (told.released c) (filter (λ x. not (told.is_spent x c)) falls)
    ∙ any_same (λ x. told.falls_lately (told.released c x) t s) (λ x. told.falls_lately x t s) (λ x. lately_released x t s (told.is_under x c)) (filter (λ x. not (told.is_spent x c)) falls)
    ∙ any_filter (λ x. told.falls_lately x t s) (λ x. not (told.is_spent x c)) (λ x e. spent_lately x t s (told.is_under x c) x.online_since refl e) falls
