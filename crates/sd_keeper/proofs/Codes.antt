-- A reading function and a spelling that belong together: what is read is spelled so, and what is spelled is read again.
use Rattle.std.proofs.Common.{◌≡◌, ℕ, zero, suc, ◌^◌, ◌<◌, ◌≤◌, Bool, true, false, cond, ltb, eqb, List, [], ◌∷◌, ◌++◌, length, take, drop, Option, Some, None, refl, sym, ap, subst, ◌∙◌, append_assoc, arith}
use Rattle.std.specs.List.{flat_map, AllByRecursion}
use Rattle.std.specs.Int.{Width, w32, w64, byte_len, from_be_bytes, to_be_bytes}
use Rattle.std.proofs.lemmas.Bool.{ltb-false, le-ltb, eqb-true}
use Rattle.std.proofs.lemmas.List.{take_at, drop_at, take-append-drop, length-append, length-take}
use Rattle.std.proofs.lemmas.List.Concat.{flat_map-cons}
use Rattle.std.proofs.lemmas.Option.{none-some, same_Some}
use Rattle.std.proofs.lemmas.Nat.{be_bytes_4, be_bytes_8, from_be_bytes-to_be_bytes_4, from_be_bytes-to_be_bytes_8}
use Rattle.sd_base.proofs.Octets.{AreOctets, front_octets, back_octets, rest_octets}
use Rattle.sd_keeper.specs.Spelling.{number, long, text, list, flag, optional}
use Rattle.sd_keeper.specs.Fitting.{IsNumber, IsLong, IsText, IsList, IsOptional}
use Rattle.sd_keeper.specs.Reading.{◌>>=◌, pair_at, made_at, digits_at, number_at, long_at, cut_at, text_at, items_at, list_at, flag_at, optional_at}

-- ---- fronts

-- what was taken from the front of bytes, and what is behind it
pub record Takes (bytes front rest : List ℕ) : Type 0 where
  pub parts : bytes ≡ front ++ rest
  pub octets : AreOctets rest

takes_then : (a x b y c : List ℕ) → Takes a x b → Takes b y c → Takes a (x ++ y) c
takes_then a x b y c p q = record { parts = p.parts ∙ ap (λ (t : List ℕ). x ++ t) q.parts ∙ sym (append_assoc x y c); octets = q.octets }

-- ---- options

-- the value of a step that did not fail
bound : {A B : Type 0} (o : Option A) (f : A → Option B) (y : B) → (o >>= f) ≡ Some y → (x : A) × (o ≡ Some x) × (f x ≡ Some y)
bound (Some x) f y e = (x, refl, e)
bound None f y e = absurd (none-some y e)

-- a test that did not fail
let_by : {A : Type 0} (b : Bool) (o : Option A) (y : A) → cond b None o ≡ Some y → (b ≡ false) × (o ≡ Some y)
let_by true o y e = absurd (none-some y e)
let_by false o y e = (refl, e)

-- ---- codes

-- what is read is spelled so and fits, and what fits is read again, whatever follows
pub record IsCode {T : Type 0} (at : List ℕ → Option (T × List ℕ)) (spelled : T → List ℕ) (Fits : T → Type 0) : Type 0 where
  pub takes : (bytes : List ℕ) (y : T × List ℕ) → AreOctets bytes → at bytes ≡ Some y → Takes bytes (spelled y.0) y.1 × Fits y.0
  pub again : (x : T) (rest : List ℕ) → Fits x → at (spelled x ++ rest) ≡ Some (x, rest)

pair_takes : {A B : Type 0} (a : List ℕ → Option (A × List ℕ)) (b : List ℕ → Option (B × List ℕ)) (sa : A → List ℕ) (sb : B → List ℕ) (Fa : A → Type 0) (Fb : B → Type 0) → IsCode a sa Fa → IsCode b sb Fb
    → (bytes : List ℕ) (y : (A × B) × List ℕ) → AreOctets bytes → pair_at a b bytes ≡ Some y → Takes bytes (sa y.0.0 ++ sb y.0.1) y.1 × (Fa y.0.0 × Fb y.0.1)
pair_takes {A} {B} a b sa sb Fa Fb ca cb bytes y octets e =
    let p = bound (a bytes) (λ x. b x.1 >>= λ z. Some ((x.0, z.0), z.1)) y e in
    let q = bound (b p.0.1) (λ z. Some ((p.0.0, z.0), z.1)) y p.2 in
    let first = ca.takes bytes p.0 octets p.1 in
    let second = cb.takes p.0.1 q.0 first.0.octets q.1 in
    let made : (A × B) × List ℕ = ((p.0.0, q.0.0), q.0.1) in
    subst (λ (z : (A × B) × List ℕ). Takes bytes (sa z.0.0 ++ sb z.0.1) z.1 × (Fa z.0.0 × Fb z.0.1)) (same_Some made y q.2)
    (takes_then bytes (sa p.0.0) p.0.1 (sb q.0.0) q.0.1 first.0 second.0, (first.1, second.1))

pair_again : {A B : Type 0} (a : List ℕ → Option (A × List ℕ)) (b : List ℕ → Option (B × List ℕ)) (sa : A → List ℕ) (sb : B → List ℕ) (Fa : A → Type 0) (Fb : B → Type 0) → IsCode a sa Fa → IsCode b sb Fb
    → (x : A × B) (rest : List ℕ) → Fa x.0 × Fb x.1 → pair_at a b ((sa x.0 ++ sb x.1) ++ rest) ≡ Some (x, rest)
pair_again a b sa sb Fa Fb ca cb x rest fits =
    ap (pair_at a b) (append_assoc (sa x.0) (sb x.1) rest) ∙ rw (ca.again x.0 (sb x.1 ++ rest) fits.0, cb.again x.1 rest fits.1) refl

-- one field behind another
pub pair_code : {A B : Type 0} (a : List ℕ → Option (A × List ℕ)) (b : List ℕ → Option (B × List ℕ)) (sa : A → List ℕ) (sb : B → List ℕ) (Fa : A → Type 0) (Fb : B → Type 0) → IsCode a sa Fa → IsCode b sb Fb
    → IsCode (pair_at a b) (λ x. sa x.0 ++ sb x.1) (λ x. Fa x.0 × Fb x.1)
pair_code a b sa sb Fa Fb ca cb = record { takes = pair_takes a b sa sb Fa Fb ca cb; again = pair_again a b sa sb Fa Fb ca cb }

made_takes : {A B : Type 0} (a : List ℕ → Option (A × List ℕ)) (sa : A → List ℕ) (Fa : A → Type 0) (sb : B → List ℕ) (Fb : B → Type 0) (make : A → B) → IsCode a sa Fa
    → ((x : A) → sa x ≡ sb (make x)) → ((x : A) → Fa x → Fb (make x)) → (bytes : List ℕ) (y : B × List ℕ) → AreOctets bytes → made_at make a bytes ≡ Some y → Takes bytes (sb y.0) y.1 × Fb y.0
made_takes {A} {B} a sa Fa sb Fb make ca same fits bytes y octets e =
    let p = bound (a bytes) (λ x. Some (make x.0, x.1)) y e in
    let taken = ca.takes bytes p.0 octets p.1 in
    let made : B × List ℕ = (make p.0.0, p.0.1) in
    subst (λ (z : B × List ℕ). Takes bytes (sb z.0) z.1 × Fb z.0) (same_Some made y p.2)
    (subst (λ (s : List ℕ). Takes bytes s p.0.1) (same p.0.0) taken.0, fits p.0.0 taken.1)

made_again : {A B : Type 0} (a : List ℕ → Option (A × List ℕ)) (sa : A → List ℕ) (Fa : A → Type 0) (sb : B → List ℕ) (Fb : B → Type 0) (make : A → B) (parts : B → A) → IsCode a sa Fa
    → ((y : B) → make (parts y) ≡ y) → ((y : B) → sb y ≡ sa (parts y)) → ((y : B) → Fb y → Fa (parts y)) → (y : B) (rest : List ℕ) → Fb y → made_at make a (sb y ++ rest) ≡ Some (y, rest)
made_again {A} {B} a sa Fa sb Fb make parts ca whole same fits y rest h =
    ap (λ (s : List ℕ). made_at make a (s ++ rest)) (same y)
    ∙ rw (ca.again (parts y) rest (fits y h)) (ap (λ (z : B). Some (z, rest)) (whole y))

-- a field that is made of another
pub made_code : {A B : Type 0} (a : List ℕ → Option (A × List ℕ)) (sa : A → List ℕ) (Fa : A → Type 0) (sb : B → List ℕ) (Fb : B → Type 0) (make : A → B) (parts : B → A) → IsCode a sa Fa
    → ((x : A) → sa x ≡ sb (make x)) → ((x : A) → Fa x → Fb (make x)) → ((y : B) → make (parts y) ≡ y) → ((y : B) → sb y ≡ sa (parts y)) → ((y : B) → Fb y → Fa (parts y)) → IsCode (made_at make a) sb Fb
made_code a sa Fa sb Fb make parts ca there fit whole back unfit =
    record { takes = made_takes a sa Fa sb Fb make ca there fit; again = made_again a sa Fa sb Fb make parts ca whole back unfit }

-- ---- numbers

record IsWide (w : Width) (limit : ℕ) : Type 0 where
  pub len : (n : ℕ) → length (to_be_bytes w n) ≡ byte_len w
  pub back : (bytes : List ℕ) → length bytes ≡ byte_len w → AreOctets bytes → to_be_bytes w (from_be_bytes w bytes) ≡ bytes
  pub again : (n : ℕ) → n < limit → from_be_bytes w (to_be_bytes w n) ≡ n
  pub below : (bytes : List ℕ) → AreOctets bytes → from_be_bytes w bytes < limit

wide32 : IsWide w32 (2 ^ 32)
wide32 = record {
  len = λ n. refl;
  back = λ bytes len octets. be_bytes_4 bytes _ len octets.each refl;
  again = λ n lt. from_be_bytes-to_be_bytes_4 n lt;
  below = λ bytes octets. omega (arith, octets.each 0, octets.each 1, octets.each 2, octets.each 3);
}

wide64 : IsWide w64 (2 ^ 64)
wide64 = record {
  len = λ n. refl;
  back = λ bytes len octets. be_bytes_8 bytes _ len octets.each refl;
  again = λ n lt. from_be_bytes-to_be_bytes_8 n lt;
  below = λ bytes octets. omega (arith, octets.each 0, octets.each 1, octets.each 2, octets.each 3, octets.each 4, octets.each 5, octets.each 6, octets.each 7);
}

digits_take : (w : Width) (limit : ℕ) → IsWide w limit → (bytes : List ℕ) (y : ℕ × List ℕ) → AreOctets bytes → digits_at w bytes ≡ Some y → Takes bytes (to_be_bytes w y.0) y.1 × (y.0 < limit)
digits_take w limit wide bytes y octets e =
    let g = let_by (ltb (length bytes) (byte_len w)) (Some (from_be_bytes w (take (byte_len w) bytes), drop (byte_len w) bytes)) y e in
    let there : byte_len w ≤ length bytes = ltb-false _ _ g.0 in
    let front : AreOctets (take (byte_len w) bytes) = front_octets (byte_len w) bytes octets in
    let same : to_be_bytes w (from_be_bytes w (take (byte_len w) bytes)) ≡ take (byte_len w) bytes = wide.back (take (byte_len w) bytes) (omega (arith, length-take (byte_len w) bytes)) front in
    let made : ℕ × List ℕ = (from_be_bytes w (take (byte_len w) bytes), drop (byte_len w) bytes) in
    let taken : Takes bytes (to_be_bytes w made.0) made.1 =
    record { parts = sym (ap (λ (f : List ℕ). f ++ drop (byte_len w) bytes) same ∙ take-append-drop (byte_len w) bytes); octets = back_octets (byte_len w) bytes octets } in
    subst (λ (z : ℕ × List ℕ). Takes bytes (to_be_bytes w z.0) z.1 × (z.0 < limit)) (same_Some made y g.1) (taken, wide.below (take (byte_len w) bytes) front)

digits_again : (w : Width) (limit : ℕ) → IsWide w limit → (n : ℕ) (rest : List ℕ) → n < limit → digits_at w (to_be_bytes w n ++ rest) ≡ Some (n, rest)
digits_again w limit wide n rest lt =
    let len = wide.len n in
    let there : ltb (length (to_be_bytes w n ++ rest)) (byte_len w) ≡ false = le-ltb _ _ (omega (arith, length-append (to_be_bytes w n) rest)) in
    rw (there, take_at (to_be_bytes w n) rest (byte_len w) len, drop_at (to_be_bytes w n) rest (byte_len w) len, wide.again n lt) refl

pub number_code : IsCode number_at number IsNumber
unfolding number_at number
number_code = record { takes = digits_take w32 (2 ^ 32) wide32; again = digits_again w32 (2 ^ 32) wide32 }

pub long_code : IsCode long_at long IsLong
unfolding long_at long
long_code = record { takes = digits_take w64 (2 ^ 64) wide64; again = digits_again w64 (2 ^ 64) wide64 }

-- ---- texts

text_takes : (bytes : List ℕ) (y : List ℕ × List ℕ) → AreOctets bytes → text_at bytes ≡ Some y → Takes bytes (text y.0) y.1 × IsText y.0
unfolding text_at text
text_takes bytes y octets e =
    let p = bound (number_at bytes) cut_at y e in
    let n = p.0 in
    let size = number_code.takes bytes n octets p.1 in
    let g = let_by (ltb (length n.1) n.0) (Some (take n.0 n.1, drop n.0 n.1)) y p.2 in
    let there : n.0 ≤ length n.1 = ltb-false _ _ g.0 in
    let len : length (take n.0 n.1) ≡ n.0 = omega (arith, length-take n.0 n.1) in
    let second : Takes n.1 (take n.0 n.1) (drop n.0 n.1) = record { parts = sym (take-append-drop n.0 n.1); octets = back_octets n.0 n.1 size.0.octets } in
    let both = takes_then bytes (number n.0) n.1 (take n.0 n.1) (drop n.0 n.1) size.0 second in
    let made : List ℕ × List ℕ = (take n.0 n.1, drop n.0 n.1) in
    let whole : Takes bytes (number (length made.0) ++ made.0) made.1 = subst (λ (k : ℕ). Takes bytes (number k ++ take n.0 n.1) (drop n.0 n.1)) (sym len) both in
    subst (λ (z : List ℕ × List ℕ). Takes bytes (number (length z.0) ++ z.0) z.1 × (length z.0 < 2 ^ 32)) (same_Some made y g.1) (whole, omega (arith, size.1))

text_again : (bytes rest : List ℕ) → IsText bytes → text_at (text bytes ++ rest) ≡ Some (bytes, rest)
unfolding text_at text
text_again bytes rest lt =
    let there : ltb (length (bytes ++ rest)) (length bytes) ≡ false = le-ltb _ _ (omega (arith, length-append bytes rest)) in
    ap (λ (all : List ℕ). number_at all >>= cut_at) (append_assoc (number (length bytes)) bytes rest)
    ∙ rw (number_code.again (length bytes) (bytes ++ rest) lt, there, take_at bytes rest (length bytes) refl, drop_at bytes rest (length bytes) refl) refl

pub text_code : IsCode text_at text IsText
text_code = record { takes = text_takes; again = text_again }

-- ---- lists

module _ {T : Type 0} (item_at : List ℕ → Option (T × List ℕ)) (spelled : T → List ℕ) (Fits : T → Type 0) (item : IsCode item_at spelled Fits) where
  items_take : (n : ℕ) (bytes : List ℕ) (y : List T × List ℕ) → AreOctets bytes → items_at item_at n bytes ≡ Some y → Takes bytes (flat_map spelled y.0) y.1 × (length y.0 ≡ n) × AllByRecursion Fits y.0
  unfolding items_at
  items_take zero bytes y octets e =
      subst (λ (z : List T × List ℕ). Takes bytes (flat_map spelled z.0) z.1 × (length z.0 ≡ 0) × AllByRecursion Fits z.0) (same_Some ([], bytes) y e) (record { parts = refl; octets = octets }, refl, tt)
  items_take (suc n) bytes y octets e =
      let p = bound (item_at bytes) (λ first. items_at item_at n first.1 >>= λ others. Some (first.0 ∷ others.0, others.1)) y e in
      let q = bound (items_at item_at n p.0.1) (λ others. Some (p.0.0 ∷ others.0, others.1)) y p.2 in
      let first = item.takes bytes p.0 octets p.1 in
      let others = items_take n p.0.1 q.0 first.0.octets q.1 in
      let both = takes_then bytes (spelled p.0.0) p.0.1 (flat_map spelled q.0.0) q.0.1 first.0 others.0 in
      let made : List T × List ℕ = (p.0.0 ∷ q.0.0, q.0.1) in
      subst (λ (z : List T × List ℕ). Takes bytes (flat_map spelled z.0) z.1 × (length z.0 ≡ suc n) × AllByRecursion Fits z.0) (same_Some made y q.2) (rw flat_map-cons both, ap suc others.1, (first.1, others.2))

  items_again : (xs : List T) (rest : List ℕ) → AllByRecursion Fits xs → items_at item_at (length xs) (flat_map spelled xs ++ rest) ≡ Some (xs, rest)
  unfolding items_at
  items_again [] rest fits = refl
  items_again (x ∷ xs) rest fits =
      let regrouped : flat_map spelled (x ∷ xs) ++ rest ≡ spelled x ++ (flat_map spelled xs ++ rest) = ap (λ (s : List ℕ). s ++ rest) (flat_map-cons spelled x xs) ∙ append_assoc (spelled x) (flat_map spelled xs) rest in
      ap (items_at item_at (suc (length xs))) regrouped ∙ rw (item.again x (flat_map spelled xs ++ rest) fits.0, items_again xs rest fits.1) refl

  list_takes : (bytes : List ℕ) (y : List T × List ℕ) → AreOctets bytes → list_at item_at bytes ≡ Some y → Takes bytes (list spelled y.0) y.1 × IsList Fits y.0
  unfolding list_at list
  list_takes bytes y octets e =
      let p = bound (number_at bytes) (λ n. items_at item_at n.0 n.1) y e in
      let count = number_code.takes bytes p.0 octets p.1 in
      let items = items_take p.0.0 p.0.1 y count.0.octets p.2 in
      let both = takes_then bytes (number p.0.0) p.0.1 (flat_map spelled y.0) y.1 count.0 items.0 in
      (subst (λ (k : ℕ). Takes bytes (number k ++ flat_map spelled y.0) y.1) (sym items.1) both, (omega (arith, items.1, count.1), items.2))

  list_again : (xs : List T) (rest : List ℕ) → IsList Fits xs → list_at item_at (list spelled xs ++ rest) ≡ Some (xs, rest)
  unfolding list_at list
  list_again xs rest fits =
      ap (λ (all : List ℕ). number_at all >>= λ n. items_at item_at n.0 n.1) (append_assoc (number (length xs)) (flat_map spelled xs) rest)
      ∙ rw (number_code.again (length xs) (flat_map spelled xs ++ rest) fits.0) (items_again xs rest fits.1)

  pub list_code : IsCode (list_at item_at) (list spelled) (IsList Fits)
  list_code = record { takes = list_takes; again = list_again }

-- ---- flags and what may be missing

-- what a choice read
pub choose : {T : Type 0} (b : Bool) (o p : Option T) (y : T) {P : Type 0} → cond b o p ≡ Some y → (b ≡ true → o ≡ Some y → P) → (p ≡ Some y → P) → P
choose true o p y e one other = one refl e
choose false o p y e one other = other e

-- a kind that holds nothing
pub bare_takes : {T : Type 0} (spelled : T → List ℕ) (Fits : T → Type 0) (x : T) (n kind : ℕ) (rest : List ℕ) (y : T × List ℕ) → AreOctets rest → eqb kind n ≡ true → Some (x, rest) ≡ Some y
    → spelled x ≡ n ∷ [] → Fits x → Takes (kind ∷ rest) (spelled y.0) y.1 × Fits y.0
bare_takes {T} spelled Fits x n kind rest y octets k e is fits =
    subst (λ (z : T × List ℕ). Takes (kind ∷ rest) (spelled z.0) z.1 × Fits z.0) (same_Some (x, rest) y e)
    (record { parts = ap (λ (m : ℕ). m ∷ rest) (eqb-true kind n k) ∙ ap (λ (s : List ℕ). s ++ rest) (sym is); octets = octets }, fits)

-- a kind that holds a field
pub kind_takes : {A T : Type 0} (a : List ℕ → Option (A × List ℕ)) (sa : A → List ℕ) (Fa : A → Type 0) → IsCode a sa Fa → (spelled : T → List ℕ) (Fits : T → Type 0) (make : A → T) (n kind : ℕ) (rest : List ℕ) (y : T × List ℕ)
    → AreOctets rest → eqb kind n ≡ true → made_at make a rest ≡ Some y → ((x : A) → spelled (make x) ≡ n ∷ sa x) → ((x : A) → Fa x → Fits (make x)) → Takes (kind ∷ rest) (spelled y.0) y.1 × Fits y.0
kind_takes {A} {T} a sa Fa ca spelled Fits make n kind rest y octets k e is fits =
    let p = bound (a rest) (λ x. Some (make x.0, x.1)) y e in
    let held = ca.takes rest p.0 octets p.1 in
    let made : T × List ℕ = (make p.0.0, p.0.1) in
    let whole : Takes (kind ∷ rest) (spelled made.0) made.1 =
    record { parts = ap (λ (m : ℕ). m ∷ rest) (eqb-true kind n k) ∙ ap (λ (s : List ℕ). n ∷ s) held.0.parts ∙ ap (λ (s : List ℕ). s ++ p.0.1) (sym (is p.0.0)); octets = held.0.octets } in
    subst (λ (z : T × List ℕ). Takes (kind ∷ rest) (spelled z.0) z.1 × Fits z.0) (same_Some made y p.2) (whole, fits p.0.0 held.1)

flag_takes : (bytes : List ℕ) (y : Bool × List ℕ) → AreOctets bytes → flag_at bytes ≡ Some y → Takes bytes (flag y.0) y.1 × Unit {0}
unfolding flag_at
flag_takes [] y octets e = absurd (none-some y e)
flag_takes (b ∷ rest) y octets e =
    choose (eqb b 0) _ _ y e (λ k x. bare_takes flag (λ _. Unit {0}) false 0 b rest y (rest_octets b rest octets) k x refl tt)
    (λ e1. choose (eqb b 1) _ _ y e1 (λ k x. bare_takes flag (λ _. Unit {0}) true 1 b rest y (rest_octets b rest octets) k x refl tt)
    (λ e2. absurd (none-some y e2)))

flag_again : (b : Bool) (rest : List ℕ) → Unit {0} → flag_at (flag b ++ rest) ≡ Some (b, rest)
unfolding flag_at
flag_again true rest fits = refl
flag_again false rest fits = refl

pub flag_code : IsCode flag_at flag (λ _. Unit {0})
flag_code = record { takes = flag_takes; again = flag_again }

optional_takes : (bytes : List ℕ) (y : Option ℕ × List ℕ) → AreOctets bytes → optional_at bytes ≡ Some y → Takes bytes (optional y.0) y.1 × IsOptional y.0
unfolding optional_at
optional_takes [] y octets e = absurd (none-some y e)
optional_takes (b ∷ rest) y octets e =
    choose (eqb b 0) _ _ y e (λ k x. bare_takes optional IsOptional None 0 b rest y (rest_octets b rest octets) k x refl tt)
    (λ e1. choose (eqb b 1) _ _ y e1 (λ k x. kind_takes number_at number IsNumber number_code optional IsOptional (λ n. Some n) 1 b rest y (rest_octets b rest octets) k x (λ n. refl) (λ n h. h))
    (λ e2. absurd (none-some y e2)))

optional_again : (o : Option ℕ) (rest : List ℕ) → IsOptional o → optional_at (optional o ++ rest) ≡ Some (o, rest)
unfolding optional_at
optional_again None rest fits = refl
optional_again (Some n) rest fits = rw (number_code.again n rest fits) refl

pub optional_code : IsCode optional_at optional IsOptional
optional_code = record { takes = optional_takes; again = optional_again }
