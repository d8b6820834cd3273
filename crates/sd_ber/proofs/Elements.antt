-- What is an element is read so, and what is read is an element.
use Rattle.std.proofs.Common.{◌≡◌, ◌≢◌, ℕ, suc, ◌+◌, ◌-◌, ◌%◌, ◌^◌, ◌<◌, ◌≤◌, Bool, true, false, cond, ltb, eqb, List, [], ◌∷◌, ◌++◌, length, take, drop, Option, Some, None, Result, Ok, Err, refl, sym, ap, subst, ◌∙◌, arith, inl, inr, append_assoc}
use Rattle.std.proofs.lemmas.Bool.{cases_lt, ltb-false, le-ltb, lt-ltb, ne_eqb, eqb-false, eq-eqb, cases_eq, cond-false}
use Rattle.std.proofs.lemmas.List.{take_at, drop_at, length-append, take-append-drop, length-take}
use Rattle.sd_ber.specs.Octets.{number, length_octets, element}
use Rattle.sd_ber.specs.Grammar.{IsLength, IsElement}
use Rattle.sd_ber.specs.Reading.{Reading, Opened, ◌>>=◌, reading_of, opened_after, length_at, header_at, opened_by, element_at}
use Rattle.sd_ber.specs.declared.header.Header.{Header}
use Rattle.sd_ber.specs.declared.fault.BerFault.{BerFault}
use Rattle.sd_ber.specs.declared.fault.BerFault.TheVariants.{BadTag, Indefinite, TooLong, Short}
use Rattle.sd_ber.specs.Reading.{Element, seen_in, next_of, after_next, after_read}
use Rattle.sd_ber.specs.Seen.{Takes, Found, Given, ReadsBack, seen, element_of}
use Rattle.sd_ber.specs.declared.reader.Tlv.{Tlv}
use Rattle.sd_ber.proofs.Lengths.{spelled}

-- ---- what is an element is read so

long_again : (at k : ℕ) (octets rest : List ℕ) → length octets ≡ k → 0 < k → k ≤ 4 → length_at at ((128 + k) ∷ (octets ++ rest)) ≡ Ok (suc k, number octets)
long_again at k octets rest len some few =
    let not_short : ltb (128 + k) 128 ≡ false = le-ltb _ _ (omega arith) in
    let not_open : eqb (128 + k) 128 ≡ false = ne_eqb _ _ (λ e. omega arith) in
    let not_long : ltb 132 (128 + k) ≡ false = le-ltb _ _ (omega arith) in
    let count : 128 + k - 128 ≡ k = omega arith in
    let all : 128 + k - 127 ≡ suc k = omega arith in
    let there : ltb (length (octets ++ rest)) k ≡ false = le-ltb _ _ (omega (arith, length-append octets rest)) in
    rw (not_short, not_open, not_long, count, there, all, take_at octets rest k len) refl

pub length_again : (at n : ℕ) (octets rest : List ℕ) → IsLength octets n → length_at at (octets ++ rest) ≡ Ok (length octets, n)
length_again at n [] rest h = absurd h
length_again at n (first ∷ []) rest h = rw (lt-ltb first 128 h.0, h.1) refl
length_again at n (first ∷ second ∷ more) rest h = rw (h.0, h.2) (long_again at (suc (length more)) (second ∷ more) rest refl (omega arith) h.1)

pub header_again : (at tag n : ℕ) (octets rest : List ℕ) → tag % 32 ≢ 31 → IsLength octets n → header_at at (tag ∷ (octets ++ rest)) ≡ Ok (record { tag = tag; size = 1 + length octets; length = n })
unfolding header_at
header_again at tag n octets rest single h = rw (ne_eqb (tag % 32) 31 single, length_again at n octets rest h) refl

opened_again : (at tag : ℕ) (octets body more : List ℕ) → opened_by (reading_of at (tag ∷ (octets ++ (body ++ more)))) (record { tag = tag; size = 1 + length octets; length = length body }) ≡ Ok (opened_after at tag octets body more)
opened_again at tag octets body more =
    let there : ltb (length (tag ∷ (octets ++ (body ++ more)))) (1 + length octets + length body) ≡ false = le-ltb _ _ (omega (arith, length-append octets (body ++ more), length-append body more)) in
    let behind : drop (1 + length octets) (tag ∷ (octets ++ (body ++ more))) ≡ body ++ more = drop_at (tag ∷ octets) (body ++ more) (1 + length octets) (omega arith) in
    rw (there, behind, take_at body more (length body) refl, drop_at body more (length body) refl) refl

element_bytes : (at tag : ℕ) (octets body more : List ℕ) → tag % 32 ≢ 31 → IsLength octets (length body) → element_at (reading_of at (tag ∷ (octets ++ (body ++ more)))) ≡ Ok (opened_after at tag octets body more)
unfolding element_at
element_bytes at tag octets body more single h =
    ap (λ (found : Result Header BerFault). found >>= opened_by (reading_of at (tag ∷ (octets ++ (body ++ more))))) (header_again at tag (length body) octets (body ++ more) single h)
    ∙ opened_again at tag octets body more

-- an element is read, whatever follows it
pub element_again : (at tag : ℕ) (front body more : List ℕ) (is : IsElement front tag body) → element_at (reading_of at (front ++ more)) ≡ Ok (opened_after at tag is.octets body more)
element_again at tag front body more is =
    let parts : front ++ more ≡ tag ∷ (is.octets ++ (body ++ more)) = ap (λ (bytes : List ℕ). bytes ++ more) is.parts ∙ ap (λ (bytes : List ℕ). tag ∷ bytes) (append_assoc is.octets body more) in
    ap (λ (bytes : List ℕ). element_at (reading_of at bytes)) parts ∙ element_bytes at tag is.octets body more is.one_octet is.spelled

-- what is written for an element is one
pub written_is : (tag : ℕ) (body : List ℕ) → tag % 32 ≢ 31 → length body < 2 ^ 32 → IsElement (element tag body) tag body
written_is tag body single small = record { one_octet = single; octets = length_octets (length body); spelled = spelled (length body) small; parts = refl }

-- ---- what is read is an element

guard : {A : Type 0} (b : Bool) (d : BerFault) (r : Result A BerFault) (y : A) → cond b (Err d) r ≡ Ok y → (b ≡ false) × (r ≡ Ok y)
guard true d r y e = absurd cc
guard false d r y e = (refl, e)

-- the octets of a length, and what follows them
pub record IsLengthOf (bytes : List ℕ) (count n : ℕ) : Type 0 where
  pub octets : List ℕ
  pub rest : List ℕ
  pub parts : bytes ≡ octets ++ rest
  pub spelled : IsLength octets n
  pub count_is : count ≡ length octets

abbrev done : {A : Type 0} → A → Result A BerFault
done x = Ok x

pub ok_is : {A : Type 0} (x y : A) → done x ≡ done y → x ≡ y
ok_is x y e = cc

ok_pair : (k n c m : ℕ) → done {A = ℕ × ℕ} (k, n) ≡ done (c, m) → (k ≡ c) × (n ≡ m)
ok_pair k n c m e =
    let p : ◌≡◌ {A = ℕ × ℕ} (k, n) (c, m) = ok_is (k, n) (c, m) e in
    (ap (λ (x : ℕ × ℕ). x.0) p, ap (λ (x : ℕ × ℕ). x.1) p)

short_taken : (first : ℕ) (octets : List ℕ) (count n : ℕ) → first < 128 → done {A = ℕ × ℕ} (1, first) ≡ done (count, n) → IsLengthOf (first ∷ octets) count n
short_taken first octets count n below e =
    let p = ok_pair 1 first count n e in
    record { octets = first ∷ []; rest = octets; parts = refl; spelled = (below, sym p.1); count_is = sym p.0 }

some_length : (n : ℕ) (taken : List ℕ) (first : ℕ) → first ≡ 128 + length taken → 0 < length taken → length taken ≤ 4 → n ≡ number taken → IsLength (first ∷ taken) n
some_length n [] first e some few is = absurd (omega arith)
some_length n (a ∷ taken) first e some few is = (e, few, is)

long_taken : (first : ℕ) (octets : List ℕ) (count n : ℕ) → 128 < first → first ≤ 132 → first - 128 ≤ length octets → done {A = ℕ × ℕ} (first - 127, number (take (first - 128) octets)) ≡ done (count, n) → IsLengthOf (first ∷ octets) count n
long_taken first octets count n above few there e =
    let p = ok_pair (first - 127) (number (take (first - 128) octets)) count n e in
    let len : length (take (first - 128) octets) ≡ first - 128 = omega (arith, length-take (first - 128) octets) in
    record {
      octets = first ∷ take (first - 128) octets;
      rest = drop (first - 128) octets;
      parts = ap (λ (bytes : List ℕ). first ∷ bytes) (sym (take-append-drop (first - 128) octets));
      spelled = some_length n (take (first - 128) octets) first (omega arith) (omega arith) (omega arith) (sym p.1);
      count_is = omega (arith, p.0);
    }

length_taken : (at : ℕ) (bytes : List ℕ) (count n : ℕ) → length_at at bytes ≡ Ok (count, n) → IsLengthOf bytes count n
length_taken at [] count n e = absurd cc
length_taken at (first ∷ octets) count n e =
    elim (cases_lt first 128) [
      | inl below ↦ short_taken first octets count n below (rw (lt-ltb first 128 below) at e)
      | inr above ↦
          let e1 = rw (le-ltb first 128 above) at e in
          let g1 = guard (eqb first 128) (Indefinite at) _ _ e1 in
          let g2 = guard (ltb 132 first) (TooLong at) _ _ g1.1 in
          let g3 = guard (ltb (length octets) (first - 128)) Short _ _ g2.1 in
          let few : first ≤ 132 = ltb-false _ _ g2.0 in
          let there : first - 128 ≤ length octets = ltb-false _ _ g3.0 in
          let not_open : first ≡ 128 → ⊥ = eqb-false _ _ g1.0 in
          long_taken first octets count n (omega arith) few there g3.1
    ]

-- the tag, the octets of the length, and what follows them
pub record IsHeaderOf (bytes : List ℕ) (h : Header) : Type 0 where
  pub octets : List ℕ
  pub rest : List ℕ
  pub parts : bytes ≡ h.tag ∷ (octets ++ rest)
  pub one_octet : h.tag % 32 ≢ 31
  pub spelled : IsLength octets h.length
  pub size_is : h.size ≡ 1 + length octets

bind_ok : {A B : Type 0} (r : Result A BerFault) (f : A → Result B BerFault) (y : B) → (r >>= f) ≡ Ok y → (x : A) × (r ≡ Ok x) × (f x ≡ Ok y)
bind_ok (Ok x) f y e = (x, refl, e)
bind_ok (Err d) f y e = absurd cc

header_taken : (at : ℕ) (bytes : List ℕ) (h : Header) → header_at at bytes ≡ Ok h → IsHeaderOf bytes h
unfolding header_at
header_taken at [] h e = absurd cc
header_taken at (tag ∷ octets) h e =
    let g = guard (eqb (tag % 32) 31) (BadTag at) _ _ e in
    let b = bind_ok (length_at at octets) (λ found. Ok (record { tag = tag; size = 1 + found.0; length = found.1 })) h g.1 in
    let is : record { tag = tag; size = 1 + b.0.0; length = b.0.1 } ≡ h = ok_is _ _ b.2 in
    let l = length_taken at octets b.0.0 b.0.1 b.1 in
    subst (λ (x : Header). IsHeaderOf (tag ∷ octets) x) is (record {
      octets = l.octets;
      rest = l.rest;
      parts = ap (λ (bytes : List ℕ). tag ∷ bytes) l.parts;
      one_octet = eqb-false _ _ g.0;
      spelled = l.spelled;
      size_is = ap (λ (n : ℕ). 1 + n) l.count_is;
    })

-- the bytes of an element, and what follows them
pub record IsOpenedOf (at : ℕ) (bytes : List ℕ) (o : Opened) : Type 0 where
  pub front : List ℕ
  pub is : IsElement front o.tag o.contents.rest
  pub parts : bytes ≡ front ++ o.after.rest
  pub moved : o.after.at ≡ at + length front

opened_parts : (r : Reading) (h : Header) (octets rest : List ℕ) → r.rest ≡ h.tag ∷ (octets ++ rest) → h.tag % 32 ≢ 31 → IsLength octets h.length → h.size ≡ 1 + length octets → h.size + h.length ≤ length r.rest
    → IsOpenedOf r.at r.rest (record { tag = h.tag; contents = reading_of (r.at + h.size) (take h.length (drop h.size r.rest)); after = reading_of (r.at + h.size + h.length) (drop h.length (drop h.size r.rest)) })
opened_parts r h octets rest parts single spelled size_is there =
    let behind : drop h.size r.rest ≡ rest = ap (λ (bytes : List ℕ). drop h.size bytes) parts ∙ drop_at (h.tag ∷ octets) rest h.size (omega arith) in
    let long : length r.rest ≡ 1 + (length octets + length rest) = ap length parts ∙ omega (arith, length-append octets rest) in
    let len : length (take h.length (drop h.size r.rest)) ≡ h.length = rw behind (omega (arith, length-take h.length rest)) in
    let whole : take h.length (drop h.size r.rest) ++ drop h.length (drop h.size r.rest) ≡ rest = take-append-drop h.length (drop h.size r.rest) ∙ behind in
    record {
      front = h.tag ∷ (octets ++ take h.length (drop h.size r.rest));
      is = record { one_octet = single; octets = octets; spelled = rw len spelled; parts = refl };
      parts = parts ∙ ap (λ (bytes : List ℕ). h.tag ∷ bytes) (ap (λ (bytes : List ℕ). octets ++ bytes) (sym whole) ∙ sym (append_assoc octets (take h.length (drop h.size r.rest)) (drop h.length (drop h.size r.rest))));
      moved = omega (arith, len, length-append octets (take h.length (drop h.size r.rest)));
    }

-- what is read is an element in front
pub element_taken : (r : Reading) (o : Opened) → element_at r ≡ Ok o → IsOpenedOf r.at r.rest o
unfolding element_at
element_taken r o e =
    let b = bind_ok (header_at r.at r.rest) (opened_by r) o e in
    let h = header_taken r.at r.rest b.0 b.1 in
    let g = guard (ltb (length r.rest) (b.0.size + b.0.length)) Short _ _ b.2 in
    let is = ok_is _ _ g.1 in
    subst (λ (x : Opened). IsOpenedOf r.at r.rest x) is (opened_parts r b.0 h.octets h.rest h.parts h.one_octet h.spelled h.size_is (ltb-false _ _ g.0))

none_left : {A : Type 0} {x : A} → done {A = Option A} None ≡ done (Some x) → ⊥
none_left e = cc

some_is : {A : Type 0} (x y : A) → Some x ≡ Some y → x ≡ y
some_is x y e = cc

-- ---- the two for what next gives

-- what follows an element is where reading goes on
after_taken : (r : Reading) (o : Opened) (x : Element) → IsOpenedOf r.at r.rest o → seen_in r o ≡ x → Takes r o.after x.tag x.body
after_taken r o x is e =
    let t : o.tag ≡ x.tag = ap (λ (y : Element). y.tag) e in
    let b : o.contents.rest ≡ x.body = ap (λ (y : Element). y.body) e in
    record {
      front = is.front;
      is = subst (λ (n : ℕ). IsElement is.front n x.body) t (subst (λ (bytes : List ℕ). IsElement is.front o.tag bytes) b is.is);
      parts = is.parts;
      moved = is.moved;
    }

-- what next_of gives, where it is an element
record IsNext (r : Reading) (x : Element) : Type 0 where
  opened : Opened
  read : element_at r ≡ Ok opened
  seen_is : seen_in r opened ≡ x
  after_is : after_next r ≡ opened.after

next_at : (r : Reading) (x : Element) → next_of r ≡ Ok (Some x) → IsNext r x
next_at r x e =
    elim (cases_eq (length r.rest) 0) [
      | inl none ↦ absurd (none_left (rw (eq-eqb (length r.rest) 0 none) at e))
      | inr some ↦
          let e1 = rw (ne_eqb (length r.rest) 0 some) at e in
          let b = bind_ok (element_at r) (λ o. Ok (Some (seen_in r o))) (Some x) e1 in
          let same : Some (seen_in r b.0) ≡ Some x = ok_is _ _ b.2 in
          record {
            opened = b.0;
            read = b.1;
            seen_is = some_is _ _ same;
            after_is = cond-false (eqb (length r.rest) 0) r (after_read r (element_at r)) (ne_eqb (length r.rest) 0 some) ∙ ap (after_read r) b.1;
          }
    ]

pub found_from : (old new : Reading) (result : Result (Option Tlv) BerFault) → seen result ≡ next_of old → new ≡ after_next old → Found old new result
found_from old new (Ok None) e a = tt
found_from old new (Ok (Some tlv)) e a =
    let n = next_at old (element_of tlv) (sym e) in
    subst (λ (r : Reading). Takes old r tlv.tag tlv.body.now) (sym (a ∙ n.after_is)) (after_taken old n.opened (element_of tlv) (element_taken old n.opened n.read) n.seen_is)
found_from old new (Err fault) e a = tt

-- an element in front is given
front_given : (r : Reading) (tag : ℕ) (front body more : List ℕ) → IsElement front tag body → r.rest ≡ front ++ more → (next_of r ≡ Ok (Some (record { tag = tag; at = r.at; body = body }))) × (after_next r ≡ reading_of (r.at + length front) more)
front_given r tag front body more is parts =
    let long : length r.rest ≡ length front + length more = ap length parts ∙ length-append front more in
    let some_front : length front ≡ suc (length (is.octets ++ body)) = ap length is.parts in
    let some : length r.rest ≡ 0 → ⊥ = λ none. omega arith in
    let read : element_at r ≡ Ok (opened_after r.at tag is.octets body more) = ap (λ (bytes : List ℕ). element_at (reading_of r.at bytes)) parts ∙ element_again r.at tag front body more is in
    let place : r.at + (1 + length is.octets) + length body ≡ r.at + length front = omega (arith, some_front, length-append is.octets body) in
    (rw (ne_eqb (length r.rest) 0 some, read) refl, rw (ne_eqb (length r.rest) 0 some, read, place) refl)

pub given_from : (old new : Reading) (result : Result (Option Tlv) BerFault) → seen result ≡ next_of old → new ≡ after_next old → Given old new result
given_from old new result e a tag front body more is parts =
    let g = front_given old tag front body more is parts in
    (e ∙ g.0, ap (λ (r : Reading). r.rest) (a ∙ g.1))

pub reads_back_lem : ReadsBack
reads_back_lem tag at body more single small = front_given (reading_of at (element tag body ++ more)) tag (element tag body) body more (written_is tag body single small) refl
