-- What is written is read again: the parts.
use Rattle.std.proofs.Common.{◌≡◌, ◌≢◌, ℕ, zero, suc, ℤ, pos, ◌+◌, ◌/◌, ◌%◌, ◌^◌, ◌<◌, ◌≤◌, Bool, true, false, eqb, List, [], ◌∷◌, ◌++◌, length, drop, Result, Ok, refl, sym, ap, ◌∙◌, arith, inl, inr, w64, w32}
use Rattle.std.specs.List.{flat_map}
use Rattle.std.specs.Int.{to_be_bytes, from_be_bytes, cast_signed}
use Rattle.std.proofs.lemmas.Bool.{cases_lt, le-ltb, lt-ltb, ne_eqb, eq-eqb, le-leb}
use Rattle.std.proofs.lemmas.List.{append-nil, length-append, length-drop}
use Rattle.std.proofs.lemmas.Int.{to_z_pos}
use Rattle.std.proofs.lemmas.Bool.Decides.{nat_tests}
use Rattle.sd_ber.specs.Octets.{element, length_octets, twos_complement}
use Rattle.sd_ber.specs.Reading.{Reading, reading_of, opened_after, integer_at}
use Rattle.sd_ber.proofs.Lengths.{spelled}
use Rattle.sd_ber.proofs.Elements.{element_again}
use Rattle.sd_ldap.specs.declared.entry.Attribute.{Attribute}
use Rattle.sd_ldap.specs.declared.entry.DirEntry.{DirEntry}
use Rattle.sd_ldap.specs.declared.result.LdapResult.{LdapResult}
use Rattle.sd_ldap.specs.Monad.{each, all_of}
use Rattle.sd_ldap.specs.Parts.{placed, part_at, expected, text_in, within, number_in, truth_in, texts_in, passed, attribute_in, attributes_in, entry_in, result_in}
use Rattle.sd_ldap.specs.Spelling.{unneeded, octets_of, number_bytes, text_bytes, truth_octet, truth_bytes, inside, texts_bytes, attribute_bytes, attributes_bytes, entry_bytes, result_bytes}

-- a tag has one octet
abbrev pub Single : ℕ → Type 0
Single tag = tag % 32 ≢ 31

-- ---- one element

pub longer : (tag : ℕ) (body : List ℕ) → length body < length (element tag body)
longer tag body = omega (arith, length-append (length_octets (length body)) body)

pub inside_longer : (tag : ℕ) (body : List ℕ) → length body < length (inside tag body)
unfolding inside
inside_longer tag body = longer tag body

pub text_longer : (tag : ℕ) (text : List ℕ) → length text < length (text_bytes tag text)
unfolding text_bytes
text_longer tag text = longer tag text

-- an element of contents is read, and these and what follows stand at some places
pub record PartAgain (at tag : ℕ) (body more : List ℕ) : Type 0 where
  pub start : ℕ
  pub place : ℕ
  pub read : part_at (reading_of at (element tag body ++ more)) ≡ Ok (record { tag = tag; contents = reading_of start body; after = reading_of place more })

part_read : (at tag : ℕ) (body more : List ℕ) → Single tag → length body < 2 ^ 32 → part_at (reading_of at (element tag body ++ more)) ≡ Ok (opened_after at tag (length_octets (length body)) body more)
unfolding part_at
part_read at tag body more single small = ap (placed at) (element_again at tag (element tag body) body more (record { one_octet = single; octets = length_octets (length body); spelled = spelled (length body) small; parts = refl }))

pub part_again : (at tag : ℕ) (body more : List ℕ) → Single tag → length body < 2 ^ 32 → PartAgain at tag body more
part_again at tag body more single small =
    record {
      start = at + (1 + length (length_octets (length body)));
      place = at + (1 + length (length_octets (length body))) + length body;
      read = part_read at tag body more single small;
    }

pub record ExpectedAgain (at tag : ℕ) (body more : List ℕ) : Type 0 where
  pub start : ℕ
  pub place : ℕ
  pub read : expected tag (reading_of at (inside tag body ++ more)) ≡ Ok (reading_of start body, reading_of place more)

expected_read : (at tag : ℕ) (body more : List ℕ) (p : PartAgain at tag body more) → expected tag (reading_of at (inside tag body ++ more)) ≡ Ok (reading_of p.start body, reading_of p.place more)
unfolding expected inside
expected_read at tag body more p = rw (p.read, eq-eqb tag tag refl) refl

pub expected_again : (at tag : ℕ) (body more : List ℕ) → Single tag → length body < 2 ^ 32 → ExpectedAgain at tag body more
expected_again at tag body more single small =
    let p = part_again at tag body more single small in
    record { start = p.start; place = p.place; read = expected_read at tag body more p }

-- the same at the end of a parent
pub expected_last : (at tag : ℕ) (body : List ℕ) (e : ExpectedAgain at tag body []) → expected tag (reading_of at (inside tag body)) ≡ Ok (reading_of e.start body, reading_of e.place [])
expected_last at tag body e = ap (λ (bytes : List ℕ). expected tag (reading_of at bytes)) (sym (append-nil (inside tag body))) ∙ e.read

-- ---- a value that is read again, whatever follows

pub record Again {A : Type 0} (one : Reading → Result (A × Reading) ℕ) (at : ℕ) (bytes : List ℕ) (x : A) (more : List ℕ) : Type 0 where
  pub place : ℕ
  pub read : one (reading_of at (bytes ++ more)) ≡ Ok (x, reading_of place more)

pub at_last : {A : Type 0} (one : Reading → Result (A × Reading) ℕ) (at : ℕ) (bytes : List ℕ) (x : A) (again : Again one at bytes x []) → one (reading_of at bytes) ≡ Ok (x, reading_of again.place [])
at_last one at bytes x again = ap (λ (all : List ℕ). one (reading_of at all)) (sym (append-nil bytes)) ∙ again.read

text_read : (tag at : ℕ) (text more : List ℕ) (e : ExpectedAgain at tag text more) → text_in tag (reading_of at (text_bytes tag text ++ more)) ≡ Ok (text, reading_of e.place more)
unfolding text_in text_bytes inside
text_read tag at text more e = rw e.read refl

pub text_again : (tag at : ℕ) (text more : List ℕ) → Single tag → length (text_bytes tag text) < 2 ^ 32 → Again (text_in tag) at (text_bytes tag text) text more
text_again tag at text more single small =
    let e = expected_again at tag text more single (omega (arith, text_longer tag text)) in
    record { place = e.place; read = text_read tag at text more e }

-- ---- numbers

same_octets : (n : ℕ) (octets : List ℕ) → n < 2 ^ 32 → from_be_bytes w64 octets ≡ n → cast_signed w64 (from_be_bytes w64 octets) ≡ pos n
same_octets n octets h e =
    let small : from_be_bytes w64 octets < 2 ^ 63 = omega (arith, e) in
    to_z_pos w64 (from_be_bytes w64 octets) small ∙ ap (λ (k : ℕ). pos k) e

one_octet : (n : ℕ) → n < 128 → twos_complement (octets_of n) ≡ pos n
one_octet n h =
    rw (lt-ltb n 128 h, lt-ltb (n % 256) 128 (omega arith))
    (same_octets n (0 ∷ 0 ∷ 0 ∷ 0 ∷ 0 ∷ 0 ∷ 0 ∷ (n % 256) ∷ []) (omega arith) (omega arith))

two_octets : (n : ℕ) → 128 ≤ n → n < 32768 → twos_complement (octets_of n) ≡ pos n
two_octets n l h =
    rw (le-ltb n 128 l, lt-ltb n 32768 h, lt-ltb (n / 256 % 256) 128 (omega arith))
    (same_octets n (0 ∷ 0 ∷ 0 ∷ 0 ∷ 0 ∷ 0 ∷ (n / 256 % 256) ∷ (n % 256) ∷ []) (omega arith) (omega arith))

three_octets : (n : ℕ) → 32768 ≤ n → n < 8388608 → twos_complement (octets_of n) ≡ pos n
three_octets n l h =
    rw (le-ltb n 128 (omega arith), le-ltb n 32768 l, lt-ltb n 8388608 h, lt-ltb (n / 65536 % 256) 128 (omega arith))
    (same_octets n (0 ∷ 0 ∷ 0 ∷ 0 ∷ 0 ∷ (n / 65536 % 256) ∷ (n / 256 % 256) ∷ (n % 256) ∷ []) (omega arith) (omega arith))

four_octets : (n : ℕ) → 8388608 ≤ n → n < 2147483648 → twos_complement (octets_of n) ≡ pos n
four_octets n l h =
    rw (le-ltb n 128 (omega arith), le-ltb n 32768 (omega arith), le-ltb n 8388608 l, lt-ltb n 2147483648 h, lt-ltb (n / 16777216 % 256) 128 (omega arith))
    (same_octets n (0 ∷ 0 ∷ 0 ∷ 0 ∷ (n / 16777216 % 256) ∷ (n / 65536 % 256) ∷ (n / 256 % 256) ∷ (n % 256) ∷ []) (omega arith) (omega arith))

five_octets : (n : ℕ) → 2147483648 ≤ n → n < 2 ^ 32 → twos_complement (octets_of n) ≡ pos n
five_octets n l h =
    rw (le-ltb n 128 (omega arith), le-ltb n 32768 (omega arith), le-ltb n 8388608 (omega arith), le-ltb n 2147483648 l)
    (same_octets n (0 ∷ 0 ∷ 0 ∷ 0 ∷ (n / 16777216 % 256) ∷ (n / 65536 % 256) ∷ (n / 256 % 256) ∷ (n % 256) ∷ []) h (omega arith))

-- the octets that are written for a number spell it
pub number_octets : (n : ℕ) → n < 2 ^ 32 → twos_complement (octets_of n) ≡ pos n
number_octets n h =
    elim (cases_lt n 128) [
      | inl a ↦ one_octet n a
      | inr a ↦
          elim (cases_lt n 32768) [
            | inl b ↦ two_octets n a b
            | inr b ↦
                elim (cases_lt n 8388608) [
                  | inl c ↦ three_octets n b c
                  | inr c ↦ elim (cases_lt n 2147483648) [ inl d ↦ four_octets n c d | inr d ↦ five_octets n d h ]
                ]
          ]
    ]

few_octets : (k : ℕ) (xs : List ℕ) → length xs ≡ 5 → k ≤ 4 → (length (drop k xs) ≡ 0 → ⊥) × (length (drop k xs) ≤ 5)
few_octets k xs len h = (λ e. omega (arith, length-drop k xs), omega (arith, length-drop k xs))

unneeded_few : (n : ℕ) → unneeded n ≤ 4
unneeded_few n = grind (arith, nat_tests)

octets_count : (n : ℕ) → (length (octets_of n) ≡ 0 → ⊥) × (length (octets_of n) ≤ 5)
octets_count n = few_octets (unneeded n) (0 ∷ to_be_bytes w32 n) refl (unneeded_few n)

integer_again : (at : ℕ) (octets : List ℕ) (z : ℤ) → (length octets ≡ 0 → ⊥) → length octets ≤ 5 → twos_complement octets ≡ z → integer_at at octets ≡ Ok z
integer_again at octets z some few e = rw (ne_eqb (length octets) 0 some, le-ltb 8 (length octets) (omega arith), e) refl

within_again : (at least most n : ℕ) → least ≤ n → n ≤ most → within at least most (pos n) ≡ Ok n
within_again at least most n l m = rw (le-leb least n l, le-leb n most m) refl

number_read : (tag at least most n : ℕ) (more : List ℕ) (e : ExpectedAgain at tag (octets_of n) more) → integer_at at (octets_of n) ≡ Ok (pos n) → within at least most (pos n) ≡ Ok n → number_in tag least most (reading_of at (number_bytes tag n ++ more)) ≡ Ok (n, reading_of e.place more)
unfolding number_in number_bytes inside
number_read tag at least most n more e i w = rw (e.read, i, w) refl

pub number_again : (tag at least most n : ℕ) (more : List ℕ) → Single tag → least ≤ n → n ≤ most → n < 2 ^ 32 → Again (number_in tag least most) at (number_bytes tag n) n more
number_again tag at least most n more single l m small =
    let count = octets_count n in
    let e = expected_again at tag (octets_of n) more single (omega (arith, count.1)) in
    let i : integer_at at (octets_of n) ≡ Ok (pos n) = integer_again at (octets_of n) (pos n) count.0 count.1 (number_octets n small) in
    record { place = e.place; read = number_read tag at least most n more e i (within_again at least most n l m) }

truth_read : (at : ℕ) (b : Bool) (more : List ℕ) (e : ExpectedAgain at 1 (truth_octet b ∷ []) more) → truth_in (reading_of at (truth_bytes b ++ more)) ≡ Ok (b, reading_of e.place more)
unfolding truth_in truth_bytes inside
truth_read at true more e = rw e.read refl
truth_read at false more e = rw e.read refl

pub truth_again : (at : ℕ) (b : Bool) (more : List ℕ) → Again truth_in at (truth_bytes b) b more
truth_again at b more =
    let e = expected_again at 1 (truth_octet b ∷ []) more (λ z. omega arith) (omega arith) in
    record { place = e.place; read = truth_read at b more e }

-- ---- one after another

nonempty : (r : Reading) → 0 < length r.rest → eqb (length r.rest) 0 ≡ false
nonempty r h = ne_eqb (length r.rest) 0 (λ e. omega arith)

module _ {A : Type 0} (one : Reading → Result (A × Reading) ℕ) (spell : A → List ℕ) (some : (x : A) → 0 < length (spell x)) (again : (at : ℕ) (x : A) (more : List ℕ) → length (spell x) < 2 ^ 32 → Again one at (spell x) x more) where
  count_le : (xs : List A) → length xs ≤ length (flat_map spell xs)
  count_le [] = omega arith
  count_le (x ∷ xs) = omega (arith, length-append (spell x) (flat_map spell xs), some x, count_le xs)

  each_none : (n at : ℕ) → each one n (reading_of at []) ≡ Ok []
  unfolding each
  each_none zero at = refl
  each_none (suc n) at = refl

  each_more : (n at : ℕ) (x : A) (rest : List ℕ) (xs : List A) (a : Again one at (spell x) x rest) → each one n (reading_of a.place rest) ≡ Ok xs → each one (suc n) (reading_of at (spell x ++ rest)) ≡ Ok (x ∷ xs)
  unfolding each
  each_more n at x rest xs a e =
      let long : 0 < length (spell x ++ rest) = omega (arith, length-append (spell x) rest, some x) in
      rw (nonempty (reading_of at (spell x ++ rest)) long, a.read, e) refl

  each_again : (xs : List A) (n at : ℕ) → length xs ≤ n → length (flat_map spell xs) < 2 ^ 32 → each one n (reading_of at (flat_map spell xs)) ≡ Ok xs
  each_again [] n at le small = each_none n at
  each_again (x ∷ xs) zero at le small = absurd (omega arith)
  each_again (x ∷ xs) (suc n) at le small =
      let both = length-append (spell x) (flat_map spell xs) in
      let a = again at x (flat_map spell xs) (omega (arith, both)) in
      each_more n at x (flat_map spell xs) xs a (each_again xs n a.place (omega arith) (omega (arith, both)))

  pub all_again : (xs : List A) (at : ℕ) → length (flat_map spell xs) < 2 ^ 32 → all_of one (reading_of at (flat_map spell xs)) ≡ Ok xs
  all_again xs at small = each_again xs (length (flat_map spell xs)) at (count_le xs) small

pub texts_again : (at : ℕ) (texts : List (List ℕ)) → length (texts_bytes 4 texts) < 2 ^ 32 → texts_in (reading_of at (texts_bytes 4 texts)) ≡ Ok texts
unfolding texts_in
texts_again at texts small =
    all_again (text_in 4) (text_bytes 4) (λ text. omega (arith, text_longer 4 text)) (λ at text more small. text_again 4 at text more (λ z. omega arith) small) texts at small

attribute_read : (at : ℕ) (a : Attribute) (more : List ℕ) (p : ExpectedAgain at 48 (text_bytes 4 a.name ++ inside 49 (texts_bytes 4 a.values)) more) (n : Again (text_in 4) p.start (text_bytes 4 a.name) a.name (inside 49 (texts_bytes 4 a.values))) (s : ExpectedAgain n.place 49 (texts_bytes 4 a.values) [])
    → texts_in (reading_of s.start (texts_bytes 4 a.values)) ≡ Ok a.values → attribute_in (reading_of at (attribute_bytes a ++ more)) ≡ Ok (a, reading_of p.place more)
unfolding attribute_in
attribute_read at a more p n s t = rw (p.read, n.read, expected_last n.place 49 (texts_bytes 4 a.values) s, t) refl

pub attribute_again : (at : ℕ) (a : Attribute) (more : List ℕ) → length (attribute_bytes a) < 2 ^ 32 → Again attribute_in at (attribute_bytes a) a more
attribute_again at a more small =
    let set = inside 49 (texts_bytes 4 a.values) in
    let l1 = inside_longer 48 (text_bytes 4 a.name ++ set) in
    let l2 = length-append (text_bytes 4 a.name) set in
    let l3 = inside_longer 49 (texts_bytes 4 a.values) in
    let p = expected_again at 48 (text_bytes 4 a.name ++ set) more (λ z. omega arith) (omega (arith, l1)) in
    let n = text_again 4 p.start a.name set (λ z. omega arith) (omega (arith, l1, l2)) in
    let s = expected_again n.place 49 (texts_bytes 4 a.values) [] (λ z. omega arith) (omega (arith, l1, l2, l3)) in
    let t = texts_again s.start a.values (omega (arith, l1, l2, l3)) in
    record { place = p.place; read = attribute_read at a more p n s t }

pub attributes_again : (at : ℕ) (list : List Attribute) → length (attributes_bytes list) < 2 ^ 32 → attributes_in (reading_of at (attributes_bytes list)) ≡ Ok list
unfolding attributes_in
attributes_again at list small =
    all_again attribute_in attribute_bytes (λ a. omega (arith, inside_longer 48 (text_bytes 4 a.name ++ inside 49 (texts_bytes 4 a.values)))) attribute_again list at small

pub entry_again : (at : ℕ) (e : DirEntry) → length (entry_bytes e) < 2 ^ 32 → entry_in (reading_of at (entry_bytes e)) ≡ Ok e
unfolding entry_in
entry_again at e small =
    let list = inside 48 (attributes_bytes e.attributes) in
    let l1 = length-append (text_bytes 4 e.dn) list in
    let l2 = inside_longer 48 (attributes_bytes e.attributes) in
    let d = text_again 4 at e.dn list (λ z. omega arith) (omega (arith, l1)) in
    let p = expected_again d.place 48 (attributes_bytes e.attributes) [] (λ z. omega arith) (omega (arith, l1, l2)) in
    let a = attributes_again p.start e.attributes (omega (arith, l1, l2)) in
    rw (d.read, expected_last d.place 48 (attributes_bytes e.attributes) p, a) refl

pub passed_none : (at : ℕ) → passed (reading_of at []) ≡ Ok []
unfolding passed each
passed_none at = refl

pub result_again : (at : ℕ) (r : LdapResult) → r.code < 2 ^ 32 → length (result_bytes r) < 2 ^ 32 → result_in (reading_of at (result_bytes r)) ≡ Ok r
unfolding result_in
result_again at r code small =
    let l1 = length-append (number_bytes 10 r.code) (text_bytes 4 r.dn ++ text_bytes 4 r.message) in
    let l2 = length-append (text_bytes 4 r.dn) (text_bytes 4 r.message) in
    let c = number_again 10 at 0 4294967295 r.code (text_bytes 4 r.dn ++ text_bytes 4 r.message) (λ z. omega arith) (omega arith) (omega arith) code in
    let d = text_again 4 c.place r.dn (text_bytes 4 r.message) (λ z. omega arith) (omega (arith, l1, l2)) in
    let m = text_again 4 d.place r.message [] (λ z. omega arith) (omega (arith, l1, l2)) in
    rw (c.read, d.read, at_last (text_in 4) d.place (text_bytes 4 r.message) r.message m, passed_none m.place) refl
