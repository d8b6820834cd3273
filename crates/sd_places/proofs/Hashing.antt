-- Equal DNs and equal values have equal numbers.
use Rattle.std.proofs.Common.{◌≡◌, ◌≢◌, ℕ, zero, suc, ◌+◌, ◌-◌, ◌*◌, ◌%◌, Bool, true, false, eqb, List, [], ◌∷◌, length, drop, map, refl, sym, ap, ◌∙◌, arith, inl, inr, Option, Some, None}
use Rattle.std.specs.Prelude.{◌⊎◌, ◌&&◌, ◌||◌, if◌then◌else◌, nat_le, fold, codes, Result, Ok, Err, is_ok}
use Rattle.std.specs.Result.{result_ok}
use Rattle.std.specs.List.{list_any, list_all}
use Rattle.std.specs.Char.{to_ascii_lowercase}
use Rattle.std.specs.Cmp.Lexicographic.{bytes_decides}
use Rattle.std.proofs.lemmas.Bool.{cases_Bool, eqb-true}
use Rattle.std.proofs.lemmas.List.{drop-map}
use Rattle.std.proofs.lemmas.List.Folds.{list_any-append}
use Rattle.sd_entry.specs.Values.{is_digit, value_of}
use Rattle.sd_dn.specs.declared.Pair.{Pair}
use Rattle.sd_dn.specs.Comparing.{same_text, same_dn, ends_with}
use Rattle.sd_dn.specs.Reading.{is_dn}
use Rattle.sd_dn.specs.Texts.{spelled, both_meet, same_dn_text}
use Rattle.sd_ldap.specs.declared.entry.Attribute.{Attribute}
use Rattle.sd_ldap.specs.declared.entry.DirEntry.{DirEntry}
use Rattle.sd_match.specs.Matching.{holds_dns, holds_numbers, are_digits, equal_dns, equal_numbers, equals, has_value}
use Rattle.sd_match.specs.Answering.{is_child, in_scope}
use Rattle.sd_names.specs.declared.naming.Part.{Part}
use Rattle.sd_names.specs.Naming.{lower, lower_pair, lower_dn}
use Rattle.sd_names.proofs.Names.{texts_same, dns_same, levels_decide, texts_equal}
use Rattle.sd_places.specs.Numbers.{one_more, mixed, bytes_number, levels_number, base_numbers, base_number, dn_value_number, text_value_number, value_number, values_numbers, attributes_numbers, place_numbers, entry_numbers}

both_so : (s t : Bool) → (s && t) ≡ true → (s ≡ true) × (t ≡ true)
both_so true t h = (refl, h)
both_so false t h = cc

-- ---- without case

lowered : (a b : List ℕ) → same_text a b ≡ true → lower a ≡ lower b
lowered a b h = (bytes_decides (lower a) (lower b)).0 (texts_same a b ∙ h)

dn_lowered : (a b : List (List Pair)) → same_dn a b ≡ true → lower_dn a ≡ lower_dn b
dn_lowered a b h = levels_decide (lower_dn a) (lower_dn b) (dns_same a b ∙ h)

alike : (a b c : List ℕ) → lower a ≡ lower b → same_text a c ≡ same_text b c
alike a b c e = sym (texts_same a c) ∙ ap (λ (t : List ℕ). texts_equal t (lower c)) e ∙ texts_same b c

holds_dns_alike : (a b : List ℕ) → lower a ≡ lower b → holds_dns a ≡ holds_dns b
holds_dns_alike a b e =
    rw (alike a b (codes "member") e, alike a b (codes "memberOf") e, alike a b (codes "memberUser") e, alike a b (codes "memberHost") e, alike a b (codes "memberService") e) refl

holds_numbers_alike : (a b : List ℕ) → lower a ≡ lower b → holds_numbers a ≡ holds_numbers b
holds_numbers_alike a b e = rw (alike a b (codes "uidNumber") e, alike a b (codes "gidNumber") e) refl

-- ---- digits

digit_lower : (b : ℕ) → is_digit b ≡ true → to_ascii_lowercase b ≡ b
digit_lower b h =
    let parts : (nat_le 48 b ≡ true) × (nat_le b 57 ≡ true) = both_so (nat_le 48 b) (nat_le b 57) h in
    grind (arith, parts.0, parts.1)

remainder_more : (n d : ℕ) → ((n % 4294967291) * 10 + d) % 4294967291 ≡ (10 * n + d) % 4294967291
remainder_more n d = omega arith

digit_more : (n b : ℕ) → is_digit b ≡ true → one_more true (n % 4294967291) (to_ascii_lowercase b) ≡ (10 * n + (b - 48)) % 4294967291
unfolding one_more
digit_more n b h = ap (λ (x : ℕ). ((n % 4294967291) * 10 + (x - 48)) % 4294967291) (digit_lower b h) ∙ remainder_more n (b - 48)

digits_from : (n : ℕ) (text : List ℕ) → list_all is_digit text ≡ true
    → fold (λ (n b : ℕ). one_more true n b) (n % 4294967291) (lower text) ≡ fold (λ n b. 10 * n + (b - 48)) n text % 4294967291
digits_from n [] h = refl
digits_from n (b ∷ bs) h =
    let parts : (is_digit b ≡ true) × (list_all is_digit bs ≡ true) = both_so (is_digit b) (list_all is_digit bs) h in
    ap (λ (x : ℕ). fold (λ (n b : ℕ). one_more true n b) x (lower bs)) (digit_more n b parts.0) ∙ digits_from (10 * n + (b - 48)) bs parts.1

digits_number : (text : List ℕ) → are_digits text ≡ true → bytes_number true (lower text) ≡ value_of text % 4294967291
digits_number text h = digits_from 0 text (both_so (nat_le 1 (length text)) (list_all is_digit text) h).1

-- ---- values

same_numbers : (a b : List ℕ) → equal_numbers a b ≡ true → bytes_number true (lower a) ≡ bytes_number true (lower b)
same_numbers a b h =
    elim (cases_Bool (are_digits a && are_digits b)) [
      | inl e ↦
          let parts : (are_digits a ≡ true) × (are_digits b ≡ true) = both_so (are_digits a) (are_digits b) e in
          let same : eqb (value_of a) (value_of b) ≡ true = rw e at h in
          let equal : value_of a ≡ value_of b = eqb-true (value_of a) (value_of b) same in
          digits_number a parts.0 ∙ ap (λ (n : ℕ). n % 4294967291) equal ∙ sym (digits_number b parts.1)
      | inr e ↦ let same : same_text a b ≡ true = rw e at h in ap (λ (t : List ℕ). bytes_number true t) (lowered a b same)
    ]

ok_some : {A E : Type 0} (r : Result A E) (a : A) → result_ok r ≡ Some a → is_ok r ≡ true
ok_some (Ok x) a h = refl
ok_some (Err x) a h = cc

spelled_dn : (text : List ℕ) (dn : List (List Pair)) → spelled text ≡ Some dn → is_dn text ≡ true
spelled_dn text dn h = ok_some _ dn h

meets : (test : List (List Pair) → List (List Pair) → Bool) (a b : Option (List (List Pair))) (v d : List (List Pair)) → a ≡ Some v → b ≡ Some d → both_meet test a b ≡ true → test v d ≡ true
meets test a b v d ea eb h = ap (λ (o : Option (List (List Pair))). both_meet test o (Some d)) (sym ea) ∙ ap (λ (o : Option (List (List Pair))). both_meet test a o) (sym eb) ∙ h

both_dns : (value asked : List ℕ) → is_dn value ≡ true → is_dn asked ≡ true → equal_dns value asked ≡ true → same_dn_text value asked ≡ true
both_dns value asked first second h = chosen (is_dn value) (is_dn asked) first second h
  where
    chosen : (s t : Bool) → s ≡ true → t ≡ true → (if s && t then same_dn_text value asked else same_text value asked) ≡ true → same_dn_text value asked ≡ true
    chosen true true e f g = g
    chosen true false e f g = cc
    chosen false t e f g = cc

-- a value that equals a DN has its number, unless it is no DN
same_dns : (test : ℕ → Bool) (name value asked : List ℕ) (v d : Option (List (List Pair))) → spelled value ≡ v → spelled asked ≡ d → equal_dns value asked ≡ true → dn_value_number name d ≢ 0
    → test (dn_value_number name d) ≡ true → test 0 ≡ true → test (dn_value_number name v) ≡ true
same_dns test name value asked v None ev ed h some t z = absurd (some refl)
same_dns test name value asked None (Some d) ev ed h some t z = z
same_dns test name value asked (Some v) (Some d) ev ed h some t z =
    let meet : same_dn_text value asked ≡ true = both_dns value asked (spelled_dn value v ev) (spelled_dn asked d ed) h in
    let same : same_dn v d ≡ true = meets same_dn (spelled value) (spelled asked) v d ev ed meet in
    ap (λ (l : List (List Part)). test (mixed (bytes_number false (lower name)) (levels_number l))) (dn_lowered v d same) ∙ t

dn_named : (own name : List ℕ) (o : Option (List (List Pair))) → lower own ≡ lower name → dn_value_number own o ≡ dn_value_number name o
dn_named own name None e = refl
dn_named own name (Some dn) e = ap (λ (t : List ℕ). mixed (bytes_number false t) (levels_number (lower_dn dn))) e

chosen_number : (s t : Bool) (a b c d : ℕ) → s ≡ t → a ≡ c → b ≡ d → (if s then a else b) ≡ (if t then c else d)
chosen_number true true a b c d e f g = f
chosen_number false false a b c d e f g = g
chosen_number true false a b c d e f g = cc
chosen_number false true a b c d e f g = cc

named_alike : (own name value : List ℕ) → lower own ≡ lower name → value_number own value ≡ value_number name value
named_alike own name value e =
    chosen_number (holds_dns own) (holds_dns name) (dn_value_number own (spelled value)) (text_value_number (holds_numbers own) own value) (dn_value_number name (spelled value)) (text_value_number (holds_numbers name) name value)
    (holds_dns_alike own name e)
    (dn_named own name (spelled value) e)
    (ap (λ (t : List ℕ). mixed (bytes_number false t) (bytes_number (holds_numbers own) (lower value))) e
    ∙ ap (λ (b : Bool). mixed (bytes_number false (lower name)) (bytes_number b (lower value))) (holds_numbers_alike own name e))

-- by which of the kinds of values an attribute has
by_kind : (dns decimals : Bool) (test : ℕ → Bool) (name asked value : List ℕ)
    → (if dns then equal_dns value asked else if decimals then equal_numbers value asked else same_text value asked) ≡ true
    → (if dns then dn_value_number name (spelled asked) else text_value_number decimals name asked) ≢ 0
    → test (if dns then dn_value_number name (spelled asked) else text_value_number decimals name asked) ≡ true
    → (dns ≡ true → test 0 ≡ true)
    → test (if dns then dn_value_number name (spelled value) else text_value_number decimals name value) ≡ true
by_kind true decimals test name asked value h some t z = same_dns test name value asked (spelled value) (spelled asked) refl refl h some t (z refl)
by_kind false true test name asked value h some t z = ap (λ (n : ℕ). test (mixed (bytes_number false (lower name)) n)) (same_numbers value asked h) ∙ t
by_kind false false test name asked value h some t z = ap (λ (l : List ℕ). test (mixed (bytes_number false (lower name)) (bytes_number false l))) (lowered value asked h) ∙ t

value_passes : (test : ℕ → Bool) (own name asked value : List ℕ) → lower own ≡ lower name → equals name asked value ≡ true → value_number name asked ≢ 0
    → test (value_number name asked) ≡ true → (holds_dns name ≡ true → test 0 ≡ true) → test (value_number own value) ≡ true
value_passes test own name asked value e h some t z = ap test (named_alike own name value e) ∙ by_kind (holds_dns name) (holds_numbers name) test name asked value h some t z

-- ---- attributes

one_of : (s t : Bool) → (s || t) ≡ true → (s ≡ true) ⊎ (t ≡ true)
one_of true t h = inl refl
one_of false t h = inr h

or_first : (s t : Bool) → s ≡ true → (s || t) ≡ true
or_first true t h = refl
or_first false t h = cc

or_second : (s t : Bool) → t ≡ true → (s || t) ≡ true
or_second true t h = refl
or_second false t h = h

values_pass : (test : ℕ → Bool) (own name asked : List ℕ) (values : List (List ℕ)) → lower own ≡ lower name → list_any (equals name asked) values ≡ true → value_number name asked ≢ 0
    → test (value_number name asked) ≡ true → (holds_dns name ≡ true → test 0 ≡ true) → list_any test (values_numbers own values) ≡ true
values_pass test own name asked [] e h some t z = cc
values_pass test own name asked (v ∷ vs) e h some t z =
    elim (one_of (equals name asked v) (list_any (equals name asked) vs) h) [
      | inl is ↦ or_first (test (value_number own v)) (list_any test (values_numbers own vs)) (value_passes test own name asked v e is some t z)
      | inr rest ↦ or_second (test (value_number own v)) (list_any test (values_numbers own vs)) (values_pass test own name asked vs e rest some t z)
    ]

pub attributes_pass : (test : ℕ → Bool) (name asked : List ℕ) (attributes : List Attribute) → has_value name (equals name asked) attributes ≡ true → value_number name asked ≢ 0
    → test (value_number name asked) ≡ true → (holds_dns name ≡ true → test 0 ≡ true) → list_any test (attributes_numbers attributes) ≡ true
attributes_pass test name asked [] h some t z = cc
attributes_pass test name asked (a ∷ rest) h some t z =
    list_any-append test (values_numbers a.name a.values) (attributes_numbers rest)
    ∙ elim (one_of (same_text a.name name && list_any (equals name asked) a.values) (has_value name (equals name asked) rest) h) [
      | inl is ↦
          let parts : (same_text a.name name ≡ true) × (list_any (equals name asked) a.values ≡ true) = both_so (same_text a.name name) (list_any (equals name asked) a.values) is in
          or_first (list_any test (values_numbers a.name a.values)) (list_any test (attributes_numbers rest)) (values_pass test a.name name asked a.values (lowered a.name name parts.0) parts.1 some t z)
      | inr more ↦ or_second (list_any test (values_numbers a.name a.values)) (list_any test (attributes_numbers rest)) (attributes_pass test name asked rest more some t z)
    ]

-- ---- DNs

base_has : (test : ℕ → Bool) (levels : List (List Part)) (k : ℕ) → test (levels_number (drop k levels)) ≡ true → list_any test (base_numbers levels) ≡ true
base_has test [] zero t = or_first (test (levels_number [])) false t
base_has test [] (suc k) t = or_first (test (levels_number [])) false t
base_has test (level ∷ above) zero t =
    list_any-append test (base_numbers above) (levels_number (level ∷ above) ∷ [])
    ∙ or_second (list_any test (base_numbers above)) (list_any test (levels_number (level ∷ above) ∷ [])) (or_first (test (levels_number (level ∷ above))) false t)
base_has test (level ∷ above) (suc k) t =
    list_any-append test (base_numbers above) (levels_number (level ∷ above) ∷ [])
    ∙ or_first (list_any test (base_numbers above)) (list_any test (levels_number (level ∷ above) ∷ [])) (base_has test above k t)

pub place_passes : (test : ℕ → Bool) (o base : Option (List (List Pair))) → both_meet ends_with o base ≡ true → test (base_number base) ≡ true → list_any test (place_numbers o) ≡ true
place_passes test None base h t = cc
place_passes test (Some dn) None h t = cc
place_passes test (Some dn) (Some base) h t =
    let k = length dn - length base in
    let same : same_dn (drop k dn) base ≡ true = (both_so (nat_le (length base) (length dn)) (same_dn (drop k dn) base) h).1 in
    let equal : drop k (lower_dn dn) ≡ lower_dn base = drop-map (λ (rdn : List Pair). map lower_pair rdn) k dn ∙ dn_lowered (drop k dn) base same in
    base_has test (lower_dn dn) k (ap (λ (l : List (List Part)). test (levels_number l)) equal ∙ t)

same_length : (a b : List (List Pair)) → same_dn a b ≡ true → length a ≡ length b
same_length [] [] h = refl
same_length [] (y ∷ ys) h = cc
same_length (x ∷ xs) [] h = cc
same_length (x ∷ xs) (y ∷ ys) h = ap suc (same_length xs ys (both_so _ (same_dn xs ys) h).1)

same_ends : (dn base : List (List Pair)) → same_dn dn base ≡ true → ends_with dn base ≡ true
same_ends dn base h =
    let size : length dn ≡ length base = same_length dn base h in
    let none : length dn - length base ≡ 0 = omega (arith, size) in
    let le : nat_le (length base) (length dn) ≡ true = grind (arith, size) in
    rw (le, none) h

scope_ends : (scope : ℕ) (dn base : List (List Pair)) → in_scope scope dn base ≡ true → ends_with dn base ≡ true
scope_ends scope dn base h = by_scope (eqb scope 0) (eqb scope 1) h
  where
    by_scope : (s t : Bool) → (if s then same_dn dn base else if t then is_child dn base else ends_with dn base) ≡ true → ends_with dn base ≡ true
    by_scope true t g = same_ends dn base g
    by_scope false true g = (both_so _ (ends_with dn base) g).1
    by_scope false false g = g

pub meets_scope : (scope : ℕ) (o base : Option (List (List Pair))) → both_meet (in_scope scope) o base ≡ true → both_meet ends_with o base ≡ true
meets_scope scope None base h = cc
meets_scope scope (Some dn) None h = cc
meets_scope scope (Some dn) (Some base) h = scope_ends scope dn base h

pub meets_same : (o base : Option (List (List Pair))) → both_meet same_dn o base ≡ true → both_meet ends_with o base ≡ true
meets_same None base h = cc
meets_same (Some dn) None h = cc
meets_same (Some dn) (Some base) h = same_ends dn base h

-- ---- entries

pub entry_under : (test : ℕ → Bool) (e : DirEntry) (base : Option (List (List Pair))) → both_meet ends_with (spelled e.dn) base ≡ true → test (base_number base) ≡ true → list_any test (entry_numbers e) ≡ true
entry_under test e base h t =
    list_any-append test (place_numbers (spelled e.dn)) (attributes_numbers e.attributes)
    ∙ or_first (list_any test (place_numbers (spelled e.dn))) (list_any test (attributes_numbers e.attributes)) (place_passes test (spelled e.dn) base h t)

pub entry_equals : (test : ℕ → Bool) (e : DirEntry) (name asked : List ℕ) → has_value name (equals name asked) e.attributes ≡ true → value_number name asked ≢ 0
    → test (value_number name asked) ≡ true → (holds_dns name ≡ true → test 0 ≡ true) → list_any test (entry_numbers e) ≡ true
entry_equals test e name asked h some t z =
    list_any-append test (place_numbers (spelled e.dn)) (attributes_numbers e.attributes)
    ∙ or_second (list_any test (place_numbers (spelled e.dn))) (list_any test (attributes_numbers e.attributes)) (attributes_pass test name asked e.attributes h some t z)
