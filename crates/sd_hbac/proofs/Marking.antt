-- A name whose mark is not among the marks of lowered names is not among these.
use Rattle.std.proofs.Common.{◌≡◌, ◌≢◌, ℕ, ◌+◌, ◌-◌, ◌*◌, ◌/◌, ◌%◌, ◌^◌, ◌<◌, Bool, true, false, List, [], ◌∷◌, map, take, length, get_or, refl, sym, ap, subst, ◌∙◌, arith}
use Rattle.std.specs.Prelude.{bit_and, bit_or, slice_index, nat_eq}
use Rattle.std.specs.Char.{to_ascii_lowercase}
use Rattle.std.specs.Cmp.Lexicographic.{bytes_decides}
use Rattle.std.specs.Int.{bit_at, w64}
use Rattle.std.proofs.lemmas.Bool.Decides.{nat_tests}
use Rattle.std.proofs.lemmas.List.{length-map, map_more}
use Rattle.std.proofs.lemmas.List.Elements.{All-same, All-push, All-weaker}
use Rattle.std.proofs.lemmas.List.Folds.{list_any_none}
use Rattle.std.proofs.lemmas.Nat.Bits.{bit_at_or, bit_at-lt, bit_at_set_same, shr_and_one}
use Rattle.sd_rules.specs.Keys.{same_name}
use Rattle.sd_hbac.specs.Lowered.{among, mark, Marked}

abbrev lower : List ℕ → List ℕ
lower name = map to_ascii_lowercase name

pub mark_of_none : (name : List ℕ) → length name ≡ 0 → 0 ≡ mark (lower name)
unfolding mark
mark_of_none [] h = refl
mark_of_none (x ∷ xs) h = absurd (omega arith)

-- a mark from the bytes that it is made of
pub mark_of_bytes : (name : List ℕ) (last before a b c : ℕ) → last ≡ length name - 1 → before ≡ last - 1 → a ≡ slice_index (lower name) 0
    → b ≡ slice_index (lower name) before → c ≡ slice_index (lower name) last → (length name + 5 * a + 11 * b + c) % 64 ≡ mark (lower name)
unfolding mark
mark_of_bytes name last before a b c at_last at_before first more end =
    let long : length (lower name) ≡ length name = length-map name to_ascii_lowercase in
    let more_at : b ≡ slice_index (lower name) (length (lower name) - 2) = more ∙ ap (λ (i : ℕ). slice_index (lower name) i) (omega arith) in
    let end_at : c ≡ slice_index (lower name) (length (lower name) - 1) = end ∙ ap (λ (i : ℕ). slice_index (lower name) i) (omega arith) in
    omega arith

kept : (marks more i : ℕ) → bit_at marks i ≡ 1 → bit_at (bit_or marks more) i ≡ 1
kept marks more i set = omega (arith, bit_at_or marks more i, bit_at-lt more i)

-- the mark of one more name
pub marked_more : (marks m : ℕ) (names : List (List ℕ)) (i : ℕ) (name : List ℕ) → m < 64 → m ≡ mark (lower name) → i < length names → name ≡ get_or names i name
    → Marked marks (map lower (take i names)) → Marked (bit_or marks (1 * 2 ^ m % 2 ^ 64)) (map lower (take (i + 1) names))
marked_more marks m names i name below is within at before =
    let after : ℕ = bit_or marks (1 * 2 ^ m % 2 ^ 64) in
    let named : m ≡ mark (lower (get_or names i name)) = is ∙ ap (λ (n : List ℕ). mark (lower n)) at in
    All-same (λ n. bit_at after (mark n) ≡ 1) _ _ (map_more lower names i name within)
    (All-push (λ n. bit_at after (mark n) ≡ 1) (map lower (take i names)) (lower (get_or names i name))
    (All-weaker (λ n. bit_at marks (mark n) ≡ 1) (λ n. bit_at after (mark n) ≡ 1) (λ n set. kept marks (1 * 2 ^ m % 2 ^ 64) (mark n) set) _ before)
    (subst (λ (k : ℕ). bit_at after k ≡ 1) named (bit_at_set_same w64 marks m below)))

other_mark : (marks : ℕ) (n name : List ℕ) (b : Bool) → same_name n name ≡ b → bit_at marks (mark n) ≡ 1 → bit_at marks (mark name) ≢ 1 → b ≡ false
other_mark marks n name true same set unset =
    absurd (unset (subst (λ (m : List ℕ). bit_at marks (mark m) ≡ 1) ((bytes_decides n name).0 same) set))
other_mark marks n name false same set unset = refl

-- a name is not among those of whose marks its own is none
pub not_among : (marks m : ℕ) (names : List (List ℕ)) (name : List ℕ) → Marked marks names → m ≡ mark (lower name) → bit_and (marks / 2 ^ m) 1 ≢ 1
    → nat_eq (bit_and (marks / 2 ^ m) 1) 1 ≡ among names name
not_among marks m names name marked is clear =
    let failed : nat_eq (bit_and (marks / 2 ^ m) 1) 1 ≡ false = grind (arith, nat_tests, clear) in
    let unset : bit_at marks (mark (lower name)) ≢ 1 = λ set. clear (shr_and_one marks m ∙ (ap (λ (i : ℕ). bit_at marks i) is ∙ set)) in
    failed
    ∙ sym (list_any_none (λ n. same_name n (lower name)) names
    (All-weaker (λ n. bit_at marks (mark n) ≡ 1) (λ n. same_name n (lower name) ≡ false) (λ n set. other_mark marks n (lower name) (same_name n (lower name)) refl set unset) names marked))
