-- The first place of a part serves as well as any.
use Rattle.std.proofs.Common.{◌≡◌, ℕ, zero, suc, ◌+◌, ◌-◌, ◌<◌, ◌≤◌, length-drop, take_all, drop-drop, get_or, Bool, true, false, cond, List, [], ◌∷◌, length, take, drop, Option, Some, None, refl, sym, ap, subst, ◌∙◌, arith, true≢false, inl, inr}
use Rattle.std.specs.Prelude.{◌&&◌, ◌||◌, nat_le}
use Rattle.std.specs.Option.{option_map_or}
use Rattle.std.proofs.lemmas.Bool.{and_from, and_parts, or_right, cases_Bool, leb-true, le-leb}
use Rattle.std.proofs.lemmas.List.{drop_more}
use Rattle.sd_dn.specs.Comparing.{same_text}
use Rattle.sd_match.specs.Matching.{begins_with, ends_with, passes_behind, first_behind, has_end, has_parts}

-- what passes behind the first byte passes
abbrev Stays : (List ℕ → Bool) → Type 0
Stays test = (b : ℕ) (bs : List ℕ) → test bs ≡ true → test (b ∷ bs) ≡ true

abbrev no_bytes : List ℕ
no_bytes = []

drop_none : (n : ℕ) → drop n no_bytes ≡ no_bytes
drop_none zero = refl
drop_none (suc n) = refl

-- behind n bytes of a text and of the text with one byte more in front
shifted : (test : List ℕ → Bool) → Stays test → (n b : ℕ) (bs : List ℕ) → test (drop n bs) ≡ true → test (drop n (b ∷ bs)) ≡ true
shifted test stays zero b bs h = stays b bs h
shifted test stays (suc n) b [] h = subst (λ (t : List ℕ). test t ≡ true) (sym (drop_none n)) h
shifted test stays (suc n) b (c ∷ cs) h = shifted test stays n c cs h

or_rest : (s t : Bool) → s ≡ false → (s || t) ≡ true → t ≡ true
or_rest true t e h = absurd (true≢false e)
or_rest false t e h = h

-- a part that stands anywhere leaves what stands behind the first bytes
leaves : (test : List ℕ → Bool) → Stays test → (part bs : List ℕ) → passes_behind part test bs ≡ true → (b : ℕ) → test (drop (length part) (b ∷ bs)) ≡ true
leaves test stays part [] h b =
    shifted test stays (length part) b [] (subst (λ (t : List ℕ). test t ≡ true) (sym (drop_none (length part))) (and_parts (begins_with part []) (test []) h).1)
leaves test stays part (c ∷ cs) h b =
    shifted test stays (length part) b (c ∷ cs)
    (elim (cases_Bool (begins_with part (c ∷ cs) && test (drop (length part) (c ∷ cs)))) [
      | inl e ↦ (and_parts (begins_with part (c ∷ cs)) (test (drop (length part) (c ∷ cs))) e).1
      | inr e ↦ leaves test stays part cs (or_rest (begins_with part (c ∷ cs) && test (drop (length part) (c ∷ cs))) (passes_behind part test cs) e h) c
    ])

here : (t s r : Bool) (o : Bool) → t ≡ true → (r ≡ true → s ≡ true) → ((t && s) || r) ≡ s
here true true r o e f = refl
here true false true o e f = sym (f refl)
here true false false o e f = refl
here false s r o e f = absurd (true≢false (sym e))

behind_here : (t : Bool) (x : List ℕ) (o : Option (List ℕ)) (test : List ℕ → Bool) (r : Bool) → (r ≡ true → test x ≡ true) → r ≡ option_map_or test o false → ((t && test x) || r) ≡ option_map_or test (cond t (Some x) o) false
behind_here true x o test r f e = here true (test x) r true refl f
behind_here false x o test r f e = e

none_behind : (t : Bool) (x : List ℕ) (test : List ℕ → Bool) → (t && test x) ≡ option_map_or test (cond t (Some x) None) false
none_behind true x test = refl
none_behind false x test = refl

drop_end : (test : List ℕ → Bool) (n : ℕ) → test no_bytes ≡ test (drop n no_bytes)
drop_end test n = ap test (sym (drop_none n))

pub first_serves : (test : List ℕ → Bool) → Stays test → (part text : List ℕ) → passes_behind part test text ≡ option_map_or test (first_behind part text) false
first_serves test stays part [] = ap (λ (t : Bool). begins_with part [] && t) (drop_end test (length part)) ∙ none_behind (begins_with part []) (drop (length part) []) test
first_serves test stays part (b ∷ bs) =
    behind_here (begins_with part (b ∷ bs)) (drop (length part) (b ∷ bs)) (first_behind part bs) test (passes_behind part test bs) (λ h. leaves test stays part bs h b) (first_serves test stays part bs)

end_stays : (part : List ℕ) → Stays (ends_with part)
end_stays part b bs h =
    let p = and_parts (nat_le (length part) (length bs)) (same_text (drop (length bs - length part) bs) part) h in
    let le : length part ≤ length bs = leb-true (length part) (length bs) p.0 in
    let e : suc (length bs - length part) ≡ length (b ∷ bs) - length part = omega arith in
    and_from (nat_le (length part) (length (b ∷ bs))) (same_text (drop (length (b ∷ bs) - length part) (b ∷ bs)) part) (le-leb (length part) (length (b ∷ bs)) (omega arith)) (subst (λ (n : ℕ). same_text (drop n (b ∷ bs)) part ≡ true) e p.1)

parts_stay : (parts : List (List ℕ)) (last : Option (List ℕ)) → Stays (λ rest. has_parts parts last rest)
parts_stay [] None b bs h = refl
parts_stay [] (Some part) b bs h = end_stays part b bs h
parts_stay (part ∷ parts) last b bs h = or_right (begins_with part (b ∷ bs) && has_parts parts last (drop (length part) (b ∷ bs))) (passes_behind part (λ rest. has_parts parts last rest) bs) h

pub parts_by_first : (part : List ℕ) (parts : List (List ℕ)) (last : Option (List ℕ)) (text : List ℕ) → has_parts (part ∷ parts) last text ≡ option_map_or (λ rest. has_parts parts last rest) (first_behind part text) false
parts_by_first part parts last text = first_serves (λ rest. has_parts parts last rest) (parts_stay parts last) part text

goes_behind : (part : List ℕ) (parts : List (List ℕ)) (last : Option (List ℕ)) (text : List ℕ) (o : Option (List ℕ)) → o ≡ first_behind part text → has_parts (part ∷ parts) last text ≡ option_map_or (λ rest. has_parts parts last rest) o false
goes_behind part parts last text o e = parts_by_first part parts last text ∙ ap (λ (x : Option (List ℕ)). option_map_or (λ rest. has_parts parts last rest) x false) (sym e)

pub found_behind : (part : List ℕ) (parts : List (List ℕ)) (last : Option (List ℕ)) (text rest : List ℕ) → Some rest ≡ first_behind part text → has_parts parts last rest ≡ has_parts (part ∷ parts) last text
found_behind part parts last text rest e = sym (goes_behind part parts last text (Some rest) e)

pub nowhere : (part : List ℕ) (parts : List (List ℕ)) (last : Option (List ℕ)) (text : List ℕ) → None ≡ first_behind part text → has_parts (part ∷ parts) last text ≡ false
nowhere part parts last text e = goes_behind part parts last text None e

-- ---- looking for the first place

to_end : (t : List ℕ) (n : ℕ) → take (length t - n) (drop n t) ≡ drop n t
to_end t n = let e : length (drop n t) ≡ length t - n = length-drop n t in take_all (length t - n) (drop n t) (omega arith)

first_here : (part t : List ℕ) → begins_with part t ≡ true → first_behind part t ≡ Some (drop (length part) t)
first_here part [] h = rw h refl
first_here part (b ∷ bs) h = rw h refl

first_next : (part t : List ℕ) (i : ℕ) → i < length t → begins_with part (drop i t) ≡ false → first_behind part (drop i t) ≡ first_behind part (drop (suc i) t)
first_next part [] i lt h = absurd (omega arith)
first_next part (b ∷ bs) zero lt h = rw h refl
first_next part (b ∷ bs) (suc i) lt h = first_next part bs i (omega arith) h

pub found_at : (part text : List ℕ) (i : ℕ) → begins_with part (take (length text - i) (drop i text)) ≡ true → first_behind part (drop i text) ≡ first_behind part text
    → Some (take (length text - (i + length part)) (drop (i + length part) text)) ≡ first_behind part text
found_at part text i h e =
    ap (λ (t : List ℕ). Some t) (to_end text (i + length part) ∙ sym (drop-drop (length part) i text))
    ∙ (sym (first_here part (drop i text) (subst (λ (t : List ℕ). begins_with part t ≡ true) (to_end text i) h))
    ∙ e)

pub missed_at : (part text : List ℕ) (i : ℕ) → i < length text → begins_with part (take (length text - i) (drop i text)) ≡ false → first_behind part (drop i text) ≡ first_behind part text
    → first_behind part (drop (i + 1) text) ≡ first_behind part text
missed_at part text i lt h e =
    let more : i + 1 ≡ suc i = omega arith in
    ap (λ (n : ℕ). first_behind part (drop n text)) more
    ∙ (sym (first_next part text i lt (subst (λ (t : List ℕ). begins_with part t ≡ false) (to_end text i) h))
    ∙ e)

-- ---- one part after another

at_place : (parts : List (List ℕ)) (i : ℕ) (part : List ℕ) → i < length parts → part ≡ get_or parts i part → drop i parts ≡ part ∷ drop (i + 1) parts
at_place parts i part lt is = drop_more parts i part lt ∙ ap (λ (p : List ℕ). p ∷ drop (i + 1) parts) (sym is)

pub none_more : (parts : List (List ℕ)) (last : Option (List ℕ)) (rest : List ℕ) (i : ℕ) (part bytes : List ℕ) (v : Bool) → i < length parts → part ≡ get_or parts i part → bytes ≡ part
    → None ≡ first_behind bytes rest → has_parts (drop i parts) last rest ≡ v → false ≡ v
none_more parts last rest i part bytes v lt is same none so_far =
    sym (nowhere part (drop (i + 1) parts) last rest (none ∙ ap (λ (b : List ℕ). first_behind b rest) same))
    ∙ (sym (ap (λ (ps : List (List ℕ)). has_parts ps last rest) (at_place parts i part lt is))
    ∙ so_far)

pub one_more : (parts : List (List ℕ)) (last : Option (List ℕ)) (rest behind : List ℕ) (i : ℕ) (part bytes : List ℕ) (v : Bool) → i < length parts → part ≡ get_or parts i part → bytes ≡ part
    → Some behind ≡ first_behind bytes rest → has_parts (drop i parts) last rest ≡ v → has_parts (drop (i + 1) parts) last behind ≡ v
one_more parts last rest behind i part bytes v lt is same some so_far =
    found_behind part (drop (i + 1) parts) last rest behind (some ∙ ap (λ (b : List ℕ). first_behind b rest) same)
    ∙ (sym (ap (λ (ps : List (List ℕ)). has_parts ps last rest) (at_place parts i part lt is))
    ∙ so_far)
