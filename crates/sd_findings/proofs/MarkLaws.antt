-- The mark at a place is that of the entry at the place.
use Rattle.std.proofs.Common.{◌≡◌, ℕ, ◌+◌, ◌-◌, ◌<◌, Bool, List, [], ◌∷◌, ◌++◌, reverse, length, get_or, drop, take, zero, suc, refl, sym, ◌∙◌, ap, arith, length-drop}
use Rattle.std.proofs.lemmas.List.{reverse-append, length-reverse, take_more, take-append-drop, drop_at}
use Rattle.sd_rules.specs.declared.replies.Entry.{Entry}
use Rattle.sd_rules.specs.Needed.{is_newest_answer, is_looked_at, is_needed}
use Rattle.sd_findings.specs.Briefs.{offset_of, traits_of, AreBriefs}
use Rattle.sd_findings.specs.Marks.{marks, MarkNewest, MarkLooked, MarkNeeded}
use Rattle.sd_findings.specs.declared.briefs.Briefs.{Briefs}
use Rattle.sd_findings.specs.declared.briefs.Traits.{Traits}

-- a list from a place on, the last first
rest_turned : {X : Type 0} (xs : List X) (i : ℕ) (d : X) → i < length xs → drop (length xs - (i + 1)) (reverse xs) ≡ get_or xs i d ∷ reverse (take i xs)
rest_turned {X} xs i d lt =
    let newer : List X = reverse (drop (i + 1) xs) in
    let turned : reverse xs ≡ newer ++ reverse (take (i + 1) xs) =
    ap (λ (l : List X). reverse l) (sym (take-append-drop (i + 1) xs)) ∙ reverse-append (take (i + 1) xs) (drop (i + 1) xs) in
    let long : length newer ≡ length xs - (i + 1) = length-reverse (drop (i + 1) xs) ∙ length-drop (i + 1) xs in
    let more : reverse (take (i + 1) xs) ≡ get_or xs i d ∷ reverse (take i xs) =
    ap (λ (l : List X). reverse l) (take_more xs i d lt) ∙ reverse-append (take i xs) (get_or xs i d ∷ []) in
    ap (λ (l : List X). drop (length xs - (i + 1)) l) turned
    ∙ drop_at newer (reverse (take (i + 1) xs)) (length xs - (i + 1)) long
    ∙ more

module _ {X : Type 0} (rule : List Entry → Entry → X) where
  length_marks : (past : List Entry) → length (marks rule past) ≡ length past
  length_marks [] = refl
  length_marks (e ∷ past) = ap suc (length_marks past)

  drop_marks : (n : ℕ) (past : List Entry) → drop n (marks rule past) ≡ marks rule (drop n past)
  drop_marks zero past = refl
  drop_marks (suc n) [] = refl
  drop_marks (suc n) (e ∷ past) = drop_marks n past

  as_many : (es : List Entry) (ms : List X) → reverse ms ≡ marks rule (reverse es) → length ms ≡ length es
  as_many es ms h = sym (length-reverse ms) ∙ ap length h ∙ length_marks (reverse es) ∙ length-reverse es

  mark_at : (es : List Entry) (ms : List X) (i : ℕ) (e : Entry) (d : X) → reverse ms ≡ marks rule (reverse es) → i < length es → e ≡ get_or es i e
      → get_or ms i d ≡ rule (reverse (take i es)) e
  mark_at es ms i e d h lt at =
      let many : length ms ≡ length es = as_many es ms h in
      let n : ℕ = length es - (i + 1) in
      ap (λ (l : List X). get_or l 0 d)
      (sym (ap (λ (k : ℕ). drop (k - (i + 1)) (reverse ms)) (sym many) ∙ rest_turned ms i d (omega arith))
      ∙ ap (λ (l : List X). drop n l) h
      ∙ drop_marks n (reverse es)
      ∙ ap (λ (l : List Entry). marks rule l) (rest_turned es i e lt ∙ ap (λ (x : Entry). x ∷ reverse (take i es)) (sym at)))

pub newest_at : (es : List Entry) (ms : List Bool) (i : ℕ) (e : Entry) (d : Bool) → MarkNewest es ms → i < length es → e ≡ get_or es i e
    → get_or ms i d ≡ is_newest_answer (reverse es) (reverse (take i es)) e
newest_at es ms i e d h lt at = mark_at (is_newest_answer (reverse es)) es ms i e d h lt at

pub looked_at : (es : List Entry) (ms : List Bool) (i : ℕ) (e : Entry) (d : Bool) → MarkLooked es ms → i < length es → e ≡ get_or es i e
    → get_or ms i d ≡ is_looked_at (reverse es) (reverse (take i es)) e
looked_at es ms i e d h lt at = mark_at (is_looked_at (reverse es)) es ms i e d h lt at

pub needed_at : (es : List Entry) (ms : List Bool) (i : ℕ) (e : Entry) (d : Bool) → MarkNeeded es ms → i < length es → e ≡ get_or es i e
    → get_or ms i d ≡ is_needed (reverse es) (reverse (take i es)) e
needed_at es ms i e d h lt at = mark_at (is_needed (reverse es)) es ms i e d h lt at

pub offset_at : (es : List Entry) (b : Briefs) (i : ℕ) (e : Entry) (d : ℕ) → AreBriefs es b → i < length es → e ≡ get_or es i e → get_or b.offsets.items i d ≡ offset_of b.first e.number
offset_at es b i e d h lt at = mark_at (λ (past : List Entry) (e : Entry). offset_of b.first e.number) es b.offsets.items i e d h.offsets lt at

pub traits_at : (es : List Entry) (b : Briefs) (i : ℕ) (e : Entry) (d : Traits) → AreBriefs es b → i < length es → e ≡ get_or es i e → get_or b.traits.items i d ≡ traits_of e
traits_at es b i e d h lt at = mark_at (λ (past : List Entry) (e : Entry). traits_of e) es b.traits.items i e d h.traits lt at

-- there are as many marks as entries
pub newest_long : (es : List Entry) (ms : List Bool) → MarkNewest es ms → length ms ≡ length es
newest_long es ms h = as_many (is_newest_answer (reverse es)) es ms h

pub looked_long : (es : List Entry) (ms : List Bool) → MarkLooked es ms → length ms ≡ length es
looked_long es ms h = as_many (is_looked_at (reverse es)) es ms h

pub needed_long : (es : List Entry) (ms : List Bool) → MarkNeeded es ms → length ms ≡ length es
needed_long es ms h = as_many (is_needed (reverse es)) es ms h

pub offsets_long : (es : List Entry) (b : Briefs) → AreBriefs es b → length b.offsets.items ≡ length es
offsets_long es b h = as_many (λ (past : List Entry) (e : Entry). offset_of b.first e.number) es b.offsets.items h.offsets

pub traits_long : (es : List Entry) (b : Briefs) → AreBriefs es b → length b.traits.items ≡ length es
traits_long es b h = as_many (λ (past : List Entry) (e : Entry). traits_of e) es b.traits.items h.traits
