-- A value put behind those of the attribute at a place.
use Rattle.std.proofs.Common.{◌≡◌, ℕ, ◌+◌, ◌<◌, true, List, [], ◌∷◌, ◌++◌, length, take, drop, get_or, Result, Ok, Err, sym, ap, ◌∙◌}
use Rattle.std.specs.Prelude.{OnOk, slice_set}
use Rattle.std.proofs.lemmas.List.{take-append-drop, take-set, drop-set, drop_more}
use Rattle.sd_dn.specs.Comparing.{same_text}
use Rattle.sd_ldap.specs.declared.entry.Attribute.{Attribute}
use Rattle.sd_ldif.specs.Records.{Pair, pair, attribute}
use Rattle.sd_ldif.specs.Reading.{with_value}
use Rattle.sd_ldif.proofs.Merging.{if_true}

set_split : (items : List Attribute) (i : ℕ) (a : Attribute) → i < length items → slice_set items i a ≡ take i items ++ a ∷ drop (i + 1) items
set_split items i a h =
    sym (take-append-drop i (slice_set items i a))
    ∙ (ap (λ (w : List Attribute). w ++ drop i (slice_set items i a)) (take-set items i a) ∙ ap (λ (w : List Attribute). take i items ++ w) (drop-set items i a h))

abbrev grown : Attribute → Pair → Attribute
grown a p = attribute a.name (a.values ++ p.value ∷ [])

with_here : (items : List Attribute) (i : ℕ) (old : Attribute) (p : Pair) → i < length items → old ≡ get_or items i old → same_text old.name p.name ≡ true → with_value p (drop i items) ≡ grown old p ∷ drop (i + 1) items
with_here items i old p h at same =
    ap (with_value p) (drop_more items i old h ∙ ap (λ (a : Attribute). a ∷ drop (i + 1) items) (sym at))
    ∙ if_true (same_text old.name p.name) (grown old p ∷ drop (i + 1) items) (old ∷ with_value p (drop (i + 1) items)) same

set_there : (items : List Attribute) (i : ℕ) (old : Attribute) (p : Pair) → i < length items → old ≡ get_or items i old → same_text old.name p.name ≡ true → take i items ++ with_value p (drop i items) ≡ with_value p items → slice_set items i (grown old p) ≡ with_value p items
set_there items i old p h at same passed =
    set_split items i (grown old p) h ∙ (ap (λ (w : List Attribute). take i items ++ w) (sym (with_here items i old p h at same)) ∙ passed)

pub put_there : {E : Type 0} (r : Result (Unit {0}) E) (items all : List Attribute) (i : ℕ) (old : Attribute) (name value : List ℕ) (values : List (List ℕ))
    → OnOk r (values ≡ old.values ++ value ∷ []) → i < length items → old ≡ get_or items i old → same_text old.name name ≡ true → items ≡ all
    → take i items ++ with_value (pair name value) (drop i items) ≡ with_value (pair name value) items
    → OnOk r (slice_set items i (attribute old.name values) ≡ with_value (pair name value) all)
put_there (Ok u) items all i old name value values e h at same is passed =
    ap (λ (w : List (List ℕ)). slice_set items i (attribute old.name w)) e
    ∙ (set_there items i old (pair name value) h at same passed ∙ ap (with_value (pair name value)) is)
put_there (Err fault) items all i old name value values e h at same is passed = tt

head_same : (a b : Attribute) (rest : List Attribute) → a ∷ rest ≡ b ∷ rest → a ≡ b
head_same a b rest e = cc

-- what stands at a place is one thing, whatever would stand for nothing
pub one_there : (items : List Attribute) (i : ℕ) (a b : Attribute) → i < length items → a ≡ get_or items i a → b ≡ get_or items i b → a ≡ b
one_there items i a b h at bt =
    at ∙ (head_same (get_or items i a) (get_or items i b) (drop (i + 1) items) (sym (drop_more items i a h) ∙ drop_more items i b h) ∙ sym bt)
