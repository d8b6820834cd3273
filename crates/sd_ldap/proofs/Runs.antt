-- Reading the texts of one tag, as a loop does.
use Rattle.std.proofs.Common.{◌≡◌, ℕ, suc, ◌-◌, ◌+◌, ◌≤◌, ◌<◌, List, [], ◌∷◌, ◌++◌, Option, Some, None, sym, ap, ◌∙◌, append_assoc, arith}
use Rattle.std.proofs.lemmas.List.{append-nil}
use Rattle.sd_ber.specs.Reading.{Reading}
use Rattle.sd_ldap.specs.FilterReading.{optional_in, run_step, run_in}

-- what was read before, and what still comes
abbrev pub run_front : List (List ℕ) → List (List ℕ) × Reading → List (List ℕ) × Reading
run_front front found = (front ++ found.0, found.1)

run_none : (tag : ℕ) (front : List (List ℕ)) (k : ℕ) (r after : Reading) → optional_in tag r ≡ (None, after) → run_front front (run_in tag (suc k) r) ≡ (front, after)
unfolding run_in
run_none tag front k r after h = ap (λ (found : Option (List ℕ) × Reading). run_front front (run_step (λ later. run_in tag k later) found)) h ∙ ap (λ (texts : List (List ℕ)). (texts, after)) (append-nil front)

run_some : (tag : ℕ) (front : List (List ℕ)) (text : List ℕ) (k : ℕ) (r after : Reading) → optional_in tag r ≡ (Some text, after) → run_front front (run_in tag (suc k) r) ≡ run_front (front ++ text ∷ []) (run_in tag k after)
unfolding run_in
run_some tag front text k r after h =
    ap (λ (found : Option (List ℕ) × Reading). run_front front (run_step (λ later. run_in tag k later) found)) h
    ∙ ap (λ (texts : List (List ℕ)). (texts, (run_in tag k after).1)) (sym (append_assoc front (text ∷ []) (run_in tag k after).0))

pub stops : (tag : ℕ) (front : List (List ℕ)) (count i : ℕ) (r after : Reading) (total : List (List ℕ) × Reading) → i < count → optional_in tag r ≡ (None, after)
    → run_front front (run_in tag (count - i) r) ≡ total → total ≡ (front, after)
stops tag front count i r after total lt h so_far =
    let k : count - i ≡ suc (count - (i + 1)) = omega arith in
    sym so_far ∙ ap (λ (n : ℕ). run_front front (run_in tag n r)) k ∙ run_none tag front (count - (i + 1)) r after h

pub goes_on : (tag : ℕ) (front : List (List ℕ)) (text : List ℕ) (count i : ℕ) (r after : Reading) (total : List (List ℕ) × Reading) → i < count → optional_in tag r ≡ (Some text, after)
    → run_front front (run_in tag (count - i) r) ≡ total → run_front (front ++ text ∷ []) (run_in tag (count - (i + 1)) after) ≡ total
goes_on tag front text count i r after total lt h so_far =
    let k : count - i ≡ suc (count - (i + 1)) = omega arith in
    sym (ap (λ (n : ℕ). run_front front (run_in tag n r)) k ∙ run_some tag front text (count - (i + 1)) r after h) ∙ so_far

pub last : (tag : ℕ) (front : List (List ℕ)) (count i : ℕ) (r : Reading) (total : List (List ℕ) × Reading) → count ≤ i
    → run_front front (run_in tag (count - i) r) ≡ total → total ≡ (front, r)
unfolding run_in
last tag front count i r total le so_far =
    let k : count - i ≡ 0 = omega arith in
    sym so_far ∙ ap (λ (n : ℕ). run_front front (run_in tag n r)) k ∙ ap (λ (texts : List (List ℕ)). (texts, r)) (append-nil front)
