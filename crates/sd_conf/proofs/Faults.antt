-- A line that is refused refuses the text.
use Rattle.std.proofs.Common.{◌≡◌, ℕ, ◌+◌, ◌<◌, List, [], ◌∷◌, ◌++◌, length, take, drop, map, reverse, get_or, Option, Some, sym, ap, subst, ◌∙◌, append_assoc}
use Rattle.std.proofs.lemmas.List.{map-append, reverse-append, take-append-drop, drop_more}
use Rattle.sd_conf.specs.declared.ConfFault.{ConfFault}
use Rattle.sd_conf.specs.declared.ConfFault.TheVariants as faults
use Rattle.sd_conf.specs.Lines.{Form, form_of, forms_of, fault_in, fault_of, or_else, Told}

fault_stays : (xs past : List Form) (fault : ConfFault) → fault_in past ≡ Some fault → fault_in (xs ++ past) ≡ Some fault
fault_stays [] past fault h = h
fault_stays (x ∷ xs) past fault h = ap (λ (o : Option ConfFault). or_else o (fault_of x (xs ++ past))) (fault_stays xs past fault h)

forms_at : (a b : List (List ℕ)) (x : List ℕ) → forms_of (a ++ x ∷ b) ≡ forms_of b ++ (form_of x ∷ forms_of a)
forms_at a b x =
    ap reverse (map-append form_of a (x ∷ b)) ∙ (ap reverse (sym (append_assoc (map form_of a) (form_of x ∷ []) (map form_of b))) ∙ (reverse-append (map form_of a ++ form_of x ∷ []) (map form_of b) ∙ ap (λ (w : List Form). forms_of b ++ w) (reverse-append (map form_of a) (form_of x ∷ []))))

split_at : (lines : List (List ℕ)) (n : ℕ) → n < length lines → lines ≡ take n lines ++ get_or lines n [] ∷ drop (n + 1) lines
split_at lines n h = sym (take-append-drop n lines) ∙ ap (λ (w : List (List ℕ)). take n lines ++ w) (drop_more lines n [] h)

pub fault_told : (lines : List (List ℕ)) (n : ℕ) (fault : ConfFault) → n < length lines → fault_in (form_of (get_or lines n []) ∷ forms_of (take n lines)) ≡ Some fault → fault_in (forms_of lines) ≡ Some fault
fault_told lines n fault h e =
    ap (λ (w : List (List ℕ)). fault_in (forms_of w)) (split_at lines n h) ∙ (ap fault_in (forms_at (take n lines) (drop (n + 1) lines) (get_or lines n [])) ∙ fault_stays (forms_of (drop (n + 1) lines)) _ fault e)

ends_so : (fault : ConfFault) (lines : List (List ℕ)) (n : ℕ) → n < length lines → Told fault (form_of (get_or lines n []) ∷ forms_of (take n lines)) → Told fault (forms_of lines)
ends_so faults.Memory lines n h w = tt
ends_so (faults.BadLine line) lines n h w = fault_told lines n (faults.BadLine line) h w
ends_so (faults.NoSection line) lines n h w = fault_told lines n (faults.NoSection line) h w
ends_so (faults.BadValue line) lines n h w = absurd w
ends_so (faults.ManyDomains count) lines n h w = absurd w
ends_so faults.NoDomain lines n h w = absurd w
ends_so (faults.Missing name) lines n h w = absurd w

pub walk_ends : (fault : ConfFault) (lines : List (List ℕ)) (n : ℕ) (form : Form) (past : List Form) → n < length lines → form ≡ form_of (get_or lines n []) → past ≡ forms_of (take n lines) → Told fault (form ∷ past) → Told fault (forms_of lines)
walk_ends fault lines n form past h e f w =
    let v : Told fault (form_of (get_or lines n []) ∷ past) = subst (λ (x : Form). Told fault (x ∷ past)) e w in
    ends_so fault lines n h (subst (λ (p : List Form). Told fault (form_of (get_or lines n []) ∷ p)) f v)
