-- The number of an entry, by how far it is above the first, unless that is too far.
use Rattle.std.proofs.Common.{◌≡◌, ℕ, ◌+◌, ◌-◌, ◌≤◌, Bool, true, false, cond, nat_lt, refl, ◌∙◌, ap, arith}
use Rattle.std.proofs.lemmas.Bool.Decides.{nat_tests}
use Rattle.sd_findings.specs.Briefs.{far, offset_of}

number_by : (first n : ℕ) (b c : Bool) → nat_lt n first ≡ b → nat_lt (n - first) far ≡ c → (cond b far (cond c (n - first) far) ≡ far → ⊥)
    → first + cond b far (cond c (n - first) far) ≡ n
number_by first n true c below near not = absurd (not refl)
number_by first n false true below near not =
    let le : first ≤ n = grind (arith, nat_tests) in
    omega arith
number_by first n false false below near not = absurd (not refl)

pub number_again : (first n o : ℕ) → o ≡ offset_of first n → (o ≡ far → ⊥) → first + o ≡ n
number_again first n o is not =
    ap (λ (k : ℕ). first + k) is ∙ number_by first n (nat_lt n first) (nat_lt (n - first) far) refl refl (λ far_off. not (is ∙ far_off))
