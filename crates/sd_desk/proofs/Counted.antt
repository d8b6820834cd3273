-- Of two fronts of which one follows the other, the counts of the later are told by next numbers and lengths.
use Rattle.std.proofs.Common.{◌≡◌, ℕ, ◌+◌, ◌≤◌, ◌<◌, ◌⊎◌, Bool, true, false, nat_lt, List, inl, inr, ⊎_elim, arith, refl, sym, ap, subst, ◌∙◌}
use Rattle.std.specs.Prelude.{◌&&◌, ◌||◌, ◌==◌, length, reverse, if◌then◌else◌}
use Rattle.std.proofs.lemmas.List.{length-reverse}
use Rattle.std.proofs.lemmas.Bool.Decides.{nat_tests}
use Rattle.sd_turn.specs.declared.view.History.{History}
use Rattle.sd_rules.specs.declared.replies.Entry.{Entry}
use Rattle.sd_rules.specs.Reaching.{Reaches}
use Rattle.sd_desk.specs.declared.counts.Counts.{Counts}
use Rattle.sd_desk.specs.declared.shared.Basis.{Basis}
use Rattle.sd_desk.specs.Counts.{later_of}
use Rattle.sd_desk.specs.Journals.{daemon_of}
use Rattle.sd_desk.proofs.Reached.{IsLater, reaches_later}

picks : (t : Bool) (own other : Counts) (n l : ℕ) → (t ≡ true → (other.next ≡ n) × (other.entries ≡ l)) → (t ≡ false → (own.next ≡ n) × (own.entries ≡ l)) →
    ((if t then other else own).next ≡ n) × ((if t then other else own).entries ≡ l)
picks true own other n l f g = f refl
picks false own other n l f g = g refl

one_of : (s e w : Bool) → s || (e && w) ≡ true → (s ≡ true) ⊎ ((e ≡ true) × (w ≡ true))
one_of true e w h = inl refl
one_of false true true h = inr (refl, refl)
one_of false true false h = let clash : ⊥ = cc in absurd clash
one_of false false w h = let clash : ⊥ = cc in absurd clash

none_of : (s e w : Bool) → s || (e && w) ≡ false → (s ≡ false) × (e ≡ true → w ≡ false)
none_of true e w h = let clash : ⊥ = cc in absurd clash
none_of false true w h = (refl, λ is. h)
none_of false false w h = (refl, λ is. let clash : ⊥ = cc in absurd clash)

-- a and m are the next number and the length of the own front, b and k those of the other
other_is_no_later : (a b m k : ℕ) → b ≤ a → (a ≡ b → m ≤ k) → nat_lt a b || ((a == b) && nat_lt k m) ≡ true → ⊥
other_is_no_later a b m k le short h = ⊎_elim
    (λ (s : nat_lt a b ≡ true). let lt : a < b = grind (arith, nat_tests, s) in omega arith)
    (λ (p : ((a == b) ≡ true) × (nat_lt k m ≡ true)).
    let e = p.0 in let w = p.1 in
    let same : a ≡ b = grind (arith, nat_tests, e) in
    let lt : k < m = grind (arith, nat_tests, w) in
    let no_longer = short same in omega arith)
    (one_of (nat_lt a b) (a == b) (nat_lt k m) h)

own_is_as_late : (a b m k : ℕ) → a ≤ b → (b ≡ a → k ≤ m) → nat_lt a b || ((a == b) && nat_lt k m) ≡ false → (a ≡ b) × (m ≡ k)
own_is_as_late a b m k le short h =
    let p = none_of (nat_lt a b) (a == b) (nat_lt k m) h in
    let s = p.0 in
    let ge : b ≤ a = grind (arith, nat_tests, s) in
    let same : a ≡ b = omega arith in
    let test : (a == b) ≡ true = grind (arith, nat_tests, same) in
    let w = p.1 test in
    let no_less : m ≤ k = grind (arith, nat_tests, w) in
    let no_more = short (sym same) in
    (same, omega arith)

-- along what is reached the next number does not fall, and where it stays the list does not grow
record IsLonger (x z : History Entry) : Type 0 where
  next : x.next ≤ z.next
  no_longer : z.next ≡ x.next → length z.entries ≤ length x.entries

longer_by : (b : Basis) (x z : History Entry) → Reaches (daemon_of b x) (daemon_of b z) → IsLonger x z
longer_by b x z to =
    let later = reaches_later (daemon_of b x) (daemon_of b z) to in
    let lx = length-reverse x.entries in
    let lz = length-reverse z.entries in
    record { next = later.next; no_longer = λ same. let le : length (reverse z.entries) ≤ length (reverse x.entries) = later.no_longer same in omega arith }

pub later_is : (b : Basis) (x y z : History Entry) (own other made : Counts) → made ≡ later_of own other → own.next ≡ x.next → own.entries ≡ length x.entries →
    other.next ≡ y.next → other.entries ≡ length y.entries → (z ≡ x) ⊎ (z ≡ y) → Reaches (daemon_of b x) (daemon_of b z) → Reaches (daemon_of b y) (daemon_of b z) →
    (made.next ≡ z.next) × (made.entries ≡ length z.entries)
later_is b x y z own other made is nx ex ny ey either to_z from_y =
    let test = nat_lt own.next other.next || ((own.next == other.next) && nat_lt other.entries own.entries) in
    let p = longer_by b x z to_z in
    let q = longer_by b y z from_y in
    let found : ((later_of own other).next ≡ z.next) × ((later_of own other).entries ≡ length z.entries) = ⊎_elim
    (λ (at_x : z ≡ x).
    let n : z.next ≡ x.next = ap (λ (h : History Entry). h.next) at_x in
    let l : length z.entries ≡ length x.entries = ap (λ (h : History Entry). length h.entries) at_x in
    picks test own other z.next (length z.entries)
    (λ t. absurd (other_is_no_later own.next other.next own.entries other.entries (let le = q.next in omega arith)
    (λ same. let le = q.no_longer (n ∙ (sym nx ∙ (same ∙ ny))) in omega arith) t))
    (λ f. (nx ∙ sym n, ex ∙ sym l)))
    (λ (at_y : z ≡ y).
    let n : z.next ≡ y.next = ap (λ (h : History Entry). h.next) at_y in
    let l : length z.entries ≡ length y.entries = ap (λ (h : History Entry). length h.entries) at_y in
    picks test own other z.next (length z.entries)
    (λ t. (ny ∙ sym n, ey ∙ sym l))
    (λ f. let both = own_is_as_late own.next other.next own.entries other.entries (let le = p.next in omega arith)
    (λ same. let le = p.no_longer (n ∙ (sym ny ∙ (same ∙ nx))) in omega arith) f in
    (both.0 ∙ (ny ∙ sym n), both.1 ∙ (ey ∙ sym l))))
    either in
    subst (λ (c : Counts). (c.next ≡ z.next) × (c.entries ≡ length z.entries)) (sym is) found
