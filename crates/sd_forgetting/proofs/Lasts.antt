-- The last entry that meets a test of the entry alone.
use Rattle.std.proofs.Common.{◌≡◌, ℕ, Bool, true, false, List, [], ◌∷◌, refl, sym, ap, ◌∙◌}
use Rattle.std.specs.Prelude.{Option, Some, None, if◌then◌else◌}
use Rattle.sd_rules.specs.declared.replies.Entry.{Entry}
use Rattle.sd_rules.specs.Past.{or_else}
use Rattle.sd_rules.specs.Needed.{last_where}
use Rattle.sd_forgetting.specs.Parts.{part, last_entry, IsAt}
use Rattle.sd_forgetting.proofs.Tests.{not_true, none_is_not, same_some}
use Rattle.sd_forgetting.proofs.Firsts.{first_kept}

abbrev pub number_in : Option Entry → Option ℕ
number_in None = None
number_in (Some e) = Some e.number

where_by : (t : Bool) (x : Entry) (y : Option ℕ) (o : Option Entry) → y ≡ number_in o → (if t then Some x.number else y) ≡ number_in (or_else (if t then Some x else None) o)
where_by true x y o h = refl
where_by false x y o h = h

pub where_is_entry : (test : Entry → Bool) (xs : List Entry) → last_where test xs ≡ number_in (last_entry test xs)
where_is_entry test [] = refl
where_is_entry test (x ∷ xs) = where_by (test x) x (last_where test xs) (last_entry test xs) (where_is_entry test xs)

hit_is : (t : Bool) (e x : Entry) → (if t then Some e else None) ≡ Some x → (t ≡ true) × (e ≡ x)
hit_is true e x h = (refl, same_some e x h)
hit_is false e x h = absurd (none_is_not x h)

pub last_same : (keep : List Entry → Entry → Bool) (test : Entry → Bool) (all : List Entry) →
    ((e : Entry) (past : List Entry) → IsAt all e past → test e ≡ true → last_entry test all ≡ Some e → keep past e ≡ true) →
    last_entry test all ≡ last_entry test (part keep all)
last_same keep test all k =
    first_kept keep (last_entry test) (λ (past : List Entry) (e : Entry). if test e then Some e else None) (λ e past. refl) all
    (λ e past at h. h)
    (λ e past x at h is. (let hit = hit_is (test e) e x h in k e past at hit.0 (is ∙ ap (λ (z : Entry). Some z) (sym hit.1)), h))
    all (λ e past at. at) refl

-- a test that leads to another: where the last of the other meets it, it is its last too
last_by : (s t : Bool) (x e : Entry) (y : Option Entry) (z : Option ℕ) → (t ≡ true → s ≡ true) → or_else (if s then Some x else None) y ≡ Some e → (x ≡ e → t ≡ true) →
    (y ≡ Some e → z ≡ Some e.number) → (if t then Some x.number else z) ≡ Some e.number
last_by true true x e y z f h is rest = ap (λ (w : Entry). Some w.number) (same_some x e h)
last_by true false x e y z f h is rest = absurd (not_true (is (same_some x e h)))
last_by false true x e y z f h is rest = absurd (not_true (f refl))
last_by false false x e y z f h is rest = rest h

pub last_of_both : (test other : Entry → Bool) → ((x : Entry) → test x ≡ true → other x ≡ true) → (e : Entry) → test e ≡ true → (xs : List Entry) → last_entry other xs ≡ Some e →
    last_where test xs ≡ Some e.number
last_of_both test other leads e t [] h = absurd (none_is_not e h)
last_of_both test other leads e t (x ∷ xs) h =
    last_by (other x) (test x) x e (last_entry other xs) (last_where test xs) (leads x) h (λ is. ap test is ∙ t) (last_of_both test other leads e t xs)
