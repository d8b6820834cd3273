-- The entries that a directory keeps have DNs of their own.
use Rattle.std.proofs.Common.{◌≡◌, ℕ, Bool, true, false, List, [], ◌∷◌, Option, Some, None, refl, sym, ◌∙◌, subst, inl, inr}
use Rattle.std.specs.Prelude.{◌||◌, fold, filter, not}
use Rattle.std.specs.List.{list_any}
use Rattle.std.specs.Char.{to_ascii_lowercase, eq_ignore_ascii_case}
use Rattle.std.proofs.lemmas.Bool.{cases_Bool, and_from, and_parts, not-true, not_from_false, eq-eqb, eqb-true}
use Rattle.sd_dn.specs.declared.Pair.{Pair}
use Rattle.sd_dn.specs.Comparing.{same_list, same_text, same_pair, same_rdn, same_dn}
use Rattle.sd_dn.specs.Texts.{spelled, both_meet, same_dn_text}
use Rattle.sd_ldap.specs.declared.entry.DirEntry.{DirEntry}
use Rattle.sd_places.specs.Keeping.{put, removed, kept}
use Rattle.sd_stub_link.specs.Distinct.{is_own_dn, have_own_dns}

-- ---- what equals one DN equals each that it equals

list_chain : {X : Type 0} (same : X → X → Bool) → ((a b c : X) → same a b ≡ true → same b c ≡ true → same a c ≡ true) → (xs ys zs : List X) → same_list same xs ys ≡ true → same_list same ys zs ≡ true → same_list same xs zs ≡ true
list_chain same h [] [] zs e f = f
list_chain same h [] (y ∷ ys) zs e f = absurd cc
list_chain same h (x ∷ xs) [] zs e f = absurd cc
list_chain same h (x ∷ xs) (y ∷ ys) [] e f = absurd cc
list_chain same h (x ∷ xs) (y ∷ ys) (z ∷ zs) e f =
    let p = and_parts (same x y) (same_list same xs ys) e in
    let q = and_parts (same y z) (same_list same ys zs) f in
    and_from (same x z) (same_list same xs zs) (h x y z p.0 q.0) (list_chain same h xs ys zs p.1 q.1)

byte_chain : (a b c : ℕ) → eq_ignore_ascii_case a b ≡ true → eq_ignore_ascii_case b c ≡ true → eq_ignore_ascii_case a c ≡ true
byte_chain a b c e f = eq-eqb (to_ascii_lowercase a) (to_ascii_lowercase c) (eqb-true (to_ascii_lowercase a) (to_ascii_lowercase b) e ∙ eqb-true (to_ascii_lowercase b) (to_ascii_lowercase c) f)

text_chain : (a b c : List ℕ) → same_text a b ≡ true → same_text b c ≡ true → same_text a c ≡ true
text_chain a b c e f = list_chain eq_ignore_ascii_case byte_chain a b c e f

pair_chain : (a b c : Pair) → same_pair a b ≡ true → same_pair b c ≡ true → same_pair a c ≡ true
pair_chain a b c e f =
    let p = and_parts (same_text a.name b.name) (same_text a.value b.value) e in
    let q = and_parts (same_text b.name c.name) (same_text b.value c.value) f in
    and_from (same_text a.name c.name) (same_text a.value c.value) (text_chain a.name b.name c.name p.0 q.0) (text_chain a.value b.value c.value p.1 q.1)

rdn_chain : (a b c : List Pair) → same_rdn a b ≡ true → same_rdn b c ≡ true → same_rdn a c ≡ true
rdn_chain a b c e f = list_chain same_pair pair_chain a b c e f

dn_chain : (a b c : List (List Pair)) → same_dn a b ≡ true → same_dn b c ≡ true → same_dn a c ≡ true
dn_chain a b c e f = list_chain same_rdn rdn_chain a b c e f

met_chain : (a b c : Option (List (List Pair))) → both_meet same_dn a b ≡ true → both_meet same_dn b c ≡ true → both_meet same_dn a c ≡ true
met_chain (Some a) (Some b) (Some c) e f = dn_chain a b c e f
met_chain (Some a) (Some b) None e f = cc
met_chain (Some a) None c e f = cc
met_chain None b c e f = cc

-- ---- an entry that is put

abbrev is_among : DirEntry → List DirEntry → Bool
is_among e es = list_any (λ (other : DirEntry). same_dn_text e.dn other.dn) es

pub neither : (a b : Bool) → (a || b) ≡ false → (a ≡ false) × (b ≡ false)
neither true b e = cc
neither false b e = (refl, e)

both_not : (a b : Bool) → a ≡ false → b ≡ false → (a || b) ≡ false
both_not true b e f = cc
both_not false b e f = f

none_put : (k : DirEntry) (es : List DirEntry) (e : DirEntry) → is_among k es ≡ false → same_dn_text k.dn e.dn ≡ false → is_among k (put es e) ≡ false
none_put k [] e none differ = both_not (same_dn_text k.dn e.dn) false differ refl
none_put k (f ∷ rest) e none differ =
    let p = neither (same_dn_text k.dn f.dn) (is_among k rest) none in
    elim (cases_Bool (same_dn_text f.dn e.dn)) [
      | inl same ↦ rw same (both_not (same_dn_text k.dn e.dn) (is_among k rest) differ p.1)
      | inr other ↦ rw other (both_not (same_dn_text k.dn f.dn) (is_among k (put rest e)) p.0 (none_put k rest e p.1 differ))
    ]

none_for : (k e : DirEntry) (es : List DirEntry) → same_dn_text k.dn e.dn ≡ true → is_among k es ≡ false → is_among e es ≡ false
none_for k e [] same none = refl
none_for k e (r ∷ rest) same none =
    let p = neither (same_dn_text k.dn r.dn) (is_among k rest) none in
    elim (cases_Bool (same_dn_text e.dn r.dn)) [
      | inl also ↦ let bad : same_dn_text k.dn r.dn ≡ true = met_chain (spelled k.dn) (spelled e.dn) (spelled r.dn) same also in let clash : true ≡ false = sym bad ∙ p.0 in cc
      | inr other ↦ both_not (same_dn_text e.dn r.dn) (is_among e rest) other (none_for k e rest same p.1)
    ]

pub own_put : (es : List DirEntry) (e : DirEntry) → have_own_dns es ≡ true → have_own_dns (put es e) ≡ true
unfolding have_own_dns
own_put [] e own = refl
own_put (k ∷ rest) e own =
    let p = and_parts (is_own_dn k rest) (have_own_dns rest) own in
    let none : is_among k rest ≡ false = not-true (is_among k rest) p.0 in
    elim (cases_Bool (same_dn_text k.dn e.dn)) [
      | inl same ↦ rw same (and_from (is_own_dn e rest) (have_own_dns rest) (not_from_false (is_among e rest) (none_for k e rest same none)) p.1)
      | inr other ↦ rw other (and_from (is_own_dn k (put rest e)) (have_own_dns (put rest e)) (not_from_false (is_among k (put rest e)) (none_put k rest e none other)) (own_put rest e p.1))
    ]

own_all : (front es : List DirEntry) → have_own_dns front ≡ true → have_own_dns (fold put front es) ≡ true
own_all front [] own = own
own_all front (e ∷ es) own = own_all (put front e) es (own_put front e own)

none_own : have_own_dns [] ≡ true
unfolding have_own_dns
none_own = refl

pub own_kept : (es : List DirEntry) → have_own_dns (kept es) ≡ true
own_kept es = own_all [] es none_own

pub own_next : (es new : List DirEntry) (e : DirEntry) → new ≡ put es e → have_own_dns es ≡ true → have_own_dns new ≡ true
own_next es new e made own = subst (λ (xs : List DirEntry). have_own_dns xs ≡ true) (sym made) (own_put es e own)

-- ---- an entry that is taken out

among_fewer : (test : DirEntry → Bool) (k : DirEntry) (es : List DirEntry) → is_among k es ≡ false → is_among k (filter test es) ≡ false
among_fewer test k [] none = refl
among_fewer test k (e ∷ es) none =
    let p = neither (same_dn_text k.dn e.dn) (is_among k es) none in
    elim (cases_Bool (test e)) [
      | inl stays ↦ rw stays (both_not (same_dn_text k.dn e.dn) (is_among k (filter test es)) p.0 (among_fewer test k es p.1))
      | inr goes ↦ rw goes (among_fewer test k es p.1)
    ]

own_fewer : (test : DirEntry → Bool) (es : List DirEntry) → have_own_dns es ≡ true → have_own_dns (filter test es) ≡ true
unfolding have_own_dns
own_fewer test [] own = refl
own_fewer test (e ∷ es) own =
    let p = and_parts (is_own_dn e es) (have_own_dns es) own in
    let none : is_among e es ≡ false = not-true (is_among e es) p.0 in
    elim (cases_Bool (test e)) [
      | inl stays ↦ rw stays (and_from (is_own_dn e (filter test es)) (have_own_dns (filter test es)) (not_from_false (is_among e (filter test es)) (among_fewer test e es none)) (own_fewer test es p.1))
      | inr goes ↦ rw goes (own_fewer test es p.1)
    ]

pub own_left : (es new : List DirEntry) (dn : List ℕ) → new ≡ removed es dn → have_own_dns es ≡ true → have_own_dns new ≡ true
own_left es new dn made own = subst (λ (xs : List DirEntry). have_own_dns xs ≡ true) (sym made) (own_fewer (λ (e : DirEntry). not (same_dn_text e.dn dn)) es own)
