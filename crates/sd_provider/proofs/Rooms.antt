-- A directory of short entries keeps short ones.
use Rattle.std.proofs.Common.{◌≡◌, ℕ, Bool, true, List, [], ◌∷◌, refl, sym, ap, ◌∙◌, inl, inr}
use Rattle.std.specs.Prelude.{fold, filter, not}
use Rattle.std.proofs.lemmas.Bool.{cases_Bool, and_parts, and_from}
use Rattle.sd_dn.specs.Texts.{same_dn_text}
use Rattle.sd_ldap.specs.declared.entry.DirEntry.{DirEntry}
use Rattle.sd_dial.specs.Rooms.{is_short, are_short}
use Rattle.sd_places.specs.Keeping.{put, removed, kept}

short_put : (es : List DirEntry) (e : DirEntry) → are_short es ≡ true → is_short e ≡ true → are_short (put es e) ≡ true
unfolding are_short
short_put [] e short fits = rw fits refl
short_put (k ∷ rest) e short fits =
    let p = and_parts (is_short k) (are_short rest) short in
    elim (cases_Bool (same_dn_text k.dn e.dn)) [
      | inl same ↦ rw same (and_from (is_short e) (are_short rest) fits p.1)
      | inr other ↦ rw other (and_from (is_short k) (are_short (put rest e)) p.0 (short_put rest e p.1 fits))
    ]

short_all : (front es : List DirEntry) → are_short front ≡ true → are_short es ≡ true → are_short (fold put front es) ≡ true
unfolding are_short
short_all front [] short all = short
short_all front (e ∷ es) short all =
    let p = and_parts (is_short e) (are_short es) all in
    short_all (put front e) es (short_put front e short p.0) p.1

none_short : are_short [] ≡ true
unfolding are_short
none_short = refl

pub short_kept : (es : List DirEntry) → are_short es ≡ true → are_short (kept es) ≡ true
short_kept es all = short_all [] es none_short all

pub short_next : (es new : List DirEntry) (e : DirEntry) → new ≡ put es e → are_short es ≡ true → is_short e ≡ true → are_short new ≡ true
short_next es new e made short fits = ap are_short made ∙ short_put es e short fits

short_fewer : (test : DirEntry → Bool) (es : List DirEntry) → are_short es ≡ true → are_short (filter test es) ≡ true
unfolding are_short
short_fewer test [] short = short
short_fewer test (e ∷ es) short =
    let p = and_parts (is_short e) (are_short es) short in
    elim (cases_Bool (test e)) [
      | inl stays ↦ rw stays (and_from (is_short e) (are_short (filter test es)) p.0 (short_fewer test es p.1))
      | inr goes ↦ rw goes (short_fewer test es p.1)
    ]

pub short_left : (es new : List DirEntry) (dn : List ℕ) → new ≡ removed es dn → are_short es ≡ true → are_short new ≡ true
short_left es new dn made short = ap are_short made ∙ short_fewer (λ (e : DirEntry). not (same_dn_text e.dn dn)) es short
