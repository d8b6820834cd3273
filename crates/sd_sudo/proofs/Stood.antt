-- The netgroups in which a user stands, one after the other.
use Rattle.std.proofs.Common.{◌≡◌, ℕ, ◌+◌, ◌<◌, ◌≤◌, Bool, true, false, cond, List, [], ◌∷◌, ◌++◌, length, drop, get_or, refl, sym, ap, ◌∙◌, subst, inl, inr, append_assoc, append-nil}
use Rattle.std.proofs.lemmas.List.{drop_more, drop_all}
use Rattle.sd_ldap.specs.declared.entry.DirEntry.{DirEntry}
use Rattle.sd_netgroup.specs.Told.{AreWithin}
use Rattle.sd_netgroup.specs.Endings.{directory_of, IsLimited}
use Rattle.sd_sudo.specs.Standing.{StandsIn, IsSo, AreStood, NetsPass, NetsMeet}

-- what the netgroups that are left come to, all come to
pub record Left (entries : List DirEntry) (base user : List ℕ) (asked left nets : List (List ℕ)) : Type 0 where
  pub within : NetsPass entries base left → NetsPass entries base asked
  pub stood : (rest : List (List ℕ)) → AreStood entries base user left rest → AreStood entries base user asked (nets ++ rest)
  pub met : NetsMeet entries base left → NetsMeet entries base asked

next_is : (xs : List (List ℕ)) (i : ℕ) (x : List ℕ) → i < length xs → x ≡ get_or xs i x → drop i xs ≡ x ∷ drop (i + 1) xs
next_is xs i x h e = drop_more xs i x h ∙ ap (λ (y : List ℕ). y ∷ drop (i + 1) xs) (sym e)

pub at_first : (entries : List DirEntry) (base user : List ℕ) (asked : List (List ℕ)) → Left entries base user asked (drop 0 asked) []
at_first entries base user [] = record { within = λ h. h; stood = λ rest h. h; met = λ h. h }
at_first entries base user (n ∷ ns) = record { within = λ h. h; stood = λ rest h. h; met = λ h. h }

one_more : (entries : List DirEntry) (base user : List ℕ) (asked left nets : List (List ℕ)) (net : List ℕ) (b : Bool) → AreWithin (directory_of entries) 0 1 base net → IsSo (StandsIn entries base user net) b → Left entries base user asked (net ∷ left) nets → Left entries base user asked left (nets ++ cond b (net ∷ []) [])
one_more entries base user asked left nets net true w s l = record {
  within = λ h. l.within (w, h);
  stood = λ rest h. subst (AreStood entries base user asked) (sym (append_assoc nets (net ∷ []) rest)) (l.stood (net ∷ rest) (inl (s, (rest, refl, h))));
  met = λ h. l.met (inr h);
}
one_more entries base user asked left nets net false w s l = record {
  within = λ h. l.within (w, h);
  stood = λ rest h. subst (AreStood entries base user asked) (ap (λ (ns : List (List ℕ)). ns ++ rest) (sym (append-nil nets))) (l.stood rest (inr (s, h)));
  met = λ h. l.met (inr h);
}

pub next_left : (entries : List DirEntry) (base user : List ℕ) (asked nets nets' : List (List ℕ)) (i : ℕ) (net : List ℕ) (b : Bool) → i < length asked → net ≡ get_or asked i net → AreWithin (directory_of entries) 0 1 base net → IsSo (StandsIn entries base user net) b → nets' ≡ nets ++ cond b (net ∷ []) []
    → Left entries base user asked (drop i asked) nets → Left entries base user asked (drop (i + 1) asked) nets'
next_left entries base user asked nets nets' i net b h e w s n l =
    subst (Left entries base user asked (drop (i + 1) asked)) (sym n)
    (one_more entries base user asked (drop (i + 1) asked) nets net b w s (subst (λ (xs : List (List ℕ)). Left entries base user asked xs nets) (next_is asked i net h e) l))

none_left : (entries : List DirEntry) (base user : List ℕ) (asked left nets : List (List ℕ)) → left ≡ [] → Left entries base user asked left nets → Left entries base user asked [] nets
none_left entries base user asked left nets e l = subst (λ (xs : List (List ℕ)). Left entries base user asked xs nets) e l

pub all_within : (entries : List DirEntry) (base user : List ℕ) (asked nets : List (List ℕ)) (i : ℕ) → length asked ≤ i → Left entries base user asked (drop i asked) nets → NetsPass entries base asked
all_within entries base user asked nets i h l = (none_left entries base user asked (drop i asked) nets (drop_all i asked h) l).within tt

pub all_stood : (entries : List DirEntry) (base user : List ℕ) (asked nets : List (List ℕ)) (i : ℕ) → length asked ≤ i → Left entries base user asked (drop i asked) nets → AreStood entries base user asked nets
all_stood entries base user asked nets i h l = subst (AreStood entries base user asked) (append-nil nets) ((none_left entries base user asked (drop i asked) nets (drop_all i asked h) l).stood [] refl)

pub one_meets : (entries : List DirEntry) (base user : List ℕ) (asked nets : List (List ℕ)) (i : ℕ) (net : List ℕ) → i < length asked → net ≡ get_or asked i net → Left entries base user asked (drop i asked) nets → IsLimited entries base net → NetsMeet entries base asked
one_meets entries base user asked nets i net h e l m = (subst (λ (xs : List (List ℕ)). Left entries base user asked xs nets) (next_is asked i net h e) l).met (inl m)
