-- New DNs, each once.
use Rattle.std.proofs.Common.{◌≡◌, ℕ, Bool, true, false, not, ◌&&◌, ◌||◌, List, [], ◌∷◌, ◌++◌, Option, Some, None, refl, sym, ap, ◌∙◌, subst, cond, inl, inr, ◌⊎◌, append_assoc}
use Rattle.std.proofs.lemmas.Bool.{or_left, or_right, and_parts}
use Rattle.std.proofs.lemmas.List.Folds.{list_any-append}
use Rattle.std.specs.List.{list_any}
use Rattle.sd_dn.specs.declared.Pair.{Pair}
use Rattle.sd_dn.specs.Comparing.{same_dn}
use Rattle.sd_dn.specs.Texts.{both_meet, spelled}
use Rattle.sd_nested.specs.Rounds.{is_new, listed_dn, dns_of, new_among}
use Rattle.sd_nested.proofs.In.{In, or_either}
use Rattle.sd_dn.proofs.Same.{self_dn}

-- a text spells a DN that is admitted
abbrev pub admitted : (List (List Pair) → Bool) → Option (List (List Pair)) → Bool
admitted admits None = false
admitted admits (Some dn) = admits dn

-- a DN equals one of these
abbrev pub met_by : Option (List (List Pair)) → List (List (List Pair)) → Bool
met_by None seen = false
met_by (Some dn) seen = list_any (same_dn dn) seen

pub met_left : (o : Option (List (List Pair))) (xs ys : List (List (List Pair))) → met_by o xs ≡ true → met_by o (xs ++ ys) ≡ true
met_left None xs ys h = h
met_left (Some dn) xs ys h = list_any-append (same_dn dn) xs ys ∙ or_left (list_any (same_dn dn) xs) (list_any (same_dn dn) ys) h

pub met_right : (o : Option (List (List Pair))) (xs ys : List (List (List Pair))) → met_by o ys ≡ true → met_by o (xs ++ ys) ≡ true
met_right None xs ys h = h
met_right (Some dn) xs ys h = list_any-append (same_dn dn) xs ys ∙ or_right (list_any (same_dn dn) xs) (list_any (same_dn dn) ys) h

pub met_either : (o : Option (List (List Pair))) (xs ys : List (List (List Pair))) → met_by o (xs ++ ys) ≡ true → (met_by o xs ≡ true) ⊎ (met_by o ys ≡ true)
met_either None xs ys h = inl h
met_either (Some dn) xs ys h = or_either (list_any (same_dn dn) xs) (list_any (same_dn dn) ys) (sym (list_any-append (same_dn dn) xs ys) ∙ h)

-- a DN is met where its own is listed
met_own : (admits : List (List Pair) → Bool) (o : Option (List (List Pair))) (ys : List (List (List Pair))) → admitted admits o ≡ true → met_by o (listed_dn o ++ ys) ≡ true
met_own admits None ys h = cc
met_own admits (Some dn) ys h = or_left (same_dn dn dn) (list_any (same_dn dn) ys) (self_dn dn)

-- what is admitted and not new is met already
old : (admits : List (List Pair) → Bool) (seen : List (List (List Pair))) (o : Option (List (List Pair))) → admitted admits o ≡ true → is_new admits seen o ≡ false → met_by o seen ≡ true
old admits seen None h n = cc
old admits seen (Some dn) h n = old_by (admits dn) (list_any (same_dn dn) seen) h n
  where
    old_by : (a b : Bool) → a ≡ true → (a && not b) ≡ false → b ≡ true
    old_by true true h n = refl
    old_by true false h n = cc
    old_by false b h n = cc

-- the list of new ones, by the answer on the first text
among_by : Bool → (List (List Pair) → Bool) → List (List (List Pair)) → List ℕ → List (List ℕ) → List (List ℕ)
among_by b admits seen text texts = cond b (text ∷ new_among admits (seen ++ listed_dn (spelled text)) texts) (new_among admits seen texts)

first_met : (b : Bool) (admits : List (List Pair) → Bool) (seen : List (List (List Pair))) (text : List ℕ) (texts : List (List ℕ)) → is_new admits seen (spelled text) ≡ b → admitted admits (spelled text) ≡ true
    → met_by (spelled text) (seen ++ dns_of (among_by b admits seen text texts)) ≡ true
unfolding among_by
first_met true admits seen text texts e h =
    met_right (spelled text) seen (listed_dn (spelled text) ++ dns_of (new_among admits (seen ++ listed_dn (spelled text)) texts))
    (met_own admits (spelled text) (dns_of (new_among admits (seen ++ listed_dn (spelled text)) texts)) h)
first_met false admits seen text texts e h = met_left (spelled text) seen (dns_of (new_among admits seen texts)) (old admits seen (spelled text) h e)

rest_met : (b : Bool) (admits : List (List Pair) → Bool) (seen : List (List (List Pair))) (text : List ℕ) (texts : List (List ℕ)) (o : Option (List (List Pair)))
    → met_by o ((seen ++ listed_dn (spelled text)) ++ dns_of (new_among admits (seen ++ listed_dn (spelled text)) texts)) ≡ true
    → met_by o (seen ++ dns_of (new_among admits seen texts)) ≡ true
    → met_by o (seen ++ dns_of (among_by b admits seen text texts)) ≡ true
unfolding among_by
rest_met true admits seen text texts o h g =
    ap (met_by o) (sym (append_assoc seen (listed_dn (spelled text)) (dns_of (new_among admits (seen ++ listed_dn (spelled text)) texts)))) ∙ h
rest_met false admits seen text texts o h g = g

-- each text that spells an admitted DN is met by those before and the new ones
pub all_met : (admits : List (List Pair) → Bool) (seen : List (List (List Pair))) (texts : List (List ℕ)) (text : List ℕ) → In text texts → admitted admits (spelled text) ≡ true
    → met_by (spelled text) (seen ++ dns_of (new_among admits seen texts)) ≡ true
unfolding among_by
all_met admits seen [] text h a = absurd h
all_met admits seen (t ∷ ts) text (inl e) a =
    subst (λ (x : List ℕ). met_by (spelled x) (seen ++ dns_of (new_among admits seen (t ∷ ts))) ≡ true) e
    (first_met (is_new admits seen (spelled t)) admits seen t ts refl (ap (λ (x : List ℕ). admitted admits (spelled x)) e ∙ a))
all_met admits seen (t ∷ ts) text (inr h) a =
    rest_met (is_new admits seen (spelled t)) admits seen t ts (spelled text) (all_met admits (seen ++ listed_dn (spelled t)) ts text h a) (all_met admits seen ts text h a)

new_admitted : (admits : List (List Pair) → Bool) (seen : List (List (List Pair))) (o : Option (List (List Pair))) → is_new admits seen o ≡ true → admitted admits o ≡ true
new_admitted admits seen None h = h
new_admitted admits seen (Some dn) h = (and_parts (admits dn) (not (list_any (same_dn dn) seen)) h).0

-- a new text is one of those given, and is admitted
pub record IsTaken (admits : List (List Pair) → Bool) (text : List ℕ) (texts : List (List ℕ)) : Type 0 where
  pub among : In text texts
  pub is_admitted : admitted admits (spelled text) ≡ true

taken_rest : (admits : List (List Pair) → Bool) (text t : List ℕ) (ts : List (List ℕ)) → IsTaken admits text ts → IsTaken admits text (t ∷ ts)
taken_rest admits text t ts h = record { among = inr h.among; is_admitted = h.is_admitted }

taken_by : (b : Bool) (admits : List (List Pair) → Bool) (seen : List (List (List Pair))) (t : List ℕ) (ts : List (List ℕ)) (text : List ℕ) → is_new admits seen (spelled t) ≡ b → In text (among_by b admits seen t ts)
    → (In text (new_among admits (seen ++ listed_dn (spelled t)) ts) → IsTaken admits text ts) → (In text (new_among admits seen ts) → IsTaken admits text ts) → IsTaken admits text (t ∷ ts)
unfolding among_by
taken_by true admits seen t ts text e (inl same) f g = record {
  among = inl same;
  is_admitted = subst (λ (x : List ℕ). admitted admits (spelled x) ≡ true) same (new_admitted admits seen (spelled t) e);
}
taken_by true admits seen t ts text e (inr h) f g = taken_rest admits text t ts (f h)
taken_by false admits seen t ts text e h f g = taken_rest admits text t ts (g h)

pub taken : (admits : List (List Pair) → Bool) (seen : List (List (List Pair))) (texts : List (List ℕ)) (text : List ℕ) → In text (new_among admits seen texts) → IsTaken admits text texts
unfolding among_by
taken admits seen [] text h = absurd h
taken admits seen (t ∷ ts) text h = taken_by (is_new admits seen (spelled t)) admits seen t ts text refl h (taken admits (seen ++ listed_dn (spelled t)) ts text) (taken admits seen ts text)

-- a DN that is met by those of texts equals that of one of the texts
pub record IsSpelledAmong (o : Option (List (List Pair))) (texts : List (List ℕ)) : Type 0 where
  pub text : List ℕ
  pub among : In text texts
  pub same : both_meet same_dn o (spelled text) ≡ true

spelled_first : (o p : Option (List (List Pair))) → met_by o (listed_dn p) ≡ true → both_meet same_dn o p ≡ true
spelled_first None p h = cc
spelled_first (Some d) None h = h
spelled_first (Some d) (Some e) h = only (same_dn d e) h
  where
    only : (b : Bool) → (b || false) ≡ true → b ≡ true
    only true h = refl
    only false h = h

spelled_by : (o : Option (List (List Pair))) (t : List ℕ) (ts : List (List ℕ)) → (met_by o (listed_dn (spelled t)) ≡ true) ⊎ (met_by o (dns_of ts) ≡ true) → (met_by o (dns_of ts) ≡ true → IsSpelledAmong o ts) → IsSpelledAmong o (t ∷ ts)
spelled_by o t ts (inl h) k = record { text = t; among = inl refl; same = spelled_first o (spelled t) h }
spelled_by o t ts (inr h) k = let r = k h in record { text = r.text; among = inr r.among; same = r.same }

none_met : (o : Option (List (List Pair))) → met_by o [] ≡ true → IsSpelledAmong o []
none_met None h = cc
none_met (Some d) h = cc

pub spelled_among : (o : Option (List (List Pair))) (texts : List (List ℕ)) → met_by o (dns_of texts) ≡ true → IsSpelledAmong o texts
spelled_among o [] h = none_met o h
spelled_among o (t ∷ ts) h = spelled_by o t ts (met_either o (listed_dn (spelled t)) (dns_of ts) h) (spelled_among o ts)
