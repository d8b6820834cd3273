-- Rounds find what paths reach: a path goes from texts to the entries found for those that are admitted, and on
-- to the texts that these lead on to.
use Rattle.std.proofs.Common.{◌≡◌, ℕ, zero, suc, ◌+◌, ◌≤◌, true, List, [], ◌∷◌, ◌++◌, Option, refl, sym, ap, ◌∙◌, subst, inl, inr, ◌⊎◌, arith}
use Rattle.std.proofs.lemmas.Grind.{flat_map-append}
use Rattle.std.specs.Prelude.{filter}
use Rattle.std.specs.List.{flat_map}
use Rattle.sd_dn.specs.declared.Pair.{Pair}
use Rattle.sd_dn.specs.Texts.{spelled, same_dn_text}
use Rattle.sd_ldap.specs.declared.entry.DirEntry.{DirEntry}
use Rattle.sd_nested.specs.Rounds.{Way, Rounds, next_round, rounds, dns_of}
use Rattle.sd_nested.proofs.In.{In, in_left, in_right, in_either, in_flat, in_from, in_filter, filter_in}
use Rattle.sd_nested.proofs.Marks.{admitted, met_by, met_left, met_either, all_met, taken, IsSpelledAmong, spelled_among}
use Rattle.sd_nested.proofs.Turns.{at_most}

-- the texts that are admitted
abbrev pub admitted_of : Way → List (List ℕ) → List (List ℕ)
admitted_of way texts = filter (λ text. admitted way.admits (spelled text)) texts

-- the entries found for them
abbrev pub found_for : Way → List (List ℕ) → List DirEntry
found_for way texts = flat_map way.answers (admitted_of way texts)

-- the ends of the paths of 1 to n steps from texts
abbrev pub ends : Way → ℕ → List (List ℕ) → List DirEntry
ends way zero texts = []
ends way (suc n) texts = flat_map (λ (e : DirEntry). e ∷ ends way n (way.leads e)) (found_for way texts)

-- texts of equal DNs find the same
pub record IsAlike (way : Way) : Type 0 where
  pub alike : (a b : List ℕ) (e : DirEntry) → same_dn_text a b ≡ true → In e (way.answers a) → In e (way.answers b)

-- ---- one step, and a step more

one_step : (way : Way) (n : ℕ) (texts : List (List ℕ)) (e : DirEntry) → In e (found_for way texts) → In e (ends way (suc n) texts)
one_step way n texts e h = in_flat (λ (x : DirEntry). x ∷ ends way n (way.leads x)) e e (found_for way texts) h (inl refl)

found_by : (way : Way) (texts : List (List ℕ)) (text : List ℕ) (e : DirEntry) → In text texts → admitted way.admits (spelled text) ≡ true → In e (way.answers text) → In e (found_for way texts)
found_by way texts text e h a g = in_flat way.answers text e (admitted_of way texts) (in_filter (λ t. admitted way.admits (spelled t)) text texts h a) g

-- an entry at the end of a path is the first, or is at the end of a path from the first
longer_by : (way : Way) (n : ℕ) (x e : DirEntry) → In e (x ∷ ends way n (way.leads x)) → (In e (ends way n (way.leads x)) → In e (ends way (suc n) (way.leads x))) → In e (x ∷ ends way (suc n) (way.leads x))
longer_by way n x e (inl same) k = inl same
longer_by way n x e (inr h) k = inr (k h)

pub more_steps : (way : Way) (n : ℕ) (texts : List (List ℕ)) (e : DirEntry) → In e (ends way n texts) → In e (ends way (suc n) texts)
more_steps way zero texts e h = absurd h
more_steps way (suc n) texts e h =
    let f = in_from (λ (x : DirEntry). x ∷ ends way n (way.leads x)) e (found_for way texts) h in
    in_flat (λ (x : DirEntry). x ∷ ends way (suc n) (way.leads x)) f.source e (found_for way texts) f.among
    (longer_by way n f.source e f.gives (more_steps way n (way.leads f.source) e))

-- from the end of a path one step on
onward_by : (way : Way) (n : ℕ) (x h e : DirEntry) (text : List ℕ) → In h (x ∷ ends way n (way.leads x)) → In text (way.leads h) → admitted way.admits (spelled text) ≡ true → In e (way.answers text)
    → (In h (ends way n (way.leads x)) → In e (ends way (suc n) (way.leads x))) → In e (x ∷ ends way (suc n) (way.leads x))
onward_by way n x h e text (inl same) l a g k =
    inr (one_step way n (way.leads x) e (found_by way (way.leads x) text e (subst (λ (y : DirEntry). In text (way.leads y)) (sym same) l) a g))
onward_by way n x h e text (inr deeper) l a g k = inr (k deeper)

onward : (way : Way) (n : ℕ) (texts : List (List ℕ)) (h e : DirEntry) (text : List ℕ) → In h (ends way n texts) → In text (way.leads h) → admitted way.admits (spelled text) ≡ true → In e (way.answers text)
    → In e (ends way (suc n) texts)
onward way zero texts h e text p l a g = absurd p
onward way (suc n) texts h e text p l a g =
    let f = in_from (λ (x : DirEntry). x ∷ ends way n (way.leads x)) h (found_for way texts) p in
    in_flat (λ (x : DirEntry). x ∷ ends way (suc n) (way.leads x)) f.source e (found_for way texts) f.among
    (onward_by way n f.source h e text f.gives l a g (λ q. onward way n (way.leads f.source) h e text q l a g))

-- ---- what rounds find, paths reach

-- a text that is due is admitted, and is one of the first or one that an entry leads on to
pub record IsDue (way : Way) (texts : List (List ℕ)) (n : ℕ) (text : List ℕ) : Type 0 where
  pub is_admitted : admitted way.admits (spelled text) ≡ true
  pub comes : In text texts ⊎ ((h : DirEntry) × In h (ends way n texts) × In text (way.leads h))

reached_by : (way : Way) (texts : List (List ℕ)) (n : ℕ) (text : List ℕ) (e : DirEntry) → admitted way.admits (spelled text) ≡ true
    → In text texts ⊎ ((h : DirEntry) × In h (ends way n texts) × In text (way.leads h)) → In e (way.answers text) → In e (ends way (suc n) texts)
reached_by way texts n text e a (inl first) g = one_step way n texts e (found_by way texts text e first a g)
reached_by way texts n text e a (inr later) g = onward way n texts later.0 e text later.1 later.2 a g

-- how far rounds have come, against paths
pub record IsSound (way : Way) (texts : List (List ℕ)) (n : ℕ) (r : Rounds) : Type 0 where
  pub found : (e : DirEntry) → In e r.found → In e (ends way n texts)
  pub due : (text : List ℕ) → In text r.due → IsDue way texts n text

given_reached : (way : Way) (texts : List (List ℕ)) (n : ℕ) (r : Rounds) → IsSound way texts n r → (e : DirEntry) → In e (flat_map way.answers r.due) → In e (ends way (suc n) texts)
given_reached way texts n r s e h =
    let f = in_from way.answers e r.due h in
    let d = s.due f.source f.among in
    reached_by way texts n f.source e d.is_admitted d.comes f.gives

found_reached : (way : Way) (texts : List (List ℕ)) (n : ℕ) (r : Rounds) → IsSound way texts n r → (e : DirEntry) → In e r.found ⊎ In e (flat_map way.answers r.due) → In e (ends way (suc n) texts)
found_reached way texts n r s e (inl before) = more_steps way n texts e (s.found e before)
found_reached way texts n r s e (inr now) = given_reached way texts n r s e now

next_due_comes : (way : Way) (texts : List (List ℕ)) (n : ℕ) (r : Rounds) → IsSound way texts n r → (text : List ℕ) → In text (next_round way r).due → IsDue way texts (suc n) text
next_due_comes way texts n r s text h =
    let t = taken way.admits r.seen (flat_map way.leads (flat_map way.answers r.due)) text h in
    let f = in_from way.leads text (flat_map way.answers r.due) t.among in
    record { is_admitted = t.is_admitted; comes = inr (f.source, given_reached way texts n r s f.source f.among, f.gives) }

next_sound : (way : Way) (texts : List (List ℕ)) (n : ℕ) (r : Rounds) → IsSound way texts n r → IsSound way texts (suc n) (next_round way r)
next_sound way texts n r s = record {
  found = λ e h. found_reached way texts n r s e (in_either e r.found (flat_map way.answers r.due) h);
  due = next_due_comes way texts n r s;
}

pub all_sound : (way : Way) (texts : List (List ℕ)) (start : Rounds) → IsSound way texts 0 start → (n : ℕ) → IsSound way texts n (rounds way start n)
all_sound way texts start s zero = s
all_sound way texts start s (suc n) = next_sound way texts n (rounds way start n) (all_sound way texts start s n)

-- ---- what paths reach, rounds find

-- the DNs met are those asked or due; what was found was found for those asked; all that it leads on to was met
pub record IsMarked (way : Way) (r : Rounds) : Type 0 where
  pub seen : (o : Option (List (List Pair))) → met_by o r.seen ≡ true → IsSpelledAmong o (r.asked ++ r.due)
  pub found : flat_map way.answers r.asked ≡ r.found
  pub leads : (e : DirEntry) (text : List ℕ) → In e r.found → In text (way.leads e) → admitted way.admits (spelled text) ≡ true → met_by (spelled text) r.seen ≡ true

among_left : (o : Option (List (List Pair))) (xs ys : List (List ℕ)) → IsSpelledAmong o xs → IsSpelledAmong o (xs ++ ys)
among_left o xs ys h = record { text = h.text; among = in_left h.text xs ys h.among; same = h.same }

among_right : (o : Option (List (List Pair))) (xs ys : List (List ℕ)) → IsSpelledAmong o ys → IsSpelledAmong o (xs ++ ys)
among_right o xs ys h = record { text = h.text; among = in_right h.text xs ys h.among; same = h.same }

seen_by : (way : Way) (r : Rounds) → IsMarked way r → (o : Option (List (List Pair))) (due : List (List ℕ)) → (met_by o r.seen ≡ true) ⊎ (met_by o (dns_of due) ≡ true) → IsSpelledAmong o ((r.asked ++ r.due) ++ due)
seen_by way r m o due (inl before) = among_left o (r.asked ++ r.due) due (m.seen o before)
seen_by way r m o due (inr now) = among_right o (r.asked ++ r.due) due (spelled_among o due now)

leads_met : (way : Way) (r : Rounds) → IsMarked way r → (e : DirEntry) (text : List ℕ) → In e r.found ⊎ In e (flat_map way.answers r.due) → In text (way.leads e) → admitted way.admits (spelled text) ≡ true
    → met_by (spelled text) (next_round way r).seen ≡ true
leads_met way r m e text (inl before) l a = met_left (spelled text) r.seen (dns_of (next_round way r).due) (m.leads e text before l a)
leads_met way r m e text (inr now) l a =
    all_met way.admits r.seen (flat_map way.leads (flat_map way.answers r.due)) text (in_flat way.leads e text (flat_map way.answers r.due) now l) a

next_marked : (way : Way) (r : Rounds) → IsMarked way r → IsMarked way (next_round way r)
next_marked way r m = record {
  seen = λ o h. seen_by way r m o (next_round way r).due (met_either o r.seen (dns_of (next_round way r).due) h);
  found = flat_map-append way.answers r.asked r.due ∙ ap (λ (xs : List DirEntry). xs ++ flat_map way.answers r.due) m.found;
  leads = λ e text h l a. leads_met way r m e text (in_either e r.found (flat_map way.answers r.due) h) l a;
}

pub all_marked : (way : Way) (start : Rounds) → IsMarked way start → (n : ℕ) → IsMarked way (rounds way start n)
all_marked way start m zero = m
all_marked way start m (suc n) = next_marked way (rounds way start n) (all_marked way start m n)

-- what is found stays found
stays_by : (way : Way) (start : Rounds) (n m : ℕ) (e : DirEntry) → In e (rounds way start n).found → (n ≤ m) ⊎ (n ≡ suc m) → (n ≤ m → In e (rounds way start m).found) → In e (rounds way start (suc m)).found
stays_by way start n m e h (inl less) k = in_left e (rounds way start m).found (flat_map way.answers (rounds way start m).due) (k less)
stays_by way start n m e h (inr same) k = subst (λ (i : ℕ). In e (rounds way start i).found) same h

stays : (way : Way) (start : Rounds) (n m : ℕ) (e : DirEntry) → n ≤ m → In e (rounds way start n).found → In e (rounds way start m).found
stays way start n zero e le h = subst (λ (i : ℕ). In e (rounds way start i).found) (let same : n ≡ 0 = omega arith in same) h
stays way start n (suc m) e le h = stays_by way start n m e h (at_most n m le) (λ less. stays way start n m e less h)

-- all admitted texts were asked within so many rounds
abbrev pub AreAsked : Way → Rounds → List (List ℕ) → Type 0
AreAsked way r texts = (text : List ℕ) → In text texts → admitted way.admits (spelled text) ≡ true → IsSpelledAmong (spelled text) r.asked

-- what is found for texts that were asked was found
found_then : (way : Way) → IsAlike way → (start : Rounds) → IsMarked way start → (r : ℕ) (texts : List (List ℕ)) → AreAsked way (rounds way start r) texts → (e : DirEntry) → In e (found_for way texts) → In e (rounds way start r).found
found_then way alike start m r texts asked e h =
    let f = in_from way.answers e (admitted_of way texts) h in
    let p = filter_in (λ t. admitted way.admits (spelled t)) f.source texts f.among in
    let a = asked f.source p.0 p.1 in
    subst (λ (es : List DirEntry). In e es) (all_marked way start m r).found
    (in_flat way.answers a.text e (rounds way start r).asked a.among (alike.alike f.source a.text e a.same f.gives))

-- and all that it leads on to is asked in the next round
asked_next : (way : Way) (start : Rounds) → IsMarked way start → (r : ℕ) (e : DirEntry) → In e (rounds way start r).found → AreAsked way (rounds way start (suc r)) (way.leads e)
asked_next way start m r e h text l a =
    let k = all_marked way start m r in
    k.seen (spelled text) (k.leads e text h l a)

found_rest : (way : Way) (start : Rounds) (n m : ℕ) (x e : DirEntry) → In e (x ∷ ends way n (way.leads x)) → In x (rounds way start m).found → (In e (ends way n (way.leads x)) → In e (rounds way start m).found) → In e (rounds way start m).found
found_rest way start n m x e (inl same) h k = subst (λ (y : DirEntry). In y (rounds way start m).found) same h
found_rest way start n m x e (inr deeper) h k = k deeper

-- the ends of paths of up to n + 1 steps, from texts that were asked within r rounds, are found within r + n
pub all_found : (way : Way) → IsAlike way → (start : Rounds) → IsMarked way start → (n r m : ℕ) (texts : List (List ℕ)) → r + n ≤ m → AreAsked way (rounds way start r) texts → (e : DirEntry)
    → In e (ends way (suc n) texts) → In e (rounds way start m).found
all_found way alike start k zero r m texts le asked e h =
    let f = in_from (λ (x : DirEntry). x ∷ ends way zero (way.leads x)) e (found_for way texts) h in
    let here = found_then way alike start k r texts asked f.source f.among in
    found_rest way start zero m f.source e f.gives (stays way start r m f.source (omega arith) here) (λ none. absurd none)
all_found way alike start k (suc n) r m texts le asked e h =
    let f = in_from (λ (x : DirEntry). x ∷ ends way (suc n) (way.leads x)) e (found_for way texts) h in
    let here = found_then way alike start k r texts asked f.source f.among in
    found_rest way start (suc n) m f.source e f.gives (stays way start r m f.source (omega arith) here)
    (λ deeper. all_found way alike start k n (suc r) m (way.leads f.source) (omega arith) (asked_next way start k r f.source here) e deeper)
