-- Rounds one after the other.
use Rattle.std.proofs.Common.{◌≡◌, ℕ, zero, suc, ◌+◌, ◌≤◌, List, [], ◌++◌, map, Some, None, refl, sym, ap, ◌∙◌, subst, append_assoc, append-nil, arith, inl, inr, ◌⊎◌}
use Rattle.std.proofs.lemmas.List.{map-append}
use Rattle.std.proofs.lemmas.Bool.{cases_lt}
use Rattle.std.specs.List.{flat_map}
use Rattle.sd_ldap.specs.declared.entry.DirEntry.{DirEntry}
use Rattle.sd_nested.specs.declared.searcher.Stop.{Stop}
use Rattle.sd_nested.specs.declared.searcher.Stop.TheVariants as stops
use Rattle.sd_nested.specs.Searches.{Question, Exchange}
use Rattle.sd_nested.specs.Asking.{AskedOf, Exchanged, ExchangedOver, questions}
use Rattle.sd_nested.specs.Rounds.{Way, Rounds, new_among, next_round, rounds, dns_of}
use Rattle.sd_nested.specs.declared.rounds.Direction.{Direction}
use Rattle.sd_nested.specs.declared.rounds.Direction.TheVariants as directions
use Rattle.sd_nested.specs.Directions.{admits_by, leads_by, way_by}
use Rattle.sd_rules.specs.declared.records.GroupRef.{GroupRef}
use Rattle.std.proofs.lemmas.Grind.{flat_map-append}
use Rattle.sd_dn.specs.declared.Pair.{Pair}
use Rattle.sd_nested.proofs.Exchanges.{goes_more, ends_more, asked_both}

-- ---- the questions of rounds

joined_to : (q : List ℕ → Question) (before due after : List (List ℕ)) → before ++ due ≡ after → map q before ++ map q due ≡ map q after
joined_to q before due after e = sym (map-append q before due) ∙ ap (map q) e

-- a round that went to its end
pub went_on : {S : Type 0} (went : S → Exchange → S → Type 0) (a b c : S) (q : List ℕ → Question) (tells : List DirEntry → Type 0) (before after : List DirEntry → List (List ℕ)) (due : List (List ℕ))
    → ExchangedOver went a b None tells (λ told. map q (before told)) → Exchanged went b c None (Some (map q due))
    → ((told : List DirEntry) → tells told → before told ++ due ≡ after told)
    → ExchangedOver went a c None tells (λ told. map q (after told))
went_on went a b c q tells before after due g h f = record {
  exchanges = g.exchanges ++ h.exchanges;
  in_order = goes_more went a b c g.exchanges h.exchanges g.in_order h.in_order;
  ends = ends_more None g.exchanges h.exchanges g.ends h.ends;
  asked = λ told t. subst (λ (all : List Question). AskedOf None (questions (g.exchanges ++ h.exchanges)) all) (joined_to q (before told) due (after told) (f told t))
      (asked_both None g.exchanges h.exchanges (map q (before told)) (map q due) (g.asked told t) h.asked);
}

longer : (stop : Stop) (asked xs rest : List Question) → AskedOf (Some stop) asked xs → AskedOf (Some stop) asked (xs ++ rest)
longer stop asked xs rest h = (h.0 ++ rest, sym (append_assoc asked h.0 rest) ∙ ap (λ (zs : List Question). zs ++ rest) h.1)

front_of : (stop : Stop) (asked : List Question) (q : List ℕ → Question) (before due rest all : List (List ℕ)) → (before ++ due) ++ rest ≡ all → AskedOf (Some stop) asked (map q before ++ map q due) → AskedOf (Some stop) asked (map q all)
front_of stop asked q before due rest all e h =
    subst (λ (qs : List Question). AskedOf (Some stop) asked qs)
    (ap (λ (qs : List Question). qs ++ map q rest) (sym (map-append q before due)) ∙ joined_to q (before ++ due) rest all e)
    (longer stop asked (map q before ++ map q due) (map q rest) h)

-- a round that stopped
pub stopped_in : {S : Type 0} (went : S → Exchange → S → Type 0) (a b c : S) (stop : Stop) (q : List ℕ → Question) (tells : List DirEntry → Type 0) (before all : List DirEntry → List (List ℕ)) (due : List (List ℕ))
    → ExchangedOver went a b None tells (λ told. map q (before told)) → Exchanged went b c (Some stop) (Some (map q due))
    → ((told : List DirEntry) → tells told → (rest : List (List ℕ)) × ((before told ++ due) ++ rest ≡ all told))
    → ExchangedOver went a c (Some stop) tells (λ told. map q (all told))
stopped_in went a b c stop q tells before all due g h f = record {
  exchanges = g.exchanges ++ h.exchanges;
  in_order = goes_more went a b c g.exchanges h.exchanges g.in_order h.in_order;
  ends = ends_more (Some stop) g.exchanges h.exchanges g.ends h.ends;
  asked = λ told t. front_of stop (questions (g.exchanges ++ h.exchanges)) q (before told) due (f told t).0 (all told) (f told t).1
      (asked_both (Some stop) g.exchanges h.exchanges (map q (before told)) (map q due) (g.asked told t) h.asked);
}

-- no round more
pub ended : {S : Type 0} (went : S → Exchange → S → Type 0) (a b : S) (q : List ℕ → Question) (tells : List DirEntry → Type 0) (before all : List DirEntry → List (List ℕ))
    → ExchangedOver went a b None tells (λ told. map q (before told)) → ((told : List DirEntry) → tells told → before told ≡ all told)
    → ExchangedOver went a b None tells (λ told. map q (all told))
ended went a b q tells before all g f = record { exchanges = g.exchanges; in_order = g.in_order; ends = g.ends; asked = λ told t. g.asked told t ∙ ap (map q) (f told t) }

-- memory was wanting when all was asked
pub starved_after : {S : Type 0} (went : S → Exchange → S → Type 0) (a b : S) (tells : List DirEntry → Type 0) (due : List DirEntry → List Question) → ExchangedOver went a b None tells due → ExchangedOver went a b (Some stops.Memory) tells due
starved_after went a b tells due g = record { exchanges = g.exchanges; in_order = g.in_order; ends = tt; asked = λ told t. ([], append-nil (questions g.exchanges) ∙ g.asked told t) }

-- memory was wanting before anything was asked
pub starved_before : {S : Type 0} (went : S → Exchange → S → Type 0) (a : S) (tells : List DirEntry → Type 0) (due : List DirEntry → List Question) → ExchangedOver went a a (Some stops.Memory) tells due
starved_before went a tells due = record { exchanges = []; in_order = refl; ends = tt; asked = λ told t. (due told, refl) }

-- nothing asked, where nothing is due
pub nothing_over : {S : Type 0} (went : S → Exchange → S → Type 0) (a : S) (tells : List DirEntry → Type 0) (due : List DirEntry → List Question) → ((told : List DirEntry) → tells told → due told ≡ []) → ExchangedOver went a a None tells due
nothing_over went a tells due f = record { exchanges = []; in_order = refl; ends = tt; asked = λ told t. sym (f told t) }

-- ---- rounds with nobody left to ask, and fronts

pub record IsOver (way : Way) (start : Rounds) (n m : ℕ) : Type 0 where
  pub asked : (rounds way start n).asked ≡ (rounds way start m).asked
  pub found : (rounds way start n).found ≡ (rounds way start m).found
  pub due : (rounds way start m).due ≡ []

over_step : (way : Way) (r : Rounds) → r.due ≡ [] → (r.asked ≡ (next_round way r).asked) × (r.found ≡ (next_round way r).found) × ((next_round way r).due ≡ [])
over_step way r e = (
  sym (append-nil r.asked) ∙ ap (λ (xs : List (List ℕ)). r.asked ++ xs) (sym e),
  sym (append-nil r.found) ∙ ap (λ (xs : List (List ℕ)). r.found ++ flat_map way.answers xs) (sym e),
  ap (λ (xs : List (List ℕ)). new_among way.admits r.seen (flat_map way.leads (flat_map way.answers xs))) e,
)

pub at_most : (n m : ℕ) → n ≤ suc m → (n ≤ m) ⊎ (n ≡ suc m)
at_most n m le = elim (cases_lt n (suc m)) [ inl less ↦ inl (omega arith) | inr more ↦ inr (omega arith) ]

over_same : (way : Way) (start : Rounds) (n m : ℕ) → n ≡ m → (rounds way start n).due ≡ [] → IsOver way start n m
over_same way start n m same e = record {
  asked = ap (λ (k : ℕ). (rounds way start k).asked) same;
  found = ap (λ (k : ℕ). (rounds way start k).found) same;
  due = ap (λ (k : ℕ). (rounds way start k).due) (sym same) ∙ e;
}

over_more : (way : Way) (start : Rounds) (n m : ℕ) → IsOver way start n m → IsOver way start n (suc m)
over_more way start n m o =
    let p = over_step way (rounds way start m) o.due in
    record { asked = o.asked ∙ p.0; found = o.found ∙ p.1; due = p.2 }

pub over : (way : Way) (start : Rounds) (n m : ℕ) → n ≤ m → (rounds way start n).due ≡ [] → IsOver way start n m
over way start n zero le e = over_same way start n zero (omega arith) e
over way start n (suc m) le e = elim (at_most n m le) [ inl less ↦ over_more way start n m (over way start n m less e) | inr same ↦ over_same way start n (suc m) same e ]

-- what was asked up to a round is a front of what is asked up to a later one
pub front : (way : Way) (start : Rounds) (n m : ℕ) → n ≤ m → (rest : List (List ℕ)) × ((rounds way start n).asked ++ rest ≡ (rounds way start m).asked)
front way start n zero le = ([], append-nil (rounds way start n).asked ∙ ap (λ (k : ℕ). (rounds way start k).asked) (let e : n ≡ 0 = omega arith in e))
front way start n (suc m) le =
    elim (at_most n m le) [
      | inl less ↦
          let f = front way start n m less in
          (f.0 ++ (rounds way start m).due, sym (append_assoc (rounds way start n).asked f.0 (rounds way start m).due) ∙ ap (λ (xs : List (List ℕ)). xs ++ (rounds way start m).due) f.1)
      | inr same ↦ ([], append-nil (rounds way start n).asked ∙ ap (λ (k : ℕ). (rounds way start k).asked) same)
    ]

-- ---- a round of the code

pub one_more : (P : ℕ → Type 0) (n : ℕ) → P (suc n) → P (n + 1)
one_more P n p = subst P (let e : suc n ≡ n + 1 = omega arith in e) p

due_by : (way : Way) (r : Rounds) (seen : List (List (List Pair))) (due next : List (List ℕ)) → due ≡ r.due → seen ≡ r.seen
    → next ≡ new_among way.admits seen (flat_map way.leads (flat_map way.answers due)) → next ≡ (next_round way r).due
due_by way r seen due next d s n =
    n ∙ (ap (λ (x : List (List (List Pair))). new_among way.admits x (flat_map way.leads (flat_map way.answers due))) s
    ∙ ap (λ (x : List (List ℕ)). new_among way.admits r.seen (flat_map way.leads (flat_map way.answers x))) d)

pub next_due : (told : List DirEntry) (base : List ℕ) (d : Direction) (r : Rounds) (seen : List (List (List Pair))) (due next : List (List ℕ)) → due ≡ r.due → seen ≡ r.seen
    → next ≡ new_among (admits_by d) seen (flat_map (leads_by d) (flat_map (way_by told base d).answers due)) → next ≡ (next_round (way_by told base d) r).due
next_due told base (directions.Members own) r seen due next x s n = due_by (way_by told base (directions.Members own)) r seen due next x s n
next_due told base directions.Holders r seen due next x s n = due_by (way_by told base directions.Holders) r seen due next x s n

pub next_seen : (way : Way) (r : Rounds) (seen now : List (List (List Pair))) (next : List (List ℕ)) → seen ≡ r.seen → now ≡ seen ++ dns_of next → next ≡ (next_round way r).due → now ≡ (next_round way r).seen
next_seen way r seen now next s n d = n ∙ (ap (λ (x : List (List (List Pair))). x ++ dns_of next) s ∙ ap (λ (x : List (List ℕ)). r.seen ++ dns_of x) d)

pub next_kept : (f : DirEntry → List GroupRef) (way : Way) (r : Rounds) (kept now : List GroupRef) (due : List (List ℕ)) → due ≡ r.due → kept ≡ flat_map f r.found
    → now ≡ kept ++ flat_map f (flat_map way.answers due) → now ≡ flat_map f (next_round way r).found
next_kept f way r kept now due d k n =
    n ∙ (ap (λ (x : List GroupRef). x ++ flat_map f (flat_map way.answers due)) k
    ∙ (ap (λ (x : List (List ℕ)). flat_map f r.found ++ flat_map f (flat_map way.answers x)) d
    ∙ sym (flat_map-append f r.found (flat_map way.answers r.due))))
