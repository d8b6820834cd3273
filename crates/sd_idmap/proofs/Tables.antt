-- What the two tables say of the slices.
use Rattle.std.specs.Prelude.{nat_lt, nat_le, ◌==◌, ◌&&◌, ◌||◌, not, find, is_some, IfSome}
use Rattle.std.proofs.Common.{◌≡◌, ◌<◌, ◌≤◌, ℕ, ◌+◌, ◌-◌, ◌/◌, ◌%◌, Bool, true, false, cond, List, [], ◌∷◌, ◌++◌, length, map, Option, Some, None, refl, sym, ap, subst, ◌∙◌, arith, inl, inr}
use Rattle.std.specs.List.{list_any, list_all, range_with_len}
use Rattle.std.specs.Option.{option_or, option_map, option_map_or}
use Rattle.std.specs.Map.{lookup}
use Rattle.std.proofs.lemmas.Bool.{cases_Bool, cases_lt, eq-eqb, ne_eqb, and_from, and_parts, and_left, and_right, le-leb, lt-ltb, le-ltb, lt-leb, leb-true, ltb-true}
use Rattle.std.proofs.lemmas.List.{length_push, length-map, map_push}
use Rattle.std.proofs.lemmas.List.Folds.{find-append, list_all-append}
use Rattle.std.proofs.lemmas.List.Sums.{fold-append}
use Rattle.sd_idmap.specs.declared.sids.Sid.{Sid}
use Rattle.sd_idmap.specs.Slicing.{Placed, same_domain, home, is_free, going_round, free_slice, with_slice, placed, is_held, slice_of, number_in, id_of, has_number, sid_of}
use Rattle.sd_idmap.specs.Keeping.{AreTables, turned, is_empty_at, divided}
use Rattle.sd_idmap.specs.Laws.{KeepsNumbers, IsAlone, IsSidOf}
use Rattle.indexmap.proofs.CallerLemmas.{insert_entry-new}
use Rattle.sd_idmap.proofs.Apart.{lookup_kept, apart_push, find_by_slice, lookup_by_found, turned_lookup, turned_find}
use Rattle.sd_idmap.proofs.Pigeons.{free_is}

-- ---- the free slice

find_alike : (f g : ℕ → Bool) → ((s : ℕ) → f s ≡ g s) → (xs : List ℕ) → find f xs ≡ find g xs
find_alike f g is [] = refl
find_alike f g is (x ∷ xs) = ap (λ (t : Bool). cond t (Some x) (find f xs)) (is x) ∙ ap (λ (o : Option ℕ). cond (g x) (Some x) o) (find_alike f g is xs)

empty_is_free : (ps : Placed) (entries : List (ℕ × List ℕ)) → entries ≡ map turned ps → (s : ℕ) → is_empty_at entries s ≡ is_free ps s
empty_is_free ps entries is s = ap (λ (w : List (ℕ × List ℕ)). is_empty_at w s) is ∙ ap not (turned_lookup s ps)

pub free_in_turned : (entries : List (ℕ × List ℕ)) (first : ℕ) (ps : Placed) → entries ≡ map turned ps → option_or (find (is_empty_at entries) (range_with_len first (10000 - first))) (find (is_empty_at entries) (range_with_len 0 first)) ≡ free_slice ps first
free_in_turned entries first ps is =
    sym (find-append (is_empty_at entries) (range_with_len first (10000 - first)) (range_with_len 0 first))
    ∙ find_alike (is_empty_at entries) (is_free ps) (empty_is_free ps entries is) (going_round first)

-- ---- one more domain

abbrev domains_of : Placed → List (List ℕ)
domains_of ps = map (λ p. p.0) ps

pub placed_push : (domains : List (List ℕ)) (domain : List ℕ) (slice : ℕ) → free_slice (placed domains) (home domain) ≡ Some slice → placed (domains ++ domain ∷ []) ≡ placed domains ++ (domain, slice) ∷ []
placed_push domains domain slice h =
    fold-append with_slice [] domains (domain ∷ [])
    ∙ ap (λ (o : Option ℕ). option_map_or (λ s. placed domains ++ (domain, s) ∷ []) o (placed domains)) h

small_push : (ps : Placed) (domain : List ℕ) (slice : ℕ) → list_all (λ p. nat_lt p.1 10000) ps ≡ true → slice < 10000 → list_all (λ p. nat_lt p.1 10000) (ps ++ (domain, slice) ∷ []) ≡ true
small_push ps domain slice h low =
    list_all-append (λ p. nat_lt p.1 10000) ps ((domain, slice) ∷ [])
    ∙ and_from (list_all (λ p. nat_lt p.1 10000) ps) (nat_lt slice 10000 && true) h (and_from (nat_lt slice 10000) true (lt-ltb slice 10000 low) refl)

held_is : (domain : List ℕ) (ps : Placed) → list_any (same_domain domain) (domains_of ps) ≡ list_any (λ q. same_domain domain q.0) ps
held_is domain [] = refl
held_is domain (p ∷ ps) = ap (λ (t : Bool). same_domain domain p.0 || t) (held_is domain ps)

pub tables_push : (ps : Placed) (by_slice : List (ℕ × List ℕ)) (domain : List ℕ) (slice : ℕ) → AreTables ps by_slice → is_held (domains_of ps) domain ≡ false → free_slice (placed (domains_of ps)) (home domain) ≡ Some slice → length (domains_of ps) < 10000 → home domain < 10000 → AreTables (ps ++ (domain, slice) ∷ []) (by_slice ++ (slice, domain) ∷ [])
tables_push ps by_slice domain slice t new free room low =
    let own : ps ≡ placed (domains_of ps) = t.as_placed in
    let here : free_slice ps (home domain) ≡ Some slice = ap (λ (w : Placed). free_slice w (home domain)) own ∙ free in
    let f = free_is ps (home domain) slice low here in
    let pushed : domains_of (ps ++ (domain, slice) ∷ []) ≡ domains_of ps ++ domain ∷ [] = map_push (λ (p : List ℕ × ℕ). p.0) ps (domain, slice) in
    let count : length (domains_of ps) ≡ length ps = length-map ps (λ (p : List ℕ × ℕ). p.0) in
    record {
      as_placed = ap (λ (w : Placed). w ++ (domain, slice) ∷ []) own ∙ (sym (placed_push (domains_of ps) domain slice free) ∙ ap placed (sym pushed));
      turned_is = ap (λ (w : List (ℕ × List ℕ)). w ++ (slice, domain) ∷ []) t.turned_is ∙ sym (map_push turned ps (domain, slice));
      apart = apart_push domain slice ps t.apart (sym (held_is domain ps) ∙ new) f.0;
      small = small_push ps domain slice t.small f.1;
      few = let more : length (ps ++ (domain, slice) ∷ []) ≡ length ps + 1 = length_push ps (domain, slice) in omega arith;
    }

pub tables_none : AreTables [] []
tables_none = record { as_placed = refl; turned_is = refl; apart = tt; small = refl; few = omega arith }

pub slice_is : (ps : Placed) (by_slice : List (ℕ × List ℕ)) (domain : List ℕ) → AreTables ps by_slice → lookup (same_domain domain) ps ≡ slice_of (domains_of ps) domain
slice_is ps by_slice domain t = ap (lookup (same_domain domain)) t.as_placed

some_is_held : (domain : List ℕ) (ps : Placed) → is_some (lookup (same_domain domain) ps) ≡ list_any (λ q. same_domain domain q.0) ps
some_is_held domain [] = refl
some_is_held domain (p ∷ ps) = by (same_domain domain p.0) (some_is_held domain ps)
  where
    by : (t : Bool) → is_some (lookup (same_domain domain) ps) ≡ list_any (λ q. same_domain domain q.0) ps → is_some (cond t (Some p.1) (lookup (same_domain domain) ps)) ≡ (t || list_any (λ q. same_domain domain q.0) ps)
    by true h = refl
    by false h = h

pub slice_held : (ps : Placed) (domain : List ℕ) → is_some (lookup (same_domain domain) ps) ≡ is_held (domains_of ps) domain
slice_held ps domain = some_is_held domain ps ∙ sym (held_is domain ps)

-- ---- numbers

has_number_is : (id t : ℕ) → 200000 ≤ id → has_number id t ≡ (id / 200000 - 1 == t)
has_number_is id t large =
    elim (cases_lt t (id / 200000 - 1)) [
      | inl less ↦
          let above : number_in (t + 1) 0 ≤ id = omega arith in
          and_right (nat_le (number_in t 0) id) (nat_lt id (number_in (t + 1) 0)) (le-ltb id (number_in (t + 1) 0) above) ∙ sym (ne_eqb (id / 200000 - 1) t (λ e. omega (arith, e)))
      | inr rest ↦ elim (cases_lt (id / 200000 - 1) t) [
        | inl more ↦
            let below : id < number_in t 0 = omega arith in
            and_left (nat_le (number_in t 0) id) (nat_lt id (number_in (t + 1) 0)) (lt-leb (number_in t 0) id below) ∙ sym (ne_eqb (id / 200000 - 1) t (λ e. omega (arith, e)))
        | inr same ↦
            let at : id / 200000 - 1 ≡ t = omega arith in
            let low : number_in t 0 ≤ id = omega arith in
            let high : id < number_in (t + 1) 0 = omega arith in
            and_from (nat_le (number_in t 0) id) (nat_lt id (number_in (t + 1) 0)) (le-leb (number_in t 0) id low) (lt-ltb id (number_in (t + 1) 0) high) ∙ sym (eq-eqb (id / 200000 - 1) t at)
      ]
    ]

has_number_small : (id t : ℕ) → id < 200000 → has_number id t ≡ false
has_number_small id t small =
    let below : id < number_in t 0 = omega arith in
    and_left (nat_le (number_in t 0) id) (nat_lt id (number_in (t + 1) 0)) (lt-leb (number_in t 0) id below)

none_found : (f : ℕ → Bool) → ((t : ℕ) → f t ≡ false) → (ps : Placed) → find (λ p. f p.1) ps ≡ None
none_found f never [] = refl
none_found f never (p ∷ ps) = ap (λ (t : Bool). cond t (Some p) (find (λ q. f q.1) ps)) (never p.1) ∙ none_found f never ps

abbrev sid_at : ℕ → Option (List ℕ × ℕ) → Option Sid
sid_at id o = option_map (λ p. record { domain = p.0; rid = id - number_in p.1 0 }) o

-- the number of a SID leads back to it
pub back : (ps : Placed) (by_slice : List (ℕ × List ℕ)) → AreTables ps by_slice → (sid : Sid) (id : ℕ) → id_of (domains_of ps) sid ≡ Some id → sid_of (domains_of ps) id ≡ Some sid
back ps by_slice t sid id h = by (nat_lt sid.rid 200000) refl (slice_of (domains_of ps) sid.domain) refl h
  where
    by : (b : Bool) → nat_lt sid.rid 200000 ≡ b → (o : Option ℕ) → slice_of (domains_of ps) sid.domain ≡ o → cond b (option_map (λ s. number_in s sid.rid) o) None ≡ Some id → sid_of (domains_of ps) id ≡ Some sid
    by false e o at k = absurd cc
    by true e None at k = absurd cc
    by true e (Some s) at k =
        let is : number_in s sid.rid ≡ id = cc in
        let low : sid.rid < 200000 = ltb-true sid.rid 200000 e in
        let large : 200000 ≤ id = omega arith in
        let quotient : id / 200000 - 1 ≡ s = omega arith in
        let here : lookup (same_domain sid.domain) ps ≡ Some s = slice_is ps by_slice sid.domain t ∙ at in
        let found : find (λ q. has_number id q.1) ps ≡ Some (sid.domain, s) = find_by_slice sid.domain s (has_number id) (λ u. has_number_is id u large ∙ ap (λ (n : ℕ). n == u) quotient) ps t.apart here in
        let rest : id - number_in s 0 ≡ sid.rid = omega arith in
        ap (λ (w : Placed). sid_at id (find (λ q. has_number id q.1) w)) (sym t.as_placed) ∙ (ap (sid_at id) found ∙ ap (λ (n : ℕ). Some (record { domain = sid.domain; rid = n })) rest)

-- and the SID of a number has that
pub forth : (ps : Placed) (by_slice : List (ℕ × List ℕ)) → AreTables ps by_slice → (sid : Sid) (id : ℕ) → sid_of (domains_of ps) id ≡ Some sid → id_of (domains_of ps) sid ≡ Some id
forth ps by_slice t sid id h = by (find (λ q. has_number id q.1) ps) refl (ap (λ (w : Placed). sid_at id (find (λ q. has_number id q.1) w)) t.as_placed ∙ h)
  where
    by : (o : Option (List ℕ × ℕ)) → find (λ q. has_number id q.1) ps ≡ o → sid_at id o ≡ Some sid → id_of (domains_of ps) sid ≡ Some id
    by None at k = absurd cc
    by (Some p) at k =
        let is : record { domain = p.0; rid = id - number_in p.1 0 } ≡ sid = cc in
        let f = lookup_by_found (has_number id) ps p t.apart at in
        let bounds = and_parts (nat_le (number_in p.1 0) id) (nat_lt id (number_in (p.1 + 1) 0)) f.1 in
        let low : number_in p.1 0 ≤ id = leb-true (number_in p.1 0) id bounds.0 in
        let high : id < number_in (p.1 + 1) 0 = ltb-true id (number_in (p.1 + 1) 0) bounds.1 in
        let rest : id - number_in p.1 0 < 200000 = omega arith in
        let whole : number_in p.1 (id - number_in p.1 0) ≡ id = omega arith in
        subst (λ (s : Sid). id_of (domains_of ps) s ≡ Some id) is
        (ap (λ (b : Bool). cond b (option_map (λ s. number_in s (id - number_in p.1 0)) (slice_of (domains_of ps) p.0)) None) (lt-ltb (id - number_in p.1 0) 200000 rest)
        ∙ (ap (option_map (λ s. number_in s (id - number_in p.1 0))) (sym (slice_is ps by_slice p.0 t) ∙ f.0)
        ∙ ap Some whole))

pub alone : (ps : Placed) (by_slice : List (ℕ × List ℕ)) → AreTables ps by_slice → (sid : Sid) (id : ℕ) → id_of (domains_of ps) sid ≡ Some id → IsAlone (domains_of ps) sid id
alone ps by_slice t sid id h other k =
    let a : sid_of (domains_of ps) id ≡ Some sid = back ps by_slice t sid id h in
    let b : sid_of (domains_of ps) id ≡ Some other = back ps by_slice t other id k in
    let e : Some other ≡ Some sid = sym b ∙ a in
    cc

pub sid_answers : (ps : Placed) (by_slice : List (ℕ × List ℕ)) → AreTables ps by_slice → (id : ℕ) (o : Option Sid) → sid_of (domains_of ps) id ≡ o → IsSidOf (domains_of ps) id o
sid_answers ps by_slice t id None h = λ sid k. let b : sid_of (domains_of ps) id ≡ Some sid = back ps by_slice t sid id k in let e : None ≡ Some sid = sym h ∙ b in absurd cc
sid_answers ps by_slice t id (Some sid) h = forth ps by_slice t sid id h

found_has : (id : ℕ) (ps : Placed) (p : List ℕ × ℕ) → find (λ q. has_number id q.1) ps ≡ Some p → has_number id p.1 ≡ true
found_has id [] p h = absurd cc
found_has id (q ∷ qs) p h =
    elim (cases_Bool (has_number id q.1)) [
      | inl e ↦
          let k : Some q ≡ Some p = sym (ap (λ (t : Bool). cond t (Some q) (find (λ r. has_number id r.1) qs)) e) ∙ h in
          let at : q ≡ p = cc in
          subst (λ (r : List ℕ × ℕ). has_number id r.1 ≡ true) at e
      | inr e ↦ found_has id qs p (sym (ap (λ (t : Bool). cond t (Some q) (find (λ r. has_number id r.1) qs)) e) ∙ h)
    ]

pub divided_is : (ps : Placed) (by_slice : List (ℕ × List ℕ)) → AreTables ps by_slice → (id : ℕ) → 200000 ≤ id → divided by_slice id ≡ sid_of (domains_of ps) id
divided_is ps by_slice t id large =
    ap (λ (w : List (ℕ × List ℕ)). divided w id) t.turned_is
    ∙ (by (find (λ q. has_number id q.1) ps) refl ∙ ap (λ (w : Placed). sid_at id (find (λ q. has_number id q.1) w)) t.as_placed)
  where
    by : (o : Option (List ℕ × ℕ)) → find (λ q. has_number id q.1) ps ≡ o → divided (map turned ps) id ≡ sid_at id (find (λ q. has_number id q.1) ps)
    by None at = ap (option_map (λ d. record { domain = d; rid = id % 200000 })) (turned_find (id / 200000 - 1) (has_number id) (λ u. has_number_is id u large) ps None at) ∙ ap (sid_at id) (sym at)
    by (Some p) at =
        let bounds = and_parts (nat_le (number_in p.1 0) id) (nat_lt id (number_in (p.1 + 1) 0)) (found_has id ps p at) in
        let low : number_in p.1 0 ≤ id = leb-true (number_in p.1 0) id bounds.0 in
        let high : id < number_in (p.1 + 1) 0 = ltb-true id (number_in (p.1 + 1) 0) bounds.1 in
        let rest : id % 200000 ≡ id - number_in p.1 0 = omega arith in
        ap (option_map (λ d. record { domain = d; rid = id % 200000 })) (turned_find (id / 200000 - 1) (has_number id) (λ u. has_number_is id u large) ps (Some p) at)
        ∙ (ap (λ (n : ℕ). Some (record { domain = p.0; rid = n })) rest ∙ ap (sid_at id) (sym at))

pub small_none : (domains : List (List ℕ)) (id : ℕ) → id < 200000 → sid_of domains id ≡ None
small_none domains id small = ap (sid_at id) (none_found (has_number id) (λ t. has_number_small id t small) (placed domains))

-- ---- numbers stay

pub keeps_push : (domains : List (List ℕ)) (domain : List ℕ) (slice : ℕ) → free_slice (placed domains) (home domain) ≡ Some slice → KeepsNumbers domains (domains ++ domain ∷ [])
keeps_push domains domain slice free sid id h = by (nat_lt sid.rid 200000) refl (slice_of domains sid.domain) refl h
  where
    by : (b : Bool) → nat_lt sid.rid 200000 ≡ b → (o : Option ℕ) → slice_of domains sid.domain ≡ o → cond b (option_map (λ s. number_in s sid.rid) o) None ≡ Some id → id_of (domains ++ domain ∷ []) sid ≡ Some id
    by false e o at k = absurd cc
    by true e None at k = absurd cc
    by true e (Some s) at k =
        ap (λ (t : Bool). cond t (option_map (λ u. number_in u sid.rid) (slice_of (domains ++ domain ∷ []) sid.domain)) None) e
        ∙ (ap (λ (w : Placed). option_map (λ u. number_in u sid.rid) (lookup (same_domain sid.domain) w)) (placed_push domains domain slice free)
        ∙ (ap (option_map (λ u. number_in u sid.rid)) (lookup_kept sid.domain s (placed domains) ((domain, slice) ∷ []) at) ∙ k))

pub keeps_all : (domains : List (List ℕ)) → KeepsNumbers domains domains
keeps_all domains sid id h = h

-- ---- for the calls

pub ruleset new_entries = (insert_entry-new)

pub lookup_small : (d : List ℕ) (ps : Placed) (o : Option ℕ) → list_all (λ p. nat_lt p.1 10000) ps ≡ true → lookup (same_domain d) ps ≡ o → IfSome o (λ s. s < 10000)
lookup_small d ps None h at = tt
lookup_small d [] (Some s) h at = absurd cc
lookup_small d (p ∷ ps) (Some s) h at =
    let both = and_parts (nat_lt p.1 10000) (list_all (λ q. nat_lt q.1 10000) ps) h in
    elim (cases_Bool (same_domain d p.0)) [
      | inl e ↦
          let k : Some p.1 ≡ Some s = sym (ap (λ (t : Bool). cond t (Some p.1) (lookup (same_domain d) ps)) e) ∙ at in
          let is : p.1 ≡ s = cc in
          subst (λ (n : ℕ). n < 10000) is (ltb-true p.1 10000 both.0)
      | inr e ↦ lookup_small d ps (Some s) both.1 (sym (ap (λ (t : Bool). cond t (Some p.1) (lookup (same_domain d) ps)) e) ∙ at)
    ]
