-- An index gives places that are enough.
use Rattle.std.proofs.Common.{◌≡◌, ◌≢◌, ℕ, zero, suc, ◌+◌, ◌-◌, ◌%◌, ◌<◌, ◌≤◌, Bool, true, false, eqb, List, [], ◌∷◌, ◌++◌, length, map, get_or, set, take, replicate, refl, sym, ap, ◌∙◌, subst, arith, inl, inr, Option, Some, None}
use Rattle.std.specs.Prelude.{◌&&◌, ◌||◌, not}
use Rattle.std.specs.List.{list_any}
use Rattle.std.proofs.lemmas.Bool.{cases_Bool, cases_eq, eq-eqb, ne_eqb}
use Rattle.std.proofs.lemmas.List.{get_or-set_same, get_or-set_other, length-set, length-append, length-take, take_more, map-append}
use Rattle.sd_dn.specs.declared.Pair.{Pair}
use Rattle.sd_dn.specs.Comparing.{ends_with}
use Rattle.sd_dn.specs.Texts.{spelled, both_meet}
use Rattle.sd_ldap.specs.declared.entry.DirEntry.{DirEntry}
use Rattle.sd_match.specs.Matching.{holds_dns, equals, has_value}
use Rattle.sd_places.specs.Numbers.{base_number, value_number, entry_numbers}
use Rattle.sd_places.specs.Covers.{covers, with_place, present, passes_at, HasGrown, AreEnough, AllImply}
use Rattle.sd_places.specs.Index.{bucket_of, has_bucket, marks_of, places_of, count_of, IsIndex, with_number, with_numbers, found_under}
use Rattle.sd_places.proofs.Hashing.{entry_under, entry_equals}
use Rattle.sd_places.proofs.Covering.{with_mark, mark_again, covers_here, covers_still, covers_unmarked, covers_less, enough}

-- ---- one entry more

mark_size : (ms : List Bool) (n : ℕ) (b : Bool) → length (with_mark ms n b) ≡ length ms
mark_size [] n b = refl
mark_size (m ∷ ms) zero b = refl
mark_size (m ∷ ms) (suc n) b = ap suc (mark_size ms n b)

mark_set : {X : Type 0} (f : X → Bool) (xs : List X) (p : ℕ) (x : X) → with_mark (map f xs) p (f x) ≡ map f (set xs p x)
mark_set f [] p x = refl
mark_set f (y ∷ ys) zero x = refl
mark_set f (y ∷ ys) (suc p) x = ap (λ (ms : List Bool). f y ∷ ms) (mark_set f ys p x)

or_true : (s : Bool) → (s || true) ≡ true
or_true true = refl
or_true false = refl

or_false : (s : Bool) → (s || false) ≡ s
or_false true = refl
or_false false = refl

or_again : (a b c : Bool) → ((a || b) || c) ≡ (a || (b || c))
or_again true b c = refl
or_again false b c = refl

bucket_within : (count n : ℕ) → 0 < count → bucket_of count n ≤ count
unfolding bucket_of
bucket_within count n some =
    elim (cases_Bool (eqb n 0)) [
      | inl e ↦ rw e (omega arith)
      | inr e ↦ let less : n % count < count = omega (arith, some) in rw e (omega (arith, less))
    ]

-- the marks of each bucket, of which that of the last place is seen so far
abbrev Covered : (ℕ → List Bool) → ℕ → (ℕ → Bool) → List (List ℕ) → Type 0
Covered marks n seen buckets = (b : ℕ) → b < length buckets → covers (with_mark (marks b) n (seen b)) 0 (places_of buckets b) ≡ true

number_size : (buckets : List (List ℕ)) (n k : ℕ) → length (with_number buckets n k) ≡ length buckets
number_size buckets n k = length-set buckets (bucket_of (count_of buckets) k) (with_place (places_of buckets (bucket_of (count_of buckets) k)) n)

covered_one : (marks : ℕ → List Bool) (n count : ℕ) (seen : ℕ → Bool) (buckets : List (List ℕ)) (k : ℕ) → 1 < length buckets → count ≡ count_of buckets → ((b : ℕ) → n < length (marks b))
    → Covered marks n seen buckets → Covered marks n (λ (b : ℕ). seen b || eqb (bucket_of count k) b) (with_number buckets n k)
covered_one marks n count seen buckets k some counted sized so_far b lt =
    let own : ℕ = bucket_of (count_of buckets) k in
    let at : own ≤ count_of buckets = bucket_within (count_of buckets) k (omega (arith, some)) in
    let within : own < length buckets = omega (arith, some, at) in
    let old : b < length buckets = let size = number_size buckets n k in omega (arith, size, lt) in
    let here : bucket_of count k ≡ own = ap (λ (c : ℕ). bucket_of c k) counted in
    elim (cases_eq b own) [
      | inl e ↦
          let tested : eqb (bucket_of count k) b ≡ true = eq-eqb (bucket_of count k) b (here ∙ sym e) in
          let marked : (seen b || eqb (bucket_of count k) b) ≡ true = ap (λ (t : Bool). seen b || t) tested ∙ or_true (seen b) in
          let size : n < length (with_mark (marks b) n (seen b)) = let m = mark_size (marks b) n (seen b) in omega (arith, m, sized b) in
          let more : covers (with_mark (with_mark (marks b) n (seen b)) n true) 0 (with_place (places_of buckets b) n) ≡ true = covers_here (with_mark (marks b) n (seen b)) n (places_of buckets b) (so_far b old) size in
          let placed : places_of (with_number buckets n k) b ≡ with_place (places_of buckets b) n =
          ap (λ (x : ℕ). places_of (with_number buckets n k) x) e ∙ get_or-set_same buckets own (with_place (places_of buckets own) n) [] within ∙ ap (λ (x : ℕ). with_place (places_of buckets x) n) (sym e) in
          ap (λ (t : Bool). covers (with_mark (marks b) n t) 0 (places_of (with_number buckets n k) b)) marked
          ∙ ap (λ (ps : List ℕ). covers (with_mark (marks b) n true) 0 ps) placed
          ∙ ap (λ (ms : List Bool). covers ms 0 (with_place (places_of buckets b) n)) (sym (mark_again (marks b) n (seen b) true))
          ∙ more
      | inr differ ↦
          let tested : eqb (bucket_of count k) b ≡ false = ne_eqb (bucket_of count k) b (λ e. differ (sym e ∙ here)) in
          let marked : (seen b || eqb (bucket_of count k) b) ≡ seen b = ap (λ (t : Bool). seen b || t) tested ∙ or_false (seen b) in
          let placed : places_of (with_number buckets n k) b ≡ places_of buckets b = get_or-set_other buckets own b (with_place (places_of buckets own) n) [] differ in
          ap (λ (t : Bool). covers (with_mark (marks b) n t) 0 (places_of (with_number buckets n k) b)) marked
          ∙ ap (λ (ps : List ℕ). covers (with_mark (marks b) n (seen b)) 0 ps) placed
          ∙ so_far b old
    ]

covered_all : (marks : ℕ → List Bool) (n count : ℕ) (seen : ℕ → Bool) (ks : List ℕ) (buckets : List (List ℕ)) → 1 < length buckets → count ≡ count_of buckets → ((b : ℕ) → n < length (marks b))
    → Covered marks n seen buckets → Covered marks n (λ (b : ℕ). seen b || has_bucket count b ks) (with_numbers buckets n ks)
covered_all marks n count seen [] buckets some counted sized so_far b lt =
    ap (λ (t : Bool). covers (with_mark (marks b) n t) 0 (places_of buckets b)) (or_false (seen b)) ∙ so_far b lt
covered_all marks n count seen (k ∷ ks) buckets some counted sized so_far b lt =
    let size : length (with_number buckets n k) ≡ length buckets = number_size buckets n k in
    let next : count ≡ count_of (with_number buckets n k) = counted ∙ ap (λ (x : ℕ). x - 1) (sym size) in
    let rest = covered_all marks n count (λ (b : ℕ). seen b || eqb (bucket_of count k) b) ks (with_number buckets n k) (omega (arith, some, size)) next sized (covered_one marks n count seen buckets k some counted sized so_far) b lt in
    ap (λ (t : Bool). covers (with_mark (marks b) n t) 0 (places_of (with_numbers buckets n (k ∷ ks)) b)) (sym (or_again (seen b) (eqb (bucket_of count k) b) (has_bucket count b ks))) ∙ rest

numbers_size : (buckets : List (List ℕ)) (n : ℕ) (ks : List ℕ) → length (with_numbers buckets n ks) ≡ length buckets
numbers_size buckets n [] = refl
numbers_size buckets n (k ∷ ks) = numbers_size (with_number buckets n k) n ks ∙ number_size buckets n k

marks_size : (count b : ℕ) (slots : List (Option DirEntry)) → length (marks_of count b slots) ≡ length slots
marks_size count b [] = refl
marks_size count b (s ∷ ss) = ap suc (marks_size count b ss)

-- an entry in a slot
pub index_put : (buckets : List (List ℕ)) (slots : List (Option DirEntry)) (e : DirEntry) (p : ℕ) (ks : List ℕ) → 1 < length buckets → p < length slots → ks ≡ entry_numbers e → IsIndex buckets slots
    → IsIndex (with_numbers buckets p ks) (set slots p (Some e))
index_put buckets slots e p ks some at numbers so_far b lt =
    let count : ℕ = count_of buckets in
    let marks : ℕ → List Bool = λ (x : ℕ). marks_of count x slots in
    let size : length (with_numbers buckets p ks) ≡ length buckets = numbers_size buckets p ks in
    let sized : (x : ℕ) → p < length (marks x) = λ x. let m : length (marks x) ≡ length slots = marks_size count x slots in omega (arith, m, at) in
    let unmarked : Covered marks p (λ (x : ℕ). false) buckets = λ x less. covers_less (marks x) 0 p (places_of buckets x) (so_far x less) in
    let all = covered_all marks p count (λ (x : ℕ). false) ks buckets some refl sized unmarked b lt in
    let made : with_mark (marks b) p (has_bucket count b ks) ≡ marks_of count b (set slots p (Some e)) =
    ap (λ (xs : List ℕ). with_mark (marks b) p (has_bucket count b xs)) numbers
    ∙ mark_set (λ (s : Option DirEntry). passes_at (λ (x : DirEntry). has_bucket count b (entry_numbers x)) s) slots p (Some e) in
    ap (λ (c : ℕ). covers (marks_of c b (set slots p (Some e))) 0 (places_of (with_numbers buckets p ks) b)) (ap (λ (x : ℕ). x - 1) size)
    ∙ ap (λ (ms : List Bool). covers ms 0 (places_of (with_numbers buckets p ks) b)) (sym made)
    ∙ all

-- a place under a number, whatever is there
still_one : (buckets : List (List ℕ)) (slots : List (Option DirEntry)) (p k : ℕ) → p < length slots → IsIndex buckets slots → IsIndex (with_number buckets p k) slots
still_one buckets slots p k at so_far b lt =
    let count : ℕ = count_of buckets in
    let own : ℕ = bucket_of count k in
    let size : length (with_number buckets p k) ≡ length buckets = number_size buckets p k in
    let old : b < length buckets = omega (arith, size, lt) in
    let counted : count_of (with_number buckets p k) ≡ count = ap (λ (x : ℕ). x - 1) size in
    let sized : p < length (marks_of count b slots) = let m = marks_size count b slots in omega (arith, m, at) in
    ap (λ (c : ℕ). covers (marks_of c b slots) 0 (places_of (with_number buckets p k) b)) counted
    ∙ elim (cases_eq b own) [
      | inl e ↦
          let placed : places_of (with_number buckets p k) b ≡ with_place (places_of buckets b) p =
          ap (λ (x : ℕ). places_of (with_number buckets p k) x) e ∙ get_or-set_same buckets own (with_place (places_of buckets own) p) [] (subst (λ (x : ℕ). x < length buckets) e old) ∙ ap (λ (x : ℕ). with_place (places_of buckets x) p) (sym e) in
          ap (λ (ps : List ℕ). covers (marks_of count b slots) 0 ps) placed ∙ covers_still (marks_of count b slots) p (places_of buckets b) (so_far b old) sized
      | inr differ ↦
          ap (λ (ps : List ℕ). covers (marks_of count b slots) 0 ps) (get_or-set_other buckets own b (with_place (places_of buckets own) p) [] differ) ∙ so_far b old
    ]

pub still_more : (buckets new : List (List ℕ)) (slots : List (Option DirEntry)) (p k : ℕ) → new ≡ with_number buckets p k → p < length slots → IsIndex buckets slots → IsIndex new slots
still_more buckets new slots p k made at so_far = subst (λ (bs : List (List ℕ)). IsIndex bs slots) (sym made) (still_one buckets slots p k at so_far)

-- one slot more, which holds nothing
pub index_hole : (buckets : List (List ℕ)) (slots : List (Option DirEntry)) → IsIndex buckets slots → IsIndex buckets (slots ++ None ∷ [])
index_hole buckets slots so_far b lt =
    let count : ℕ = count_of buckets in
    let more : marks_of count b (slots ++ None ∷ []) ≡ marks_of count b slots ++ false ∷ [] = map-append (λ (s : Option DirEntry). passes_at (λ (x : DirEntry). has_bucket count b (entry_numbers x)) s) slots (None ∷ []) in
    ap (λ (ms : List Bool). covers ms 0 (places_of buckets b)) more ∙ covers_unmarked (marks_of count b slots) 0 (places_of buckets b) (so_far b lt)

-- a slot is emptied
pub index_cleared : (buckets : List (List ℕ)) (slots : List (Option DirEntry)) (p : ℕ) → IsIndex buckets slots → IsIndex buckets (set slots p None)
index_cleared buckets slots p so_far b lt =
    let count : ℕ = count_of buckets in
    ap (λ (ms : List Bool). covers ms 0 (places_of buckets b)) (sym (mark_set (λ (s : Option DirEntry). passes_at (λ (x : DirEntry). has_bucket count b (entry_numbers x)) s) slots p None))
    ∙ covers_less (marks_of count b slots) 0 p (places_of buckets b) (so_far b lt)

set_behind : (slots : List (Option DirEntry)) (o : Option DirEntry) → set (slots ++ None ∷ []) (length slots) o ≡ slots ++ o ∷ []
set_behind [] o = refl
set_behind (s ∷ ss) o = ap (λ (xs : List (Option DirEntry)). s ∷ xs) (set_behind ss o)

-- an entry more, behind all others
pub index_next : (new buckets : List (List ℕ)) (slots : List (Option DirEntry)) (e : DirEntry) (p : ℕ) → p ≡ length slots
    → ((ss : List (Option DirEntry)) → p < length ss → IsIndex buckets ss → IsIndex new (set ss p (Some e))) → IsIndex buckets slots → IsIndex new (slots ++ Some e ∷ [])
index_next new buckets slots e p at put so_far =
    let within : p < length (slots ++ None ∷ []) = let size = length-append slots (None ∷ []) in omega (arith, size, at) in
    let made : set (slots ++ None ∷ []) p (Some e) ≡ slots ++ Some e ∷ [] = ap (λ (n : ℕ). set (slots ++ None ∷ []) n (Some e)) at ∙ set_behind slots (Some e) in
    subst (λ (ss : List (Option DirEntry)). IsIndex new ss) made (put (slots ++ None ∷ []) within (index_hole buckets slots so_far))

pub index_step : (slots : List (Option DirEntry)) (i : ℕ) (s : Option DirEntry) (buckets new : List (List ℕ)) → i < length slots → s ≡ get_or slots i s
    → ((ss : List (Option DirEntry)) → i ≡ length ss → IsIndex buckets ss → IsIndex new (ss ++ s ∷ [])) → IsIndex buckets (take i slots) → IsIndex new (take (i + 1) slots)
index_step slots i s buckets new lt is put so_far =
    let at : i ≡ length (take i slots) = omega (arith, length-take i slots, lt) in
    let more : take (i + 1) slots ≡ take i slots ++ s ∷ [] = take_more slots i s lt ∙ ap (λ (x : Option DirEntry). take i slots ++ x ∷ []) (sym is) in
    subst (λ (ss : List (Option DirEntry)). IsIndex new ss) (sym more) (put (take i slots) at so_far)

-- none
pub index_none : (buckets : List (List ℕ)) (count : ℕ) → buckets ≡ replicate (count + 1) [] → IsIndex buckets []
index_none buckets count made b lt =
    let size : length buckets ≡ length (replicate (count + 1) []) = ap length made in
    let empty : places_of buckets b ≡ [] = ap (λ (bs : List (List ℕ)). places_of bs b) made ∙ get_or_empty (count + 1) b in
    ap (λ (ps : List ℕ). covers [] 0 ps) empty
  where
    get_or_empty : (n b : ℕ) → get_or {A = List ℕ} (replicate {A = List ℕ} n []) b [] ≡ []
    get_or_empty zero b = refl
    get_or_empty (suc n) zero = refl
    get_or_empty (suc n) (suc b) = get_or_empty n b

-- ---- what is found

all_imply : (test mark : DirEntry → Bool) (entries : List DirEntry) → ((e : DirEntry) → test e ≡ true → mark e ≡ true) → AllImply test mark entries
all_imply test mark [] h = tt
all_imply test mark (e ∷ es) h = (h e, all_imply test mark es h)

found_within : (buckets : List (List ℕ)) (number : ℕ) → 1 < length buckets → bucket_of (count_of buckets) number < length buckets
found_within buckets number some =
    let le : bucket_of (count_of buckets) number ≤ count_of buckets = bucket_within (count_of buckets) number (omega (arith, some)) in
    omega (arith, some, le)

-- entries that have a number are found under it
pub enough_under : (test : DirEntry → Bool) (buckets : List (List ℕ)) (slots : List (Option DirEntry)) (number : ℕ) → 1 < length buckets → IsIndex buckets slots
    → ((e : DirEntry) → test e ≡ true → has_bucket (count_of buckets) (bucket_of (count_of buckets) number) (entry_numbers e) ≡ true) → AreEnough test slots (found_under buckets number)
enough_under test buckets slots number some is h =
    let b : ℕ = bucket_of (count_of buckets) number in
    enough test (λ (e : DirEntry). has_bucket (count_of buckets) b (entry_numbers e)) slots (found_under buckets number)
    (all_imply test (λ (e : DirEntry). has_bucket (count_of buckets) b (entry_numbers e)) (present slots) h) (is b (found_within buckets number some))

and_parts : (s t : Bool) → (s && t) ≡ true → (s ≡ true) × (t ≡ true)
and_parts true t h = (refl, h)
and_parts false t h = cc

first_of : (s t : Bool) → (s || t) ≡ true → not t ≡ true → s ≡ true
first_of true t h n = refl
first_of false true h n = n
first_of false false h n = h

all_but : (test mark odd : DirEntry → Bool) (slots : List (Option DirEntry)) (k : ℕ) → ((e : DirEntry) → test e ≡ true → (mark e || odd e) ≡ true)
    → covers (map (λ (s : Option DirEntry). passes_at odd s) slots) k [] ≡ true → AllImply test mark (present slots)
all_but test mark odd [] k h none = tt
all_but test mark odd (None ∷ ss) k h none = all_but test mark odd ss (suc k) h none
all_but test mark odd (Some e ∷ ss) k h none =
    let ms : List Bool = map (λ (s : Option DirEntry). passes_at odd s) ss in
    let parts : (not (odd e) ≡ true) × (covers ms (suc k) [] ≡ true) = and_parts (not (odd e)) (covers ms (suc k) []) none in
    (λ t. first_of (mark e) (odd e) (h e t) parts.0, all_but test mark odd ss (suc k) h parts.1)

-- the same where no entry has the number 0
pub enough_but : (test : DirEntry → Bool) (buckets : List (List ℕ)) (slots : List (Option DirEntry)) (number : ℕ) → 1 < length buckets → IsIndex buckets slots → found_under buckets 0 ≡ []
    → ((e : DirEntry) → test e ≡ true → (has_bucket (count_of buckets) (bucket_of (count_of buckets) number) (entry_numbers e) || has_bucket (count_of buckets) (bucket_of (count_of buckets) 0) (entry_numbers e)) ≡ true)
    → AreEnough test slots (found_under buckets number)
enough_but test buckets slots number some is none h =
    let b : ℕ = bucket_of (count_of buckets) number in
    let z : ℕ = bucket_of (count_of buckets) 0 in
    let odd : covers (marks_of (count_of buckets) z slots) 0 [] ≡ true = ap (λ (ps : List ℕ). covers (marks_of (count_of buckets) z slots) 0 ps) (sym none) ∙ is z (found_within buckets 0 some) in
    enough test (λ (e : DirEntry). has_bucket (count_of buckets) b (entry_numbers e)) slots (found_under buckets number)
    (all_but test (λ (e : DirEntry). has_bucket (count_of buckets) b (entry_numbers e)) (λ (e : DirEntry). has_bucket (count_of buckets) z (entry_numbers e)) slots 0 h odd) (is b (found_within buckets number some))

-- ---- searches and binds

has_own : (count number : ℕ) → eqb (bucket_of count number) (bucket_of count number) ≡ true
has_own count number = eq-eqb (bucket_of count number) (bucket_of count number) refl

-- all entries at or under a base
pub base_enough : (buckets : List (List ℕ)) (slots : List (Option DirEntry)) (test : DirEntry → Bool) (base : Option (List (List Pair))) → 1 < length buckets → IsIndex buckets slots
    → ((e : DirEntry) → test e ≡ true → both_meet ends_with (spelled e.dn) base ≡ true) → AreEnough test slots (found_under buckets (base_number base))
base_enough buckets slots test base some is h =
    let count : ℕ = count_of buckets in
    enough_under test buckets slots (base_number base) some is
    (λ e t. entry_under (λ (n : ℕ). eqb (bucket_of count n) (bucket_of count (base_number base))) e base (h e t) (has_own count (base_number base)))

any_either : (f g : ℕ → Bool) (ns : List ℕ) → list_any (λ (n : ℕ). f n || g n) ns ≡ true → (list_any f ns || list_any g ns) ≡ true
any_either f g [] h = h
any_either f g (n ∷ ns) h = parted (f n) (g n) (list_any f ns) (list_any g ns) (list_any (λ (n : ℕ). f n || g n) ns) h (any_either f g ns)
  where
    parted : (a b c d t : Bool) → ((a || b) || t) ≡ true → (t ≡ true → (c || d) ≡ true) → ((a || c) || (b || d)) ≡ true
    parted true b c d t h k = refl
    parted false true true d t h k = refl
    parted false true false d t h k = refl
    parted false false c d t h k = k h

or_first : (s t : Bool) → s ≡ true → (s || t) ≡ true
or_first true t h = refl
or_first false t h = cc

or_second : (s t : Bool) → t ≡ true → (s || t) ≡ true
or_second true t h = refl
or_second false t h = h

-- all entries with a value
pub value_enough : (buckets : List (List ℕ)) (slots : List (Option DirEntry)) (test : DirEntry → Bool) (name asked : List ℕ) → 1 < length buckets → IsIndex buckets slots → value_number name asked ≢ 0
    → holds_dns name ≡ false → ((e : DirEntry) → test e ≡ true → has_value name (equals name asked) e.attributes ≡ true) → AreEnough test slots (found_under buckets (value_number name asked))
value_enough buckets slots test name asked some is known dns h =
    let count : ℕ = count_of buckets in
    let number : ℕ = value_number name asked in
    enough_under test buckets slots number some is
    (λ e t. entry_equals (λ (n : ℕ). eqb (bucket_of count n) (bucket_of count number)) e name asked (h e t) known (has_own count number) (λ e. let bad : false ≡ true = sym dns ∙ e in cc))

pub dn_enough : (buckets : List (List ℕ)) (slots : List (Option DirEntry)) (test : DirEntry → Bool) (name asked : List ℕ) → 1 < length buckets → IsIndex buckets slots → value_number name asked ≢ 0
    → found_under buckets 0 ≡ [] → ((e : DirEntry) → test e ≡ true → has_value name (equals name asked) e.attributes ≡ true) → AreEnough test slots (found_under buckets (value_number name asked))
dn_enough buckets slots test name asked some is known none h =
    let count : ℕ = count_of buckets in
    let number : ℕ = value_number name asked in
    let own : ℕ → Bool = λ (n : ℕ). eqb (bucket_of count n) (bucket_of count number) in
    let odd : ℕ → Bool = λ (n : ℕ). eqb (bucket_of count n) (bucket_of count 0) in
    enough_but test buckets slots number some is none
    (λ e t. any_either own odd (entry_numbers e)
    (entry_equals (λ (n : ℕ). own n || odd n) e name asked (h e t) known (or_first (own number) (odd number) (has_own count number)) (λ d. or_second (own 0) (odd 0) (has_own count 0))))

-- slots that have grown have the same index
pub index_grown : (buckets : List (List ℕ)) (old new : List (Option DirEntry)) → HasGrown old new → IsIndex buckets old → IsIndex buckets new
index_grown buckets old new (inl same) is = subst (λ (ss : List (Option DirEntry)). IsIndex buckets ss) (sym same) is
index_grown buckets old new (inr more) is = subst (λ (ss : List (Option DirEntry)). IsIndex buckets ss) (sym more) (index_hole buckets old is)
