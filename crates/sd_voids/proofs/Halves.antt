-- An entry is sought by halves.
use Rattle.std.proofs.Common.{◌≡◌, ℕ, ◌<◌, ◌≤◌, Bool, true, cond, ◌==◌, nat_lt, List, [], ◌∷◌, ◌++◌, reverse, length, get_or, drop, take, add-zero, zero, suc, Option, None, Some, refl, sym, ◌∙◌, ap, subst, arith}
use Rattle.std.proofs.lemmas.List.{append_assoc, reverse-append, length-drop, get_or-drop, take-append-drop}
use Rattle.sd_rules.specs.declared.replies.Entry.{Entry}
use Rattle.sd_voids.specs.Entries.{numbers_fall, falls, entry_at, Searches}
use Rattle.sd_voids.proofs.FallLaws.{both_of_two, first_of_two, tail_falls, above, falls_from_some, falls_of, not_same_above, none_from, same_self}

last_falls : (xs : List Entry) (e : Entry) (past : List Entry) (n : ℕ) → numbers_fall n (xs ++ e ∷ past) ≡ true → numbers_fall e.number past ≡ true
last_falls [] e past n h = tail_falls n e past h
last_falls (x ∷ xs) e past n h = last_falls xs e past x.number (tail_falls n x (xs ++ e ∷ past) h)

-- a lesser number is sought among the older
skip_newer : (xs : List Entry) (e : Entry) (past : List Entry) (n m : ℕ) → numbers_fall n (xs ++ e ∷ past) ≡ true → m < e.number
    → entry_at past m ≡ entry_at (xs ++ e ∷ past) m
skip_newer [] e past n m h lt = ap (λ (b : Bool). cond b (Some e) (entry_at past m)) (sym (not_same_above e.number m lt))
skip_newer (x ∷ xs) e past n m h lt =
    let rest : numbers_fall x.number (xs ++ e ∷ past) ≡ true = tail_falls n x (xs ++ e ∷ past) h in
    let near : e.number < x.number = above xs e past x.number rest in
    let far : m < x.number = omega arith in
    skip_newer xs e past x.number m rest lt ∙ ap (λ (b : Bool). cond b (Some x) (entry_at (xs ++ e ∷ past) m)) (sym (not_same_above x.number m far))

-- and any other among the newer
keep_newer : (xs : List Entry) (e : Entry) (past : List Entry) (n m : ℕ) → numbers_fall n (xs ++ e ∷ past) ≡ true → e.number ≤ m
    → entry_at (xs ++ e ∷ []) m ≡ entry_at (xs ++ e ∷ past) m
keep_newer [] e past n m h le = ap (λ (o : Option Entry). cond (e.number == m) (Some e) o) (sym (none_from e.number m past (tail_falls n e past h) le))
keep_newer (x ∷ xs) e past n m h le =
    ap (λ (o : Option Entry). cond (x.number == m) (Some x) o) (keep_newer xs e past x.number m (tail_falls n x (xs ++ e ∷ past) h) le)

first_falls_of : (xs : List Entry) (e : Entry) (past : List Entry) (n : ℕ) → numbers_fall n (xs ++ e ∷ past) ≡ true → numbers_fall n (xs ++ e ∷ []) ≡ true
first_falls_of [] e past n h = both_of_two (nat_lt e.number n) true (first_of_two (nat_lt e.number n) (numbers_fall e.number past) h) refl
first_falls_of (x ∷ xs) e past n h =
    both_of_two (nat_lt x.number n) (numbers_fall x.number (xs ++ e ∷ []))
    (first_of_two (nat_lt x.number n) (numbers_fall x.number (xs ++ e ∷ past)) h) (first_falls_of xs e past x.number (tail_falls n x (xs ++ e ∷ past) h))

-- the newest first
turned : (e : Entry) (rest : List Entry) → reverse (e ∷ rest) ≡ reverse rest ++ e ∷ []
turned e rest = reverse-append (e ∷ []) rest

-- a list by its halves, the newest first
by_halves : (older : List Entry) (e : Entry) (rest : List Entry) → reverse (older ++ e ∷ rest) ≡ reverse rest ++ e ∷ reverse older
by_halves older e rest =
    reverse-append older (e ∷ rest)
    ∙ ap (λ (es : List Entry). es ++ reverse older) (turned e rest)
    ∙ append_assoc (reverse rest) (e ∷ []) (reverse older)

in_newer : (older : List Entry) (e : Entry) (rest : List Entry) (m : ℕ) → falls (reverse (older ++ e ∷ rest)) ≡ true → e.number ≤ m
    → Searches (e ∷ rest) (older ++ e ∷ rest) m
in_newer older e rest m h le =
    let all : List Entry = reverse rest ++ e ∷ reverse older in
    let some : (n : ℕ) × (numbers_fall n all ≡ true) = falls_from_some all (ap falls (sym (by_halves older e rest)) ∙ h) in
    record {
      numbers =
          ap falls (turned e rest)
          ∙ falls_of some.0 (reverse rest ++ e ∷ []) (first_falls_of (reverse rest) e (reverse older) some.0 some.1);
      same =
          ap (λ (es : List Entry). entry_at es m) (turned e rest)
          ∙ keep_newer (reverse rest) e (reverse older) some.0 m some.1 le
          ∙ ap (λ (es : List Entry). entry_at es m) (sym (by_halves older e rest));
    }

in_older : (older : List Entry) (e : Entry) (rest : List Entry) (m : ℕ) → falls (reverse (older ++ e ∷ rest)) ≡ true → m < e.number
    → Searches older (older ++ e ∷ rest) m
in_older older e rest m h lt =
    let all : List Entry = reverse rest ++ e ∷ reverse older in
    let some : (n : ℕ) × (numbers_fall n all ≡ true) = falls_from_some all (ap falls (sym (by_halves older e rest)) ∙ h) in
    record {
      numbers = falls_of e.number (reverse older) (last_falls (reverse rest) e (reverse older) some.0 some.1);
      same =
          skip_newer (reverse rest) e (reverse older) some.0 m some.1 lt
          ∙ ap (λ (es : List Entry). entry_at es m) (sym (by_halves older e rest));
    }

-- a list of which the first is known
with_first : (xs : List Entry) (e : Entry) → 0 < length xs → e ≡ get_or xs 0 e → xs ≡ e ∷ drop 1 xs
with_first [] e some is = absurd (omega arith)
with_first (x ∷ xs) e some is = ap (λ (y : Entry). y ∷ xs) (sym is)

pub newer_half : (part older newer : List Entry) (first : Entry) (n : ℕ) → falls (reverse part) ≡ true → part ≡ older ++ newer → 0 < length newer
    → first ≡ get_or newer 0 first → first.number ≤ n → Searches newer part n
newer_half part older newer first n h whole some is le =
    let own : newer ≡ first ∷ drop 1 newer = with_first newer first some is in
    let all : part ≡ older ++ first ∷ drop 1 newer = whole ∙ ap (λ (xs : List Entry). older ++ xs) own in
    let found : Searches (first ∷ drop 1 newer) (older ++ first ∷ drop 1 newer) n =
    in_newer older first (drop 1 newer) n (ap (λ (xs : List Entry). falls (reverse xs)) (sym all) ∙ h) le in
    record {
      numbers = ap (λ (xs : List Entry). falls (reverse xs)) own ∙ found.numbers;
      same =
          ap (λ (xs : List Entry). entry_at (reverse xs) n) own ∙ found.same ∙ ap (λ (xs : List Entry). entry_at (reverse xs) n) (sym all);
    }

pub older_half : (part older newer : List Entry) (first : Entry) (n : ℕ) → falls (reverse part) ≡ true → part ≡ older ++ newer → 0 < length newer
    → first ≡ get_or newer 0 first → n < first.number → Searches older part n
older_half part older newer first n h whole some is lt =
    let own : newer ≡ first ∷ drop 1 newer = with_first newer first some is in
    let all : part ≡ older ++ first ∷ drop 1 newer = whole ∙ ap (λ (xs : List Entry). older ++ xs) own in
    let found : Searches older (older ++ first ∷ drop 1 newer) n =
    in_older older first (drop 1 newer) n (ap (λ (xs : List Entry). falls (reverse xs)) (sym all) ∙ h) lt in
    record { numbers = found.numbers; same = found.same ∙ ap (λ (xs : List Entry). entry_at (reverse xs) n) (sym all) }

pub searches_on : (part half whole : List Entry) (n : ℕ) → Searches half part n → Searches part whole n → Searches half whole n
searches_on part half whole n near far = record { numbers = near.numbers; same = near.same ∙ far.same }

pub searches_all : (whole : List Entry) (n : ℕ) → falls (reverse whole) ≡ true → Searches whole whole n
searches_all whole n h = record { numbers = h; same = refl }

-- one entry alone
pub of_one : (part : List Entry) (e : Entry) (n : ℕ) → length part ≤ 1 → 0 < length part → e ≡ get_or part 0 e
    → entry_at (reverse part) n ≡ cond (e.number == n) (Some e) None
of_one [] e n few some is = absurd (omega arith)
of_one (x ∷ []) e n few some is = ap (λ (y : Entry). cond (y.number == n) (Some y) None) (sym is)
of_one (x ∷ (y ∷ part)) e n few some is = absurd (omega arith)

-- the numbers before an entry fall from its own
pub numbers_before : (entries : List Entry) (i : ℕ) (e : Entry) → falls (reverse entries) ≡ true → i < length entries → e ≡ get_or entries i e
    → numbers_fall e.number (reverse (take i entries)) ≡ true
numbers_before entries i e h lt is =
    let own : drop i entries ≡ e ∷ drop 1 (drop i entries) =
    with_first (drop i entries) e (simp length-drop (omega arith)) (is ∙ sym (get_or-drop i entries 0 e ∙ ap (λ (j : ℕ). get_or entries j e) (add-zero i))) in
    let all : entries ≡ take i entries ++ e ∷ drop 1 (drop i entries) =
    sym (take-append-drop i entries) ∙ ap (λ (xs : List Entry). take i entries ++ xs) own in
    let split : reverse entries ≡ reverse (drop 1 (drop i entries)) ++ e ∷ reverse (take i entries) =
    ap (λ (xs : List Entry). reverse xs) all ∙ by_halves (take i entries) e (drop 1 (drop i entries)) in
    let some : (n : ℕ) × (numbers_fall n (reverse (drop 1 (drop i entries)) ++ e ∷ reverse (take i entries)) ≡ true) =
    falls_from_some (reverse (drop 1 (drop i entries)) ++ e ∷ reverse (take i entries)) (ap falls (sym split) ∙ h) in
    last_falls (reverse (drop 1 (drop i entries))) e (reverse (take i entries)) some.0 some.1

-- ---- an entry that stands at a place

at_itself : (xs : List Entry) (e : Entry) (past : List Entry) (n : ℕ) → numbers_fall n (xs ++ e ∷ past) ≡ true → entry_at (xs ++ e ∷ past) e.number ≡ Some e
at_itself [] e past n h = ap (λ (b : Bool). cond b (Some e) (entry_at past e.number)) (same_self e.number)
at_itself (x ∷ xs) e past n h =
    let rest : numbers_fall x.number (xs ++ e ∷ past) ≡ true = tail_falls n x (xs ++ e ∷ past) h in
    ap (λ (b : Bool). cond b (Some x) (entry_at (xs ++ e ∷ past) e.number)) (not_same_above x.number e.number (above xs e past x.number rest))
    ∙ at_itself xs e past x.number rest

parted_at : (xs : List Entry) (p : ℕ) (e : Entry) → p < length xs → e ≡ get_or xs p e → (older : List Entry) × ((rest : List Entry) × (xs ≡ older ++ e ∷ rest))
parted_at [] p e h is = absurd (omega (arith, h))
parted_at (x ∷ xs) zero e h is = ([], (xs, ap (λ (y : Entry). y ∷ xs) (sym is)))
parted_at (x ∷ xs) (suc p) e h is = let rest = parted_at xs p e (omega (arith, h)) is in (x ∷ rest.0, (rest.1.0, ap (λ (ys : List Entry). x ∷ ys) rest.1.1))

found_in : (older : List Entry) (e : Entry) (rest : List Entry) → falls (reverse (older ++ e ∷ rest)) ≡ true → entry_at (reverse (older ++ e ∷ rest)) e.number ≡ Some e
found_in older e rest h =
    let some = falls_from_some (reverse rest ++ e ∷ reverse older) (ap falls (sym (by_halves older e rest)) ∙ h) in
    ap (λ (es : List Entry). entry_at es e.number) (by_halves older e rest) ∙ at_itself (reverse rest) e (reverse older) some.0 some.1

pub found_at : (xs : List Entry) (p n : ℕ) (e : Entry) → falls (reverse xs) ≡ true → p < length xs → e ≡ get_or xs p e → e.number ≡ n → entry_at (reverse xs) n ≡ Some e
found_at xs p n e h within at is =
    let parts = parted_at xs p e within at in
    let found : entry_at (reverse xs) e.number ≡ Some e =
    subst (λ (ys : List Entry). entry_at (reverse ys) e.number ≡ Some e) (sym parts.1.1) (found_in parts.0 e parts.1.0 (subst (λ (ys : List Entry). falls (reverse ys) ≡ true) parts.1.1 h)) in
    subst (λ (m : ℕ). entry_at (reverse xs) m ≡ Some e) is found
