-- Which invalidations are needed is told by the numbers of entries.
use Rattle.std.proofs.Common.{◌≡◌, ℕ, ◌<◌, ◌≤◌, Bool, true, false, cond, ◌&&◌, ◌||◌, List, [], ◌∷◌, ◌++◌, reverse, length, get_or, drop, take, ◌+◌, Option, None, Some, refl, sym, ◌∙◌, ap, subst, arith}
use Rattle.std.proofs.lemmas.List.{reverse-append, take_more, take-append-drop}
use Rattle.std.specs.Cmp.Lexicographic.{bytes_decides}
use Rattle.std.specs.Prelude.{is_some}
use Rattle.sd_rules.specs.declared.events.Event.{Event}
use Rattle.sd_rules.specs.declared.events.Event.TheVariants.{Void}
use Rattle.sd_rules.specs.declared.keys.Key.{Key}
use Rattle.sd_rules.specs.declared.keys.Key.TheVariants as keys
use Rattle.sd_rules.specs.declared.keys.What.{What}
use Rattle.sd_rules.specs.declared.keys.What.TheVariants as whats
use Rattle.sd_rules.specs.declared.records.Answered.{Answered}
use Rattle.sd_rules.specs.declared.records.Answered.TheVariants.{Found, Absent}
use Rattle.sd_rules.specs.declared.records.Record.TheVariants as records
use Rattle.sd_rules.specs.declared.replies.Entry.{Entry}
use Rattle.sd_rules.specs.Keys.{same_name, is_user_named, is_group_named, covers}
use Rattle.sd_rules.specs.Logins.{is_name}
use Rattle.sd_rules.specs.Needed.{same_what, is_void_of, is_number, last_where, is_newest_answer, is_covered, covers_newest}
use Rattle.sd_rules.specs.Past.{Standing, answer_in, or_else}
use Rattle.sd_voids.specs.Entries.{numbers_fall, falls}
use Rattle.sd_voids.proofs.FallLaws.{above, head_below, tail_falls, fall_further, falls_from_some, tests_less, tests_not_less}
use Rattle.sd_findings.specs.Covers.{number_for, HoldVoids, first_of, first_if, PutFirst, is_either, is_about_users, is_about_groups, user_of_key, group_of_key, user_found, group_found, first_covered, where_last, HoldCovered, is_before}
use Rattle.sd_findings.specs.Users.{number_under}
use Rattle.sd_findings.specs.declared.covers.ByWhat.{ByWhat}

-- where nothing is invalidated, nothing is covered
pub none_covered : (all part : List Entry) (lasts firsts : ByWhat) → ((what : What) → number_for firsts what ≡ None) → ((what : What) → number_for lasts what ≡ None)
    → HoldCovered all part lasts firsts
none_covered all part lasts firsts nor none = record {
  each = λ what. nor what ∙ sym (ap (λ (o : Option ℕ). where_last o (first_covered all what part)) (none what));
}

-- an invalidation more
pub voids_after : (past : List Entry) (e : Entry) (what : What) (old new : ByWhat) → e.event ≡ Void what
    → ((other : What) → number_for new other ≡ cond (same_what what other) (Some e.number) (number_for old other)) → HoldVoids past old → HoldVoids (e ∷ past) new
voids_after past e what old new is puts holds = record {
  each = λ other.
      puts other
      ∙ ap (λ (o : Option ℕ). cond (same_what what other) (Some e.number) o) (holds.each other)
      ∙ ap (λ (v : Event). cond (is_void_of other v) (Some e.number) (last_where (λ (x : Entry). is_void_of other x.event) past)) (sym is);
}

-- an entry that is none
pub voids_other : (past : List Entry) (e : Entry) (old : ByWhat) → ((other : What) → is_void_of other e.event ≡ false) → HoldVoids past old → HoldVoids (e ∷ past) old
voids_other past e old none holds = record {
  each = λ other.
      holds.each other
      ∙ ap (λ (b : Bool). cond b (Some e.number) (last_where (λ (x : Entry). is_void_of other x.event) past)) (sym (none other));
}

-- a number under one name, and under two
two_firsts : (p q : Bool) (first last : Option ℕ) (number : ℕ) → first_if q (first_if p first last number) last number ≡ first_if (p || q) first last number
two_firsts true true (Some m) last number = refl
two_firsts true true None None number = refl
two_firsts true true None (Some l) number = refl
two_firsts true false first last number = refl
two_firsts false q first last number = refl

pub first_of_two : (name other : Option (List ℕ)) (lasts old middle new : List (List ℕ × ℕ)) (number : ℕ) → PutFirst (is_name name) lasts number old middle
    → PutFirst (is_name other) lasts number middle new → PutFirst (is_either name other) lasts number old new
first_of_two name other lasts old middle new number one two = λ n.
    two n
    ∙ ap (λ (o : Option ℕ). first_if (is_name other n) o (number_under lasts n) number) (one n)
    ∙ two_firsts (is_name name n) (is_name other n) (number_under old n) (number_under lasts n) number

-- whom an answer covers by name: the user or the group of its key, or the one that was found
user_is : (n : List ℕ) (answered : Answered) → is_name (user_found answered) n ≡ is_user_named answered n
user_is n Absent = refl
user_is n (Found (records.User user)) = refl
user_is n (Found (records.Group group)) = refl
user_is n (Found (records.Groups groups)) = refl
user_is n (Found (records.Host host)) = refl
user_is n (Found (records.Rules book)) = refl

group_is : (n : List ℕ) (answered : Answered) → is_name (group_found answered) n ≡ is_group_named answered n
group_is n Absent = refl
group_is n (Found (records.User user)) = refl
group_is n (Found (records.Group group)) = refl
group_is n (Found (records.Groups groups)) = refl
group_is n (Found (records.Host host)) = refl
group_is n (Found (records.Rules book)) = refl

user_covers : (n : List ℕ) (own : Key) (answered : Answered) → is_either (user_of_key own) (user_found answered) n ≡ covers (whats.User n) own answered
user_covers n (keys.User a) answered = ap (λ (b : Bool). same_name a n || b) (user_is n answered)
user_covers n (keys.GroupsOf a) answered = ap (λ (b : Bool). same_name a n || b) (user_is n answered)
user_covers n (keys.Uid uid) answered = user_is n answered
user_covers n (keys.Group a) answered = user_is n answered
user_covers n (keys.Gid gid) answered = user_is n answered
user_covers n keys.Host answered = user_is n answered
user_covers n keys.Rules answered = user_is n answered

group_covers : (n : List ℕ) (own : Key) (answered : Answered) → is_either (group_of_key own) (group_found answered) n ≡ covers (whats.Group n) own answered
group_covers n (keys.Group a) answered = ap (λ (b : Bool). same_name a n || b) (group_is n answered)
group_covers n (keys.User a) answered = group_is n answered
group_covers n (keys.GroupsOf a) answered = group_is n answered
group_covers n (keys.Uid uid) answered = group_is n answered
group_covers n (keys.Gid gid) answered = group_is n answered
group_covers n keys.Host answered = group_is n answered
group_covers n keys.Rules answered = group_is n answered

pub answer_after : (own : Key) (answered : Answered) (lasts old new : ByWhat) (number : ℕ) → new.all ≡ first_of old.all lasts.all number
    → new.users ≡ first_if (is_about_users own) old.users lasts.users number → new.groups ≡ first_if (is_about_groups own) old.groups lasts.groups number
    → PutFirst (is_either (user_of_key own) (user_found answered)) lasts.user_names.entries number old.user_names.entries new.user_names.entries
    → PutFirst (is_either (group_of_key own) (group_found answered)) lasts.group_names.entries number old.group_names.entries new.group_names.entries
    → (what : What) → number_for new what ≡ first_if (covers what own answered) (number_for old what) (number_for lasts what) number
answer_after own answered lasts old new number all users groups user_names group_names whats.All = all
answer_after own answered lasts old new number all users groups user_names group_names whats.Users = users
answer_after own answered lasts old new number all users groups user_names group_names whats.Groups = groups
answer_after own answered lasts old new number all users groups user_names group_names (whats.User n) =
    user_names n ∙ ap (λ (b : Bool). first_if b (number_for old (whats.User n)) (number_for lasts (whats.User n)) number) (user_covers n own answered)
answer_after own answered lasts old new number all users groups user_names group_names (whats.Group n) =
    group_names n ∙ ap (λ (b : Bool). first_if b (number_for old (whats.Group n)) (number_for lasts (whats.Group n)) number) (group_covers n own answered)

-- the same under other names for the same
pub puts_for : (o p own found : Option (List ℕ)) (lasts old before new : List (List ℕ × ℕ)) (number : ℕ) → o ≡ own → p ≡ found → old ≡ before
    → PutFirst (is_either o p) lasts number old new → PutFirst (is_either own found) lasts number before new
puts_for o p own found lasts old before new number ho hp hold puts =
    subst (λ (l : List (List ℕ × ℕ)). PutFirst (is_either own found) lasts number l new) hold
    (subst (λ (x : Option (List ℕ)). PutFirst (is_either own x) lasts number old new) hp
    (subst (λ (x : Option (List ℕ)). PutFirst (is_either x p) lasts number old new) ho puts))

-- one entry more, which holds the newest answer of a key
kept_first : (covered : Bool) (last first : Option ℕ) (n : ℕ) → first_if covered (where_last last first) last n ≡ where_last last (or_else first (cond covered (Some n) None))
kept_first true None first n = refl
kept_first true (Some l) None n = refl
kept_first true (Some l) (Some m) n = refl
kept_first false None first n = refl
kept_first false (Some l) None n = refl
kept_first false (Some l) (Some m) n = refl

pub covered_after : (all past : List Entry) (e : Entry) (a : Standing) (lasts old new : ByWhat) → is_newest_answer all past e ≡ true → answer_in past e ≡ Some a
    → ((what : What) → number_for new what ≡ first_if (covers what a.own a.answered) (number_for old what) (number_for lasts what) e.number)
    → HoldCovered all past lasts old → HoldCovered all (e ∷ past) lasts new
covered_after all past e a lasts old new newest is puts holds = record {
  each = λ what.
      let last : Option ℕ = number_for lasts what in
      let first : Option ℕ = first_covered all what past in
      puts what
      ∙ ap (λ (o : Option ℕ). first_if (covers what a.own a.answered) o last e.number) (holds.each what)
      ∙ kept_first (covers what a.own a.answered) last first e.number
      ∙ ap (λ (o : Option Standing). where_last last (or_else first (cond (is_covered what o) (Some e.number) None))) (sym is)
      ∙ ap (λ (b : Bool). where_last last (or_else first (cond (b && is_covered what (answer_in past e)) (Some e.number) None))) (sym newest);
}

-- or none
no_more : (first : Option ℕ) → first ≡ or_else first None
no_more None = refl
no_more (Some m) = refl

pub covered_other : (all past : List Entry) (e : Entry) (lasts old : ByWhat) → is_newest_answer all past e ≡ false → HoldCovered all past lasts old
    → HoldCovered all (e ∷ past) lasts old
covered_other all past e lasts old none holds = record {
  each = λ what.
      let last : Option ℕ = number_for lasts what in
      let first : Option ℕ = first_covered all what past in
      holds.each what
      ∙ ap (λ (o : Option ℕ). where_last last o) (no_more first)
      ∙ ap (λ (b : Bool). where_last last (or_else first (cond (b && is_covered what (answer_in past e)) (Some e.number) None))) (sym none);
}

pub covered_no_answer : (all past : List Entry) (e : Entry) (lasts old : ByWhat) → answer_in past e ≡ None → HoldCovered all past lasts old
    → HoldCovered all (e ∷ past) lasts old
covered_no_answer all past e lasts old none holds = record {
  each = λ what.
      let last : Option ℕ = number_for lasts what in
      let first : Option ℕ = first_covered all what past in
      holds.each what
      ∙ ap (λ (o : Option ℕ). where_last last o) (no_more first)
      ∙ ap (λ (b : Bool). where_last last (or_else first (cond b (Some e.number) None))) (none_of (is_newest_answer all past e))
      ∙ ap (λ (o : Option Standing). where_last last (or_else first (cond (is_newest_answer all past e && is_covered what o) (Some e.number) None))) (sym none);
}
  where
    none_of : (b : Bool) → false ≡ (b && false)
    none_of true = refl
    none_of false = refl

pub covered_none : (all : List Entry) (lasts firsts : ByWhat) → ((what : What) → number_for firsts what ≡ None) → HoldCovered all [] lasts firsts
covered_none all lasts firsts none = record { each = λ what. none what ∙ sym (where_none (number_for lasts what)) }
  where
    where_none : (last : Option ℕ) → where_last last None ≡ None
    where_none None = refl
    where_none (Some l) = refl

-- the first of two, the second of which is an entry's
none_later : (b : Bool) (m n : ℕ) (first : Option ℕ) → n ≤ m → is_before (or_else first (cond b (Some m) None)) n ≡ is_before first n
none_later true m n None le = tests_not_less m n le
none_later false m n None le = refl
none_later b m n (Some k) le = refl

all_before : (b : Bool) (m n : ℕ) (first : Option ℕ) → m < n → is_before first n ≡ is_some first
    → is_before (or_else first (cond b (Some m) None)) n ≡ is_some (or_else first (cond b (Some m) None))
all_before true m n None lt h = tests_less m n lt
all_before false m n None lt h = refl
all_before b m n (Some k) lt h = h

some_of : (b : Bool) (m : ℕ) (first : Option ℕ) → is_some (or_else first (cond b (Some m) None)) ≡ (b || is_some first)
some_of true m None = refl
some_of false m None = refl
some_of true m (Some k) = refl
some_of false m (Some k) = refl

-- the first answer that is covered stands before an entry exactly where one of those before the entry is covered
module _ (all : List Entry) (what : What) where
  abbrev is_one : List Entry → Entry → Bool
  is_one past e = is_newest_answer all past e && is_covered what (answer_in past e)

  below : (past : List Entry) (n : ℕ) → numbers_fall n past ≡ true → is_before (first_covered all what past) n ≡ is_some (first_covered all what past)
  below [] n h = refl
  below (e ∷ past) n h =
      let lt : e.number < n = head_below n e past h in
      all_before (is_one past e) e.number n (first_covered all what past) lt
      (below past n (fall_further e.number n past (tail_falls n e past h) (omega arith)))

  covered_is : (past : List Entry) → is_some (first_covered all what past) ≡ covers_newest all what past
  covered_is [] = refl
  covered_is (e ∷ past) =
      some_of (is_one past e) e.number (first_covered all what past) ∙ ap (λ (b : Bool). is_one past e || b) (covered_is past)

  at_entry : (xs : List Entry) (e : Entry) (past : List Entry) (n : ℕ) → numbers_fall n (xs ++ e ∷ past) ≡ true
      → is_before (first_covered all what (xs ++ e ∷ past)) e.number ≡ covers_newest all what past
  at_entry [] e past n h =
      none_later (is_one past e) e.number e.number (first_covered all what past) (omega arith)
      ∙ below past e.number (tail_falls n e past h)
      ∙ covered_is past
  at_entry (x ∷ xs) e past n h =
      let rest : numbers_fall x.number (xs ++ e ∷ past) ≡ true = tail_falls n x (xs ++ e ∷ past) h in
      let near : e.number < x.number = above xs e past x.number rest in
      none_later (is_one (xs ++ e ∷ past) x) x.number e.number (first_covered all what (xs ++ e ∷ past)) (omega arith)
      ∙ at_entry xs e past x.number rest

  in_whole : (whole xs : List Entry) (e : Entry) (past : List Entry) → falls whole ≡ true → whole ≡ xs ++ e ∷ past
      → is_before (first_covered all what whole) e.number ≡ covers_newest all what past
  in_whole whole xs e past falling split =
      let some : (n : ℕ) × (numbers_fall n (xs ++ e ∷ past) ≡ true) = falls_from_some (xs ++ e ∷ past) (ap falls (sym split) ∙ falling) in
      ap (λ (l : List Entry). is_before (first_covered all what l) e.number) split ∙ at_entry xs e past some.0 some.1

-- an invalidation names what it names
same_self_what : (what : What) → true ≡ same_what what what
same_self_what whats.All = refl
same_self_what whats.Users = refl
same_self_what whats.Groups = refl
same_self_what (whats.User n) = sym ((bytes_decides n n).1 refl)
same_self_what (whats.Group n) = sym ((bytes_decides n n).1 refl)

-- the entries up to a place, the newest first
pub more_at : (es : List Entry) (i : ℕ) (e : Entry) → i < length es → e ≡ get_or es i e → reverse (take (i + 1) es) ≡ e ∷ reverse (take i es)
more_at es i e lt at =
    ap (λ (l : List Entry). reverse l) (take_more es i e lt)
    ∙ reverse-append (take i es) (get_or es i e ∷ [])
    ∙ ap (λ (x : Entry). x ∷ reverse (take i es)) (sym at)

-- and those around it
split_at : (es : List Entry) (i : ℕ) (e : Entry) → i < length es → e ≡ get_or es i e → reverse es ≡ reverse (drop (i + 1) es) ++ e ∷ reverse (take i es)
split_at es i e lt at =
    let newer : List Entry = reverse (drop (i + 1) es) in
    ap (λ (l : List Entry). reverse l) (sym (take-append-drop (i + 1) es))
    ∙ reverse-append (take (i + 1) es) (drop (i + 1) es)
    ∙ ap (λ (l : List Entry). newer ++ l) (more_at es i e lt at)

-- the last has its number, and what it covers first is before it
needed_step : (n : ℕ) (last first : Option ℕ) (covering rest : Bool) → is_before first n ≡ covering
    → (is_number n last && (is_before (where_last last first) n || rest)) ≡ (is_number n last && (covering || rest))
needed_step n None first covering rest h = refl
needed_step n (Some l) first covering rest h = ap (λ (b : Bool). is_number n (Some l) && (b || rest)) h

pub void_needed : (es : List Entry) (i : ℕ) (e : Entry) (what : What) (lasts firsts : ByWhat) (rest : Bool) → falls (reverse es) ≡ true
    → HoldVoids (reverse es) lasts → HoldCovered (reverse es) (reverse es) lasts firsts → i < length es → e ≡ get_or es i e → e.event ≡ Void what
    → (is_number e.number (number_for lasts what) && (is_before (number_for firsts what) e.number || rest))
    ≡ ((is_void_of what e.event && is_number e.number (last_where (λ (x : Entry). is_void_of what x.event) (reverse es)))
    && (covers_newest (reverse es) what (reverse (take i es)) || rest))
void_needed es i e what lasts firsts rest falling voids covered lt at is =
    let all : List Entry = reverse es in
    let first : Option ℕ = first_covered all what all in
    let covering : Bool = covers_newest all what (reverse (take i es)) in
    ap (λ (o : Option ℕ). is_number e.number (number_for lasts what) && (is_before o e.number || rest)) (covered.each what)
    ∙ needed_step e.number (number_for lasts what) first covering rest (in_whole all what all (reverse (drop (i + 1) es)) e (reverse (take i es)) falling (split_at es i e lt at))
    ∙ ap (λ (o : Option ℕ). is_number e.number o && (covering || rest)) (voids.each what)
    ∙ ap (λ (b : Bool). (b && is_number e.number (last_where (λ (x : Entry). is_void_of what x.event) all)) && (covering || rest))
    (same_self_what what ∙ ap (λ (v : Event). is_void_of what v) (sym is))
