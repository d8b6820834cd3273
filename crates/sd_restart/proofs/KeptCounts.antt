-- What the kept rows say of wrong guesses and of falls is what the journal says where it counts.
use Rattle.std.proofs.Common.{◌≡◌, ◌≢◌, ℕ, ◌+◌, ◌<◌, Bool, true, false, List, [], ◌∷◌, map, arith, refl, sym, ap, subst, ◌∙◌}
use Rattle.std.specs.Prelude.{Option, Some, None, not, nat_lt, nat_le, ◌==◌, ◌&&◌, ◌||◌, if◌then◌else◌}
use Rattle.std.specs.Cmp.Lexicographic.{same_text}
use Rattle.std.proofs.lemmas.Bool.Decides.{nat_tests}
use Rattle.sd_rules.specs.declared.events.Event.{Event}
use Rattle.sd_rules.specs.declared.events.Event.TheVariants as events
use Rattle.sd_rules.specs.declared.events.Row.{Row}
use Rattle.sd_rules.specs.declared.events.Row.TheVariants as rows
use Rattle.sd_rules.specs.declared.replies.Entry.{Entry}
use Rattle.sd_rules.specs.declared.replies.Reply.{Reply}
use Rattle.sd_rules.specs.Keys.{same_name}
use Rattle.sd_rules.specs.KeptRows.{answer_row, fall_row, is_last_wrong, kept_entry, login_row, or_row, row_of, rows_among, server_row, with_row, wrong_row}
use Rattle.sd_rules.specs.Logins.{accepts, is_wrong, last_wrong, wrong_count, wrongs}
use Rattle.sd_rules.specs.Needed.{is_number, last_fall, last_where, user_guessed, user_logged_in}
use Rattle.sd_rules.specs.Past.{answer_by}
use Rattle.sd_rules.specs.Servers.{has_fallen_lately, is_fall_of, is_noted, is_online}
use Rattle.sd_core.specs.Sound.{falls_from, last_moment, moments_rise}
use Rattle.sd_core.proofs.KindLaws.{first_holds, second_holds}
use Rattle.sd_core.proofs.Room.{falls_on, same_number}
use Rattle.sd_restart.proofs.KeptReads.{RowIf, kept_of, row_law, true_not_false}

-- the test whose last entry holds the row of a user's wrong guesses
abbrev counts_for : List ℕ → Entry → Bool
counts_for user x = not (wrongs user x.event x.reply == 0)

-- how many wrong guesses of the user the row, where there is one, counts
abbrev row_wrongs : List ℕ → Option Row → ℕ
row_wrongs user None = 0
row_wrongs user (Some row) = wrongs user (events.Kept row) (kept_entry row).reply

with_wrongs : (user : List ℕ) (r : Option Row) (rs : List Row) → wrong_count (map kept_entry (with_row r rs)) user ≡ row_wrongs user r + wrong_count (map kept_entry rs) user
with_wrongs user None rs = omega arith
with_wrongs user (Some row) rs = refl

-- a row counts nothing for the user
abbrev CountsNone : List ℕ → Row → Type 0
CountsNone user row = wrongs user (events.Kept row) (kept_entry row).reply ≡ 0

none_counted : (user : List ℕ) (r : Option Row) → RowIf (CountsNone user) r → row_wrongs user r ≡ 0
none_counted user None h = refl
none_counted user (Some row) h = h

no_count : (b : Bool) (n : ℕ) → (b ≡ true → ⊥) → (if b then n else 0) ≡ 0
no_count true n f = absurd (f refl)
no_count false n f = refl

-- the row of an entry that is not the last which counts for the user
uncounted_row : (all past : List Entry) (e : Entry) (user : List ℕ) → (is_last_wrong all user e ≡ true → not (wrong_count all user == 0) ≡ true → ⊥) →
    RowIf (CountsNone user) (row_of all past e)
uncounted_row all past e user f =
    row_law (CountsNone user) all past e (λ a holds. refl) (λ u hash in_user is. refl) (λ u in_user is. refl)
    (λ u last counted. no_count (same_name u user) (wrong_count all u)
    (λ same. f (subst (λ n. is_last_wrong all n e ≡ true) (same_text u user (sym same)) last) (subst (λ n. not (wrong_count all n == 0) ≡ true) (same_text u user (sym same)) counted)))
    (λ server is. refl)

uncounted : (all past : List Entry) (e : Entry) (user : List ℕ) → (is_last_wrong all user e ≡ true → not (wrong_count all user == 0) ≡ true → ⊥) →
    wrong_count (kept_of all (e ∷ past)) user ≡ wrong_count (kept_of all past) user
uncounted all past e user f =
    with_wrongs user (row_of all past e) (rows_among all past)
    ∙ ap (λ n. n + wrong_count (kept_of all past) user) (none_counted user (row_of all past e) (uncounted_row all past e user f))
    ∙ plus_none (wrong_count (kept_of all past) user)
  where
    plus_none : (n : ℕ) → 0 + n ≡ n
    plus_none n = omega arith

not_true : (b : Bool) → not b ≡ true → b ≡ false
not_true true h = true_not_false (sym h)
not_true false h = refl

-- where no guess counts, no row does
kept_none : (all past : List Entry) (user : List ℕ) → wrong_count all user ≡ 0 → wrong_count (kept_of all past) user ≡ 0
kept_none all [] user h = refl
kept_none all (e ∷ past) user h =
    uncounted all past e user (λ last counted. zero_counted (wrong_count all user) h counted) ∙ kept_none all past user h
  where
    zero_counted : (n : ℕ) → n ≡ 0 → not (n == 0) ≡ true → ⊥
    zero_counted n h c = grind (arith, nat_tests, h, c)

-- entries before the last that counts have no such row
other_last : (m n : ℕ) → m < n → is_number m (Some n) ≡ false
other_last m n h = grind (arith, nat_tests, h)

kept_before : (all past : List Entry) (user : List ℕ) (n : ℕ) → last_where (counts_for user) all ≡ Some n → falls_from n past ≡ true → wrong_count (kept_of all past) user ≡ 0
kept_before all [] user n is f = refl
kept_before all (e ∷ past) user n is f =
    let below : e.number < n = grind (arith, nat_tests, f) in
    uncounted all past e user
    (λ last counted. is_not_last e.number (last_where (counts_for user) all) n is below (second_holds (counts_for user e) (is_number e.number (last_where (counts_for user) all)) last))
    ∙ kept_before all past user n is (falls_on n e past f)
  where
    is_not_last : (m : ℕ) (o : Option ℕ) (n : ℕ) → o ≡ Some n → m < n → is_number m o ≡ true → ⊥
    is_not_last m o n is below h =
        let here : is_number m (Some n) ≡ true = subst (λ x. is_number m x ≡ true) is h in
        true_not_false (sym here ∙ other_last m n below)

-- the row of the last entry that counts for the user
guessed_user : (user u : List ℕ) (w s : Bool) → same_name u user ≡ s → not ((if w && s then 1 else 0) == 0) ≡ true → Some u ≡ Some user
guessed_user user u true true e h = ap (λ x. Some x) (same_text u user (sym e))
guessed_user user u true false e h = true_not_false (sym h)
guessed_user user u false s e h = true_not_false (sym h)

kept_user : (user u : List ℕ) (count : ℕ) (s : Bool) → same_name u user ≡ s → not ((if s then count else 0) == 0) ≡ true → Some u ≡ Some user
kept_user user u count true e h = ap (λ x. Some x) (same_text u user (sym e))
kept_user user u count false e h = true_not_false (sym h)

row_user : (user : List ℕ) (reply : Reply) (row : Row) → not (wrongs user (events.Kept row) reply == 0) ≡ true → user_guessed (events.Kept row) ≡ Some user
row_user user reply (rows.Wrong n m u count) h = kept_user user u count (same_name u user) refl h
row_user user reply (rows.Head version next moment) h = true_not_false (sym h)
row_user user reply (rows.Answer n m key answered voided) h = true_not_false (sym h)
row_user user reply (rows.Hash n m u hash) h = true_not_false (sym h)
row_user user reply (rows.Fall n m server) h = true_not_false (sym h)
row_user user reply (rows.Online n m u) h = true_not_false (sym h)

counted_user : (user : List ℕ) (event : Event) (reply : Reply) → not (wrongs user event reply == 0) ≡ true → user_guessed event ≡ Some user
counted_user user (events.LoginGuess u named right) reply h = guessed_user user u (is_wrong reply) (same_name u user) refl h
counted_user user (events.Kept row) reply h = row_user user reply row h
counted_user user _ reply h = true_not_false (sym h)

-- an event that may count as a guess holds no answer and is no online login
row_guess : (all past : List Entry) (e : Entry) (user : List ℕ) (row : Row) → user_guessed (events.Kept row) ≡ Some user →
    or_row (answer_row all (answer_by past e (events.Kept row))) (or_row (login_row all e (user_logged_in past (events.Kept row) e.reply)) (or_row (wrong_row all e (user_guessed (events.Kept row))) (fall_row all e (events.Kept row))))
    ≡ or_row (wrong_row all e (Some user)) (fall_row all e (events.Kept row))
row_guess all past e user (rows.Wrong n m u count) is = ap (λ x. or_row (wrong_row all e x) None) is
row_guess all past e user (rows.Head version next moment) is = let clash : ⊥ = cc in absurd clash
row_guess all past e user (rows.Answer n m key answered voided) is = let clash : ⊥ = cc in absurd clash
row_guess all past e user (rows.Hash n m u hash) is = let clash : ⊥ = cc in absurd clash
row_guess all past e user (rows.Fall n m server) is = let clash : ⊥ = cc in absurd clash
row_guess all past e user (rows.Online n m u) is = let clash : ⊥ = cc in absurd clash

guess_row : (all past : List Entry) (e : Entry) (event : Event) (user : List ℕ) → user_guessed event ≡ Some user →
    or_row (answer_row all (answer_by past e event)) (or_row (login_row all e (user_logged_in past event e.reply)) (or_row (wrong_row all e (user_guessed event)) (fall_row all e event)))
    ≡ or_row (wrong_row all e (Some user)) (fall_row all e event)
guess_row all past e (events.LoginGuess u named right) user is = ap (λ x. or_row (wrong_row all e x) None) is
guess_row all past e (events.Kept row) user is = row_guess all past e user row is
guess_row all past e _ user is = let clash : ⊥ = cc in absurd clash

both_true : (a b : Bool) → a ≡ true → b ≡ true → (a && b) ≡ true
both_true a b f g = cc

counted_row : (all past : List Entry) (e : Entry) (user : List ℕ) → counts_for user e ≡ true → last_where (counts_for user) all ≡ Some e.number → wrong_count all user ≢ 0 →
    row_of all past e ≡ Some (rows.Wrong e.number e.moment user (wrong_count all user))
counted_row all past e user here is some =
    guess_row all past e e.event user (counted_user user e.event e.reply here)
    ∙ ap (λ b. or_row (if b then Some (rows.Wrong e.number e.moment user (wrong_count all user)) else None) (fall_row all e e.event))
    (both_true (counts_for user e && is_number e.number (last_where (counts_for user) all)) (not (wrong_count all user == 0))
    (both_true (counts_for user e) (is_number e.number (last_where (counts_for user) all)) here (ap (λ o. is_number e.number o) is ∙ same_number e.number)) (grind (arith, nat_tests, some)))

pub own_name : (user : List ℕ) → same_name user user ≡ true
own_name [] = refl
own_name (x ∷ xs) = both_true (x == x) (same_name xs xs) (same_number x) (own_name xs)

own_wrongs : (user : List ℕ) (count : ℕ) → (if same_name user user then count else 0) ≡ count
own_wrongs user count = ap (λ b. if b then count else 0) (own_name user)

-- what is counted where there is a last entry that counts
abbrev if_last : Option ℕ → ℕ → ℕ
if_last None count = 0
if_last (Some n) count = count

choice_none : (b : Bool) (n : ℕ) (o : Option ℕ) → b ≡ false → (if b then Some n else o) ≡ o
choice_none true n o h = true_not_false h
choice_none false n o h = refl

choice_some : (b : Bool) (n : ℕ) (o : Option ℕ) → b ≡ true → (if b then Some n else o) ≡ Some n
choice_some true n o h = refl
choice_some false n o h = true_not_false (sym h)

last_of_user : (all past : List Entry) (e : Entry) (user : List ℕ) → counts_for user e ≡ false → is_last_wrong all user e ≡ true → ⊥
last_of_user all past e user none last = true_not_false (sym (first_holds (counts_for user e) (is_number e.number (last_where (counts_for user) all)) last) ∙ none)

with_last : (user : List ℕ) (r : Option Row) (rs : List Row) → RowIf (CountsNone user) r → last_wrong (map kept_entry (with_row r rs)) user ≡ last_wrong (map kept_entry rs) user
with_last user None rs h = refl
with_last user (Some row) rs h = at_zero (wrongs user (events.Kept row) (kept_entry row).reply == 0) (grind (arith, nat_tests, h))
  where
    at_zero : (z : Bool) → z ≡ true → (if z then last_wrong (map kept_entry rs) user else Some (kept_entry row).moment) ≡ last_wrong (map kept_entry rs) user
    at_zero true e = refl
    at_zero false e = true_not_false (sym e)

moment_if : (n : ℕ) (m : ℕ) (o : Option ℕ) → n ≢ 0 → (if n == 0 then o else Some m) ≡ Some m
moment_if n m o h = at_zero (n == 0) refl
  where
    at_zero : (z : Bool) → (n == 0) ≡ z → (if z then o else Some m) ≡ Some m
    at_zero true e = absurd (h (grind (arith, nat_tests, e)))
    at_zero false e = refl

moment_unless : (n : ℕ) (m : ℕ) (o : Option ℕ) → not (n == 0) ≡ false → (if n == 0 then o else Some m) ≡ o
moment_unless n m o h = at_zero (n == 0) h
  where
    at_zero : (z : Bool) → not z ≡ false → (if z then o else Some m) ≡ o
    at_zero true e = refl
    at_zero false e = true_not_false e

counted_not_zero : (n : ℕ) → not (n == 0) ≡ true → n ≢ 0
counted_not_zero n h e = grind (arith, nat_tests, h, e)

-- at the last entry that counts
count_at_last : (all past : List Entry) (e : Entry) (user : List ℕ) → counts_for user e ≡ true → last_where (counts_for user) all ≡ Some e.number → wrong_count all user ≢ 0 →
    falls_from e.number past ≡ true → wrong_count (kept_of all (e ∷ past)) user ≡ wrong_count all user
count_at_last all past e user here is some f =
    ap (λ r. wrong_count (map kept_entry (with_row r (rows_among all past))) user) (counted_row all past e user here is some)
    ∙ (ap (λ n. n + wrong_count (kept_of all past) user) (own_wrongs user (wrong_count all user))
    ∙ (ap (λ n. wrong_count all user + n) (kept_before all past user e.number is f) ∙ plus_none (wrong_count all user)))
  where
    plus_none : (n : ℕ) → n + 0 ≡ n
    plus_none n = omega arith

moment_at_last : (all past : List Entry) (e : Entry) (user : List ℕ) → counts_for user e ≡ true → last_where (counts_for user) all ≡ Some e.number → wrong_count all user ≢ 0 →
    last_wrong (kept_of all (e ∷ past)) user ≡ last_wrong (e ∷ past) user
moment_at_last all past e user here is some =
    ap (λ r. last_wrong (map kept_entry (with_row r (rows_among all past))) user) (counted_row all past e user here is some)
    ∙ (ap (λ n. if n == 0 then last_wrong (kept_of all past) user else Some e.moment) (own_wrongs user (wrong_count all user))
    ∙ (moment_if (wrong_count all user) e.moment (last_wrong (kept_of all past) user) some
    ∙ sym (moment_if (wrongs user e.event e.reply) e.moment (last_wrong past user) (counted_not_zero (wrongs user e.event e.reply) here))))

kept_counted : (next : ℕ) (all past : List Entry) (user : List ℕ) → falls_from next past ≡ true → last_where (counts_for user) all ≡ last_where (counts_for user) past →
    wrong_count all user ≢ 0 → wrong_count (kept_of all past) user ≡ if_last (last_where (counts_for user) past) (wrong_count all user)
kept_counted next all [] user f is some = refl
kept_counted next all (e ∷ past) user f is some =
    by_test (counts_for user e) refl
    (λ same. kept_counted e.number all past user (second_holds (nat_lt e.number next) (falls_from e.number past) f) same some)
  where
    by_test : (b : Bool) → counts_for user e ≡ b →
        (last_where (counts_for user) all ≡ last_where (counts_for user) past → wrong_count (kept_of all past) user ≡ if_last (last_where (counts_for user) past) (wrong_count all user)) →
        wrong_count (kept_of all (e ∷ past)) user ≡ if_last (if counts_for user e then Some e.number else last_where (counts_for user) past) (wrong_count all user)
    by_test true here later =
        count_at_last all past e user here (is ∙ choice_some (counts_for user e) e.number (last_where (counts_for user) past) here) some
        (second_holds (nat_lt e.number next) (falls_from e.number past) f)
        ∙ sym (ap (λ o. if_last o (wrong_count all user)) (choice_some (counts_for user e) e.number (last_where (counts_for user) past) here))
    by_test false none later =
        uncounted all past e user (λ last counted. last_of_user all past e user none last)
        ∙ (later (is ∙ choice_none (counts_for user e) e.number (last_where (counts_for user) past) none)
        ∙ sym (ap (λ o. if_last o (wrong_count all user)) (choice_none (counts_for user e) e.number (last_where (counts_for user) past) none)))

kept_moment : (all past : List Entry) (user : List ℕ) → last_where (counts_for user) all ≡ last_where (counts_for user) past → wrong_count all user ≢ 0 →
    last_wrong (kept_of all past) user ≡ last_wrong past user
kept_moment all [] user is some = refl
kept_moment all (e ∷ past) user is some = by_test (counts_for user e) refl (λ same. kept_moment all past user same some)
  where
    by_test : (b : Bool) → counts_for user e ≡ b → (last_where (counts_for user) all ≡ last_where (counts_for user) past → last_wrong (kept_of all past) user ≡ last_wrong past user) →
        last_wrong (kept_of all (e ∷ past)) user ≡ last_wrong (e ∷ past) user
    by_test true here later = moment_at_last all past e user here (is ∙ choice_some (counts_for user e) e.number (last_where (counts_for user) past) here) some
    by_test false none later =
        with_last user (row_of all past e) (rows_among all past) (uncounted_row all past e user (λ last counted. last_of_user all past e user none last))
        ∙ (later (is ∙ choice_none (counts_for user e) e.number (last_where (counts_for user) past) none)
        ∙ sym (moment_unless (wrongs user e.event e.reply) e.moment (last_wrong past user) none))

-- where no entry counts, none are counted
none_by : (a : Bool) (w c : ℕ) → not (w == 0) ≡ false → c ≡ 0 → (if a then 0 else w + c) ≡ 0
none_by true w c f g = refl
none_by false w c f g = at_zero (w == 0) refl f
  where
    at_zero : (z : Bool) → (w == 0) ≡ z → not z ≡ false → w + c ≡ 0
    at_zero true e f = grind (arith, nat_tests, e, g)
    at_zero false e f = true_not_false f

chosen_none : (b : Bool) (n : ℕ) (o : Option ℕ) → (if b then Some n else o) ≡ None → (b ≡ false) × (o ≡ None)
chosen_none true n o h = let clash : ⊥ = cc in absurd clash
chosen_none false n o h = (refl, h)

none_last : (past : List Entry) (user : List ℕ) → last_where (counts_for user) past ≡ None → wrong_count past user ≡ 0
none_last [] user h = refl
none_last (e ∷ past) user h =
    let none = chosen_none (counts_for user e) e.number (last_where (counts_for user) past) h in
    none_by (accepts past user e.event e.reply) (wrongs user e.event e.reply) (wrong_count past user) none.0 (none_last past user none.1)

some_last : (o : Option ℕ) (count : ℕ) → (o ≡ None → ⊥) → if_last o count ≡ count
some_last None count h = absurd (h refl)
some_last (Some n) count h = refl

pub kept_wrongs : (next : ℕ) (all : List Entry) (user : List ℕ) → falls_from next all ≡ true → wrong_count (kept_of all all) user ≡ wrong_count all user
kept_wrongs next all user f = by_count (wrong_count all user == 0) refl
  where
    by_count : (z : Bool) → (wrong_count all user == 0) ≡ z → wrong_count (kept_of all all) user ≡ wrong_count all user
    by_count true e =
        let none : wrong_count all user ≡ 0 = grind (arith, nat_tests, e) in
        kept_none all all user none ∙ sym none
    by_count false e =
        let some : wrong_count all user ≢ 0 = grind (arith, nat_tests, e) in
        kept_counted next all all user f refl some
        ∙ some_last (last_where (counts_for user) all) (wrong_count all user) (λ none. some (none_last all user none))

pub kept_last_wrong : (all : List Entry) (user : List ℕ) → wrong_count all user ≢ 0 → last_wrong (kept_of all all) user ≡ last_wrong all user
kept_last_wrong all user some = kept_moment all all user refl some

-- falls
abbrev row_fell : ℕ → ℕ → Option Row → Bool
row_fell t i None = false
row_fell t i (Some row) = is_fall_of (events.Kept row) (kept_entry row).reply i && nat_lt t ((kept_entry row).moment + 30)

with_fell : (t i : ℕ) (r : Option Row) (rs : List Row) → has_fallen_lately (map kept_entry (with_row r rs)) t i ≡ (row_fell t i r || has_fallen_lately (map kept_entry rs) t i)
with_fell t i None rs = refl
with_fell t i (Some row) rs = refl

abbrev FallsNot : ℕ → Row → Type 0
FallsNot i row = is_fall_of (events.Kept row) (kept_entry row).reply i ≡ false

fell_not : (t i : ℕ) (r : Option Row) (rest : Bool) → RowIf (FallsNot i) r → (row_fell t i r || rest) ≡ rest
fell_not t i None rest h = refl
fell_not t i (Some row) rest h = ap (λ b. (b && nat_lt t ((kept_entry row).moment + 30)) || rest) h

other_server : (b : Bool) (m n : ℕ) → (m == n) ≡ b → (m ≡ n → ⊥) → b ≡ false
other_server true m n e f = absurd (f (grind (arith, nat_tests, e)))
other_server false m n e f = refl

unfallen_row : (all past : List Entry) (e : Entry) (i : ℕ) → (is_number e.number (last_fall all i) ≡ true → ⊥) → RowIf (FallsNot i) (row_of all past e)
unfallen_row all past e i f =
    row_law (FallsNot i) all past e (λ a holds. refl) (λ u hash in_user is. refl) (λ u in_user is. refl) (λ u last counted. refl)
    (λ server is. other_server (server == i) server i refl (λ same. f (subst (λ s. is_number e.number (last_fall all s) ≡ true) same is)))

unfallen : (all past : List Entry) (e : Entry) (t i : ℕ) → (is_number e.number (last_fall all i) ≡ true → ⊥) →
    has_fallen_lately (kept_of all (e ∷ past)) t i ≡ has_fallen_lately (kept_of all past) t i
unfallen all past e t i f =
    with_fell t i (row_of all past e) (rows_among all past) ∙ fell_not t i (row_of all past e) (has_fallen_lately (kept_of all past) t i) (unfallen_row all past e i f)

no_number : (m : ℕ) (o : Option ℕ) → o ≡ None → is_number m o ≡ true → ⊥
no_number m o is h =
    let here : is_number m None ≡ true = subst (λ x. is_number m x ≡ true) is h in
    true_not_false (sym here)

later_number : (m : ℕ) (o : Option ℕ) (n : ℕ) → o ≡ Some n → m < n → is_number m o ≡ true → ⊥
later_number m o n is below h =
    let here : is_number m (Some n) ≡ true = subst (λ x. is_number m x ≡ true) is h in
    true_not_false (sym here ∙ other_last m n below)

earlier_number : (m : ℕ) (o : Option ℕ) → ((n : ℕ) → o ≡ Some n → n < m) → is_number m o ≡ true → ⊥
earlier_number m None f h = true_not_false (sym h)
earlier_number m (Some n) f h =
    let below = f n refl in
    grind (arith, nat_tests, below, h)

fell_none : (all past : List Entry) (t i : ℕ) → last_fall all i ≡ None → has_fallen_lately (kept_of all past) t i ≡ false
fell_none all [] t i is = refl
fell_none all (e ∷ past) t i is = unfallen all past e t i (no_number e.number (last_fall all i) is) ∙ fell_none all past t i is

fell_before : (all past : List Entry) (t i n : ℕ) → last_fall all i ≡ Some n → falls_from n past ≡ true → has_fallen_lately (kept_of all past) t i ≡ false
fell_before all [] t i n is f = refl
fell_before all (e ∷ past) t i n is f =
    let below : e.number < n = grind (arith, nat_tests, f) in
    unfallen all past e t i (later_number e.number (last_fall all i) n is below) ∙ fell_before all past t i n is (falls_on n e past f)

fall_at : (o f : Bool) (number n m : ℕ) (rest : Option ℕ) → number < m → (rest ≡ Some n → n < m) → (if o then None else if f then Some number else rest) ≡ Some n → n < m
fall_at true f number n m rest below later h = let clash : ⊥ = cc in absurd clash
fall_at false true number n m rest below later h =
    let same : number ≡ n = cc in
    omega (arith, same, below)
fall_at false false number n m rest below later h = later h

last_fall_below : (m : ℕ) (past : List Entry) (i n : ℕ) → falls_from m past ≡ true → last_fall past i ≡ Some n → n < m
last_fall_below m [] i n f h = let clash : ⊥ = cc in absurd clash
last_fall_below m (e ∷ past) i n f h =
    fall_at (is_online e.event) (is_fall_of e.event e.reply i) e.number n m (last_fall past i) (grind (arith, nat_tests, f))
    (λ later. last_fall_below m past i n (falls_on m e past f) later) h

-- the moment of a fall is no later than the last
fell_at : (o f : Bool) (t m k : ℕ) (rest : Bool) → nat_le k m ≡ true → (rest ≡ true → nat_lt t (k + 30) ≡ true) → (if o then false else (f && nat_lt t (m + 30)) || rest) ≡ true →
    nat_lt t (m + 30) ≡ true
fell_at true f t m k rest le later h = true_not_false (sym h)
fell_at false true t m k true le later h =
    let earlier = later refl in
    grind (arith, nat_tests, le, earlier)
fell_at false true t m k false le later h = or_none (nat_lt t (m + 30)) h
  where
    or_none : (a : Bool) → (a || false) ≡ true → a ≡ true
    or_none true h = refl
    or_none false h = h
fell_at false false t m k rest le later h =
    let earlier = later h in
    grind (arith, nat_tests, le, earlier)

fell_since : (past : List Entry) (t i : ℕ) → moments_rise past ≡ true → has_fallen_lately past t i ≡ true → nat_lt t (last_moment past + 30) ≡ true
fell_since [] t i f h = true_not_false (sym h)
fell_since (e ∷ past) t i f h =
    fell_at (is_online e.event) (is_fall_of e.event e.reply i) t e.moment (last_moment past) (has_fallen_lately past t i)
    (first_holds (nat_le (last_moment past) e.moment) (moments_rise past) f)
    (λ later. fell_since past t i (second_holds (nat_le (last_moment past) e.moment) (moments_rise past) f) later) h

-- the row of the last fall of a server
same_server : (j i : ℕ) (noted : Bool) → ((j == i) && noted) ≡ true → j ≡ i
same_server j i noted h =
    let same = first_holds (j == i) noted h in
    grind (arith, nat_tests, same)

server_kept : (all : List Entry) (e : Entry) (j i : ℕ) → j ≡ i → last_fall all i ≡ Some e.number → server_row all e j ≡ Some (rows.Fall e.number e.moment i)
server_kept all e j i same is =
    ap (λ s. server_row all e s) same
    ∙ ap (λ b. if b then Some (rows.Fall e.number e.moment i) else None) (ap (λ o. is_number e.number o) is ∙ same_number e.number)

row_fallen : (all past : List Entry) (e : Entry) (i : ℕ) (row : Row) → is_fall_of (events.Kept row) e.reply i ≡ true → last_fall all i ≡ Some e.number →
    or_row (answer_row all (answer_by past e (events.Kept row))) (or_row (login_row all e (user_logged_in past (events.Kept row) e.reply)) (or_row (wrong_row all e (user_guessed (events.Kept row))) (fall_row all e (events.Kept row))))
    ≡ Some (rows.Fall e.number e.moment i)
row_fallen all past e i (rows.Fall n m j) h is = server_kept all e j i (grind (arith, nat_tests, h)) is
row_fallen all past e i (rows.Head version next moment) h is = true_not_false (sym h)
row_fallen all past e i (rows.Answer n m key answered voided) h is = true_not_false (sym h)
row_fallen all past e i (rows.Hash n m u hash) h is = true_not_false (sym h)
row_fallen all past e i (rows.Wrong n m u count) h is = true_not_false (sym h)
row_fallen all past e i (rows.Online n m u) h is = true_not_false (sym h)

fallen_by : (all past : List Entry) (e : Entry) (i : ℕ) (event : Event) → is_fall_of event e.reply i ≡ true → last_fall all i ≡ Some e.number →
    or_row (answer_row all (answer_by past e event)) (or_row (login_row all e (user_logged_in past event e.reply)) (or_row (wrong_row all e (user_guessed event)) (fall_row all e event)))
    ≡ Some (rows.Fall e.number e.moment i)
fallen_by all past e i (events.Fall r j why) h is = server_kept all e j i (same_server j i (is_noted e.reply) h) is
fallen_by all past e i (events.Kept row) h is = row_fallen all past e i row h is
fallen_by all past e i _ h is = true_not_false (sym h)

last_decides : (x y : Bool) → (y ≡ true → x ≡ true) → (x || false) ≡ (x || y)
last_decides true y f = refl
last_decides false true f = f refl
last_decides false false f = refl

fell_here : (all past : List Entry) (e : Entry) (t i : ℕ) → is_fall_of e.event e.reply i ≡ true → last_fall all i ≡ Some e.number → falls_from e.number past ≡ true →
    moments_rise (e ∷ past) ≡ true → has_fallen_lately (kept_of all (e ∷ past)) t i ≡ ((true && nat_lt t (e.moment + 30)) || has_fallen_lately past t i)
fell_here all past e t i fall is f rises =
    ap (λ r. has_fallen_lately (map kept_entry (with_row r (rows_among all past))) t i) (fallen_by all past e i e.event fall is)
    ∙ (ap (λ b. (b && nat_lt t (e.moment + 30)) || has_fallen_lately (kept_of all past) t i) (same_number i)
    ∙ (ap (λ b. (true && nat_lt t (e.moment + 30)) || b) (fell_before all past t i e.number is f)
    ∙ last_decides (nat_lt t (e.moment + 30)) (has_fallen_lately past t i)
    (λ earlier. later_moment (last_moment past) e.moment (first_holds (nat_le (last_moment past) e.moment) (moments_rise past) rises)
    (fell_since past t i (second_holds (nat_le (last_moment past) e.moment) (moments_rise past) rises) earlier))))
  where
    later_moment : (k m : ℕ) → nat_le k m ≡ true → nat_lt t (k + 30) ≡ true → nat_lt t (m + 30) ≡ true
    later_moment k m le h = grind (arith, nat_tests, le, h)

pub kept_fell : (next : ℕ) (all past : List Entry) (t i : ℕ) → falls_from next past ≡ true → moments_rise past ≡ true → last_fall all i ≡ last_fall past i →
    has_fallen_lately (kept_of all past) t i ≡ has_fallen_lately past t i
kept_fell next all [] t i f rises is = refl
kept_fell next all (e ∷ past) t i f rises is =
    by_event (is_online e.event) (is_fall_of e.event e.reply i) refl refl is
    (λ same. kept_fell e.number all past t i (second_holds (nat_lt e.number next) (falls_from e.number past) f) (second_holds (nat_le (last_moment past) e.moment) (moments_rise past) rises) same)
  where
    by_event : (o g : Bool) → is_online e.event ≡ o → is_fall_of e.event e.reply i ≡ g → last_fall all i ≡ (if o then None else if g then Some e.number else last_fall past i) →
        (last_fall all i ≡ last_fall past i → has_fallen_lately (kept_of all past) t i ≡ has_fallen_lately past t i) →
        has_fallen_lately (kept_of all (e ∷ past)) t i ≡ (if o then false else (g && nat_lt t (e.moment + 30)) || has_fallen_lately past t i)
    by_event true g online fall here later = unfallen all past e t i (no_number e.number (last_fall all i) here) ∙ fell_none all past t i here
    by_event false true online fall here later = fell_here all past e t i fall here (second_holds (nat_lt e.number next) (falls_from e.number past) f) rises
    by_event false false online fall here later =
        unfallen all past e t i
        (earlier_number e.number (last_fall all i) (λ n some. last_fall_below e.number past i n (second_holds (nat_lt e.number next) (falls_from e.number past) f) (sym here ∙ some)))
        ∙ later here
