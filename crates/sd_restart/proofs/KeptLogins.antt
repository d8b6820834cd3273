-- What the kept rows say of logins is what the journal says.
use Rattle.std.proofs.Common.{◌≡◌, ℕ, ◌<◌, Bool, true, false, List, [], ◌∷◌, map, arith, refl, sym, ap, subst, ◌∙◌}
use Rattle.std.specs.Prelude.{Option, Some, None, not, nat_lt, ◌==◌, ◌&&◌, if◌then◌else◌}
use Rattle.std.specs.Cmp.Lexicographic.{same_text}
use Rattle.std.proofs.lemmas.Bool.Decides.{nat_tests}
use Rattle.sd_rules.specs.declared.events.Event.{Event}
use Rattle.sd_rules.specs.declared.events.Event.TheVariants as events
use Rattle.sd_rules.specs.declared.events.Hash.{Hash}
use Rattle.sd_rules.specs.declared.events.LoginResult.{LoginResult}
use Rattle.sd_rules.specs.declared.events.LoginResult.TheVariants as results
use Rattle.sd_rules.specs.declared.events.Row.{Row}
use Rattle.sd_rules.specs.declared.events.Row.TheVariants as rows
use Rattle.sd_rules.specs.declared.replies.Entry.{Entry}
use Rattle.sd_rules.specs.declared.replies.Reply.{Reply}
use Rattle.sd_rules.specs.Keys.{same_name}
use Rattle.sd_rules.specs.KeptRows.{answer_row, fall_row, hash_row, is_unhashed_login, kept_entry, login_row, or_row, row_number, row_of, rows_among, with_row, wrong_row}
use Rattle.sd_rules.specs.Logins.{Login, hash_carried, hash_entry, is_name, kept_login, last_online_login, login_by, login_in, only_hashed, or_earlier, user_of}
use Rattle.sd_rules.specs.Needed.{is_login, user_guessed, user_if_right, user_logged_in, user_of_row}
use Rattle.sd_rules.specs.Past.{Standing, answer_by, answer_in, is_closed}
use Rattle.sd_rules.specs.Steps.{event_at, hash_in, hash_of_event}
use Rattle.sd_core.specs.Sound.{falls_from}
use Rattle.sd_core.proofs.KindLaws.{first_holds, second_holds}
use Rattle.sd_core.proofs.Room.{falls_on, same_number}
use Rattle.sd_restart.proofs.KeptCounts.{own_name}
use Rattle.sd_restart.proofs.KeptReads.{RowIf, kept_of, row_law, true_not_false}
use Rattle.sd_restart.proofs.SettledReads.{HasNumber, answer_has}

none_some : {X : Type 0} {Y : Type 0} (y : Y) → None ≡ Some y → X
none_some y e = let clash : ⊥ = cc in absurd clash

some_same : {Y : Type 0} (x y : Y) → Some x ≡ Some y → x ≡ y
some_same x y e = cc

-- the numbers of rows are those of their entries
abbrev NumberOf : ℕ → Row → Type 0
NumberOf n row = row_number row ≡ n

has_number : (n : ℕ) (a : Option Standing) (b : Standing) → a ≡ Some b → HasNumber n a → b.number ≡ n
has_number n a b is h = let here : HasNumber n (Some b) = subst (HasNumber n) is h in here

row_numbered : (all past : List Entry) (e : Entry) → RowIf (NumberOf e.number) (row_of all past e)
row_numbered all past e =
    row_law (NumberOf e.number) all past e (λ a holds. has_number e.number (answer_in past e) a holds (answer_has past e e.event))
    (λ u hash in_user is. refl) (λ u in_user is. refl) (λ u last counted. refl) (λ server is. refl)

with_falls : (n m : ℕ) (r : Option Row) (es : List Row) → RowIf (NumberOf m) r → nat_lt m n ≡ true → falls_from m (map kept_entry es) ≡ true →
    falls_from n (map kept_entry (with_row r es)) ≡ true
with_falls n m None es h l f = above m n (map kept_entry es) l f
  where
    above : (m n : ℕ) (xs : List Entry) → nat_lt m n ≡ true → falls_from m xs ≡ true → falls_from n xs ≡ true
    above m n [] l f = refl
    above m n (x ∷ xs) l f = grind (arith, nat_tests, l, f)
with_falls n m (Some row) es h l f =
    subst (λ k. (nat_lt k n && falls_from k (map kept_entry es)) ≡ true) (sym h) (both (nat_lt m n) (falls_from m (map kept_entry es)) l f)
  where
    both : (a b : Bool) → a ≡ true → b ≡ true → (a && b) ≡ true
    both a b f g = cc

pub kept_falls : (n : ℕ) (all past : List Entry) → falls_from n past ≡ true → falls_from n (kept_of all past) ≡ true
kept_falls n all [] f = refl
kept_falls n all (e ∷ past) f =
    with_falls n e.number (row_of all past e) (rows_among all past) (row_numbered all past e) (first_holds (nat_lt e.number n) (falls_from e.number past) f)
    (kept_falls e.number all past (second_holds (nat_lt e.number n) (falls_from e.number past) f))

other_event : (n m : ℕ) (r : Option Row) (es : List Row) → RowIf (NumberOf m) r → n < m → event_at (map kept_entry (with_row r es)) n ≡ event_at (map kept_entry es) n
other_event n m None es h below = refl
other_event n m (Some row) es h below =
    let other : (row_number row == n) ≡ false = grind (arith, nat_tests, h, below) in
    rw other refl

-- the login of an entry of a user
pub login_below : (m : ℕ) (past : List Entry) (user : List ℕ) (l : Login) → falls_from m past ≡ true → last_online_login past user ≡ Some l → l.number < m
login_below m [] user l f is = none_some l is
login_below m (e ∷ past) user l f is =
    by_login (login_by past user e.event e.reply) is (λ later. login_below m past user l (falls_on m e past f) later)
  where
    by_login : (b : Option Bool) → or_earlier (login_in e b) (last_online_login past user) ≡ Some l → (last_online_login past user ≡ Some l → l.number < m) → l.number < m
    by_login None is later = later is
    by_login (Some hashed) is later =
        let same = some_same (record { number = e.number; moment = e.moment; hashed = hashed }) l is in
        let number : e.number ≡ l.number = ap (λ (x : Login). x.number) same in
        grind (arith, nat_tests, f, number)

pub hash_below : (m : ℕ) (past : List Entry) (user : List ℕ) (l : Login) → falls_from m past ≡ true → hash_entry past user ≡ Some l → l.number < m
hash_below m [] user l f is = none_some l is
hash_below m (e ∷ past) user l f is =
    by_login (login_by past user e.event e.reply) is (λ later. hash_below m past user l (falls_on m e past f) later)
  where
    by_login : (b : Option Bool) → or_earlier (only_hashed (login_in e b)) (hash_entry past user) ≡ Some l → (hash_entry past user ≡ Some l → l.number < m) → l.number < m
    by_login None is later = later is
    by_login (Some false) is later = later is
    by_login (Some true) is later =
        let same = some_same (record { number = e.number; moment = e.moment; hashed = true }) l is in
        let number : e.number ≡ l.number = ap (λ (x : Login). x.number) same in
        grind (arith, nat_tests, f, number)

-- the last online login, where it is hashed, is the hash entry, and otherwise the hash entry is earlier
last_hashed : (past : List Entry) (user : List ℕ) (l : Login) → last_online_login past user ≡ Some l → l.hashed ≡ true → hash_entry past user ≡ Some l
last_hashed [] user l is h = none_some l is
last_hashed (e ∷ past) user l is h = by_login (login_by past user e.event e.reply) is (λ later. last_hashed past user l later h)
  where
    by_login : (b : Option Bool) → or_earlier (login_in e b) (last_online_login past user) ≡ Some l → (last_online_login past user ≡ Some l → hash_entry past user ≡ Some l) →
        or_earlier (only_hashed (login_in e b)) (hash_entry past user) ≡ Some l
    by_login None is later = later is
    by_login (Some true) is later = is
    by_login (Some false) is later =
        let same = some_same (record { number = e.number; moment = e.moment; hashed = false }) l is in
        let hashed : false ≡ l.hashed = ap (λ (x : Login). x.hashed) same in
        true_not_false (sym (hashed ∙ h))

last_unhashed : (m : ℕ) (past : List Entry) (user : List ℕ) (l h : Login) → falls_from m past ≡ true → last_online_login past user ≡ Some l → l.hashed ≡ false →
    hash_entry past user ≡ Some h → h.number < l.number
last_unhashed m [] user l h f is un hs = none_some l is
last_unhashed m (e ∷ past) user l h f is un hs =
    by_login (login_by past user e.event e.reply) is hs (λ later hash. last_unhashed m past user l h (falls_on m e past f) later un hash)
  where
    by_login : (b : Option Bool) → or_earlier (login_in e b) (last_online_login past user) ≡ Some l → or_earlier (only_hashed (login_in e b)) (hash_entry past user) ≡ Some h →
        (last_online_login past user ≡ Some l → hash_entry past user ≡ Some h → h.number < l.number) → h.number < l.number
    by_login None is hs later = later is hs
    by_login (Some true) is hs later =
        let same = some_same (record { number = e.number; moment = e.moment; hashed = true }) l is in
        let hashed : true ≡ l.hashed = ap (λ (x : Login). x.hashed) same in
        true_not_false (hashed ∙ un)
    by_login (Some false) is hs later =
        let same = some_same (record { number = e.number; moment = e.moment; hashed = false }) l is in
        let number : e.number ≡ l.number = ap (λ (x : Login). x.number) same in
        subst (λ n. h.number < n) number (hash_below e.number past user h (second_holds (nat_lt e.number m) (falls_from e.number past) f) hs)

-- a hash entry is no later than the last online login
hash_within : (m n : ℕ) (past : List Entry) (user : List ℕ) (h : Login) → falls_from m past ≡ true → hash_entry past user ≡ Some h →
    ((l : Login) → last_online_login past user ≡ Some l → l.number < n) → h.number < n
hash_within m n [] user h f is within = none_some h is
hash_within m n (e ∷ past) user h f is within =
    by_login (login_by past user e.event e.reply) is within (λ later bound. hash_within m n past user h (falls_on m e past f) later bound)
  where
    by_login : (b : Option Bool) → or_earlier (only_hashed (login_in e b)) (hash_entry past user) ≡ Some h →
        ((l : Login) → or_earlier (login_in e b) (last_online_login past user) ≡ Some l → l.number < n) →
        (hash_entry past user ≡ Some h → ((l : Login) → last_online_login past user ≡ Some l → l.number < n) → h.number < n) → h.number < n
    by_login None is within later = later is within
    by_login (Some true) is within later = within h is
    by_login (Some false) is within later =
        let own : e.number < n = within (record { number = e.number; moment = e.moment; hashed = false }) refl in
        let earlier = hash_below e.number past user h (second_holds (nat_lt e.number m) (falls_from e.number past) f) is in
        omega (arith, own, earlier)

-- whose login an entry is
carried_if : (c : Bool) (x : Option Bool) (y : Bool) → (if c then x else None) ≡ Some y → (c ≡ true) × (x ≡ Some y)
carried_if true x y h = (refl, h)
carried_if false x y h = none_some y h

named_user : (o : Option (List ℕ)) (user : List ℕ) → is_name o user ≡ true → o ≡ Some user
named_user None user h = true_not_false (sym h)
named_user (Some name) user h = ap (λ n. Some n) (same_text name user (sym h))

logged_by : (c : Bool) (h : Option Bool) (o : Option (List ℕ)) (hashed : Bool) (user : List ℕ) → c ≡ true → h ≡ Some hashed → o ≡ Some user →
    (if c then user_if_right h o else None) ≡ Some user
logged_by true None o hashed user c h o_is = none_some hashed h
logged_by true (Some b) o hashed user c h o_is = o_is
logged_by false h o hashed user c h_is o_is = true_not_false (sym c)

named_if : (b : Bool) (x y : Bool) → (if b then Some x else None) ≡ Some y → (b ≡ true) × (x ≡ y)
named_if true x y h = (refl, some_same x y h)
named_if false x y h = none_some y h

row_logged : (row : Row) (user : List ℕ) (hashed : Bool) → kept_login row user ≡ Some hashed → user_of_row row ≡ Some user
row_logged (rows.Hash n m u hash) user hashed h =
    let named = named_if (same_name u user) true hashed h in
    ap (λ n. Some n) (same_text u user (sym named.0))
row_logged (rows.Online n m u) user hashed h =
    let named = named_if (same_name u user) false hashed h in
    ap (λ n. Some n) (same_text u user (sym named.0))
row_logged (rows.Head version next moment) user hashed h = none_some hashed h
row_logged (rows.Answer n m key answered voided) user hashed h = none_some hashed h
row_logged (rows.Wrong n m u count) user hashed h = none_some hashed h
row_logged (rows.Fall n m server) user hashed h = none_some hashed h

logged_in : (past : List Entry) (user : List ℕ) (event : Event) (reply : Reply) (hashed : Bool) → login_by past user event reply ≡ Some hashed → user_logged_in past event reply ≡ Some user
logged_in past user (events.LoginOnline a result) reply hashed h =
    let both = carried_if (is_closed reply && is_name (user_of past a) user) (hash_carried result) hashed h in
    logged_by (is_closed reply) (hash_carried result) (user_of past a) hashed user (first_holds (is_closed reply) (is_name (user_of past a) user) both.0) both.1
    (named_user (user_of past a) user (second_holds (is_closed reply) (is_name (user_of past a) user) both.0))
logged_in past user (events.Kept row) reply hashed h = row_logged row user hashed h
logged_in past user _ reply hashed h = none_some hashed h

-- its hash
result_hash : (result : LoginResult) (a : ℕ) → hash_carried result ≡ Some true → (hash : Hash) × (hash_of_event (events.LoginOnline a result) ≡ Some hash)
result_hash (results.Right (Some hash)) a h = (hash, refl)
result_hash (results.Right None) a h = let clash : ⊥ = cc in absurd clash
result_hash results.Wrong a h = none_some true h
result_hash (results.Refused code) a h = none_some true h

result_unhashed : (result : LoginResult) (a : ℕ) → hash_carried result ≡ Some false → hash_of_event (events.LoginOnline a result) ≡ None
result_unhashed (results.Right (Some hash)) a h = let clash : ⊥ = cc in absurd clash
result_unhashed (results.Right None) a h = refl
result_unhashed results.Wrong a h = none_some false h
result_unhashed (results.Refused code) a h = none_some false h

row_hash : (row : Row) (user : List ℕ) → kept_login row user ≡ Some true → (hash : Hash) × (hash_of_event (events.Kept row) ≡ Some hash)
row_hash (rows.Hash n m u hash) user h = (hash, refl)
row_hash (rows.Online n m u) user h =
    let named = named_if (same_name u user) false true h in
    true_not_false (sym named.1)
row_hash (rows.Head version next moment) user h = none_some true h
row_hash (rows.Answer n m key answered voided) user h = none_some true h
row_hash (rows.Wrong n m u count) user h = none_some true h
row_hash (rows.Fall n m server) user h = none_some true h

row_unhashed : (row : Row) (user : List ℕ) → kept_login row user ≡ Some false → hash_of_event (events.Kept row) ≡ None
row_unhashed (rows.Hash n m u hash) user h =
    let named = named_if (same_name u user) true false h in
    true_not_false named.1
row_unhashed (rows.Online n m u) user h = refl
row_unhashed (rows.Head version next moment) user h = refl
row_unhashed (rows.Answer n m key answered voided) user h = refl
row_unhashed (rows.Wrong n m u count) user h = refl
row_unhashed (rows.Fall n m server) user h = refl

login_hash : (past : List Entry) (user : List ℕ) (event : Event) (reply : Reply) → login_by past user event reply ≡ Some true → (hash : Hash) × (hash_of_event event ≡ Some hash)
login_hash past user (events.LoginOnline a result) reply h =
    let both = carried_if (is_closed reply && is_name (user_of past a) user) (hash_carried result) true h in
    result_hash result a both.1
login_hash past user (events.Kept row) reply h = row_hash row user h
login_hash past user _ reply h = none_some true h

login_unhashed : (past : List Entry) (user : List ℕ) (event : Event) (reply : Reply) → login_by past user event reply ≡ Some false → hash_of_event event ≡ None
login_unhashed past user (events.LoginOnline a result) reply h =
    let both = carried_if (is_closed reply && is_name (user_of past a) user) (hash_carried result) false h in
    result_unhashed result a both.1
login_unhashed past user (events.Kept row) reply h = row_unhashed row user h
login_unhashed past user _ reply h = none_some false h

-- an online login holds no answer
row_no_answer : (past : List Entry) (e : Entry) (row : Row) (user : List ℕ) (hashed : Bool) → kept_login row user ≡ Some hashed → answer_by past e (events.Kept row) ≡ None
row_no_answer past e (rows.Answer n m key answered voided) user hashed h = none_some hashed h
row_no_answer past e _ user hashed h = refl

login_no_answer : (past : List Entry) (e : Entry) (event : Event) (user : List ℕ) (hashed : Bool) → login_by past user event e.reply ≡ Some hashed → answer_by past e event ≡ None
login_no_answer past e (events.Answer r answered) user hashed h = none_some hashed h
login_no_answer past e (events.Kept row) user hashed h = row_no_answer past e row user hashed h
login_no_answer past e _ user hashed h = refl

row_of_login : (all past : List Entry) (e : Entry) (user : List ℕ) (hashed : Bool) → login_by past user e.event e.reply ≡ Some hashed →
    row_of all past e ≡ or_row (login_row all e (Some user)) (or_row (wrong_row all e (user_guessed e.event)) (fall_row all e e.event))
row_of_login all past e user hashed h =
    ap (λ a. or_row (answer_row all a) (or_row (login_row all e (user_logged_in past e.event e.reply)) (or_row (wrong_row all e (user_guessed e.event)) (fall_row all e e.event))))
    (login_no_answer past e e.event user hashed h)
    ∙ ap (λ u. or_row (login_row all e u) (or_row (wrong_row all e (user_guessed e.event)) (fall_row all e e.event))) (logged_in past user e.event e.reply hashed h)

abbrev login_of : Entry → Bool → Login
login_of e hashed = record { number = e.number; moment = e.moment; hashed = hashed }

-- the row of a login that is the hash entry, and of one that left no hash
hash_row_kept : (all past : List Entry) (e : Entry) (user : List ℕ) (hash : Hash) (h : Login) → login_by past user e.event e.reply ≡ Some true → hash_of_event e.event ≡ Some hash →
    hash_entry all user ≡ Some h → h.number ≡ e.number → row_of all past e ≡ Some (rows.Hash e.number e.moment user hash)
hash_row_kept all past e user hash h logged has is number =
    row_of_login all past e user true logged
    ∙ (ap (λ b. or_row (if b then hash_row e user (hash_of_event e.event) else if is_unhashed_login e.number (last_online_login all user) then Some (rows.Online e.number e.moment user) else None)
    (or_row (wrong_row all e (user_guessed e.event)) (fall_row all e e.event)))
    (ap (λ l. is_login e.number l) is ∙ (ap (λ n. n == e.number) number ∙ same_number e.number))
    ∙ ap (λ x. or_row (hash_row e user x) (or_row (wrong_row all e (user_guessed e.event)) (fall_row all e e.event))) has)

not_login : (n : ℕ) (l : Option Login) → ((h : Login) → l ≡ Some h → h.number < n) → is_login n l ≡ false
not_login n None f = refl
not_login n (Some h) f =
    let below = f h refl in
    grind (arith, nat_tests, below)

online_row_kept : (all past : List Entry) (e : Entry) (user : List ℕ) → login_by past user e.event e.reply ≡ Some false → ((h : Login) → hash_entry all user ≡ Some h → h.number < e.number) →
    last_online_login all user ≡ Some (login_of e false) → row_of all past e ≡ Some (rows.Online e.number e.moment user)
online_row_kept all past e user logged earlier is =
    row_of_login all past e user false logged
    ∙ (ap (λ b. or_row (if b then hash_row e user (hash_of_event e.event) else if is_unhashed_login e.number (last_online_login all user) then Some (rows.Online e.number e.moment user) else None)
    (or_row (wrong_row all e (user_guessed e.event)) (fall_row all e e.event))) (not_login e.number (hash_entry all user) earlier)
    ∙ ap (λ b. or_row (if b then Some (rows.Online e.number e.moment user) else None) (or_row (wrong_row all e (user_guessed e.event)) (fall_row all e e.event)))
    (ap (λ l. is_unhashed_login e.number l) is ∙ ap (λ b. b && true) (same_number e.number)))

-- rows that are no login of the user, or none with a hash
abbrev NoLogin : List ℕ → Row → Type 0
NoLogin user row = kept_login row user ≡ None

abbrev NoHash : List ℕ → Row → Type 0
NoHash user row = only_hashed (login_in (kept_entry row) (kept_login row user)) ≡ None

unnamed : (b x : Bool) → (b ≡ true → ⊥) → (if b then Some x else None) ≡ None
unnamed true x f = absurd (f refl)
unnamed false x f = refl

number_at : (n : ℕ) (l : Option Login) → is_login n l ≡ true → (h : Login) × ((l ≡ Some h) × (h.number ≡ n))
number_at n None h = true_not_false (sym h)
number_at n (Some l) h = (l, (refl, grind (arith, nat_tests, h)))

unhashed_at : (n : ℕ) (l : Option Login) → is_unhashed_login n l ≡ true → (h : Login) × ((l ≡ Some h) × (h.number ≡ n))
unhashed_at n None h = true_not_false (sym h)
unhashed_at n (Some l) h = (l, (refl, equal_numbers l.number n (first_holds (l.number == n) (not l.hashed) h)))
  where
    equal_numbers : (a b : ℕ) → (a == b) ≡ true → a ≡ b
    equal_numbers a b e = grind (arith, nat_tests, e)

below_itself : (m n : ℕ) → m ≡ n → m < n → ⊥
below_itself m n e h = omega (arith, e, h)

no_hash_row : (all past : List Entry) (e : Entry) (user : List ℕ) → ((h : Login) → hash_entry all user ≡ Some h → h.number < e.number) → RowIf (NoHash user) (row_of all past e)
no_hash_row all past e user earlier =
    row_law (NoHash user) all past e (λ a holds. refl)
    (λ u hash in_user is.
    ap (λ b. only_hashed (login_in (kept_entry (rows.Hash e.number e.moment u hash)) b))
    (unnamed (same_name u user) true (λ same.
    let at = number_at e.number (hash_entry all user) (subst (λ n. is_login e.number (hash_entry all n) ≡ true) (same_text u user (sym same)) is) in
    below_itself at.0.number e.number at.1.1 (earlier at.0 at.1.0))))
    (λ u in_user is. unhashed_row (same_name u user) (kept_entry (rows.Online e.number e.moment u)))
    (λ u last counted. refl) (λ server is. refl)
  where
    unhashed_row : (b : Bool) (x : Entry) → only_hashed (login_in x (if b then Some false else None)) ≡ None
    unhashed_row true x = refl
    unhashed_row false x = refl

no_login_row : (all past : List Entry) (e : Entry) (user : List ℕ) → ((h : Login) → hash_entry all user ≡ Some h → h.number < e.number) →
    ((l : Login) → last_online_login all user ≡ Some l → l.number < e.number) → RowIf (NoLogin user) (row_of all past e)
no_login_row all past e user earlier before =
    row_law (NoLogin user) all past e (λ a holds. refl)
    (λ u hash in_user is.
    unnamed (same_name u user) true (λ same.
    let at = number_at e.number (hash_entry all user) (subst (λ n. is_login e.number (hash_entry all n) ≡ true) (same_text u user (sym same)) is) in
    below_itself at.0.number e.number at.1.1 (earlier at.0 at.1.0)))
    (λ u in_user is.
    unnamed (same_name u user) false (λ same.
    let at = unhashed_at e.number (last_online_login all user) (subst (λ n. is_unhashed_login e.number (last_online_login all n) ≡ true) (same_text u user (sym same)) is) in
    below_itself at.0.number e.number at.1.1 (before at.0 at.1.0)))
    (λ u last counted. refl) (λ server is. refl)

with_hash : (user : List ℕ) (r : Option Row) (es : List Row) → RowIf (NoHash user) r → hash_entry (map kept_entry (with_row r es)) user ≡ hash_entry (map kept_entry es) user
with_hash user None es h = refl
with_hash user (Some row) es h = ap (λ l. or_earlier l (hash_entry (map kept_entry es) user)) h

with_login : (user : List ℕ) (r : Option Row) (es : List Row) → RowIf (NoLogin user) r → last_online_login (map kept_entry (with_row r es)) user ≡ last_online_login (map kept_entry es) user
with_login user None es h = refl
with_login user (Some row) es h = ap (λ b. or_earlier (login_in (kept_entry row) b) (last_online_login (map kept_entry es) user)) h

-- what stands with the row of a login
hash_here : (e : Entry) (user : List ℕ) (hash : Hash) (r : Option Row) (es : List Row) → r ≡ Some (rows.Hash e.number e.moment user hash) →
    hash_entry (map kept_entry (with_row r es)) user ≡ Some (login_of e true)
hash_here e user hash r es is =
    ap (λ x. hash_entry (map kept_entry (with_row x es)) user) is
    ∙ ap (λ b. or_earlier (only_hashed (login_in (kept_entry (rows.Hash e.number e.moment user hash)) (if b then Some true else None))) (hash_entry (map kept_entry es) user)) (own_name user)

login_here : (e : Entry) (user : List ℕ) (hash : Hash) (r : Option Row) (es : List Row) → r ≡ Some (rows.Hash e.number e.moment user hash) →
    last_online_login (map kept_entry (with_row r es)) user ≡ Some (login_of e true)
login_here e user hash r es is =
    ap (λ x. last_online_login (map kept_entry (with_row x es)) user) is
    ∙ ap (λ b. or_earlier (login_in (kept_entry (rows.Hash e.number e.moment user hash)) (if b then Some true else None)) (last_online_login (map kept_entry es) user)) (own_name user)

online_here : (e : Entry) (user : List ℕ) (r : Option Row) (es : List Row) → r ≡ Some (rows.Online e.number e.moment user) →
    last_online_login (map kept_entry (with_row r es)) user ≡ Some (login_of e false)
online_here e user r es is =
    ap (λ x. last_online_login (map kept_entry (with_row x es)) user) is
    ∙ ap (λ b. or_earlier (login_in (kept_entry (rows.Online e.number e.moment user)) (if b then Some false else None)) (last_online_login (map kept_entry es) user)) (own_name user)

hash_event_here : (e : Entry) (user : List ℕ) (hash : Hash) (r : Option Row) (es : List Row) (n : ℕ) → r ≡ Some (rows.Hash e.number e.moment user hash) → e.number ≡ n →
    hash_in (event_at (map kept_entry (with_row r es)) n) ≡ Some hash
hash_event_here e user hash r es n is number =
    ap (λ x. hash_in (event_at (map kept_entry (with_row x es)) n)) is
    ∙ ap (λ b. hash_in (if b then Some (events.Kept (rows.Hash e.number e.moment user hash)) else event_at (map kept_entry es) n)) (ap (λ m. m == n) number ∙ same_number n)

online_event_here : (e : Entry) (user : List ℕ) (r : Option Row) (es : List Row) (n : ℕ) → r ≡ Some (rows.Online e.number e.moment user) → e.number ≡ n →
    hash_in (event_at (map kept_entry (with_row r es)) n) ≡ None
online_event_here e user r es n is number =
    ap (λ x. hash_in (event_at (map kept_entry (with_row x es)) n)) is
    ∙ ap (λ b. hash_in (if b then Some (events.Kept (rows.Online e.number e.moment user)) else event_at (map kept_entry es) n)) (ap (λ m. m == n) number ∙ same_number n)

own_event : (e : Entry) (past : List Entry) (n : ℕ) → e.number ≡ n → event_at (e ∷ past) n ≡ Some e.event
own_event e past n number = ap (λ b. if b then Some e.event else event_at past n) (ap (λ m. m == n) number ∙ same_number n)

passed_event : (e : Entry) (past : List Entry) (n : ℕ) → n < e.number → event_at (e ∷ past) n ≡ event_at past n
passed_event e past n below =
    let other : (e.number == n) ≡ false = grind (arith, nat_tests, below) in
    rw other refl

-- a login in both, and the hash that its entry holds
pub record KeepsLogin (all past : List Entry) (kept here : Option Login) : Type 0 where
  pub same : kept ≡ here
  pub held : (l : Login) → here ≡ Some l → hash_in (event_at (kept_of all past) l.number) ≡ hash_in (event_at past l.number)

hash_passed : (m : ℕ) (all past : List Entry) (e : Entry) (user : List ℕ) → falls_from m (e ∷ past) ≡ true → hash_entry all user ≡ hash_entry past user →
    (hash_entry all user ≡ hash_entry past user → KeepsLogin all past (hash_entry (kept_of all past) user) (hash_entry past user)) →
    KeepsLogin all (e ∷ past) (hash_entry (kept_of all (e ∷ past)) user) (hash_entry past user)
hash_passed m all past e user f is later =
    let rest = second_holds (nat_lt e.number m) (falls_from e.number past) f in
    let kept = later is in
    record {
      same = with_hash user (row_of all past e) (rows_among all past) (no_hash_row all past e user (λ h here. hash_below e.number past user h rest (sym is ∙ here))) ∙ kept.same;
      held = λ l here.
          let below = hash_below e.number past user l rest here in
          ap hash_in (other_event l.number e.number (row_of all past e) (rows_among all past) (row_numbered all past e) below)
          ∙ (kept.held l here ∙ sym (ap hash_in (passed_event e past l.number below)));
    }

kept_hash_at : (m : ℕ) (all past : List Entry) (e : Entry) (user : List ℕ) (b : Option Bool) → falls_from m (e ∷ past) ≡ true → login_by past user e.event e.reply ≡ b →
    hash_entry all user ≡ or_earlier (only_hashed (login_in e b)) (hash_entry past user) →
    (hash_entry all user ≡ hash_entry past user → KeepsLogin all past (hash_entry (kept_of all past) user) (hash_entry past user)) →
    KeepsLogin all (e ∷ past) (hash_entry (kept_of all (e ∷ past)) user) (or_earlier (only_hashed (login_in e b)) (hash_entry past user))
kept_hash_at m all past e user (Some true) f logged is later =
    let found = login_hash past user e.event e.reply logged in
    let row = hash_row_kept all past e user found.0 (login_of e true) logged found.1 is refl in
    record {
      same = hash_here e user found.0 (row_of all past e) (rows_among all past) row;
      held = λ l here.
          let number : e.number ≡ l.number = ap (λ (x : Login). x.number) (some_same (login_of e true) l here) in
          hash_event_here e user found.0 (row_of all past e) (rows_among all past) l.number row number
          ∙ sym (ap hash_in (own_event e past l.number number) ∙ found.1);
    }
kept_hash_at m all past e user (Some false) f logged is later = hash_passed m all past e user f is later
kept_hash_at m all past e user None f logged is later = hash_passed m all past e user f is later

pub kept_hash : (m : ℕ) (all past : List Entry) (user : List ℕ) → falls_from m past ≡ true → hash_entry all user ≡ hash_entry past user →
    KeepsLogin all past (hash_entry (kept_of all past) user) (hash_entry past user)
kept_hash m all [] user f is = record { same = refl; held = λ l here. none_some l here }
kept_hash m all (e ∷ past) user f is =
    kept_hash_at m all past e user (login_by past user e.event e.reply) f refl is
    (λ same. kept_hash e.number all past user (second_holds (nat_lt e.number m) (falls_from e.number past) f) same)

login_passed : (top m : ℕ) (all past : List Entry) (e : Entry) (user : List ℕ) → falls_from top all ≡ true → falls_from m (e ∷ past) ≡ true →
    last_online_login all user ≡ last_online_login past user →
    (last_online_login all user ≡ last_online_login past user → KeepsLogin all past (last_online_login (kept_of all past) user) (last_online_login past user)) →
    KeepsLogin all (e ∷ past) (last_online_login (kept_of all (e ∷ past)) user) (last_online_login past user)
login_passed top m all past e user g f is later =
    let rest = second_holds (nat_lt e.number m) (falls_from e.number past) f in
    let kept = later is in
    record {
      same =
          with_login user (row_of all past e) (rows_among all past)
          (no_login_row all past e user
          (λ h here. hash_within top e.number all user h g here (λ l last. login_below e.number past user l rest (sym is ∙ last)))
          (λ l last. login_below e.number past user l rest (sym is ∙ last)))
          ∙ kept.same;
      held = λ l here.
          let below = login_below e.number past user l rest here in
          ap hash_in (other_event l.number e.number (row_of all past e) (rows_among all past) (row_numbered all past e) below)
          ∙ (kept.held l here ∙ sym (ap hash_in (passed_event e past l.number below)));
    }

kept_login_at : (top m : ℕ) (all past : List Entry) (e : Entry) (user : List ℕ) (b : Option Bool) → falls_from top all ≡ true → falls_from m (e ∷ past) ≡ true →
    login_by past user e.event e.reply ≡ b → last_online_login all user ≡ or_earlier (login_in e b) (last_online_login past user) →
    (last_online_login all user ≡ last_online_login past user → KeepsLogin all past (last_online_login (kept_of all past) user) (last_online_login past user)) →
    KeepsLogin all (e ∷ past) (last_online_login (kept_of all (e ∷ past)) user) (or_earlier (login_in e b) (last_online_login past user))
kept_login_at top m all past e user None g f logged is later = login_passed top m all past e user g f is later
kept_login_at top m all past e user (Some true) g f logged is later =
    let found = login_hash past user e.event e.reply logged in
    let row = hash_row_kept all past e user found.0 (login_of e true) logged found.1 (last_hashed all user (login_of e true) is refl) refl in
    record {
      same = login_here e user found.0 (row_of all past e) (rows_among all past) row;
      held = λ l here.
          let number : e.number ≡ l.number = ap (λ (x : Login). x.number) (some_same (login_of e true) l here) in
          hash_event_here e user found.0 (row_of all past e) (rows_among all past) l.number row number
          ∙ sym (ap hash_in (own_event e past l.number number) ∙ found.1);
    }
kept_login_at top m all past e user (Some false) g f logged is later =
    let none = login_unhashed past user e.event e.reply logged in
    let row = online_row_kept all past e user logged (λ h here. last_unhashed top all user (login_of e false) h g is refl here) is in
    record {
      same = online_here e user (row_of all past e) (rows_among all past) row;
      held = λ l here.
          let number : e.number ≡ l.number = ap (λ (x : Login). x.number) (some_same (login_of e false) l here) in
          online_event_here e user (row_of all past e) (rows_among all past) l.number row number
          ∙ sym (ap hash_in (own_event e past l.number number) ∙ none);
    }

pub kept_last_login : (top m : ℕ) (all past : List Entry) (user : List ℕ) → falls_from top all ≡ true → falls_from m past ≡ true → last_online_login all user ≡ last_online_login past user →
    KeepsLogin all past (last_online_login (kept_of all past) user) (last_online_login past user)
kept_last_login top m all [] user g f is = record { same = refl; held = λ l here. none_some l here }
kept_last_login top m all (e ∷ past) user g f is =
    kept_login_at top m all past e user (login_by past user e.event e.reply) g f refl is
    (λ same. kept_last_login top e.number all past user g (second_holds (nat_lt e.number m) (falls_from e.number past) f) same)
