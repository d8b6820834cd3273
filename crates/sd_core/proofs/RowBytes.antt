-- The rows that are kept of a sound journal are few enough, and their texts are among those of its entries: each row has the text of
-- its own entry, and one that closes a request or an attempt that of the leading entry, which nothing else closes so.
use Rattle.std.proofs.Common.{◌≡◌, ℕ, ◌+◌, ◌*◌, ◌^◌, ◌<◌, ◌≤◌, Bool, true, false, List, [], ◌∷◌, length, reverse, arith, refl, sym, ap, subst, ◌∙◌}
use Rattle.std.specs.Prelude.{Option, Some, None, not, nat_lt, sum_by, ◌==◌, ◌&&◌, ◌||◌, if◌then◌else◌}
use Rattle.std.proofs.lemmas.Bool.Decides.{nat_tests}
use Rattle.std.proofs.lemmas.List.{reverse-append, length-reverse}
use Rattle.std.proofs.lemmas.List.Sums.{sum_by-cons, sum_by_push}
use Rattle.sd_rules.specs.declared.keys.Key.{Key}
use Rattle.sd_rules.specs.declared.records.Answered.{Answered}
use Rattle.sd_rules.specs.declared.events.Event.{Event}
use Rattle.sd_rules.specs.declared.events.Event.TheVariants as events
use Rattle.sd_rules.specs.declared.events.Hash.{Hash}
use Rattle.sd_rules.specs.declared.events.LoginResult.{LoginResult}
use Rattle.sd_rules.specs.declared.events.Row.{Row}
use Rattle.sd_rules.specs.declared.events.Row.TheVariants as rows
use Rattle.sd_rules.specs.declared.replies.Entry.{Entry}
use Rattle.sd_rules.specs.KeptRows.{answer_row, hash_row, is_unhashed_login, login_row, is_last_wrong, wrong_row, server_row, fall_row, or_row, with_row, rows_among, head_of, rows_of}
use Rattle.sd_rules.specs.Logins.{hash_entry, hash_carried, last_online_login, user_of, user_opened, wrong_count}
use Rattle.sd_rules.specs.Needed.{is_login, is_newest_of_some, is_number, last_fall, user_guessed, user_if_right, user_logged_in}
use Rattle.sd_rules.specs.Past.{Standing, is_closed, is_voided, key_asked, key_of, answer_by, answer_under}
use Rattle.sd_rules.specs.Steps.{Daemon, hash_of_event}
use Rattle.sd_rules.specs.TextBytes.{bytes_of_answered, bytes_of_event, bytes_of_key, bytes_of_row, bytes_of_text, text_bytes}
use Rattle.sd_core.specs.Sound.{holds_row, row_holders, closed_by, is_closing_of, is_closed_among, closes_first, closes_once, IsSound}
use Rattle.sd_core.proofs.KindLaws.{first_holds, second_holds}
use Rattle.sd_core.proofs.Room.{false_is_not_true}

-- the text bytes of a row, of a key and of a name, where there is one
abbrev bytes_of_kept : Option Row → ℕ
bytes_of_kept None = 0
bytes_of_kept (Some row) = bytes_of_row row

abbrev bytes_of_own : Option Key → ℕ
bytes_of_own None = 0
bytes_of_own (Some key) = bytes_of_key key

abbrev bytes_of_name : Option (List ℕ) → ℕ
bytes_of_name None = 0
bytes_of_name (Some user) = bytes_of_text user

-- the row of an entry, by its event
abbrev row_by : List Entry → List Entry → Entry → Event → Option Row
row_by all past e event =
    or_row (answer_row all (answer_by past e event))
    (or_row (login_row all e (user_logged_in past event e.reply))
    (or_row (wrong_row all e (user_guessed event)) (fall_row all e event)))

-- how many rows
abbrev rows_in : Option Row → ℕ
rows_in None = 0
rows_in (Some row) = 1

one_row : (row : Option Row) → rows_in row ≤ 1
one_row None = omega arith
one_row (Some row) = omega arith

row_if_holder : (all past : List Entry) (e : Entry) (event : Event) → rows_in (row_by all past e event) ≤ (if holds_row event then 1 else 0)
row_if_holder all past e (events.Answer r answered) = one_row (row_by all past e (events.Answer r answered))
row_if_holder all past e (events.LoginOnline a result) = one_row (row_by all past e (events.LoginOnline a result))
row_if_holder all past e (events.LoginGuess user named right) = one_row (row_by all past e (events.LoginGuess user named right))
row_if_holder all past e (events.Fall n server why) = one_row (row_by all past e (events.Fall n server why))
row_if_holder all past e (events.Kept row) = one_row (row_by all past e (events.Kept row))
row_if_holder all past e _ = omega arith

longer_by : (row : Option Row) (rest : List Row) → length (with_row row rest) ≡ rows_in row + length rest
longer_by None rest = omega arith
longer_by (Some row) rest = omega arith

rows_at_most : (all past : List Entry) → length (rows_among all past) ≤ row_holders past
rows_at_most all [] = omega arith
rows_at_most all (e ∷ past) =
    omega (arith, longer_by (row_by all past e e.event) (rows_among all past), row_if_holder all past e e.event, rows_at_most all past)

-- the bytes of each kind of row
either_bytes : (b : Bool) (x y : Option Row) (n : ℕ) → bytes_of_kept x ≤ n → bytes_of_kept y ≤ n → bytes_of_kept (if b then x else y) ≤ n
either_bytes true x y n f g = f
either_bytes false x y n f g = g

answer_bytes : (all : List Entry) (a : Standing) → bytes_of_kept (answer_row all (Some a)) ≤ bytes_of_key a.own + bytes_of_answered a.answered
answer_bytes all a =
    either_bytes (is_newest_of_some all (Some a)) (Some (rows.Answer a.number a.moment a.own a.answered (is_voided all a))) None
    (bytes_of_key a.own + bytes_of_answered a.answered) (omega arith) (omega arith)

under_bytes : (all : List Entry) (e : Entry) (answered : Answered) (own : Option Key) →
    bytes_of_kept (answer_row all (answer_under e answered own)) ≤ bytes_of_answered answered + bytes_of_own own
under_bytes all e answered None = omega arith
under_bytes all e answered (Some own) =
    omega (arith, answer_bytes all (record { number = e.number; moment = e.moment; own = own; answered = answered; marked = false }))

hash_bytes : (e : Entry) (user : List ℕ) (hash : Option Hash) → bytes_of_kept (hash_row e user hash) ≤ bytes_of_text user
hash_bytes e user None = omega arith
hash_bytes e user (Some hash) = omega arith

user_bytes : (all : List Entry) (e : Entry) (user : List ℕ) → bytes_of_kept (login_row all e (Some user)) ≤ bytes_of_text user
user_bytes all e user =
    either_bytes (is_login e.number (hash_entry all user)) (hash_row e user (hash_of_event e.event))
    (if is_unhashed_login e.number (last_online_login all user) then Some (rows.Online e.number e.moment user) else None) (bytes_of_text user)
    (hash_bytes e user (hash_of_event e.event))
    (either_bytes (is_unhashed_login e.number (last_online_login all user)) (Some (rows.Online e.number e.moment user)) None (bytes_of_text user) (omega arith) (omega arith))

login_bytes : (all : List Entry) (e : Entry) (user : Option (List ℕ)) → bytes_of_kept (login_row all e user) ≤ bytes_of_name user
login_bytes all e None = omega arith
login_bytes all e (Some user) = user_bytes all e user

guess_bytes : (all : List Entry) (e : Entry) (user : List ℕ) → bytes_of_kept (wrong_row all e (Some user)) ≤ bytes_of_text user
guess_bytes all e user =
    either_bytes (is_last_wrong all user e && not (wrong_count all user == 0)) (Some (rows.Wrong e.number e.moment user (wrong_count all user))) None
    (bytes_of_text user) (omega arith) (omega arith)

server_bytes : (all : List Entry) (e : Entry) (server : ℕ) → bytes_of_kept (server_row all e server) ≤ 0
server_bytes all e server =
    either_bytes (is_number e.number (last_fall all server)) (Some (rows.Fall e.number e.moment server)) None 0 (omega arith) (omega arith)

or_bytes : (x y : Option Row) (m n : ℕ) → bytes_of_kept x ≤ m → bytes_of_kept y ≤ n → bytes_of_kept (or_row x y) ≤ m + n
or_bytes None y m n f g = omega arith
or_bytes (Some row) y m n f g = omega arith

-- the text that an entry has for its own row, and that of a leading entry for the row of what closes it
abbrev own_bytes : Event → ℕ
own_bytes (events.Answer r answered) = bytes_of_answered answered
own_bytes (events.LoginGuess user named right) = bytes_of_text user
own_bytes (events.Kept row) = bytes_of_row row
own_bytes _ = 0

abbrev lead_bytes : Event → ℕ
lead_bytes (events.Ask key) = bytes_of_key key
lead_bytes (events.LoginOpen user) = bytes_of_text user
lead_bytes _ = 0

both_within : (event : Event) → own_bytes event + lead_bytes event ≤ bytes_of_event event
both_within (events.Ask key) = omega arith
both_within (events.LoginOpen user) = omega arith
both_within (events.Answer r answered) = omega arith
both_within (events.LoginGuess user named right) = omega arith
both_within (events.Kept row) = omega arith
both_within _ = omega arith

abbrev led_at : List Entry → ℕ → ℕ
led_at [] n = 0
led_at (e ∷ past) n = if e.number == n then lead_bytes e.event else led_at past n

asked_bytes : (event : Event) → bytes_of_own (key_asked event) ≤ lead_bytes event
asked_bytes (events.Ask key) = omega arith
asked_bytes _ = omega arith

opened_bytes : (event : Event) → bytes_of_name (user_opened event) ≤ lead_bytes event
opened_bytes (events.LoginOpen user) = omega arith
opened_bytes _ = omega arith

key_by : (b : Bool) (k l : Option Key) (m n : ℕ) → bytes_of_own k ≤ m → bytes_of_own l ≤ n → bytes_of_own (if b then k else l) ≤ (if b then m else n)
key_by true k l m n f g = f
key_by false k l m n f g = g

key_led : (past : List Entry) (n : ℕ) → bytes_of_own (key_of past n) ≤ led_at past n
key_led [] n = omega arith
key_led (e ∷ past) n = key_by (e.number == n) (key_asked e.event) (key_of past n) (lead_bytes e.event) (led_at past n) (asked_bytes e.event) (key_led past n)

name_by : (b : Bool) (k l : Option (List ℕ)) (m n : ℕ) → bytes_of_name k ≤ m → bytes_of_name l ≤ n → bytes_of_name (if b then k else l) ≤ (if b then m else n)
name_by true k l m n f g = f
name_by false k l m n f g = g

user_led : (past : List Entry) (n : ℕ) → bytes_of_name (user_of past n) ≤ led_at past n
user_led [] n = omega arith
user_led (e ∷ past) n = name_by (e.number == n) (user_opened e.event) (user_of past n) (lead_bytes e.event) (led_at past n) (opened_bytes e.event) (user_led past n)

abbrev charge : List Entry → Option ℕ → ℕ
charge past None = 0
charge past (Some n) = led_at past n

-- the row of an entry has its own text and what it is charged
if_right_bytes : (h : Option Bool) (user : Option (List ℕ)) → bytes_of_name (user_if_right h user) ≤ bytes_of_name user
if_right_bytes None user = omega arith
if_right_bytes (Some hashed) user = omega arith

answered_charge : (c : Bool) (all past : List Entry) (e : Entry) (r : ℕ) (answered : Answered) →
    bytes_of_kept (answer_row all (if c then answer_under e answered (key_of past r) else None)) ≤ bytes_of_answered answered + charge past (if c then Some r else None)
answered_charge true all past e r answered = omega (arith, under_bytes all e answered (key_of past r), key_led past r)
answered_charge false all past e r answered = omega arith

online_charge : (c : Bool) (all past : List Entry) (e : Entry) (a : ℕ) (result : LoginResult) →
    bytes_of_kept (login_row all e (if c then user_if_right (hash_carried result) (user_of past a) else None)) ≤ charge past (if c then Some a else None)
online_charge true all past e a result =
    omega (arith, login_bytes all e (user_if_right (hash_carried result) (user_of past a)), if_right_bytes (hash_carried result) (user_of past a), user_led past a)
online_charge false all past e a result = omega arith

kept_charge : (all past : List Entry) (e : Entry) (row : Row) → bytes_of_kept (row_by all past e (events.Kept row)) ≤ bytes_of_row row
kept_charge all past e (rows.Answer n m own answered marked) =
    omega (
      arith,
      or_bytes (answer_row all (answer_by past e (events.Kept (rows.Answer n m own answered marked)))) None (bytes_of_key own + bytes_of_answered answered) 0
          (answer_bytes all (record { number = e.number; moment = e.moment; own = own; answered = answered; marked = marked })) (omega arith),
    )
kept_charge all past e (rows.Hash n m user hash) =
    omega (arith, or_bytes (login_row all e (Some user)) None (bytes_of_text user) 0 (user_bytes all e user) (omega arith))
kept_charge all past e (rows.Online n m user) =
    omega (arith, or_bytes (login_row all e (Some user)) None (bytes_of_text user) 0 (user_bytes all e user) (omega arith))
kept_charge all past e (rows.Wrong n m user count) =
    omega (arith, or_bytes (wrong_row all e (Some user)) None (bytes_of_text user) 0 (guess_bytes all e user) (omega arith))
kept_charge all past e (rows.Fall n m server) = server_bytes all e server
kept_charge all past e (rows.Head version next moment) = omega arith

row_charge : (all past : List Entry) (e : Entry) (event : Event) → bytes_of_kept (row_by all past e event) ≤ own_bytes event + charge past (closed_by event e.reply)
row_charge all past e (events.Answer r answered) =
    omega (
      arith,
      or_bytes (answer_row all (answer_by past e (events.Answer r answered))) None (bytes_of_answered answered + charge past (if is_closed e.reply then Some r else None)) 0
          (answered_charge (is_closed e.reply) all past e r answered) (omega arith),
    )
row_charge all past e (events.LoginOnline a result) =
    omega (
      arith,
      or_bytes (login_row all e (user_logged_in past (events.LoginOnline a result) e.reply)) None (charge past (if is_closed e.reply then Some a else None)) 0
          (online_charge (is_closed e.reply) all past e a result) (omega arith),
    )
row_charge all past e (events.LoginGuess user named right) =
    omega (arith, or_bytes (wrong_row all e (Some user)) None (bytes_of_text user) 0 (guess_bytes all e user) (omega arith))
row_charge all past e (events.Fall n server why) = server_bytes all e server
row_charge all past e (events.Kept row) = omega (arith, kept_charge all past e row)
row_charge all past e _ = omega arith

abbrev owns : List Entry → ℕ
owns [] = 0
owns (e ∷ past) = own_bytes e.event + owns past

abbrev leads : List Entry → ℕ
leads [] = 0
leads (e ∷ past) = lead_bytes e.event + leads past

abbrev charges : List Entry → ℕ
charges [] = 0
charges (e ∷ past) = charge past (closed_by e.event e.reply) + charges past

with_bytes : (row : Option Row) (rest : List Row) → sum_by bytes_of_row (with_row row rest) ≡ bytes_of_kept row + sum_by bytes_of_row rest
with_bytes None rest = omega arith
with_bytes (Some row) rest = sum_by-cons bytes_of_row row rest

rows_charged : (all past : List Entry) → sum_by bytes_of_row (rows_among all past) ≤ owns past + charges past
rows_charged all [] = omega arith
rows_charged all (e ∷ past) =
    omega (arith, with_bytes (row_by all past e e.event) (rows_among all past), row_charge all past e e.event, rows_charged all past)

texts_own : (past : List Entry) → owns past + leads past ≤ text_bytes past
texts_own [] = omega arith
texts_own (e ∷ past) = omega (arith, both_within e.event, texts_own past)

-- the text of leading entries that nothing has closed so
abbrev free : (ℕ → Bool) → List Entry → ℕ
free c [] = 0
free c (e ∷ past) = (if c e.number then 0 else lead_bytes e.event) + free c past

less_free : (k c : Bool) (n : ℕ) → (if k || c then 0 else n) ≤ (if c then 0 else n)
less_free true true n = omega arith
less_free true false n = omega arith
less_free false c n = omega arith

free_falls : (k c : ℕ → Bool) (past : List Entry) → free (λ m. k m || c m) past ≤ free c past
free_falls k c [] = omega arith
free_falls k c (e ∷ past) = omega (arith, less_free (k e.number) (c e.number) (lead_bytes e.event), free_falls k c past)

pays_at : (b k c : Bool) (l f g led : ℕ) → (b ≡ true → k ≡ true) → (b ≡ true → c ≡ false) → f ≤ g → (b ≡ false → f + led ≤ g) →
    ((if k || c then 0 else l) + f) + (if b then l else led) ≤ (if c then 0 else l) + g
pays_at true true true l f g led x y le z = let e = y refl in cc
pays_at true true false l f g led x y le z = omega arith
pays_at true false c l f g led x y le z = let e = x refl in cc
pays_at false k c l f g led x y le z = omega (arith, z refl, less_free k c l)

free_pays : (c : ℕ → Bool) (n : ℕ) (past : List Entry) → c n ≡ false → free (λ m. (n == m) || c m) past + led_at past n ≤ free c past
free_pays c n [] h = omega arith
free_pays c n (e ∷ past) h =
    pays_at (e.number == n) (n == e.number) (c e.number) (lead_bytes e.event) (free (λ m. (n == m) || c m) past) (free c past) (led_at past n)
    (λ same. other_way e.number n same) (λ same. subst (λ m. c m ≡ false) (sym (equal_numbers e.number n same)) h)
    (free_falls (λ m. n == m) c past) (λ other. free_pays c n past h)
  where
    other_way : (m n : ℕ) → (m == n) ≡ true → (n == m) ≡ true
    other_way m n e = grind (arith, nat_tests, e)

    equal_numbers : (m n : ℕ) → (m == n) ≡ true → m ≡ n
    equal_numbers m n e = grind (arith, nat_tests, e)

charged_free : (past : List Entry) (number : ℕ) (o : Option ℕ) → closes_first past number o ≡ true →
    charge past o + free (λ m. is_closing_of o m || is_closed_among past m) past ≤ free (λ m. is_closed_among past m) past
charged_free past number None h = omega arith
charged_free past number (Some n) h =
    omega (arith, free_pays (λ m. is_closed_among past m) n past (unclosed_by (is_closed_among past n) (second_holds (nat_lt n number) (not (is_closed_among past n)) h)))
  where
    unclosed_by : (b : Bool) → not b ≡ true → b ≡ false
    unclosed_by true h = absurd (false_is_not_true h)
    unclosed_by false h = refl

at_most_all : (b : Bool) (n : ℕ) → (if b then 0 else n) ≤ n
at_most_all true n = omega arith
at_most_all false n = omega arith

charges_within : (past : List Entry) → closes_once past ≡ true → charges past + free (λ m. is_closed_among past m) past ≤ leads past
charges_within [] h = omega arith
charges_within (e ∷ past) h =
    let first = first_holds (closes_first past e.number (closed_by e.event e.reply)) (closes_once past) h in
    let others = second_holds (closes_first past e.number (closed_by e.event e.reply)) (closes_once past) h in
    omega (
      arith,
      charged_free past e.number (closed_by e.event e.reply) first,
      charges_within past others,
      at_most_all (is_closed_among (e ∷ past) e.number) (lead_bytes e.event),
    )

rows_bytes : (all past : List Entry) → closes_once past ≡ true → sum_by bytes_of_row (rows_among all past) ≤ text_bytes past
rows_bytes all past h = omega (arith, rows_charged all past, charges_within past h, texts_own past)

reversed_bytes : (rs : List Row) → sum_by bytes_of_row (reverse rs) ≡ sum_by bytes_of_row rs
reversed_bytes [] = refl
reversed_bytes (row ∷ rs) =
    ap (λ xs. sum_by bytes_of_row xs) (reverse-append (row ∷ []) rs) ∙ (sum_by_push bytes_of_row (reverse rs) row ∙ sum_last rs row (reversed_bytes rs))
  where
    sum_last : (rs : List Row) (row : Row) → sum_by bytes_of_row (reverse rs) ≡ sum_by bytes_of_row rs →
        sum_by bytes_of_row (reverse rs) + bytes_of_row row ≡ sum_by bytes_of_row (row ∷ rs)
    sum_last rs row h = omega (arith, h, sum_by-cons bytes_of_row row rs)

-- the rows of a sound journal
pub rows_fit : (d : Daemon) (rs : List Row) → rs ≡ rows_of d → IsSound d → sum_by bytes_of_row rs ≤ 512 * 1024 * 1024
rows_fit d rs is sound =
    let within : sum_by bytes_of_row (rows_of d) ≤ 512 * 1024 * 1024 =
    omega (
      arith,
      sum_by-cons bytes_of_row (head_of d) (reverse (rows_among d.past d.past)),
      reversed_bytes (rows_among d.past d.past),
      rows_bytes d.past d.past sound.closings,
      sound.texts,
    ) in
    subst (λ xs. sum_by bytes_of_row xs ≤ 512 * 1024 * 1024) (sym is) within

pub rows_few : (d : Daemon) (rs : List Row) → rs ≡ rows_of d → IsSound d → length rs < 2 ^ 32
rows_few d rs is sound =
    let few : length (rows_of d) < 2 ^ 32 = omega (arith, length-reverse (rows_among d.past d.past), rows_at_most d.past d.past, sound.rows) in
    subst (λ xs. length xs < 2 ^ 32) (sym is) few
