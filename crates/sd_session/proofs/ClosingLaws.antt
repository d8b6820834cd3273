-- What a reply that closes says of the journal: what its event is about is open no more.
use Rattle.std.proofs.Common.{◌≡◌, ◌⊎◌, ℕ, Bool, true, false, ◌&&◌, ◌||◌, ◌==◌, cond, List, [], ◌∷◌, Option, Some, None, refl, subst, inl, inr}
use Rattle.std.specs.Prelude.{if◌then◌else◌}
use Rattle.sd_rules.specs.declared.keys.Key.{Key}
use Rattle.sd_rules.specs.declared.records.Answered.{Answered}
use Rattle.sd_rules.specs.declared.events.Event.{Event}
use Rattle.sd_rules.specs.declared.events.Event.TheVariants as events
use Rattle.sd_rules.specs.declared.replies.Entry.{Entry}
use Rattle.sd_base.specs.declared.Why.{Why}
use Rattle.sd_rules.specs.declared.events.LoginResult.{LoginResult}
use Rattle.sd_rules.specs.declared.events.Refusal.{Refusal}
use Rattle.sd_rules.specs.declared.replies.Outcome.{Outcome}
use Rattle.sd_rules.specs.declared.replies.Reply.{Reply}
use Rattle.sd_rules.specs.declared.replies.Reply.TheVariants as replies
use Rattle.sd_rules.specs.declared.replies.Verdict.{Verdict}
use Rattle.sd_rules.specs.declared.replies.Verdict.TheVariants as verdicts
use Rattle.sd_rules.specs.declared.settings.Settings.{Settings}
use Rattle.sd_rules.specs.Logins.{user_of, user_opened, verdict_of_try}
use Rattle.sd_rules.specs.Past.{key_of, key_asked}
use Rattle.sd_rules.specs.Requests.{closes, ends_waiting, joined, unclosed, opens_request, opens_attempt, has_opened_request, has_opened_attempt, is_open, is_open_request, is_open_attempt, waits_for, outcome_of}
use Rattle.sd_rules.specs.Servers.{picked_server, was_picked}
use Rattle.sd_rules.specs.Steps.{Daemon, next_number, moment_of, after, entry_made, is_steppable, reply_to_answer, reply_by_void, void_since, reply_by_pick, reply_to_outage, outcome_in_outage, reply_to_collect, reply_to_try}
use Rattle.sd_core.proofs.Room.{same_number}
use Rattle.sd_engine.specs.Leading.{is_closing}
use Rattle.sd_session.specs.Closing.{WasGiven, IsShut, HasLeft, IsNoRequest, IsNoAttempt}
use Rattle.sd_session.proofs.ShutLaws.{given_after, no_request_after, no_attempt_after, shut_both, left_after}

-- ---- what is open has its key or its user

opened_key : (event : Event) (reply : Reply) → key_asked event ≡ None → opens_request event reply ≡ false
opened_key (events.Ask key) reply h = let clash : ⊥ = cc in absurd clash
opened_key _ reply h = refl

keyless_by : (c b : Bool) (x : Entry) (y : Option Entry) (z : Option Key) → (z ≡ None → has_opened_request y ≡ false) → (if b then key_asked x.event else z) ≡ None →
    has_opened_request (cond c None (cond b (Some x) y)) ≡ false
keyless_by true b x y z f h = refl
keyless_by false true x y z f h = opened_key x.event x.reply h
keyless_by false false x y z f h = f h

-- a number without a key is that of no open request
keyless : (past : List Entry) (r : ℕ) → key_of past r ≡ None → is_open_request past r ≡ false
keyless [] r h = refl
keyless (x ∷ past) r h = keyless_by (closes x.event x.reply r) (x.number == r) x (unclosed past r) (key_of past r) (keyless past r) h

opened_user : (event : Event) (reply : Reply) → user_opened event ≡ None → opens_attempt event reply ≡ false
opened_user (events.LoginOpen user) reply h = let clash : ⊥ = cc in absurd clash
opened_user _ reply h = refl

userless_by : (c b : Bool) (x : Entry) (y : Option Entry) (z : Option (List ℕ)) → (z ≡ None → has_opened_attempt y ≡ false) → (if b then user_opened x.event else z) ≡ None →
    has_opened_attempt (cond c None (cond b (Some x) y)) ≡ false
userless_by true b x y z f h = refl
userless_by false true x y z f h = opened_user x.event x.reply h
userless_by false false x y z f h = f h

userless : (past : List Entry) (a : ℕ) → user_of past a ≡ None → is_open_attempt past a ≡ false
userless [] a h = refl
userless (x ∷ past) a h = userless_by (closes x.event x.reply a) (x.number == a) x (unclosed past a) (user_of past a) (userless past a) h

-- ---- an entry that closes a number

closed_request : (c : Bool) (y : Option Entry) → c ≡ true → has_opened_request (cond c None y) ≡ false
closed_request true y h = refl
closed_request false y h = let clash : ⊥ = cc in absurd clash

closed_attempt : (c : Bool) (y : Option Entry) → c ≡ true → has_opened_attempt (cond c None y) ≡ false
closed_attempt true y h = refl
closed_attempt false y h = let clash : ⊥ = cc in absurd clash

shut_by_closing : (n : ℕ) (d : Daemon) (now : ℕ) (event : Event) → is_steppable d.past event ≡ true → WasGiven n d → closes event (entry_made d now event).reply n ≡ true → IsShut n (after d now event)
shut_by_closing n d now event may g h =
    let y : Option Entry = cond (next_number d == n) (Some (entry_made d now event)) (unclosed d.past n) in
    let given : WasGiven n (after d now event) = given_after n d now event may g in
    shut_both n (after d now event)
    (record { given = given; none = closed_request (closes event (entry_made d now event).reply n) y h })
    (record { given = given; none = closed_attempt (closes event (entry_made d now event).reply n) y h })

-- ---- by whether it was open

-- a reply that closes either closes its number, or says that nothing of it is open
abbrev pub Closed : Event → Bool → ℕ → Reply → Type 0
Closed event was_open n reply = is_closing reply ≡ true → (closes event reply n ≡ true) ⊎ (was_open ≡ false)

pub by_open : (event : Event) (n : ℕ) (b : Bool) (f : Reply) → (b ≡ true → Closed event b n f) → Closed event b n (cond b f replies.NoRequest)
by_open event n true f h = h refl
by_open event n false f h = λ c. inr refl

not_closing : (event : Event) (was_open : Bool) (n : ℕ) (reply : Reply) → is_closing reply ≡ false → Closed event was_open n reply
not_closing event was_open n reply h = λ c. let clash : ⊥ = cc in absurd clash

picked : (event : Event) (was_open : Bool) (n : ℕ) (o : Option ℕ) → Closed event was_open n (reply_by_pick o)
picked event was_open n None = not_closing event was_open n replies.NoServer refl
picked event was_open n (Some server) = not_closing event was_open n (replies.Server server) refl

noted : (event : Event) (was_open : Bool) (n : ℕ) (b : Bool) → Closed event was_open n (cond b replies.Noted replies.NotPicked)
noted event was_open n true = not_closing event was_open n replies.Noted refl
noted event was_open n false = not_closing event was_open n replies.NotPicked refl

pub same_and : (n : ℕ) (b : Bool) → b ≡ true → ((n == n) && b) ≡ true
same_and n b h = let same = same_number n in cc

voided : (r : ℕ) (a : Answered) (was_open : Bool) (o : Option ℕ) → Closed (events.Answer r a) was_open r (reply_by_void o)
voided r a was_open None = λ c. inl (same_and r true refl)
voided r a was_open (Some void) = not_closing (events.Answer r a) was_open r (replies.Again void) refl

answered : (past : List Entry) (r : ℕ) (a : Answered) (own : Option Key) → key_of past r ≡ own → Closed (events.Answer r a) (is_open_request past r) r (reply_to_answer past r own a)
answered past r a None is = λ c. inr (keyless past r is)
answered past r a (Some own) is = voided r a (is_open_request past r) (void_since past r own a)

shut_here : (n : ℕ) (was_open b : Bool) (outcome : Outcome) → Closed (events.Outage n) was_open n (cond b (replies.Shut outcome) replies.Closed)
shut_here n was_open true outcome = λ c. inl (same_and n true refl)
shut_here n was_open false outcome = λ c. inl (same_and n true refl)

outage_here : (past : List Entry) (number n : ℕ) (was_open : Bool) (o : Option ℕ) → Closed (events.Outage n) was_open n (reply_to_outage past number n o)
outage_here past number n was_open None = shut_here n was_open (is_open_request past n) (outcome_in_outage past number (key_of past n))
outage_here past number n was_open (Some server) = not_closing (events.Outage n) was_open n (replies.Servable server) refl

tried : (a named : ℕ) (right was_open : Bool) (verdict : Verdict) → Closed (events.LoginTry a named right) was_open a (replies.Tried verdict)
tried a named right was_open verdicts.Accepted = λ c. inl (same_and a true refl)
tried a named right was_open verdict = not_closing (events.LoginTry a named right) was_open a (replies.Tried verdict) refl

try_here : (s : Settings) (past : List Entry) (t a named : ℕ) (right : Bool) (o : Option (List ℕ)) → user_of past a ≡ o →
    Closed (events.LoginTry a named right) (is_open_attempt past a) a (reply_to_try s past t named right o)
try_here s past t a named right None is = λ c. inr (userless past a is)
try_here s past t a named right (Some user) is = tried a named right (is_open_attempt past a) (verdict_of_try s past t user named right)

-- ---- a request or an attempt that the event is about

-- an event of a lookup about this request
abbrev pub IsAboutRequest : Event → ℕ → Type 0
IsAboutRequest (events.Pick r) n = r ≡ n
IsAboutRequest (events.Fall r server why) n = r ≡ n
IsAboutRequest (events.Answer r a) n = r ≡ n
IsAboutRequest (events.Refuse r refusal) n = r ≡ n
IsAboutRequest (events.Outage r) n = r ≡ n
IsAboutRequest _ n = ⊥

-- an event of a login about this attempt
abbrev pub IsAboutAttempt : Event → ℕ → Type 0
IsAboutAttempt (events.Pick a) n = a ≡ n
IsAboutAttempt (events.Fall a server why) n = a ≡ n
IsAboutAttempt (events.Outage a) n = a ≡ n
IsAboutAttempt (events.LoginOnline a result) n = a ≡ n
IsAboutAttempt (events.LoginTry a named right) n = a ≡ n
IsAboutAttempt _ n = ⊥

-- what is said of the reply that a step gives
abbrev pub IsClosedBy : Daemon → ℕ → Event → Bool → ℕ → Type 0
IsClosedBy d now event was_open n = Closed event was_open n (entry_made d now event).reply

any_pick : (d : Daemon) (now r : ℕ) → IsClosedBy d now (events.Pick r) (is_open d.past r) r
any_pick d now r = by_open (events.Pick r) r (is_open d.past r) (reply_by_pick (picked_server d.settings d.past r (moment_of d now)))
    (λ _. picked (events.Pick r) (is_open d.past r) r (picked_server d.settings d.past r (moment_of d now)))

any_fall : (d : Daemon) (now r server : ℕ) (why : Why) → IsClosedBy d now (events.Fall r server why) (is_open d.past r) r
any_fall d now r server why =
    by_open (events.Fall r server why) r (is_open d.past r) (cond (was_picked d.past r server) replies.Noted replies.NotPicked) (λ _. noted (events.Fall r server why) (is_open d.past r) r (was_picked d.past r server))

any_outage : (d : Daemon) (now r : ℕ) → IsClosedBy d now (events.Outage r) (is_open d.past r) r
any_outage d now r =
    by_open (events.Outage r) r (is_open d.past r) (reply_to_outage d.past (next_number d) r (picked_server d.settings d.past r (moment_of d now)))
    (λ _. outage_here d.past (next_number d) r (is_open d.past r) (picked_server d.settings d.past r (moment_of d now)))

any_answer : (d : Daemon) (now r : ℕ) (a : Answered) → IsClosedBy d now (events.Answer r a) (is_open_request d.past r) r
any_answer d now r a =
    by_open (events.Answer r a) r (is_open_request d.past r) (reply_to_answer d.past r (key_of d.past r) a) (λ _. answered d.past r a (key_of d.past r) refl)

any_refuse : (d : Daemon) (now r : ℕ) (refusal : Refusal) → IsClosedBy d now (events.Refuse r refusal) (is_open_request d.past r) r
any_refuse d now r refusal = by_open (events.Refuse r refusal) r (is_open_request d.past r) replies.Closed (λ _ c. inl (same_and r true refl))

any_online : (d : Daemon) (now a : ℕ) (result : LoginResult) → IsClosedBy d now (events.LoginOnline a result) (is_open_attempt d.past a) a
any_online d now a result = by_open (events.LoginOnline a result) a (is_open_attempt d.past a) replies.Closed (λ _ c. inl (same_and a true refl))

any_try : (d : Daemon) (now a named : ℕ) (right : Bool) → IsClosedBy d now (events.LoginTry a named right) (is_open_attempt d.past a) a
any_try d now a named right =
    by_open (events.LoginTry a named right) a (is_open_attempt d.past a) (reply_to_try d.settings d.past (moment_of d now) named right (user_of d.past a))
    (λ _. try_here d.settings d.past (moment_of d now) a named right (user_of d.past a) refl)

first_none : (a b : Bool) → (a || b) ≡ false → a ≡ false
first_none true b h = h
first_none false b h = refl

second_none : (a b : Bool) → (a || b) ≡ false → b ≡ false
second_none true b h = let clash : ⊥ = cc in absurd clash
second_none false b h = h

pub shut_wholly : (n : ℕ) (d : Daemon) (now : ℕ) (event : Event) → is_steppable d.past event ≡ true → WasGiven n d → IsClosedBy d now event (is_open d.past n) n → is_closing (entry_made d now event).reply ≡ true → IsShut n (after d now event)
shut_wholly n d now event may g law c = elim (law c) [
  | inl h ↦ shut_by_closing n d now event may g h
  | inr h ↦ shut_both n (after d now event)
      (no_request_after n d now event may (record { given = g; none = first_none (is_open_request d.past n) (is_open_attempt d.past n) h }))
      (no_attempt_after n d now event may (record { given = g; none = second_none (is_open_request d.past n) (is_open_attempt d.past n) h }))
]

shut_as_request : (n : ℕ) (d : Daemon) (now : ℕ) (event : Event) → is_steppable d.past event ≡ true → IsNoAttempt n d → IsClosedBy d now event (is_open_request d.past n) n → is_closing (entry_made d now event).reply ≡ true → IsShut n (after d now event)
shut_as_request n d now event may a law c = elim (law c) [
  | inl h ↦ shut_by_closing n d now event may a.given h
  | inr h ↦ shut_both n (after d now event) (no_request_after n d now event may (record { given = a.given; none = h })) (no_attempt_after n d now event may a)
]

shut_as_attempt : (n : ℕ) (d : Daemon) (now : ℕ) (event : Event) → is_steppable d.past event ≡ true → IsNoRequest n d → IsClosedBy d now event (is_open_attempt d.past n) n → is_closing (entry_made d now event).reply ≡ true → IsShut n (after d now event)
shut_as_attempt n d now event may r law c = elim (law c) [
  | inl h ↦ shut_by_closing n d now event may r.given h
  | inr h ↦ shut_both n (after d now event) (no_request_after n d now event may r) (no_attempt_after n d now event may (record { given = r.given; none = h }))
]

pub request_shut : (n : ℕ) (d : Daemon) (now : ℕ) (event : Event) → is_steppable d.past event ≡ true → IsNoAttempt n d → IsAboutRequest event n → is_closing (entry_made d now event).reply ≡ true → IsShut n (after d now event)
request_shut n d now (events.Pick r) may a is c = shut_wholly n d now (events.Pick r) may a.given (subst (λ (m : ℕ). IsClosedBy d now (events.Pick r) (is_open d.past m) m) is (any_pick d now r)) c
request_shut n d now (events.Fall r server why) may a is c = shut_wholly n d now (events.Fall r server why) may a.given (subst (λ (m : ℕ). IsClosedBy d now (events.Fall r server why) (is_open d.past m) m) is (any_fall d now r server why)) c
request_shut n d now (events.Outage r) may a is c = shut_wholly n d now (events.Outage r) may a.given (subst (λ (m : ℕ). IsClosedBy d now (events.Outage r) (is_open d.past m) m) is (any_outage d now r)) c
request_shut n d now (events.Answer r x) may a is c = shut_as_request n d now (events.Answer r x) may a (subst (λ (m : ℕ). IsClosedBy d now (events.Answer r x) (is_open_request d.past m) m) is (any_answer d now r x)) c
request_shut n d now (events.Refuse r refusal) may a is c = shut_as_request n d now (events.Refuse r refusal) may a (subst (λ (m : ℕ). IsClosedBy d now (events.Refuse r refusal) (is_open_request d.past m) m) is (any_refuse d now r refusal)) c
request_shut n d now _ may a is c = absurd is

pub attempt_shut : (n : ℕ) (d : Daemon) (now : ℕ) (event : Event) → is_steppable d.past event ≡ true → IsNoRequest n d → IsAboutAttempt event n → is_closing (entry_made d now event).reply ≡ true → IsShut n (after d now event)
attempt_shut n d now (events.Pick r) may a is c = shut_wholly n d now (events.Pick r) may a.given (subst (λ (m : ℕ). IsClosedBy d now (events.Pick r) (is_open d.past m) m) is (any_pick d now r)) c
attempt_shut n d now (events.Fall r server why) may a is c = shut_wholly n d now (events.Fall r server why) may a.given (subst (λ (m : ℕ). IsClosedBy d now (events.Fall r server why) (is_open d.past m) m) is (any_fall d now r server why)) c
attempt_shut n d now (events.Outage r) may a is c = shut_wholly n d now (events.Outage r) may a.given (subst (λ (m : ℕ). IsClosedBy d now (events.Outage r) (is_open d.past m) m) is (any_outage d now r)) c
attempt_shut n d now (events.LoginOnline r result) may a is c = shut_as_attempt n d now (events.LoginOnline r result) may a (subst (λ (m : ℕ). IsClosedBy d now (events.LoginOnline r result) (is_open_attempt d.past m) m) is (any_online d now r result)) c
attempt_shut n d now (events.LoginTry r named right) may a is c = shut_as_attempt n d now (events.LoginTry r named right) may a (subst (λ (m : ℕ). IsClosedBy d now (events.LoginTry r named right) (is_open_attempt d.past m) m) is (any_try d now r named right)) c
attempt_shut n d now _ may a is c = absurd is

-- ---- a ticket

pub ended : (c : Bool) (w : Option ℕ) → c ≡ true → cond c None w ≡ None
ended true w h = refl
ended false w h = let clash : ⊥ = cc in absurd clash

-- a collect that takes, or finds no ticket
abbrev pub is_taking : Reply → Bool
is_taking (replies.Took outcome) = true
is_taking replies.NoTicket = true
is_taking _ = false

-- what a collect says of the ticket
taken_by : (past : List Entry) (ticket : ℕ) (w : Option ℕ) → waits_for past ticket ≡ w → is_taking (reply_to_collect past w) ≡ true → (ends_waiting (events.Collect ticket) (reply_to_collect past w) ticket ≡ true) ⊎ (waits_for past ticket ≡ None)
taken_by past ticket None is c = inr is
taken_by past ticket (Some r) is c = by_request (is_open_request past r) c
  where
    by_request : (b : Bool) → is_taking (cond b (replies.NotYet r) (replies.Took (outcome_of past r))) ≡ true →
        (ends_waiting (events.Collect ticket) (cond b (replies.NotYet r) (replies.Took (outcome_of past r))) ticket ≡ true) ⊎ (waits_for past ticket ≡ None)
    by_request true c = let clash : ⊥ = cc in absurd clash
    by_request false c = inl (same_and ticket true refl)

pub ticket_left : (ticket : ℕ) (d : Daemon) (now : ℕ) → WasGiven ticket d → is_taking (entry_made d now (events.Collect ticket)).reply ≡ true → HasLeft ticket (after d now (events.Collect ticket))
ticket_left ticket d now g c = elim (taken_by d.past ticket (waits_for d.past ticket) refl c) [
  | inl h ↦ record {
    given = given_after ticket d now (events.Collect ticket) refl g;
    left = ended (ends_waiting (events.Collect ticket) (entry_made d now (events.Collect ticket)).reply ticket) (cond (next_number d == ticket) (joined (entry_made d now (events.Collect ticket)).reply) (waits_for d.past ticket)) h;
  }
  | inr h ↦ left_after ticket d now (events.Collect ticket) refl (record { given = g; left = h })
]
