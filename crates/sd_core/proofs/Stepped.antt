-- A step that is not refused as full keeps the journal sound.
use Rattle.std.proofs.Common.{◌≡◌, ℕ, ◌+◌, ◌-◌, ◌*◌, ◌^◌, ◌<◌, ◌≤◌, Bool, true, false, List, [], ◌∷◌, arith, refl, sym, subst, inl, inr}
use Rattle.std.specs.Prelude.{Option, Some, None, cond, is_none, is_some, not, nat_lt, ◌⊎◌, ◌==◌, ◌&&◌, ◌||◌, if◌then◌else◌}
use Rattle.std.proofs.lemmas.Bool.Decides.{nat_tests}
use Rattle.sd_rules.specs.declared.events.Event.{Event}
use Rattle.sd_rules.specs.declared.events.Event.TheVariants as events
use Rattle.sd_rules.specs.declared.replies.Entry.{Entry}
use Rattle.sd_rules.specs.declared.replies.Outcome.{Outcome}
use Rattle.sd_rules.specs.declared.replies.Reply.{Reply}
use Rattle.sd_rules.specs.declared.replies.Reply.TheVariants as replies
use Rattle.sd_rules.specs.declared.settings.Settings.{Settings}
use Rattle.sd_rules.specs.Requests.{unclosed, closes, opens_request, opens_attempt, has_opened_request, has_opened_attempt, is_lead, is_bind, is_open, is_open_request, is_took, waits_for, ends_waiting, joined, reserves, reserved_places, outcome_of}
use Rattle.sd_rules.specs.Logins.{accepts, wrongs, wrong_count}
use Rattle.sd_rules.specs.Steps.{Daemon, next_number, moment_of, reply_to, reply_to_collect, reply_to_leave, entry_made, after, gives_back, is_full, is_steppable, lacks_places, lacks_text, lacks_numbers}
use Rattle.sd_rules.specs.TextBytes.{text_bytes, bytes_of_event}
use Rattle.sd_index.specs.Filed.{is_filed}
use Rattle.sd_index.specs.Places.{place_by, ticket_of}
use Rattle.sd_index.specs.Signals.{is_signal}
use Rattle.sd_index.specs.Table.{takes_none}
use Rattle.sd_past.specs.Closing.{closes_place}
use Rattle.sd_core.specs.Numbered.{gives_nothing, is_access}
use Rattle.sd_core.specs.Sound.{falls_from, holds_row, row_holders, IsSound}
use Rattle.sd_core.proofs.ClosingLaws.{closes_once_after}
use Rattle.sd_core.proofs.RowLaws.{back_holds_none, holders_if_none, few_with_place, one_wrong, count_by_choice}
use Rattle.sd_core.proofs.Room.{next_is_above, one_more, given_back, reserves_nothing, neither, same_number, false_is_not_true}

-- what opens a request or an attempt joins nothing
lead_joins : (reply : Reply) → is_lead reply ≡ true → joined reply ≡ None
lead_joins (replies.Join request ticket) h = absurd (false_is_not_true h)
lead_joins _ h = refl

bind_joins : (reply : Reply) → is_bind reply ≡ true → joined reply ≡ None
bind_joins (replies.Join request ticket) h = absurd (false_is_not_true h)
bind_joins _ h = refl

opens_joins : (event : Event) (reply : Reply) → (opens_request event reply || opens_attempt event reply) ≡ true → joined reply ≡ None
opens_joins (events.Ask key) reply h = lead_joins reply (first_of_both (is_lead reply) h)
  where
    first_of_both : (b : Bool) → (b || false) ≡ true → b ≡ true
    first_of_both true h = refl
    first_of_both false h = h
opens_joins (events.LoginOpen user) reply h = bind_joins reply h
opens_joins _ reply h = absurd (false_is_not_true h)

open_waits_by : (c d b : Bool) (x : Entry) (y : Option Entry) (w : Option ℕ) →
    ((has_opened_request y || has_opened_attempt y) ≡ true → w ≡ None) →
    (has_opened_request (cond c None (cond b (Some x) y)) || has_opened_attempt (cond c None (cond b (Some x) y))) ≡ true →
    cond d None (cond b (joined x.reply) w) ≡ None
open_waits_by true d b x y w f h = absurd (false_is_not_true h)
open_waits_by false true b x y w f h = refl
open_waits_by false false true x y w f h = opens_joins x.event x.reply h
open_waits_by false false false x y w f h = f h

-- what is open is no ticket that waits
open_waits : (past : List Entry) (n : ℕ) → is_open past n ≡ true → waits_for past n ≡ None
open_waits [] n h = refl
open_waits (e ∷ past) n h =
    open_waits_by (closes e.event e.reply n) (ends_waiting e.event e.reply n) (e.number == n) e (unclosed past n) (waits_for past n) (open_waits past n) h

not_both : (b : Bool) (w : Option ℕ) (r : ℕ) → (b ≡ true → w ≡ None) → w ≡ Some r → b ≡ false
not_both true w r f h = let e = f refl in cc
not_both false w r f h = refl

waits_open : (past : List Entry) (n r : ℕ) → waits_for past n ≡ Some r → is_open past n ≡ false
waits_open past n r = not_both (is_open past n) (waits_for past n) r (open_waits past n)

opened_closed : (c : Bool) (y : Option Entry) → c ≡ true → (has_opened_request (cond c None y) || has_opened_attempt (cond c None y)) ≡ false
opened_closed true y h = refl
opened_closed false y h = absurd (false_is_not_true h)

waits_nothing : (d b : Bool) (x w : Option ℕ) → x ≡ None → w ≡ None → is_some (cond d None (cond b x w)) ≡ false
waits_nothing true b x w f g = refl
waits_nothing false true x w f g = cc
waits_nothing false false x w f g = cc

opens_nothing : (c b : Bool) (x : Entry) (y : Option Entry) → opens_request x.event x.reply ≡ false → opens_attempt x.event x.reply ≡ false →
    (has_opened_request y || has_opened_attempt y) ≡ false →
    (has_opened_request (cond c None (cond b (Some x) y)) || has_opened_attempt (cond c None (cond b (Some x) y))) ≡ false
opens_nothing true b x y f g h = refl
opens_nothing false true x y f g h = cc
opens_nothing false false x y f g h = h

ended : (d : Bool) (w : Option ℕ) → d ≡ true → is_some (cond d None w) ≡ false
ended true w h = refl
ended false w h = absurd (false_is_not_true h)

some_is : (w : Option ℕ) (r : ℕ) → w ≡ Some r → is_some w ≡ true
some_is w r h = cc

-- an entry that closes what is open gives its place back
closing_gives_back : (e : Entry) (past : List Entry) (n : ℕ) → falls_from e.number past ≡ true → is_open past n ≡ true →
    closes e.event e.reply n ≡ true → opens_request e.event e.reply ≡ false → opens_attempt e.event e.reply ≡ false → joined e.reply ≡ None →
    reserved_places (e ∷ past) + 1 ≤ reserved_places past
closing_gives_back e past n h o c f g j =
    let before : reserves past n ≡ true = either_way (is_open past n) (is_some (waits_for past n)) o in
    given_back e past n h before
    (neither (is_open (e ∷ past) n) (is_some (waits_for (e ∷ past) n))
    (opened_closed (closes e.event e.reply n) (cond (e.number == n) (Some e) (unclosed past n)) c)
    (waits_nothing (ends_waiting e.event e.reply n) (e.number == n) (joined e.reply) (waits_for past n) j (open_waits past n o)))
    (reserves_nothing e past f g j)
  where
    either_way : (o w : Bool) → o ≡ true → (o || w) ≡ true
    either_way true w h = refl
    either_way false w h = absurd (false_is_not_true h)

-- an entry that ends the waiting of a ticket gives its place back
ending_gives_back : (e : Entry) (past : List Entry) (n r : ℕ) → falls_from e.number past ≡ true → waits_for past n ≡ Some r →
    ends_waiting e.event e.reply n ≡ true → opens_request e.event e.reply ≡ false → opens_attempt e.event e.reply ≡ false → joined e.reply ≡ None →
    reserved_places (e ∷ past) + 1 ≤ reserved_places past
ending_gives_back e past n r h w d f g j =
    given_back e past n h (second_way (is_open past n) (is_some (waits_for past n)) (some_is (waits_for past n) r w))
    (neither (is_open (e ∷ past) n) (is_some (waits_for (e ∷ past) n))
    (opens_nothing (closes e.event e.reply n) (e.number == n) e (unclosed past n) f g (waits_open past n r w))
    (ended (ends_waiting e.event e.reply n) (cond (e.number == n) (joined e.reply) (waits_for past n)) d))
    (reserves_nothing e past f g j)
  where
    second_way : (o w : Bool) → w ≡ true → (o || w) ≡ true
    second_way true w h = refl
    second_way false w h = h

-- an entry of a number and a moment
abbrev pub entry_of : ℕ → ℕ → Event → Reply → Entry
entry_of number moment event reply = record { number = number; moment = moment; event = event; reply = reply }

chosen : (b : Bool) (x y : Reply) → b ≡ true → (if b then x else y) ≡ x
chosen true x y h = refl
chosen false x y h = absurd (false_is_not_true h)

both_true : (a b : Bool) → a ≡ true → b ≡ true → (a && b) ≡ true
both_true a b f g = cc

-- the places after an entry of this reply
abbrev pub places_after : ℕ → ℕ → Event → List Entry → Reply → ℕ
places_after number moment event past reply = reserved_places (entry_of number moment event reply ∷ past)

abandon_back : (s : Settings) (past : List Entry) (number moment n : ℕ) → falls_from number past ≡ true → is_open past n ≡ true →
    places_after number moment (events.Abandon n) past (reply_to s past number moment (events.Abandon n)) + 1 ≤ reserved_places past
abandon_back s past number moment n h o =
    subst (λ reply. places_after number moment (events.Abandon n) past reply + 1 ≤ reserved_places past)
    (sym (chosen (is_open past n) replies.Closed replies.NoRequest o))
    (closing_gives_back (entry_of number moment (events.Abandon n) replies.Closed) past n h o (both_true (n == n) true (same_number n) refl) refl refl refl)

-- a ticket that waits has a request
waiting_for : (w : Option ℕ) → is_some w ≡ true → (r : ℕ) × (w ≡ Some r)
waiting_for None h = absurd (false_is_not_true h)
waiting_for (Some r) h = (r, refl)

leave_back : (s : Settings) (past : List Entry) (number moment n : ℕ) → falls_from number past ≡ true → is_some (waits_for past n) ≡ true →
    places_after number moment (events.Leave n) past (reply_to s past number moment (events.Leave n)) + 1 ≤ reserved_places past
leave_back s past number moment n h w =
    let request = waiting_for (waits_for past n) w in
    let left : reply_to_leave (waits_for past n) ≡ replies.Left = rw request.1 refl in
    subst (λ reply. places_after number moment (events.Leave n) past reply + 1 ≤ reserved_places past)
    (sym left)
    (ending_gives_back (entry_of number moment (events.Leave n) replies.Left) past n request.0 h request.1 (both_true (n == n) true (same_number n) refl) refl refl refl)

-- a Collect that takes is of a ticket that waits
taking : (past : List Entry) (w : Option ℕ) → is_took (reply_to_collect past w) ≡ true →
    (r : ℕ) × ((w ≡ Some r) × (reply_to_collect past w ≡ replies.Took (outcome_of past r)))
taking past None h = absurd (false_is_not_true h)
taking past (Some r) h = (r, (refl, taken_if (is_open_request past r) (outcome_of past r) r h))
  where
    taken_if : (b : Bool) (o : Outcome) (r : ℕ) → is_took (if b then replies.NotYet r else replies.Took o) ≡ true → (if b then replies.NotYet r else replies.Took o) ≡ replies.Took o
    taken_if true o r h = absurd (false_is_not_true h)
    taken_if false o r h = refl

collect_back : (s : Settings) (past : List Entry) (number moment n : ℕ) → falls_from number past ≡ true → is_took (reply_to_collect past (waits_for past n)) ≡ true →
    places_after number moment (events.Collect n) past (reply_to s past number moment (events.Collect n)) + 1 ≤ reserved_places past
collect_back s past number moment n h t =
    let took = taking past (waits_for past n) t in
    let reply : Reply = replies.Took (outcome_of past took.0) in
    subst (λ reply. places_after number moment (events.Collect n) past reply + 1 ≤ reserved_places past)
    (sym took.1.1)
    (ending_gives_back (entry_of number moment (events.Collect n) reply) past n took.0 h took.1.0 (both_true (n == n) true (same_number n) refl) refl refl refl)

-- a step that gives back a place leaves one less
pub step_back : (s : Settings) (past : List Entry) (number moment : ℕ) (event : Event) → falls_from number past ≡ true → gives_back past event ≡ true →
    places_after number moment event past (reply_to s past number moment event) + 1 ≤ reserved_places past
step_back s past number moment (events.Abandon n) h g = abandon_back s past number moment n h g
step_back s past number moment (events.Leave n) h g = leave_back s past number moment n h g
step_back s past number moment (events.Collect n) h g = collect_back s past number moment n h g
step_back s past number moment _ h g = absurd (false_is_not_true g)

-- and holds no text
back_without_text : (past : List Entry) (event : Event) → gives_back past event ≡ true → bytes_of_event event ≡ 0
back_without_text past (events.Abandon n) g = refl
back_without_text past (events.Leave n) g = refl
back_without_text past (events.Collect n) g = refl
back_without_text past _ g = absurd (false_is_not_true g)

-- where there is room, or a place is given back
abbrev HasPlace : Daemon → Event → Type 0
HasPlace d event = (lacks_places d ≡ false) × (lacks_text d event ≡ false) × (lacks_numbers d ≡ false)

has_room : (g p t n : Bool) → (not g && (p || (t || n))) ≡ false → (g ≡ true) ⊎ ((p ≡ false) × (t ≡ false) × (n ≡ false))
has_room true p t n h = inl refl
has_room false true t n h = absurd (false_is_not_true (sym h))
has_room false false true n h = absurd (false_is_not_true (sym h))
has_room false false false n h = inr (refl, refl, h)

numbered_after : (d : Daemon) → IsSound d → falls_from (next_number d) d.past ≡ true
numbered_after d sound = subst (λ n. falls_from n d.past ≡ true) (sym (next_is_above d.next d.past sound.numbers)) sound.numbers

room_after : (d : Daemon) (now : ℕ) (event : Event) → IsSound d → (gives_back d.past event ≡ true) ⊎ HasPlace d event →
    next_number d + 1 + reserved_places (entry_made d now event ∷ d.past) ≤ 2 ^ 64 - 1
room_after d now event sound (inl g) =
    let back = step_back d.settings d.past (next_number d) (moment_of d now) event (numbered_after d sound) g in
    let same = next_is_above d.next d.past sound.numbers in
    omega (arith, back, same, sound.room)
room_after d now event sound (inr f) =
    let more = one_more (entry_made d now event) d.past (numbered_after d sound) in
    let enough = f.2 in
    grind (arith, nat_tests, more, enough)

texts_after : (d : Daemon) (now : ℕ) (event : Event) → IsSound d → (gives_back d.past event ≡ true) ⊎ HasPlace d event →
    bytes_of_event event + text_bytes d.past ≤ 512 * 1024 * 1024
texts_after d now event sound (inl g) =
    let none = back_without_text d.past event g in
    omega (arith, none, sound.texts)
texts_after d now event sound (inr f) =
    let enough = f.1 in
    grind (arith, nat_tests, enough)

rows_after : (d : Daemon) (event : Event) → d.settings.journal_limit < 2 ^ 32 → IsSound d → (gives_back d.past event ≡ true) ⊎ HasPlace d event →
    (if holds_row event then 1 else 0) + row_holders d.past < 2 ^ 32 - 1
rows_after d event limit sound (inl g) =
    let same = holders_if_none (holds_row event) (row_holders d.past) (back_holds_none d.past event g) in
    omega (arith, same, sound.rows)
rows_after d event limit sound (inr f) = few_with_place d (holds_row event) limit f.0

wrongs_after : (d : Daemon) (now : ℕ) (event : Event) → IsSound d → is_steppable d.past event ≡ true → (user : List ℕ) →
    wrong_count (entry_made d now event ∷ d.past) user < next_number d + 1
wrongs_after d now event sound h user =
    let same = next_is_above d.next d.past sound.numbers in
    let reply : Reply = (entry_made d now event).reply in
    count_by_choice (accepts d.past user event reply) (wrongs user event reply) (wrong_count d.past user) (next_number d)
    (one_wrong d.past event reply user h) (omega (arith, same, sound.wrongs.fewer user))

-- a step that is not refused as full keeps the journal sound
pub sound_after : (d : Daemon) (now : ℕ) (event : Event) → d.settings.journal_limit < 2 ^ 32 → IsSound d → is_steppable d.past event ≡ true → is_full d event ≡ false → IsSound (after d now event)
sound_after d now event limit sound h full =
    let room = has_room (gives_back d.past event) (lacks_places d) (lacks_text d event) (lacks_numbers d) full in
    record {
      servers = sound.servers;
      numbers = both_true (nat_lt (next_number d) (next_number d + 1)) (falls_from (next_number d) d.past) (grind (arith, nat_tests)) (numbered_after d sound);
      room = room_after d now event sound room;
      texts = texts_after d now event sound room;
      rows = rows_after d event limit sound room;
      wrongs = record { fewer = λ user. wrongs_after d now event sound h user };
      closings = closes_once_after d.settings d.past (next_number d) (moment_of d now) event (numbered_after d sound) sound.closings;
    }

-- an entry of these parts is the one that a step makes
pub entry_is : (d : Daemon) (now : ℕ) (event : Event) (number moment : ℕ) (reply : Reply) →
    number ≡ next_number d → moment ≡ moment_of d now → reply ≡ reply_to d.settings d.past (next_number d) moment event →
    entry_of number moment event reply ≡ entry_made d now event
entry_is d now event number moment reply n m r =
    let replied : reply ≡ reply_to d.settings d.past (next_number d) (moment_of d now) event =
    subst (λ t. reply ≡ reply_to d.settings d.past (next_number d) t event) m r in
    cc

-- what closes a place is never refused as full, its reply takes no memory, and it gives back its place
closing_gives_back_place : (past : List Entry) (event : Event) → closes_place past event ≡ true → gives_back past event ≡ true
closing_gives_back_place past (events.Abandon n) h = h
closing_gives_back_place past (events.Leave n) h = h
closing_gives_back_place past _ h = absurd (false_is_not_true h)

not_full : (g f : Bool) → g ≡ true → (not g && f) ≡ false
not_full true f h = refl
not_full false f h = absurd (false_is_not_true h)

pub closing_has_room : (d : Daemon) (event : Event) → closes_place d.past event ≡ true → is_full d event ≡ false
closing_has_room d event h =
    not_full (gives_back d.past event) (lacks_places d || (lacks_text d event || lacks_numbers d)) (closing_gives_back_place d.past event h)

pub closing_is_free : (past : List Entry) (event : Event) → closes_place past event ≡ true → is_access event ≡ false
closing_is_free past (events.Access user service) h = absurd (false_is_not_true h)
closing_is_free past _ h = refl

closed_nothing : (o : Bool) → o ≡ true → gives_nothing (if o then replies.Closed else replies.NoRequest) ≡ true
closed_nothing true h = refl
closed_nothing false h = absurd (false_is_not_true h)

left_nothing : (w : Option ℕ) → is_some w ≡ true → gives_nothing (reply_to_leave w) ≡ true
left_nothing None h = absurd (false_is_not_true h)
left_nothing (Some r) h = refl

pub closing_gives_nothing : (s : Settings) (past : List Entry) (number moment : ℕ) (event : Event) → closes_place past event ≡ true →
    gives_nothing (reply_to s past number moment event) ≡ true
closing_gives_nothing s past number moment (events.Abandon n) h = closed_nothing (is_open past n) h
closing_gives_nothing s past number moment (events.Leave n) h = left_nothing (waits_for past n) h
closing_gives_nothing s past number moment _ h = absurd (false_is_not_true h)

pub closing_place_back : (d : Daemon) (now : ℕ) (event : Event) → IsSound d → closes_place d.past event ≡ true →
    reserved_places (entry_made d now event ∷ d.past) + 1 ≤ reserved_places d.past
closing_place_back d now event sound h =
    step_back d.settings d.past (next_number d) (moment_of d now) event (numbered_after d sound) (closing_gives_back_place d.past event h)

pub closing_reply : (s : Settings) (past : List Entry) (number moment : ℕ) (event : Event) (reply : Reply) → reply ≡ reply_to s past number moment event →
    closes_place past event ≡ true → gives_nothing reply ≡ true
closing_reply s past number moment event reply is h =
    subst (λ (r : Reply). gives_nothing r ≡ true) (sym is) (closing_gives_nothing s past number moment event h)

no_ticket : (number : ℕ) (reply : Reply) → gives_nothing reply ≡ true → is_none (ticket_of number reply) ≡ true
no_ticket number replies.Closed h = refl
no_ticket number replies.Left h = refl
no_ticket number _ h = absurd (false_is_not_true h)

keeps_nothing : (past : List Entry) (number : ℕ) (event : Event) (reply : Reply) → closes_place past event ≡ true → gives_nothing reply ≡ true →
    (not (is_filed event) && (not (is_signal event reply) && is_none (place_by number event reply))) ≡ true
keeps_nothing past number (events.Abandon n) reply h nothing = no_ticket number reply nothing
keeps_nothing past number (events.Leave n) reply h nothing = no_ticket number reply nothing
keeps_nothing past number _ reply h nothing = absurd (false_is_not_true h)

pub closing_takes_none : (d : Daemon) (now : ℕ) (event : Event) → closes_place d.past event ≡ true → takes_none (entry_made d now event) ≡ true
closing_takes_none d now event h =
    keeps_nothing d.past (next_number d) event (reply_to d.settings d.past (next_number d) (moment_of d now) event) h
    (closing_gives_nothing d.settings d.past (next_number d) (moment_of d now) event h)
