-- A plain entry is looked at for its number alone.
use Rattle.std.proofs.Common.{◌≡◌, ℕ, Bool, true, false, ◌&&◌, ◌||◌, List, Option, None, Some, is_some, refl}
use Rattle.sd_rules.specs.declared.events.Event.{Event}
use Rattle.sd_rules.specs.declared.events.Event.TheVariants.{Ask, Refuse, Outage, Abandon, Collect, Leave, Offline, LoginOpen, LoginLook, Access}
use Rattle.sd_rules.specs.declared.replies.Entry.{Entry}
use Rattle.sd_rules.specs.Needed.{is_fall_needed, is_last, is_login_needed, is_looked_at, is_newest_of_some, is_number, is_stop, is_void_needed, is_wrong_needed, last_outage, last_where, serves_open, serves_waiting, user_guessed, user_logged_in}
use Rattle.sd_rules.specs.Past.{answer_by}
use Rattle.sd_rules.specs.Requests.{is_open, waits_for}
use Rattle.sd_rules.specs.Servers.{is_online}
use Rattle.sd_findings.specs.Briefs.{is_plain, request_again, is_number_looked_at}
use Rattle.sd_sieve.specs.Readings.{is_again_read}

-- whether an entry of this event is looked at
abbrev looked_by : List Entry → List Entry → Entry → Event → Bool
looked_by all past e event =
    is_newest_of_some all (answer_by past e event)
    || (is_void_needed all past e event
    || (is_open all e.number
    || (serves_open all e event
    || (is_fall_needed all e event
    || ((is_online event && is_number e.number (last_where (λ (x : Entry). is_online x.event) all))
    || (is_number e.number (last_outage all)
    || (is_some (waits_for all e.number)
    || (serves_waiting all e.number all
    || (is_login_needed all e.number (user_logged_in past event e.reply)
    || (is_wrong_needed all e (user_guessed event)
    || ((is_stop event && is_number e.number (last_where (λ (x : Entry). is_stop x.event) all))
    || is_last all e)))))))))))

looked_plain : (all past : List Entry) (e : Entry) (event : Event) → is_plain event ≡ true → looked_by all past e event ≡ is_number_looked_at all e.number
looked_plain all past e (Ask key) h = refl
looked_plain all past e (Refuse request why) h = refl
looked_plain all past e (Outage request) h = refl
looked_plain all past e (Abandon request) h = refl
looked_plain all past e (Collect ticket) h = refl
looked_plain all past e (Leave ticket) h = refl
looked_plain all past e Offline h = refl
looked_plain all past e (LoginOpen user) h = refl
looked_plain all past e (LoginLook user) h = refl
looked_plain all past e (Access user service) h = refl
looked_plain all past e _ h = cc

pub plain_looked : (all past : List Entry) (e : Entry) → is_plain e.event ≡ true → is_looked_at all past e ≡ is_number_looked_at all e.number
plain_looked all past e h = looked_plain all past e e.event h

-- an entry that was not replied Again is not read with an answer for it
none_read : (all : List Entry) (e : Entry) (request : Option ℕ) → is_some request ≡ false → false ≡ is_again_read all e all request
none_read all e None h = refl
none_read all e (Some request) h = cc

pub not_again : (all : List Entry) (e : Entry) → is_some (request_again e.event e.reply) ≡ false → false ≡ is_again_read all e all (request_again e.event e.reply)
not_again all e h = none_read all e (request_again e.event e.reply) h
