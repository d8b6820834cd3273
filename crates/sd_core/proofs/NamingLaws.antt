-- A step names only what stands before it, unless it is replied NoRequest, and its moment is no earlier than the last.
use Rattle.std.proofs.Common.{◌≡◌, ℕ, ◌<◌, Bool, true, false, List, [], ◌∷◌, arith, refl}
use Rattle.std.specs.Prelude.{nat_lt, nat_le, ◌||◌, if◌then◌else◌}
use Rattle.std.proofs.lemmas.Bool.Decides.{nat_tests}
use Rattle.sd_rules.specs.declared.events.Event.{Event}
use Rattle.sd_rules.specs.declared.events.Event.TheVariants as events
use Rattle.sd_rules.specs.declared.replies.Entry.{Entry}
use Rattle.sd_rules.specs.declared.replies.Reply.{Reply}
use Rattle.sd_rules.specs.declared.replies.Reply.TheVariants as replies
use Rattle.sd_rules.specs.declared.settings.Settings.{Settings}
use Rattle.sd_rules.specs.Past.{key_of}
use Rattle.sd_rules.specs.Logins.{user_of}
use Rattle.sd_rules.specs.Requests.{is_open, is_open_request, is_open_attempt}
use Rattle.sd_rules.specs.Servers.{picked_server, was_picked}
use Rattle.sd_rules.specs.Steps.{moment_after, reply_by_pick, reply_to, reply_to_answer, reply_to_outage, reply_to_try}
use Rattle.sd_core.specs.Sound.{falls_from, is_no_request, last_moment, named_by, names_earlier}
use Rattle.sd_core.proofs.Room.{open_stands, stands_below}

or_true : (a : Bool) → (a || true) ≡ true
or_true true = refl
or_true false = refl

true_or : (a b : Bool) → a ≡ true → (a || b) ≡ true
true_or a b h = cc

or_holds : (a b : Bool) → b ≡ true → (a || b) ≡ true
or_holds true b h = refl
or_holds false b h = h

named_if : (b : Bool) (number n : ℕ) (reply : Reply) → (b ≡ true → n < number) → (nat_lt n number || is_no_request (if b then reply else replies.NoRequest)) ≡ true
named_if true number n reply f =
    let below = f refl in
    true_or (nat_lt n number) (is_no_request reply) (grind (arith, nat_tests, below))
named_if false number n reply f = or_true (nat_lt n number)

open_below : (past : List Entry) (number n : ℕ) → falls_from number past ≡ true → is_open past n ≡ true → n < number
open_below past number n f o = stands_below number n past f (open_stands past n o)

request_below : (past : List Entry) (number n : ℕ) → falls_from number past ≡ true → is_open_request past n ≡ true → n < number
request_below past number n f o = open_below past number n f (true_or (is_open_request past n) (is_open_attempt past n) o)

attempt_below : (past : List Entry) (number n : ℕ) → falls_from number past ≡ true → is_open_attempt past n ≡ true → n < number
attempt_below past number n f o = open_below past number n f (or_holds (is_open_request past n) (is_open_attempt past n) o)

pub step_names_earlier : (s : Settings) (past : List Entry) (number moment : ℕ) (event : Event) → falls_from number past ≡ true →
    names_earlier number (named_by event) (reply_to s past number moment event) ≡ true
step_names_earlier s past number moment (events.Pick n) f =
    named_if (is_open past n) number n (reply_by_pick (picked_server s past n moment)) (open_below past number n f)
step_names_earlier s past number moment (events.Fall n i why) f =
    named_if (is_open past n) number n (if was_picked past n i then replies.Noted else replies.NotPicked) (open_below past number n f)
step_names_earlier s past number moment (events.Answer n answered) f =
    named_if (is_open_request past n) number n (reply_to_answer past n (key_of past n) answered) (request_below past number n f)
step_names_earlier s past number moment (events.Refuse n refusal) f = named_if (is_open_request past n) number n replies.Closed (request_below past number n f)
step_names_earlier s past number moment (events.Outage n) f =
    named_if (is_open past n) number n (reply_to_outage past number n (picked_server s past n moment)) (open_below past number n f)
step_names_earlier s past number moment (events.Abandon n) f = named_if (is_open past n) number n replies.Closed (open_below past number n f)
step_names_earlier s past number moment (events.LoginOnline n result) f = named_if (is_open_attempt past n) number n replies.Closed (attempt_below past number n f)
step_names_earlier s past number moment (events.LoginTry n named right) f =
    named_if (is_open_attempt past n) number n (reply_to_try s past moment named right (user_of past n)) (attempt_below past number n f)
step_names_earlier s past number moment _ f = refl

pub moment_rises : (floor now : ℕ) (past : List Entry) → nat_le (last_moment past) (moment_after floor past now) ≡ true
moment_rises floor now [] = grind (arith, nat_tests)
moment_rises floor now (e ∷ past) = grind (arith, nat_tests)
