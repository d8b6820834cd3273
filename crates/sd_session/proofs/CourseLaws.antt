-- What a client's request goes on with after a reply, over its whole script.
use Rattle.std.proofs.Common.{◌≡◌, ◌∙◌, ℕ, Bool, true, false, ◌||◌, ◌==◌, ◌++◌, cond, List, [], ◌∷◌, Option, Some, None, refl, ap, subst}
use Rattle.sd_rules.specs.declared.keys.Key.{Key}
use Rattle.sd_rules.specs.declared.keys.Key.TheVariants as keys
use Rattle.sd_rules.specs.declared.events.Event.{Event}
use Rattle.sd_rules.specs.declared.events.Event.TheVariants as events
use Rattle.sd_rules.specs.declared.replies.Given.{Given}
use Rattle.sd_rules.specs.declared.replies.Reply.{Reply}
use Rattle.sd_rules.specs.declared.scripts.Led.{Led}
use Rattle.sd_rules.specs.declared.scripts.LookupCourse.{LookupCourse}
use Rattle.sd_rules.specs.declared.scripts.LookupCourse.TheVariants as lookups
use Rattle.sd_rules.specs.declared.scripts.LookupStep.{LookupStep}
use Rattle.sd_rules.specs.declared.scripts.LookupStep.TheVariants as steps
use Rattle.sd_rules.specs.declared.scripts.LoginStep.{LoginStep}
use Rattle.sd_rules.specs.declared.scripts.LoginStep.TheVariants as login_steps
use Rattle.sd_rules.specs.declared.tasks.Said.{Said}
use Rattle.sd_rules.specs.AccessScript as checks
use Rattle.sd_rules.specs.AccessScript.{AccessWords, AccessCourse, access_need, access_replied, gathering, gathered, gather, ends_check}
use Rattle.sd_rules.specs.Closings as closings
use Rattle.sd_rules.specs.Closings.{Closing, closing_need, closing_replied, carried_out}
use Rattle.sd_rules.specs.LoginScript as logins
use Rattle.sd_rules.specs.LoginScript.{LoginCourse, LoginWords, login_course_need, login_course_replied, login_need, login_replied, finding, found_by, proving, after_open, after_cached, after_try, after_login_pick, after_online, after_login_fall, after_login_outage, after_look, after_hash, after_guess, after_verdict}
use Rattle.sd_rules.specs.Lookups.{lookup_replied, course_need, course_replied, looked, renewed, dn_said}
use Rattle.sd_rules.specs.Scripts as scripts
use Rattle.sd_rules.specs.Scripts.{event_of, Stepping, Telling, need_at}
use Rattle.sd_engine.specs.Courses.{Course, LookingUp, LoggingIn, Checking, Ordering, script_of, replied, with_hashing}
use Rattle.sd_engine.specs.Names.{is_order, holds_order}
use Rattle.sd_engine.specs.Leading.{about}
use Rattle.sd_session.specs.Holding.{lists, requests_of, stage_leads, stage_waits, stage_attempt, lookup_leads, lookup_waits, closing_leads, closing_waits, login_leads, login_waits, login_attempt, access_leads, access_waits, leads_in, waits_in, attempt_in, renews_in, closing_renews, login_renews, access_renews, renews}
use Rattle.sd_session.proofs.ReplyKinds.{replies_as, is_plain}
use Rattle.sd_session.proofs.HoldingLaws.{Follows, untrue, like, step_leads, step_waits, stage_follows, step_is_leading, leading_on, step_attempt, plainly, attempt_follows}

-- ---- what a step leads to

looked_leads : (step : LookupStep) → lookup_leads (looked step) ≡ step_leads step []
looked_leads (steps.Next stage) = refl
looked_leads (steps.Ended said) = refl
looked_leads (steps.Renew said r) = refl

looked_waits : (step : LookupStep) → lookup_waits (looked step) ≡ step_waits step
looked_waits (steps.Next stage) = refl
looked_waits (steps.Ended said) = refl
looked_waits (steps.Renew said r) = refl

renewed_leads : (step : LookupStep) → step_is_leading step ≡ true → lookup_leads (renewed step) ≡ step_leads step []
renewed_leads (steps.Next stage) h = refl
renewed_leads (steps.Ended said) h = refl
renewed_leads (steps.Renew said r) h = untrue h

renewed_waits : (step : LookupStep) → lookup_waits (renewed step) ≡ step_waits step
renewed_waits (steps.Next stage) = refl
renewed_waits (steps.Ended said) = refl
renewed_waits (steps.Renew said r) = refl

begun_leads : (led : List Led) → closing_leads (closings.begun led) ≡ requests_of led
begun_leads [] = refl
begun_leads (l ∷ led) = refl

begun_waits : (led : List Led) → closing_waits (closings.begun led) ≡ None
begun_waits [] = refl
begun_waits (l ∷ led) = refl

carried_leads : (key : Key) (led : List Led) (step : LookupStep) → step_is_leading step ≡ true → closing_leads (carried_out key led step) ≡ step_leads step (requests_of led)
carried_leads key led (steps.Next stage) h = refl
carried_leads key led (steps.Ended said) h = begun_leads led
carried_leads key led (steps.Renew said r) h = untrue h

carried_waits : (key : Key) (led : List Led) (step : LookupStep) → closing_waits (carried_out key led step) ≡ step_waits step
carried_waits key led (steps.Next stage) = refl
carried_waits key led (steps.Ended said) = begun_waits led
carried_waits key led (steps.Renew said r) = begun_waits led

found_leads : (said : Said) (led : List Led) (dn : Option (List ℕ)) → login_leads (found_by said led dn) ≡ requests_of led
found_leads said led None = refl
found_leads said led (Some dn) = refl

found_attempt : (said : Said) (led : List Led) (dn : Option (List ℕ)) → login_attempt (found_by said led dn) ≡ None
found_attempt said led None = refl
found_attempt said led (Some dn) = refl

found_waits : (said : Said) (led : List Led) (dn : Option (List ℕ)) → login_waits (found_by said led dn) ≡ None
found_waits said led None = refl
found_waits said led (Some dn) = refl

finding_leads : (user : List ℕ) (step : LookupStep) → login_leads (finding user step) ≡ step_leads step []
finding_leads user (steps.Next stage) = refl
finding_leads user (steps.Ended said) = found_leads said [] (dn_said said)
finding_leads user (steps.Renew said r) = found_leads said (record { request = r; key = keys.User user } ∷ []) (dn_said said)

finding_attempt : (user : List ℕ) (step : LookupStep) → login_attempt (finding user step) ≡ None
finding_attempt user (steps.Next stage) = refl
finding_attempt user (steps.Ended said) = found_attempt said [] (dn_said said)
finding_attempt user (steps.Renew said r) = found_attempt said (record { request = r; key = keys.User user } ∷ []) (dn_said said)

finding_waits : (user : List ℕ) (step : LookupStep) → login_waits (finding user step) ≡ step_waits step
finding_waits user (steps.Next stage) = refl
finding_waits user (steps.Ended said) = found_waits said [] (dn_said said)
finding_waits user (steps.Renew said r) = found_waits said (record { request = r; key = keys.User user } ∷ []) (dn_said said)

proving_leads : (dn : List ℕ) (led : List Led) (step : LoginStep) → login_leads (proving dn led step) ≡ requests_of led
proving_leads dn led (login_steps.Next stage) = refl
proving_leads dn led (login_steps.Ended said) = refl

proving_attempt : (dn : List ℕ) (led : List Led) (step : LoginStep) → login_attempt (proving dn led step) ≡ step_attempt step
proving_attempt dn led (login_steps.Next stage) = refl
proving_attempt dn led (login_steps.Ended said) = refl

proving_waits : (dn : List ℕ) (led : List Led) (step : LoginStep) → login_waits (proving dn led step) ≡ None
proving_waits dn led (login_steps.Next stage) = refl
proving_waits dn led (login_steps.Ended said) = refl

gather_leads : (later : List Key) (led : List Led) → access_leads (gather later led) ≡ requests_of led
gather_leads [] led = refl
gather_leads (key ∷ later) led = refl

gather_waits : (later : List Key) (led : List Led) → access_waits (gather later led) ≡ None
gather_waits [] led = refl
gather_waits (key ∷ later) led = refl

either_leads : (b : Bool) (x y : AccessCourse) (led : List ℕ) → access_leads x ≡ led → access_leads y ≡ led → access_leads (cond b x y) ≡ led
either_leads true x y led f g = f
either_leads false x y led f g = g

either_waits : (b : Bool) (x y : AccessCourse) → access_waits x ≡ None → access_waits y ≡ None → access_waits (cond b x y) ≡ None
either_waits true x y f g = f
either_waits false x y f g = g

gathered_leads : (key : Key) (later : List Key) (led : List Led) (said : Said) → access_leads (gathered key later led said) ≡ requests_of led
gathered_leads key later led said = either_leads (ends_check key said) (checks.Closed (closings.Saying said led)) (gather later led) (requests_of led) refl (gather_leads later led)

gathered_waits : (key : Key) (later : List Key) (led : List Led) (said : Said) → access_waits (gathered key later led said) ≡ None
gathered_waits key later led said = either_waits (ends_check key said) (checks.Closed (closings.Saying said led)) (gather later led) refl (gather_waits later led)

or_swap : (a b c : Bool) → (a || (b || c)) ≡ (b || (a || c))
or_swap true true c = refl
or_swap true false c = refl
or_swap false b c = refl

lists_last : (led : List Led) (r : ℕ) (key : Key) (n : ℕ) → lists (requests_of (led ++ record { request = r; key = key } ∷ [])) n ≡ lists (r ∷ requests_of led) n
lists_last [] r key n = refl
lists_last (l ∷ led) r key n = ap (λ (b : Bool). (l.request == n) || b) (lists_last led r key n) ∙ or_swap (l.request == n) (r == n) (lists (requests_of led) n)

same_lists : (xs ys : List ℕ) → xs ≡ ys → (n : ℕ) → lists xs n ≡ lists ys n
same_lists xs ys e n = ap (λ (l : List ℕ). lists l n) e

gathering_leads : (key : Key) (later : List Key) (led : List Led) (step : LookupStep) (n : ℕ) → lists (access_leads (gathering key later led step)) n ≡ lists (step_leads step (requests_of led)) n
gathering_leads key later led (steps.Next stage) n = refl
gathering_leads key later led (steps.Ended said) n = same_lists (access_leads (gathered key later led said)) (requests_of led) (gathered_leads key later led said) n
gathering_leads key later led (steps.Renew said r) n =
    let more : List Led = led ++ record { request = r; key = key } ∷ [] in
    same_lists (access_leads (gathered key later more said)) (requests_of more) (gathered_leads key later more said) n ∙ lists_last led r key n

gathering_waits : (key : Key) (later : List Key) (led : List Led) (step : LookupStep) → access_waits (gathering key later led step) ≡ step_waits step
gathering_waits key later led (steps.Next stage) = refl
gathering_waits key later led (steps.Ended said) = gathered_waits key later led said
gathering_waits key later led (steps.Renew said r) = gathered_waits key later (led ++ record { request = r; key = key } ∷ []) said

-- ---- a request of a client

no_event : {P : Type 0} {event : Event} → None ≡ Some event → P
no_event e = let clash : ⊥ = cc in absurd clash

lookup_follows : (number : ℕ) (key : Key) (course : LookupCourse) (event : Event) (g : Given) → event_of (course_need key course) ≡ Some event → renews_in course ≡ true → replies_as number event g.reply ≡ true →
    Follows (lookup_leads course) None (lookup_waits course) event g.reply (lookup_leads (course_replied course g)) None (lookup_waits (course_replied course g))
lookup_follows number key (lookups.Looking stage) event g e leading h =
    let step : LookupStep = lookup_replied stage g in
    like (stage_leads stage []) None (stage_waits stage) event g.reply (step_leads step []) (lookup_leads (looked step)) None None (step_waits step) (lookup_waits (looked step))
    (same_lists (lookup_leads (looked step)) (step_leads step []) (looked_leads step)) refl (looked_waits step) (stage_follows number key stage [] event g e h)
lookup_follows number key (lookups.Renewing stage) event g e leading h =
    let step : LookupStep = lookup_replied stage g in
    like (stage_leads stage []) None (stage_waits stage) event g.reply (step_leads step []) (lookup_leads (renewed step)) None None (step_waits step) (lookup_waits (renewed step))
    (same_lists (lookup_leads (renewed step)) (step_leads step []) (renewed_leads step (leading_on stage g leading))) refl (renewed_waits step) (stage_follows number key stage [] event g e h)
lookup_follows number key (lookups.Saying said) event g e leading h = no_event e
lookup_follows number key (lookups.SayingFirst said r) event g e leading h = no_event e
lookup_follows number key lookups.Over event g e leading h = no_event e

closing_follows : (number : ℕ) (closing : Closing) (event : Event) (g : Given) → event_of (closing_need closing) ≡ Some event → closing_renews closing ≡ true → replies_as number event g.reply ≡ true →
    Follows (closing_leads closing) None (closing_waits closing) event g.reply (closing_leads (closing_replied closing g)) None (closing_waits (closing_replied closing g))
closing_follows number (closings.Renewing key stage led) event g e leading h =
    let step : LookupStep = lookup_replied stage g in
    let rest : List ℕ = requests_of led in
    like (stage_leads stage rest) None (stage_waits stage) event g.reply (step_leads step rest) (closing_leads (carried_out key led step)) None None (step_waits step) (closing_waits (carried_out key led step))
    (same_lists (closing_leads (carried_out key led step)) (step_leads step rest) (carried_leads key led step (leading_on stage g leading))) refl (carried_waits key led step) (stage_follows number key stage rest event g e h)
closing_follows number (closings.Saying said led) event g e leading h = no_event e
closing_follows number closings.Over event g e leading h = no_event e

login_follows : (number : ℕ) (words : LoginWords) (course : LoginCourse) (event : Event) (g : Given) → event_of (login_course_need words course) ≡ Some event → login_renews course ≡ true → replies_as number event g.reply ≡ true →
    Follows (login_leads course) (login_attempt course) (login_waits course) event g.reply (login_leads (login_course_replied words course g)) (login_attempt (login_course_replied words course g)) (login_waits (login_course_replied words course g))
login_follows number words (logins.Finding stage) event g e leading h =
    let step : LookupStep = lookup_replied stage g in
    like (stage_leads stage []) None (stage_waits stage) event g.reply (step_leads step []) (login_leads (finding words.user step)) None (login_attempt (finding words.user step)) (step_waits step) (login_waits (finding words.user step))
    (same_lists (login_leads (finding words.user step)) (step_leads step []) (finding_leads words.user step)) (finding_attempt words.user step) (finding_waits words.user step) (stage_follows number (keys.User words.user) stage [] event g e h)
login_follows number words (logins.Proving dn led stage) event g e leading h =
    let step : LoginStep = login_replied words stage g in
    like (requests_of led) (stage_attempt stage) None event g.reply (requests_of led) (login_leads (proving dn led step)) (step_attempt step) (login_attempt (proving dn led step)) None (login_waits (proving dn led step))
    (same_lists (login_leads (proving dn led step)) (requests_of led) (proving_leads dn led step)) (proving_attempt dn led step) (proving_waits dn led step) (attempt_follows number words dn stage (requests_of led) event g e h)
login_follows number words (logins.Closed closing) event g e leading h = closing_follows number closing event g e leading h

access_event : (user service user' service' : List ℕ) (event : Event) → Some (events.Access user service) ≡ Some event → about event ≡ None
access_event user service user' service' event e = let same : events.Access user service ≡ event = cc in subst (λ (x : Event). about x ≡ None) same refl

access_plain : (number : ℕ) (user service : List ℕ) (event : Event) (reply : Reply) → Some (events.Access user service) ≡ Some event → replies_as number event reply ≡ true → is_plain reply ≡ true
access_plain number user service event reply e h = let same : event ≡ events.Access user service = cc in subst (λ (x : Event). replies_as number x reply ≡ true) same h

access_follows : (number : ℕ) (words : AccessWords) (course : AccessCourse) (event : Event) (g : Given) → event_of (access_need words course) ≡ Some event → access_renews course ≡ true → replies_as number event g.reply ≡ true →
    Follows (access_leads course) None (access_waits course) event g.reply (access_leads (access_replied course g)) None (access_waits (access_replied course g))
access_follows number words (checks.Gathering key later led stage) event g e leading h =
    let step : LookupStep = lookup_replied stage g in
    let rest : List ℕ = requests_of led in
    like (stage_leads stage rest) None (stage_waits stage) event g.reply (step_leads step rest) (access_leads (gathering key later led step)) None None (step_waits step) (access_waits (gathering key later led step))
    (gathering_leads key later led step) refl (gathering_waits key later led step) (stage_follows number key stage rest event g e h)
access_follows number words (checks.Checking led) event g e leading h =
    plainly event g.reply (requests_of led) (access_event words.user words.service words.user words.service event e) (access_plain number words.user words.service event g.reply e h)
access_follows number words (checks.Closed closing) event g e leading h = closing_follows number closing event g e leading h

order_about : (event : Event) → is_order event ≡ true → about event ≡ None
order_about (events.Void what) h = refl
order_about events.Offline h = refl
order_about events.Online h = refl
order_about events.Stop h = refl
order_about _ h = untrue h

order_plain : (number : ℕ) (event : Event) (reply : Reply) → is_order event ≡ true → replies_as number event reply ≡ true → is_plain reply ≡ true
order_plain number (events.Void what) reply h r = r
order_plain number events.Offline reply h r = r
order_plain number events.Online reply h r = r
order_plain number events.Stop reply h r = r
order_plain number _ reply h r = untrue h

order_same : (a b : Event) → Some a ≡ Some b → a ≡ b
order_same a b e = cc

pub course_follows : (seed : List ℕ) (number : ℕ) (c : Course) (event : Event) (g : Given) → event_of (need_at (script_of seed c)) ≡ Some event → renews c ≡ true → holds_order c ≡ true → replies_as number event g.reply ≡ true →
    Follows (leads_in c) (attempt_in c) (waits_in c) event g.reply (leads_in (replied seed c g)) (attempt_in (replied seed c g)) (waits_in (replied seed c g))
course_follows seed number (LookingUp key course) event g e leading order h = lookup_follows number key course event g e leading h
course_follows seed number (LoggingIn words course) event g e leading order h = login_follows number (with_hashing seed words) course event g e leading h
course_follows seed number (Checking words course) event g e leading order h = access_follows number words course event g e leading h
course_follows seed number (Ordering (Stepping word)) event g e leading order h =
    let same = order_same word event e in
    let is : is_order event ≡ true = subst (λ (x : Event). is_order x ≡ true) same order in
    plainly event g.reply [] (order_about event is) (order_plain number event g.reply is h)
course_follows seed number (Ordering (Telling n)) event g e leading order h = no_event e
course_follows seed number (Ordering scripts.Over) event g e leading order h = no_event e
