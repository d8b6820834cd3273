-- Two settlings are enough: after a move a client has ended or needs an event.
use Rattle.std.proofs.Common.{◌≡◌, ◌∙◌, ℕ, Bool, true, false, ◌||◌, ◌==◌, cond, List, [], ◌∷◌, Result, Ok, Err, refl, ap, sym, subst}
use Rattle.std.specs.Prelude.{OnOk}
use Rattle.sd_base.specs.declared.Memory.{Memory}
use Rattle.sd_rules.specs.declared.keys.Key.{Key}
use Rattle.sd_rules.specs.declared.keys.Key.TheVariants as keys
use Rattle.sd_rules.specs.declared.scripts.Led.{Led}
use Rattle.sd_rules.specs.declared.scripts.LookupCourse.{LookupCourse}
use Rattle.sd_rules.specs.declared.scripts.LookupCourse.TheVariants as lookups
use Rattle.sd_rules.specs.declared.scripts.LookupStage.{LookupStage}
use Rattle.sd_rules.specs.declared.scripts.LookupStage.TheVariants as stages
use Rattle.sd_rules.specs.declared.scripts.LoginStage.{LoginStage}
use Rattle.sd_rules.specs.declared.scripts.LoginStage.TheVariants as login_stages
use Rattle.sd_rules.specs.declared.tasks.Bound.{Bound}
use Rattle.sd_rules.specs.declared.tasks.Bound.TheVariants as bounds
use Rattle.sd_rules.specs.declared.tasks.Fetched.{Fetched}
use Rattle.sd_rules.specs.declared.tasks.Fetched.TheVariants as fetches
use Rattle.sd_rules.specs.declared.tasks.Need.{Need}
use Rattle.sd_rules.specs.declared.tasks.Need.TheVariants as needs
use Rattle.sd_rules.specs.AccessScript as checks
use Rattle.sd_rules.specs.AccessScript.{AccessWords, AccessCourse}
use Rattle.sd_rules.specs.Closings as closings
use Rattle.sd_rules.specs.Closings.{Closing}
use Rattle.sd_rules.specs.LoginScript as logins
use Rattle.sd_rules.specs.LoginScript.{LoginCourse, login_need, after_bind, after_code}
use Rattle.sd_rules.specs.Lookups.{lookup_need, after_search}
use Rattle.sd_rules.specs.Scripts.{need_at, awaits_reply, is_out_of_memory, is_bind_out_of_memory}
use Rattle.sd_world.specs.Clients.{Client, asked, is_end, is_settled, need_of}
use Rattle.sd_world.specs.Courses.{Course, LoginWords, LookingUp, LoggingIn, Checking, script_of, told, fetched, bound, with_hashing}
use Rattle.sd_world.specs.Tasks.{Site, fetched_at, bound_at, settled, settled_by}
use Rattle.sd_world.proofs.ServerLaws.{never_wanting, never_bound_wanting}

-- a task once its need was carried out, where that is no event
abbrev carried : Site → Course → Need → Course
carried s t (needs.Fetch server key) = fetched (told t) (fetched_at s server key)
carried s t (needs.Bind server dn password) = bound (told t) (bound_at s server dn password)
carried s t _ = told t

abbrev need_in : Course → Need
need_in t = need_at (script_of t)

abbrev carried_need : Site → Course → Need
carried_need s t = need_in (carried s t (need_in t))

-- an event, or nothing more
abbrev is_last : Need → Bool
is_last n = is_end n || awaits_reply n

-- ---- what a server gave is recorded by an event

or_second : (a b : Bool) → b ≡ true → (a || b) ≡ true
or_second true b h = refl
or_second false b h = h

search_recorded : (key : Key) (request server : ℕ) (f : Fetched) → is_out_of_memory f ≡ false → awaits_reply (lookup_need key (after_search request server f)) ≡ true
search_recorded key request server (fetches.Found found) h = refl
search_recorded key request server fetches.Absent h = refl
search_recorded key request server (fetches.Refused code) h = refl
search_recorded key request server (fetches.Many count) h = refl
search_recorded key request server (fetches.Failed why) h = refl
search_recorded key request server fetches.Memory h = cc

searched : (s : Site) (key : Key) (request server : ℕ) → awaits_reply (lookup_need key (after_search request server (fetched_at s server key))) ≡ true
searched s key request server = search_recorded key request server (fetched_at s server key) (never_wanting s server key)

either_recorded : (words : logins.LoginWords) (dn : List ℕ) (b : Bool) (x y : LoginStage) → awaits_reply (login_need words dn x) ≡ true → awaits_reply (login_need words dn y) ≡ true
    → awaits_reply (login_need words dn (cond b x y)) ≡ true
either_recorded words dn true x y f g = f
either_recorded words dn false x y f g = g

code_recorded : (words : logins.LoginWords) (dn : List ℕ) (attempt server code : ℕ) → awaits_reply (login_need words dn (after_code words attempt server code)) ≡ true
code_recorded words dn attempt server code =
    either_recorded words dn (code == 0) _ _ refl
    (either_recorded words dn (code == 49) _ _ refl (either_recorded words dn ((code == 51) || (code == 52)) _ _ refl refl))

bind_recorded : (words : logins.LoginWords) (dn : List ℕ) (attempt server : ℕ) (b : Bound) → is_bind_out_of_memory b ≡ false
    → awaits_reply (login_need words dn (after_bind words attempt server b)) ≡ true
bind_recorded words dn attempt server (bounds.Code code) h = code_recorded words dn attempt server code
bind_recorded words dn attempt server (bounds.Failed why) h = refl
bind_recorded words dn attempt server bounds.Memory h = cc

proved_at : (s : Site) (words : logins.LoginWords) (dn : List ℕ) (attempt server : ℕ) → awaits_reply (login_need words dn (after_bind words attempt server (bound_at s server dn words.password))) ≡ true
proved_at s words dn attempt server = bind_recorded words dn attempt server (bound_at s server dn words.password) (never_bound_wanting s server dn words.password)

-- ---- once: an event is needed, or nothing more

abbrev Once : Site → Course → Type 0
Once s t = is_last (carried_need s t) ≡ true

once_looking : (s : Site) (key : Key) (stage : LookupStage) → Once s (LookingUp key (lookups.Looking stage))
once_looking s key (stages.Search request server) = or_second _ _ (searched s key request server)
once_looking s key _ = refl

once_renewing : (s : Site) (key : Key) (stage : LookupStage) → Once s (LookingUp key (lookups.Renewing stage))
once_renewing s key (stages.Search request server) = or_second _ _ (searched s key request server)
once_renewing s key _ = refl

once_lookup : (s : Site) (key : Key) (course : LookupCourse) → Once s (LookingUp key course)
once_lookup s key (lookups.Looking stage) = once_looking s key stage
once_lookup s key (lookups.Saying said) = refl
once_lookup s key (lookups.SayingFirst said request) = refl
once_lookup s key (lookups.Renewing stage) = once_renewing s key stage
once_lookup s key lookups.Over = refl

once_finding : (s : Site) (words : LoginWords) (stage : LookupStage) → Once s (LoggingIn words (logins.Finding stage))
once_finding s words (stages.Search request server) = or_second _ _ (searched s (keys.User words.user) request server)
once_finding s words _ = refl

once_proving : (s : Site) (words : LoginWords) (dn : List ℕ) (led : List Led) (stage : LoginStage) → Once s (LoggingIn words (logins.Proving dn led stage))
once_proving s words dn led (login_stages.Bind attempt server) = or_second _ _ (proved_at s (with_hashing words) dn attempt server)
once_proving s words dn led _ = refl

once_login_renewing : (s : Site) (words : LoginWords) (key : Key) (stage : LookupStage) (led : List Led) → Once s (LoggingIn words (logins.Closed (closings.Renewing key stage led)))
once_login_renewing s words key (stages.Search request server) led = or_second _ _ (searched s key request server)
once_login_renewing s words key _ led = refl

once_login_told : (words : LoginWords) (led : List Led) → is_last (need_in (LoggingIn words (logins.Closed (closings.begun led)))) ≡ true
once_login_told words [] = refl
once_login_told words (first ∷ led) = refl

once_login_closed : (s : Site) (words : LoginWords) (closing : Closing) → Once s (LoggingIn words (logins.Closed closing))
once_login_closed s words (closings.Saying said led) = once_login_told words led
once_login_closed s words (closings.Renewing key stage led) = once_login_renewing s words key stage led
once_login_closed s words closings.Over = refl

once_login : (s : Site) (words : LoginWords) (course : LoginCourse) → Once s (LoggingIn words course)
once_login s words (logins.Finding stage) = once_finding s words stage
once_login s words (logins.Proving dn led stage) = once_proving s words dn led stage
once_login s words (logins.Closed closing) = once_login_closed s words closing

once_gathering : (s : Site) (words : AccessWords) (key : Key) (later : List Key) (led : List Led) (stage : LookupStage) → Once s (Checking words (checks.Gathering key later led stage))
once_gathering s words key later led (stages.Search request server) = or_second _ _ (searched s key request server)
once_gathering s words key later led _ = refl

once_check_renewing : (s : Site) (words : AccessWords) (key : Key) (stage : LookupStage) (led : List Led) → Once s (Checking words (checks.Closed (closings.Renewing key stage led)))
once_check_renewing s words key (stages.Search request server) led = or_second _ _ (searched s key request server)
once_check_renewing s words key _ led = refl

once_check_told : (words : AccessWords) (led : List Led) → is_last (need_in (Checking words (checks.Closed (closings.begun led)))) ≡ true
once_check_told words [] = refl
once_check_told words (first ∷ led) = refl

once_check : (s : Site) (words : AccessWords) (course : AccessCourse) → Once s (Checking words course)
once_check s words (checks.Gathering key later led stage) = once_gathering s words key later led stage
once_check s words (checks.Checking led) = refl
once_check s words (checks.Closed (closings.Saying said led)) = once_check_told words led
once_check s words (checks.Closed (closings.Renewing key stage led)) = once_check_renewing s words key stage led
once_check s words (checks.Closed closings.Over) = refl

once : (s : Site) (t : Course) → Once s t
once s (LookingUp key course) = once_lookup s key course
once s (LoggingIn words course) = once_login s words course
once s (Checking words course) = once_check s words course

-- ---- twice: nothing more was needed before, or an event is needed still

abbrev Twice : Site → Course → Type 0
Twice s t = is_last (need_in t) ≡ true → (is_end (need_in t) || awaits_reply (carried_need s t)) ≡ true

twice_lookup : (s : Site) (key : Key) (course : LookupCourse) → Twice s (LookingUp key course)
twice_lookup s key (lookups.Looking (stages.Search request server)) h = cc
twice_lookup s key (lookups.Looking stage) h = h
twice_lookup s key (lookups.Saying said) h = cc
twice_lookup s key (lookups.SayingFirst said request) h = cc
twice_lookup s key (lookups.Renewing (stages.Search request server)) h = cc
twice_lookup s key (lookups.Renewing stage) h = h
twice_lookup s key lookups.Over h = refl

twice_login : (s : Site) (words : LoginWords) (course : LoginCourse) → Twice s (LoggingIn words course)
twice_login s words (logins.Finding (stages.Search request server)) h = cc
twice_login s words (logins.Finding stage) h = h
twice_login s words (logins.Proving dn led (login_stages.Bind attempt server)) h = cc
twice_login s words (logins.Proving dn led stage) h = h
twice_login s words (logins.Closed (closings.Saying said led)) h = cc
twice_login s words (logins.Closed (closings.Renewing key (stages.Search request server) led)) h = cc
twice_login s words (logins.Closed (closings.Renewing key stage led)) h = h
twice_login s words (logins.Closed closings.Over) h = refl

twice_check : (s : Site) (words : AccessWords) (course : AccessCourse) → Twice s (Checking words course)
twice_check s words (checks.Gathering key later led (stages.Search request server)) h = cc
twice_check s words (checks.Gathering key later led stage) h = h
twice_check s words (checks.Checking led) h = refl
twice_check s words (checks.Closed (closings.Saying said led)) h = cc
twice_check s words (checks.Closed (closings.Renewing key (stages.Search request server) led)) h = cc
twice_check s words (checks.Closed (closings.Renewing key stage led)) h = h
twice_check s words (checks.Closed closings.Over) h = refl

twice : (s : Site) (t : Course) → Twice s t
twice s (LookingUp key course) = twice_lookup s key course
twice s (LoggingIn words course) = twice_login s words course
twice s (Checking words course) = twice_check s words course

-- ---- clients

task_carried : (s : Site) (number : ℕ) (c : Client) (printed : List ℕ) (n : Need) → (settled_by s number (asked c, printed) n).0.task ≡ carried s c.task n
task_carried s number c printed (needs.Fetch server key) = refl
task_carried s number c printed (needs.Bind server dn password) = refl
task_carried s number c printed _ = refl

over_carried : (s : Site) (number : ℕ) (c : Client) (printed : List ℕ) (n : Need) → (settled_by s number (asked c, printed) n).0.is_over ≡ (c.is_over || is_end (need_of c))
over_carried s number c printed (needs.Fetch server key) = refl
over_carried s number c printed (needs.Bind server dn password) = refl
over_carried s number c printed _ = refl

over_or : (o e a : Bool) → (e || a) ≡ true → ((o || e) || a) ≡ true
over_or true e a h = refl
over_or false e a h = h

last_after : (s : Site) (number : ℕ) (c : Client) (printed : List ℕ) → is_last (need_of (settled s number (c, printed)).0) ≡ true
last_after s number c printed =
    subst (λ (t : Course). is_last (need_in t) ≡ true) (sym (task_carried s number c printed (need_of c))) (once s c.task)

settled_after : (s : Site) (number : ℕ) (c : Client) (printed : List ℕ) → is_last (need_of c) ≡ true → is_settled (settled s number (c, printed)).0 ≡ true
settled_after s number c printed h =
    let new : Client = (settled s number (c, printed)).0 in
    let task : new.task ≡ carried s c.task (need_of c) = task_carried s number c printed (need_of c) in
    let over : new.is_over ≡ (c.is_over || is_end (need_of c)) = over_carried s number c printed (need_of c) in
    let known : ((c.is_over || is_end (need_of c)) || awaits_reply (need_in (carried s c.task (need_of c)))) ≡ true =
    over_or c.is_over (is_end (need_of c)) (awaits_reply (carried_need s c.task)) (twice s c.task h) in
    subst (λ (o : Bool). (o || awaits_reply (need_of new)) ≡ true) (sym over)
    (subst (λ (t : Course). ((c.is_over || is_end (need_of c)) || awaits_reply (need_in t)) ≡ true) (sym task) known)

-- whatever the client
pub twice_settled : (s : Site) (number : ℕ) (c : Client) (printed : List ℕ) → is_settled (settled s number (settled s number (c, printed))).0 ≡ true
twice_settled s number c printed =
    settled_after s number (settled s number (c, printed)).0 (settled s number (c, printed)).1 (last_after s number c printed)

-- and one that has ended stays so
over_stays : (o e : Bool) → o ≡ true → (o || e) ≡ true
over_stays true e h = refl
over_stays false e h = cc

over_once : (s : Site) (number : ℕ) (c : Client) (printed : List ℕ) → (c.is_over || is_end (need_of c)) ≡ true → (settled s number (c, printed)).0.is_over ≡ true
over_once s number c printed h = over_carried s number c printed (need_of c) ∙ h

pub over_twice : (s : Site) (number : ℕ) (c : Client) (printed : List ℕ) → (c.is_over || is_end (need_of c)) ≡ true
    → (settled s number (settled s number (c, printed))).0.is_over ≡ true
over_twice s number c printed h =
    over_once s number (settled s number (c, printed)).0 (settled s number (c, printed)).1
    (over_stays (settled s number (c, printed)).0.is_over (is_end (need_of (settled s number (c, printed)).0)) (over_once s number c printed h))

-- the same of settlings that may have lacked memory
pub settled_if : (s : Site) (number : ℕ) (c d : Client) (printed out : List ℕ) (r : Result (Unit {0}) Memory)
    → OnOk r (settled s number (settled s number (c, printed)) ≡ (d, out)) → OnOk r (is_settled d ≡ true)
settled_if s number c d printed out (Ok x) is = sym (ap (λ (p : Client × List ℕ). is_settled p.0) is) ∙ twice_settled s number c printed
settled_if s number c d printed out (Err e) is = tt
