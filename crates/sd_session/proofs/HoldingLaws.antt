-- What a client's request goes on with after a reply: it leads what the reply opened, and lets go what the reply closed alone.
use Rattle.std.proofs.Common.{◌≡◌, ◌∙◌, ◌⊎◌, ℕ, Bool, true, false, ◌||◌, ◌==◌, List, ◌∷◌, Option, Some, None, refl, sym, ap, subst, inl, inr, arith}
use Rattle.std.proofs.lemmas.Bool.Decides.{nat_tests}
use Rattle.sd_base.specs.declared.Why.{Why}
use Rattle.sd_rules.specs.declared.keys.Key.{Key}
use Rattle.sd_rules.specs.declared.records.Record.{Record}
use Rattle.sd_rules.specs.declared.records.Answered.{Answered}
use Rattle.sd_rules.specs.declared.events.Event.{Event}
use Rattle.sd_rules.specs.declared.events.Event.TheVariants as events
use Rattle.sd_rules.specs.declared.events.Hash.{Hash}
use Rattle.sd_rules.specs.declared.events.LoginResult.{LoginResult}
use Rattle.sd_rules.specs.declared.events.Refusal.{Refusal}
use Rattle.sd_rules.specs.declared.replies.Given.{Given}
use Rattle.sd_rules.specs.declared.replies.Reply.{Reply}
use Rattle.sd_rules.specs.declared.replies.Reply.TheVariants as replies
use Rattle.sd_rules.specs.declared.replies.Verdict.{Verdict}
use Rattle.sd_rules.specs.declared.replies.Verdict.TheVariants as verdicts
use Rattle.sd_rules.specs.declared.scripts.LookupStage.{LookupStage}
use Rattle.sd_rules.specs.declared.scripts.LookupStage.TheVariants as stages
use Rattle.sd_rules.specs.declared.scripts.LookupStep.{LookupStep}
use Rattle.sd_rules.specs.declared.scripts.LookupStep.TheVariants as steps
use Rattle.sd_rules.specs.declared.scripts.LoginStage.{LoginStage}
use Rattle.sd_rules.specs.declared.scripts.LoginStage.TheVariants as login_stages
use Rattle.sd_rules.specs.declared.scripts.LoginStep.{LoginStep}
use Rattle.sd_rules.specs.declared.scripts.LoginStep.TheVariants as login_steps
use Rattle.sd_rules.specs.declared.tasks.Need.{Need}
use Rattle.sd_rules.specs.declared.tasks.Need.TheVariants as needs
use Rattle.sd_rules.specs.LoginScript.{LoginWords, login_need, login_replied, after_open, after_cached, after_try, after_login_pick, after_online, after_login_fall, after_login_outage, after_look, after_hash, after_guess, after_verdict}
use Rattle.sd_rules.specs.Lookups.{lookup_need, lookup_replied, after_ask, after_collect, after_pick, after_answer, after_refuse, after_fall, after_outage}
use Rattle.sd_rules.specs.Requests.{joined, opens_request, opens_attempt}
use Rattle.sd_rules.specs.Scripts.{event_of}
use Rattle.sd_forgetting.specs.Orderly.{is_ask}
use Rattle.sd_engine.specs.Leading.{about, opened, is_closing}
use Rattle.sd_session.specs.Holding.{lists, stage_leads, stage_waits, stage_attempt, is_leading}
use Rattle.sd_session.proofs.ClosingLaws.{IsAboutRequest, IsAboutAttempt, is_taking}
use Rattle.sd_session.proofs.ReplyKinds.{replies_as, answers_ask, answers_login, answers_pick, answers_fall, answers_answer, answers_close, answers_outage, answers_try, answers_collect, is_plain}

-- From the requests xs, the attempt a and the ticket w, an event and its reply lead to the requests ys, the attempt b and the ticket v.
pub record Follows (xs : List ℕ) (a w : Option ℕ) (event : Event) (reply : Reply) (ys : List ℕ) (b v : Option ℕ) : Type 0 where
  pub requests : (n : ℕ) → lists xs n ≡ true → (lists ys n ≡ true) ⊎ (IsAboutRequest event n × (is_closing reply ≡ true))
  pub attempts : (n : ℕ) → a ≡ Some n → (b ≡ Some n) ⊎ (IsAboutAttempt event n × (is_closing reply ≡ true))
  pub opens : (n : ℕ) → opened reply ≡ Some n → (lists ys n ≡ true) ⊎ (b ≡ Some n)
  pub fresh : (n : ℕ) → opened reply ≡ Some n → (opens_request event reply ≡ true) ⊎ (opens_attempt event reply ≡ true)
  pub waits : (t : ℕ) → w ≡ Some t → (v ≡ Some t) ⊎ ((event ≡ events.Collect t) × (is_taking reply ≡ true))
  pub taken : (t : ℕ) → is_taking reply ≡ true → w ≡ Some t → event ≡ events.Collect t
  pub joins : (r t : ℕ) → reply ≡ replies.Join r t → v ≡ Some t
  pub alone : (r t : ℕ) → reply ≡ replies.Join r t → w ≡ None
  pub asked : (r t : ℕ) → reply ≡ replies.Join r t → is_ask event ≡ true
  pub new_requests : (n : ℕ) → lists ys n ≡ true → (lists xs n ≡ true) ⊎ ((opens_request event reply ≡ true) × (opened reply ≡ Some n))
  pub new_attempts : (n : ℕ) → b ≡ Some n → (a ≡ Some n) ⊎ ((opens_attempt event reply ≡ true) × (opened reply ≡ Some n))
  pub named : (n : ℕ) → about event ≡ Some n → ((lists xs n ≡ true) × IsAboutRequest event n) ⊎ ((a ≡ Some n) × IsAboutAttempt event n)

-- ---- lists and options

none_is : {P : Type 0} {n : ℕ} → None ≡ Some n → P
none_is e = let clash : ⊥ = cc in absurd clash

same_in : (m n : ℕ) → Some m ≡ Some n → m ≡ n
same_in m n e = cc

pub untrue : {P : Type 0} → false ≡ true → P
untrue e = let clash : ⊥ = cc in absurd clash

either_or : (b c : Bool) (m n : ℕ) → (m == n) ≡ b → (b || c) ≡ true → (m ≡ n) ⊎ (c ≡ true)
either_or true c m n is h = inl (grind (arith, nat_tests, is))
either_or false c m n is h = inr h

head_or_rest : (m n : ℕ) (ms : List ℕ) → lists (m ∷ ms) n ≡ true → (m ≡ n) ⊎ (lists ms n ≡ true)
head_or_rest m n ms h = either_or (m == n) (lists ms n) m n refl h

true_first : (a b : Bool) → a ≡ true → (a || b) ≡ true
true_first true b h = refl
true_first false b h = let clash : ⊥ = cc in absurd clash

true_second : (a b : Bool) → b ≡ true → (a || b) ≡ true
true_second true b h = refl
true_second false b h = h

head_lists : (m n : ℕ) (ms : List ℕ) → m ≡ n → lists (m ∷ ms) n ≡ true
head_lists m n ms e = true_first (m == n) (lists ms n) (grind (arith, nat_tests, e))

rest_lists : (m n : ℕ) (ms : List ℕ) → lists ms n ≡ true → lists (m ∷ ms) n ≡ true
rest_lists m n ms h = true_second (m == n) (lists ms n) h

-- the same requests in another order
pub like : (xs : List ℕ) (a w : Option ℕ) (event : Event) (reply : Reply) (ys zs : List ℕ) (b c v u : Option ℕ) → ((n : ℕ) → lists zs n ≡ lists ys n) → c ≡ b → u ≡ v →
    Follows xs a w event reply ys b v → Follows xs a w event reply zs c u
like xs a w event reply ys zs b c v u same as_attempt as_ticket f = record {
  requests = λ n h. elim (f.requests n h) [
    | inl l ↦ inl (same n ∙ l)
    | inr l ↦ inr l
  ];
  attempts = λ n h. elim (f.attempts n h) [
    | inl l ↦ inl (as_attempt ∙ l)
    | inr l ↦ inr l
  ];
  opens = λ n h. elim (f.opens n h) [
    | inl l ↦ inl (same n ∙ l)
    | inr l ↦ inr (as_attempt ∙ l)
  ];
  fresh = f.fresh;
  waits = λ t h. elim (f.waits t h) [
    | inl l ↦ inl (as_ticket ∙ l)
    | inr l ↦ inr l
  ];
  taken = f.taken;
  joins = λ r t h. as_ticket ∙ f.joins r t h;
  alone = f.alone;
  asked = f.asked;
  new_requests = λ n h. f.new_requests n (sym (same n) ∙ h);
  new_attempts = λ n h. f.new_attempts n (sym as_attempt ∙ h);
  named = f.named;
}

-- ---- shapes of replies

joins_none : {P : Type 0} (reply : Reply) (r t : ℕ) → joined reply ≡ None → reply ≡ replies.Join r t → P
joins_none reply r t none is = none_is (sym none ∙ ap joined is)

opens_none : {P : Type 0} (reply : Reply) (n : ℕ) → opened reply ≡ None → opened reply ≡ Some n → P
opens_none reply n none is = none_is (sym none ∙ is)

-- the request of a lookup stays led
stays : (event : Event) (reply : Reply) (r : ℕ) (led : List ℕ) → about event ≡ Some r → ((n : ℕ) → r ≡ n → IsAboutRequest event n) → opened reply ≡ None → joined reply ≡ None → Follows (r ∷ led) None None event reply (r ∷ led) None None
stays event reply r led of is plain lone = record {
  requests = λ n h. inl h;
  attempts = λ n h. none_is h;
  opens = λ n h. opens_none reply n plain h;
  fresh = λ n h. opens_none reply n plain h;
  waits = λ t h. none_is h;
  taken = λ t k h. none_is h;
  joins = λ q t h. joins_none reply q t lone h;
  alone = λ q t h. refl;
  asked = λ q t h. joins_none reply q t lone h;
  new_requests = λ n h. inl h;
  new_attempts = λ n h. none_is h;
  named = λ n h. let same = same_in r n (sym of ∙ h) in inl (head_lists r n led same, is n same);
}

-- the request of a lookup is closed
ends : (event : Event) (reply : Reply) (r : ℕ) (led : List ℕ) → about event ≡ Some r → ((n : ℕ) → r ≡ n → IsAboutRequest event n) → is_closing reply ≡ true → opened reply ≡ None → joined reply ≡ None → Follows (r ∷ led) None None event reply led None None
ends event reply r led of is closing plain lone = record {
  requests = λ n h. elim (head_or_rest r n led h) [
    | inl same ↦ inr (is n same, closing)
    | inr rest ↦ inl rest
  ];
  attempts = λ n h. none_is h;
  opens = λ n h. opens_none reply n plain h;
  fresh = λ n h. opens_none reply n plain h;
  waits = λ t h. none_is h;
  taken = λ t k h. none_is h;
  joins = λ q t h. joins_none reply q t lone h;
  alone = λ q t h. refl;
  asked = λ q t h. joins_none reply q t lone h;
  new_requests = λ n h. inl (rest_lists r n led h);
  new_attempts = λ n h. none_is h;
  named = λ n h. let same = same_in r n (sym of ∙ h) in inl (head_lists r n led same, is n same);
}

-- nothing is opened or closed by an event that is about nothing
passes : (event : Event) (reply : Reply) (led : List ℕ) → about event ≡ None → opened reply ≡ None → joined reply ≡ None → Follows led None None event reply led None None
passes event reply led of plain lone = record {
  requests = λ n h. inl h;
  attempts = λ n h. none_is h;
  opens = λ n h. opens_none reply n plain h;
  fresh = λ n h. opens_none reply n plain h;
  waits = λ t h. none_is h;
  taken = λ t k h. none_is h;
  joins = λ q t h. joins_none reply q t lone h;
  alone = λ q t h. refl;
  asked = λ q t h. joins_none reply q t lone h;
  new_requests = λ n h. inl h;
  new_attempts = λ n h. none_is h;
  named = λ n h. none_is (sym of ∙ h);
}

-- a question leads
pub leads : (key : Key) (reply : Reply) (r : ℕ) (led : List ℕ) → opened reply ≡ Some r → opens_request (events.Ask key) reply ≡ true → joined reply ≡ None → Follows led None None (events.Ask key) reply (r ∷ led) None None
leads key reply r led is opening lone = record {
  requests = λ n h. inl (rest_lists r n led h);
  attempts = λ n h. none_is h;
  opens = λ n h. inl (head_lists r n led (same_in r n (sym is ∙ h)));
  fresh = λ n h. inl opening;
  waits = λ t h. none_is h;
  taken = λ t k h. none_is h;
  joins = λ q t h. joins_none reply q t lone h;
  alone = λ q t h. refl;
  asked = λ q t h. joins_none reply q t lone h;
  new_requests = λ n h. elim (head_or_rest r n led h) [
    | inl same ↦ inr (opening, is ∙ ap Some same)
    | inr rest ↦ inl rest
  ];
  new_attempts = λ n h. none_is h;
  named = λ n h. none_is h;
}

ticket_in : (r q t u : ℕ) → replies.Join r t ≡ replies.Join q u → t ≡ u
ticket_in r q t u e = cc

-- a question joins
waits_on : (key : Key) (r t : ℕ) (led : List ℕ) → Follows led None None (events.Ask key) (replies.Join r t) led None (Some t)
waits_on key r t led = record {
  requests = λ n h. inl h;
  attempts = λ n h. none_is h;
  opens = λ n h. none_is h;
  fresh = λ n h. none_is h;
  waits = λ u h. none_is h;
  taken = λ u k h. none_is h;
  joins = λ q u h. ap Some (ticket_in r q t u h);
  alone = λ q u h. refl;
  asked = λ q u h. refl;
  new_requests = λ n h. inl h;
  new_attempts = λ n h. none_is h;
  named = λ n h. none_is h;
}

still_waits : (ticket : ℕ) (reply : Reply) (led : List ℕ) → is_taking reply ≡ false → opened reply ≡ None → joined reply ≡ None → Follows led None (Some ticket) (events.Collect ticket) reply led None (Some ticket)
still_waits ticket reply led untaken plain lone = record {
  requests = λ n h. inl h;
  attempts = λ n h. none_is h;
  opens = λ n h. opens_none reply n plain h;
  fresh = λ n h. opens_none reply n plain h;
  waits = λ t h. inl h;
  taken = λ t k h. untrue (sym untaken ∙ k);
  joins = λ q t h. joins_none reply q t lone h;
  alone = λ q t h. joins_none reply q t lone h;
  asked = λ q t h. joins_none reply q t lone h;
  new_requests = λ n h. inl h;
  new_attempts = λ n h. none_is h;
  named = λ n h. none_is h;
}

takes : (ticket : ℕ) (reply : Reply) (led : List ℕ) → is_taking reply ≡ true → opened reply ≡ None → joined reply ≡ None → Follows led None (Some ticket) (events.Collect ticket) reply led None None
takes ticket reply led taken plain lone = record {
  requests = λ n h. inl h;
  attempts = λ n h. none_is h;
  opens = λ n h. opens_none reply n plain h;
  fresh = λ n h. opens_none reply n plain h;
  waits = λ t h. inr (ap events.Collect (same_in ticket t h), taken);
  taken = λ t k h. ap events.Collect (same_in ticket t h);
  joins = λ q t h. joins_none reply q t lone h;
  alone = λ q t h. joins_none reply q t lone h;
  asked = λ q t h. joins_none reply q t lone h;
  new_requests = λ n h. inl h;
  new_attempts = λ n h. none_is h;
  named = λ n h. none_is h;
}

-- ---- a stage of a lookup

abbrev pub step_leads : LookupStep → List ℕ → List ℕ
step_leads (steps.Next stage) led = stage_leads stage led
step_leads (steps.Ended said) led = led
step_leads (steps.Renew said request) led = request ∷ led

abbrev pub step_waits : LookupStep → Option ℕ
step_waits (steps.Next stage) = stage_waits stage
step_waits _ = None

asks : (key : Key) (number m : ℕ) (found : Option Record) (led : List ℕ) (reply : Reply) → answers_ask number reply ≡ true →
    Follows led None None (events.Ask key) reply (step_leads (after_ask m found reply) led) None (step_waits (after_ask m found reply))
asks key number m found led (replies.Lead r) h = leads key (replies.Lead r) r led refl refl refl
asks key number m found led (replies.Refresh n r) h = leads key (replies.Refresh n r) r led refl refl refl
asks key number m found led (replies.Join r t) h = waits_on key r t led
asks key number m found led (replies.Bind a) h = untrue h
asks key number m found led (replies.Cached a l) h = untrue h
asks key number m found led reply h = passes (events.Ask key) reply led refl refl refl

collects : (ticket m : ℕ) (found : Option Record) (led : List ℕ) (reply : Reply) → answers_collect reply ≡ true →
    Follows led None (Some ticket) (events.Collect ticket) reply (step_leads (after_collect ticket m found reply) led) None (step_waits (after_collect ticket m found reply))
collects ticket m found led (replies.NotYet r) h = still_waits ticket (replies.NotYet r) led refl refl refl
collects ticket m found led (replies.Took outcome) h = takes ticket (replies.Took outcome) led refl refl refl
collects ticket m found led replies.NoTicket h = takes ticket replies.NoTicket led refl refl refl
collects ticket m found led reply h = untrue h

picks : (r m : ℕ) (led : List ℕ) (reply : Reply) → answers_pick reply ≡ true →
    Follows (r ∷ led) None None (events.Pick r) reply (step_leads (after_pick r m reply) led) None (step_waits (after_pick r m reply))
picks r m led (replies.Server server) h = stays (events.Pick r) (replies.Server server) r led refl (λ n e. e) refl refl
picks r m led replies.NoServer h = stays (events.Pick r) replies.NoServer r led refl (λ n e. e) refl refl
picks r m led replies.NoRequest h = ends (events.Pick r) replies.NoRequest r led refl (λ n e. e) refl refl refl
picks r m led reply h = untrue h

answers : (r m : ℕ) (a : Answered) (led : List ℕ) (reply : Reply) → answers_answer reply ≡ true →
    Follows (r ∷ led) None None (events.Answer r a) reply (step_leads (after_answer r a m reply) led) None (step_waits (after_answer r a m reply))
answers r m a led replies.Closed h = ends (events.Answer r a) replies.Closed r led refl (λ n e. e) refl refl refl
answers r m a led (replies.Again void) h = stays (events.Answer r a) (replies.Again void) r led refl (λ n e. e) refl refl
answers r m a led replies.NoRequest h = ends (events.Answer r a) replies.NoRequest r led refl (λ n e. e) refl refl refl
answers r m a led reply h = untrue h

refuses : (r m : ℕ) (refusal : Refusal) (led : List ℕ) (reply : Reply) → answers_close reply ≡ true →
    Follows (r ∷ led) None None (events.Refuse r refusal) reply (step_leads (after_refuse refusal m reply) led) None (step_waits (after_refuse refusal m reply))
refuses r m refusal led replies.Closed h = ends (events.Refuse r refusal) replies.Closed r led refl (λ n e. e) refl refl refl
refuses r m refusal led replies.NoRequest h = ends (events.Refuse r refusal) replies.NoRequest r led refl (λ n e. e) refl refl refl
refuses r m refusal led reply h = untrue h

falls : (r m server : ℕ) (why : Why) (led : List ℕ) (reply : Reply) → answers_fall reply ≡ true →
    Follows (r ∷ led) None None (events.Fall r server why) reply (step_leads (after_fall r m reply) led) None (step_waits (after_fall r m reply))
falls r m server why led replies.Noted h = stays (events.Fall r server why) replies.Noted r led refl (λ n e. e) refl refl
falls r m server why led replies.NotPicked h = stays (events.Fall r server why) replies.NotPicked r led refl (λ n e. e) refl refl
falls r m server why led replies.NoRequest h = ends (events.Fall r server why) replies.NoRequest r led refl (λ n e. e) refl refl refl
falls r m server why led reply h = untrue h

outages : (r m : ℕ) (found : Option Record) (led : List ℕ) (reply : Reply) → answers_outage reply ≡ true →
    Follows (r ∷ led) None None (events.Outage r) reply (step_leads (after_outage r m found reply) led) None (step_waits (after_outage r m found reply))
outages r m found led (replies.Servable server) h = stays (events.Outage r) (replies.Servable server) r led refl (λ n e. e) refl refl
outages r m found led (replies.Shut outcome) h = ends (events.Outage r) (replies.Shut outcome) r led refl (λ n e. e) refl refl refl
outages r m found led replies.Closed h = ends (events.Outage r) replies.Closed r led refl (λ n e. e) refl refl refl
outages r m found led replies.NoRequest h = ends (events.Outage r) replies.NoRequest r led refl (λ n e. e) refl refl refl
outages r m found led reply h = untrue h

-- what is said of the event of a need, where it has one
abbrev ForEvent : Need → (Event → Type 0) → Type 0
ForEvent (needs.Step event) P = P event
ForEvent (needs.Await ticket) P = P (events.Collect ticket)
ForEvent _ P = Unit {0}

for_event : (n : Need) (event : Event) (P : Event → Type 0) → event_of n ≡ Some event → ForEvent n P → P event
for_event (needs.Step e) event P h p = let same : e ≡ event = cc in subst P same p
for_event (needs.Await ticket) event P h p = let same : events.Collect ticket ≡ event = cc in subst P same p
for_event (needs.Fetch server key) event P h p = let clash : ⊥ = cc in absurd clash
for_event (needs.Bind server dn password) event P h p = let clash : ⊥ = cc in absurd clash
for_event (needs.Say said) event P h p = let clash : ⊥ = cc in absurd clash
for_event needs.End event P h p = let clash : ⊥ = cc in absurd clash

abbrev StageFollows : ℕ → LookupStage → List ℕ → Given → Event → Type 0
StageFollows number stage led g event =
    replies_as number event g.reply ≡ true → Follows (stage_leads stage led) None (stage_waits stage) event g.reply (step_leads (lookup_replied stage g) led) None (step_waits (lookup_replied stage g))

stage_needs : (number : ℕ) (key : Key) (stage : LookupStage) (led : List ℕ) (g : Given) → ForEvent (lookup_need key stage) (StageFollows number stage led g)
stage_needs number key stages.Ask led g = λ h. asks key number g.number g.found led g.reply h
stage_needs number key (stages.Wait ticket) led g = λ h. collects ticket g.number g.found led g.reply h
stage_needs number key (stages.Pick r) led g = λ h. picks r g.number led g.reply h
stage_needs number key (stages.Search r server) led g = tt
stage_needs number key (stages.Answer r a) led g = λ h. answers r g.number a led g.reply h
stage_needs number key (stages.Refuse r refusal) led g = λ h. refuses r g.number refusal led g.reply h
stage_needs number key (stages.Fall r server why) led g = λ h. falls r g.number server why led g.reply h
stage_needs number key (stages.Outage r) led g = λ h. outages r g.number g.found led g.reply h

pub stage_follows : (number : ℕ) (key : Key) (stage : LookupStage) (led : List ℕ) (event : Event) (g : Given) → event_of (lookup_need key stage) ≡ Some event → StageFollows number stage led g event
stage_follows number key stage led event g e = for_event (lookup_need key stage) event (StageFollows number stage led g) e (stage_needs number key stage led g)

-- a lookup that leads goes on leading, or ends
abbrev pub step_is_leading : LookupStep → Bool
step_is_leading (steps.Next stage) = is_leading stage
step_is_leading (steps.Ended said) = true
step_is_leading (steps.Renew said request) = false

picked_leads : (r m : ℕ) (reply : Reply) → step_is_leading (after_pick r m reply) ≡ true
picked_leads r m (replies.Server server) = refl
picked_leads r m replies.NoServer = refl
picked_leads r m _ = refl

answered_leads : (r m : ℕ) (a : Answered) (reply : Reply) → step_is_leading (after_answer r a m reply) ≡ true
answered_leads r m a replies.Closed = refl
answered_leads r m a (replies.Again void) = refl
answered_leads r m a _ = refl

refused_leads : (m : ℕ) (refusal : Refusal) (reply : Reply) → step_is_leading (after_refuse refusal m reply) ≡ true
refused_leads m refusal replies.Closed = refl
refused_leads m refusal _ = refl

fallen_leads : (r m : ℕ) (reply : Reply) → step_is_leading (after_fall r m reply) ≡ true
fallen_leads r m replies.Noted = refl
fallen_leads r m replies.NotPicked = refl
fallen_leads r m _ = refl

outage_leads : (r m : ℕ) (found : Option Record) (reply : Reply) → step_is_leading (after_outage r m found reply) ≡ true
outage_leads r m found (replies.Servable server) = refl
outage_leads r m found (replies.Shut outcome) = refl
outage_leads r m found _ = refl

pub leading_on : (stage : LookupStage) (g : Given) → is_leading stage ≡ true → step_is_leading (lookup_replied stage g) ≡ true
leading_on stages.Ask g h = untrue h
leading_on (stages.Wait ticket) g h = untrue h
leading_on (stages.Pick r) g h = picked_leads r g.number g.reply
leading_on (stages.Search r server) g h = refl
leading_on (stages.Answer r a) g h = answered_leads r g.number a g.reply
leading_on (stages.Refuse r refusal) g h = refused_leads g.number refusal g.reply
leading_on (stages.Fall r server why) g h = fallen_leads r g.number g.reply
leading_on (stages.Outage r) g h = outage_leads r g.number g.found g.reply

-- ---- a stage of a login

attempt_stays : (event : Event) (reply : Reply) (a : ℕ) (led : List ℕ) → about event ≡ Some a → ((n : ℕ) → a ≡ n → IsAboutAttempt event n) → opened reply ≡ None → joined reply ≡ None → Follows led (Some a) None event reply led (Some a) None
attempt_stays event reply a led of is plain lone = record {
  requests = λ n h. inl h;
  attempts = λ n h. inl h;
  opens = λ n h. opens_none reply n plain h;
  fresh = λ n h. opens_none reply n plain h;
  waits = λ t h. none_is h;
  taken = λ t k h. none_is h;
  joins = λ q t h. joins_none reply q t lone h;
  alone = λ q t h. refl;
  asked = λ q t h. joins_none reply q t lone h;
  new_requests = λ n h. inl h;
  new_attempts = λ n h. inl h;
  named = λ n h. let same = same_in a n (sym of ∙ h) in inr (ap Some same, is n same);
}

attempt_ends : (event : Event) (reply : Reply) (a : ℕ) (led : List ℕ) → about event ≡ Some a → ((n : ℕ) → a ≡ n → IsAboutAttempt event n) → is_closing reply ≡ true → opened reply ≡ None → joined reply ≡ None → Follows led (Some a) None event reply led None None
attempt_ends event reply a led of is closing plain lone = record {
  requests = λ n h. inl h;
  attempts = λ n h. inr (is n (same_in a n h), closing);
  opens = λ n h. opens_none reply n plain h;
  fresh = λ n h. opens_none reply n plain h;
  waits = λ t h. none_is h;
  taken = λ t k h. none_is h;
  joins = λ q t h. joins_none reply q t lone h;
  alone = λ q t h. refl;
  asked = λ q t h. joins_none reply q t lone h;
  new_requests = λ n h. inl h;
  new_attempts = λ n h. none_is h;
  named = λ n h. let same = same_in a n (sym of ∙ h) in inr (ap Some same, is n same);
}

attempt_opens : (user : List ℕ) (reply : Reply) (a : ℕ) (led : List ℕ) → opened reply ≡ Some a → opens_attempt (events.LoginOpen user) reply ≡ true → joined reply ≡ None → Follows led None None (events.LoginOpen user) reply led (Some a) None
attempt_opens user reply a led is opening lone = record {
  requests = λ n h. inl h;
  attempts = λ n h. none_is h;
  opens = λ n h. inr (sym is ∙ h);
  fresh = λ n h. inr opening;
  waits = λ t h. none_is h;
  taken = λ t k h. none_is h;
  joins = λ q t h. joins_none reply q t lone h;
  alone = λ q t h. refl;
  asked = λ q t h. joins_none reply q t lone h;
  new_requests = λ n h. inl h;
  new_attempts = λ n h. inr (opening, is ∙ h);
  named = λ n h. none_is h;
}

abbrev pub step_attempt : LoginStep → Option ℕ
step_attempt (login_steps.Next stage) = stage_attempt stage
step_attempt (login_steps.Ended said) = None

plain_opens : (reply : Reply) → is_plain reply ≡ true → opened reply ≡ None
plain_opens (replies.Lead r) h = untrue h
plain_opens (replies.Refresh n r) h = untrue h
plain_opens (replies.Bind a) h = untrue h
plain_opens (replies.Cached a l) h = untrue h
plain_opens _ h = refl

plain_joins : (reply : Reply) → is_plain reply ≡ true → joined reply ≡ None
plain_joins (replies.Join r t) h = untrue h
plain_joins _ h = refl

-- an event that is about nothing, and a plain reply
pub plainly : (event : Event) (reply : Reply) (led : List ℕ) → about event ≡ None → is_plain reply ≡ true → Follows led None None event reply led None None
plainly event reply led of h = passes event reply led of (plain_opens reply h) (plain_joins reply h)

as_attempt : (xs : List ℕ) (a : Option ℕ) (event : Event) (reply : Reply) (b c : Option ℕ) → c ≡ b → Follows xs a None event reply xs b None → Follows xs a None event reply xs c None
as_attempt xs a event reply b c same f = like xs a None event reply xs xs b c None None (λ n. refl) same refl f

cached_attempt : (words : LoginWords) (a named : ℕ) (hash : Option Hash) → step_attempt (after_cached words a named hash) ≡ Some a
cached_attempt words a named None = refl
cached_attempt words a named (Some hash) = refl

opens_login : (words : LoginWords) (number m : ℕ) (hash : Option Hash) (led : List ℕ) (reply : Reply) → answers_login number reply ≡ true →
    Follows led None None (events.LoginOpen words.user) reply led (step_attempt (after_open words m hash reply)) None
opens_login words number m hash led (replies.Offline outage) h = passes (events.LoginOpen words.user) (replies.Offline outage) led refl refl refl
opens_login words number m hash led (replies.Cached a named) h =
    as_attempt led None (events.LoginOpen words.user) (replies.Cached a named) (Some a) (step_attempt (after_cached words a named hash)) (cached_attempt words a named hash)
    (attempt_opens words.user (replies.Cached a named) a led refl refl refl)
opens_login words number m hash led (replies.Bind a) h = attempt_opens words.user (replies.Bind a) a led refl refl refl
opens_login words number m hash led reply h = untrue h

tries_by : (a m named : ℕ) (right : Bool) (led : List ℕ) (verdict : Verdict) →
    Follows led (Some a) None (events.LoginTry a named right) (replies.Tried verdict) led (step_attempt (after_try a m (replies.Tried verdict))) None
tries_by a m named right led verdicts.Accepted = attempt_ends (events.LoginTry a named right) (replies.Tried verdicts.Accepted) a led refl (λ n e. e) refl refl refl
tries_by a m named right led verdict = attempt_stays (events.LoginTry a named right) (replies.Tried verdict) a led refl (λ n e. e) refl refl

tries : (a m named : ℕ) (right : Bool) (led : List ℕ) (reply : Reply) → answers_try reply ≡ true →
    Follows led (Some a) None (events.LoginTry a named right) reply led (step_attempt (after_try a m reply)) None
tries a m named right led (replies.Tried verdict) h = tries_by a m named right led verdict
tries a m named right led replies.NoRequest h = attempt_ends (events.LoginTry a named right) replies.NoRequest a led refl (λ n e. e) refl refl refl
tries a m named right led reply h = untrue h

login_picks : (a m : ℕ) (led : List ℕ) (reply : Reply) → answers_pick reply ≡ true →
    Follows led (Some a) None (events.Pick a) reply led (step_attempt (after_login_pick a m reply)) None
login_picks a m led (replies.Server server) h = attempt_stays (events.Pick a) (replies.Server server) a led refl (λ n e. e) refl refl
login_picks a m led replies.NoServer h = attempt_stays (events.Pick a) replies.NoServer a led refl (λ n e. e) refl refl
login_picks a m led replies.NoRequest h = attempt_ends (events.Pick a) replies.NoRequest a led refl (λ n e. e) refl refl refl
login_picks a m led reply h = untrue h

onlines : (a m : ℕ) (result : LoginResult) (led : List ℕ) (reply : Reply) → answers_close reply ≡ true →
    Follows led (Some a) None (events.LoginOnline a result) reply led (step_attempt (after_online result m reply)) None
onlines a m result led replies.Closed h = attempt_ends (events.LoginOnline a result) replies.Closed a led refl (λ n e. e) refl refl refl
onlines a m result led replies.NoRequest h = attempt_ends (events.LoginOnline a result) replies.NoRequest a led refl (λ n e. e) refl refl refl
onlines a m result led reply h = untrue h

login_falls : (a m server : ℕ) (why : Why) (led : List ℕ) (reply : Reply) → answers_fall reply ≡ true →
    Follows led (Some a) None (events.Fall a server why) reply led (step_attempt (after_login_fall a m reply)) None
login_falls a m server why led replies.Noted h = attempt_stays (events.Fall a server why) replies.Noted a led refl (λ n e. e) refl refl
login_falls a m server why led replies.NotPicked h = attempt_stays (events.Fall a server why) replies.NotPicked a led refl (λ n e. e) refl refl
login_falls a m server why led replies.NoRequest h = attempt_ends (events.Fall a server why) replies.NoRequest a led refl (λ n e. e) refl refl refl
login_falls a m server why led reply h = untrue h

login_outages : (a m : ℕ) (led : List ℕ) (reply : Reply) → answers_outage reply ≡ true →
    Follows led (Some a) None (events.Outage a) reply led (step_attempt (after_login_outage a m reply)) None
login_outages a m led (replies.Servable server) h = attempt_stays (events.Outage a) (replies.Servable server) a led refl (λ n e. e) refl refl
login_outages a m led (replies.Shut outcome) h = attempt_ends (events.Outage a) (replies.Shut outcome) a led refl (λ n e. e) refl refl refl
login_outages a m led replies.Closed h = attempt_ends (events.Outage a) replies.Closed a led refl (λ n e. e) refl refl refl
login_outages a m led replies.NoRequest h = attempt_ends (events.Outage a) replies.NoRequest a led refl (λ n e. e) refl refl refl
login_outages a m led reply h = untrue h

hash_attempt : (words : LoginWords) (m named : ℕ) (hash : Option Hash) → step_attempt (after_hash words m named hash) ≡ None
hash_attempt words m named None = refl
hash_attempt words m named (Some hash) = refl

look_attempt : (words : LoginWords) (m : ℕ) (hash : Option Hash) (reply : Reply) → step_attempt (after_look words m hash reply) ≡ None
look_attempt words m hash replies.NoHash = refl
look_attempt words m hash (replies.Hash named) = hash_attempt words m named hash
look_attempt words m hash _ = refl

verdict_attempt : (m : ℕ) (verdict : Verdict) → step_attempt (after_verdict m verdict) ≡ None
verdict_attempt m verdicts.Unknown = refl
verdict_attempt m (verdicts.Expired moment) = refl
verdict_attempt m (verdicts.Blocked until) = refl
verdict_attempt m (verdicts.Stale newest) = refl
verdict_attempt m verdicts.Accepted = refl
verdict_attempt m verdicts.Wrong = refl

guess_attempt : (m : ℕ) (reply : Reply) → step_attempt (after_guess m reply) ≡ None
guess_attempt m (replies.Judged verdict) = verdict_attempt m verdict
guess_attempt m _ = refl

abbrev AttemptFollows : ℕ → LoginWords → LoginStage → List ℕ → Given → Event → Type 0
AttemptFollows number words stage led g event =
    replies_as number event g.reply ≡ true → Follows led (stage_attempt stage) None event g.reply led (step_attempt (login_replied words stage g)) None

attempt_needs : (number : ℕ) (words : LoginWords) (dn : List ℕ) (stage : LoginStage) (led : List ℕ) (g : Given) → ForEvent (login_need words dn stage) (AttemptFollows number words stage led g)
attempt_needs number words dn login_stages.Open led g = λ h. opens_login words number g.number g.hash led g.reply h
attempt_needs number words dn (login_stages.Try a named right) led g = λ h. tries a g.number named right led g.reply h
attempt_needs number words dn (login_stages.Pick a) led g = λ h. login_picks a g.number led g.reply h
attempt_needs number words dn (login_stages.Bind a server) led g = tt
attempt_needs number words dn (login_stages.Online a result) led g = λ h. onlines a g.number result led g.reply h
attempt_needs number words dn (login_stages.Fall a server why) led g = λ h. login_falls a g.number server why led g.reply h
attempt_needs number words dn (login_stages.Outage a) led g = λ h. login_outages a g.number led g.reply h
attempt_needs number words dn login_stages.Look led g = λ h.
    as_attempt led None (events.LoginLook words.user) g.reply None (step_attempt (after_look words g.number g.hash g.reply)) (look_attempt words g.number g.hash g.reply)
    (plainly (events.LoginLook words.user) g.reply led refl h)
attempt_needs number words dn (login_stages.Guess named right) led g = λ h.
    as_attempt led None (events.LoginGuess words.user named right) g.reply None (step_attempt (after_guess g.number g.reply)) (guess_attempt g.number g.reply)
    (plainly (events.LoginGuess words.user named right) g.reply led refl h)

pub attempt_follows : (number : ℕ) (words : LoginWords) (dn : List ℕ) (stage : LoginStage) (led : List ℕ) (event : Event) (g : Given) → event_of (login_need words dn stage) ≡ Some event → AttemptFollows number words stage led g event
attempt_follows number words dn stage led event g e = for_event (login_need words dn stage) event (AttemptFollows number words stage led g) e (attempt_needs number words dn stage led g)
