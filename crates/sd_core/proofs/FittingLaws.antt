-- What the step of a request's event gives fits the key that is looked up, and its event may be stepped.
use Rattle.std.proofs.Common.{◌≡◌, ℕ, Bool, true, false, ◌||◌, cond, not, List, Option, Some, None, refl, ap, sym, subst}
use Rattle.sd_rules.specs.declared.keys.Key.{Key}
use Rattle.sd_rules.specs.declared.records.Record.{Record}
use Rattle.sd_rules.specs.declared.records.Answered.{Answered}
use Rattle.sd_rules.specs.declared.events.Event.{Event}
use Rattle.sd_rules.specs.declared.events.Event.TheVariants as events
use Rattle.sd_rules.specs.declared.replies.Entry.{Entry}
use Rattle.sd_rules.specs.declared.replies.Reply.{Reply}
use Rattle.sd_rules.specs.declared.replies.Reply.TheVariants as replies
use Rattle.sd_rules.specs.declared.scripts.Led.{Led}
use Rattle.sd_rules.specs.declared.scripts.LookupStage.{LookupStage}
use Rattle.sd_rules.specs.declared.scripts.LookupStage.TheVariants as stages
use Rattle.sd_rules.specs.declared.scripts.LoginStage.{LoginStage}
use Rattle.sd_rules.specs.declared.scripts.LoginStage.TheVariants as login_stages
use Rattle.sd_rules.specs.declared.settings.Settings.{Settings}
use Rattle.sd_rules.specs.declared.tasks.Need.{Need}
use Rattle.sd_rules.specs.Keys.{is_answer_of_kind}
use Rattle.sd_rules.specs.LoginScript.{LoginWords, login_need}
use Rattle.sd_rules.specs.Lookups.{lookup_need, is_found_of_kind}
use Rattle.sd_rules.specs.Names.{AllNamed, stage_names}
use Rattle.sd_rules.specs.Past.{key_of}
use Rattle.sd_rules.specs.Requests.{is_open, is_open_request}
use Rattle.sd_rules.specs.Scripts.{fits_found, is_need_of_kind}
use Rattle.sd_rules.specs.Servers.{picked_server, was_picked}
use Rattle.sd_rules.specs.Steps.{Daemon, given, entry_made, moment_of, is_steppable, answers_kind, record_in, record_named, event_named, answer_named, reply_by_pick, reply_by_void, reply_to_answer, void_since}
use Rattle.sd_core.specs.Sound.{found_fits, fits_key, is_of_kind_of}
use Rattle.sd_core.proofs.EventLaws.{IfEvent, each_event, AtStages}
use Rattle.sd_core.proofs.LawProofs.{pick_law}

-- ---- the record that a step gives is of the key's kind

pub kind_as : (key : Key) (found : Option Record) → is_of_kind_of key found ≡ true → is_found_of_kind key found ≡ true
kind_as key None h = refl
kind_as key (Some found) h = h

pub fits_as : (own : Option Key) (key : Key) (found : Option Record) → own ≡ Some key → fits_key own found ≡ true → is_found_of_kind key found ≡ true
fits_as own key found e h = kind_as key found (subst (λ (o : Option Key). fits_key o found ≡ true) e h)

abbrev pub NamesNothing : Reply → Type 0
NamesNothing reply = answer_named reply ≡ None

pub none_fits : (past : List Entry) (key : Key) (reply : Reply) → NamesNothing reply → is_found_of_kind key (record_named past reply) ≡ true
none_fits past key reply h = ap (λ (n : Option ℕ). is_found_of_kind key (record_in (event_named past n))) h

server_named : (o : Option ℕ) → NamesNothing (reply_by_pick o)
server_named None = refl
server_named (Some server) = refl

void_named : (o : Option ℕ) → NamesNothing (reply_by_void o)
void_named None = refl
void_named (Some void) = refl

answer_to_named : (past : List Entry) (r : ℕ) (own : Option Key) (a : Answered) → NamesNothing (reply_to_answer past r own a)
answer_to_named past r None a = refl
answer_to_named past r (Some own) a = void_named (void_since past r own a)

pick_names_none : (s : Settings) (past : List Entry) (n t : ℕ) → NamesNothing (cond (is_open past n) (reply_by_pick (picked_server s past n t)) replies.NoRequest)
pick_names_none s past n t = pick_law NamesNothing (is_open past n) (reply_by_pick (picked_server s past n t)) replies.NoRequest (λ _. server_named (picked_server s past n t)) (λ _. refl)

answer_names_none : (past : List Entry) (r : ℕ) (a : Answered) → NamesNothing (cond (is_open_request past r) (reply_to_answer past r (key_of past r) a) replies.NoRequest)
answer_names_none past r a = pick_law NamesNothing (is_open_request past r) (reply_to_answer past r (key_of past r) a) replies.NoRequest (λ _. answer_to_named past r (key_of past r) a) (λ _. refl)

refuse_names_none : (past : List Entry) (r : ℕ) → NamesNothing (cond (is_open_request past r) replies.Closed replies.NoRequest)
refuse_names_none past r = pick_law NamesNothing (is_open_request past r) replies.Closed replies.NoRequest (λ _. refl) (λ _. refl)

noted_names_none : (past : List Entry) (n i : ℕ) → NamesNothing (cond (was_picked past n i) replies.Noted replies.NotPicked)
noted_names_none past n i = pick_law NamesNothing (was_picked past n i) replies.Noted replies.NotPicked (λ _. refl) (λ _. refl)

fall_names_none : (past : List Entry) (n i : ℕ) → NamesNothing (cond (is_open past n) (cond (was_picked past n i) replies.Noted replies.NotPicked) replies.NoRequest)
fall_names_none past n i = pick_law NamesNothing (is_open past n) (cond (was_picked past n i) replies.Noted replies.NotPicked) replies.NoRequest (λ _. noted_names_none past n i) (λ _. refl)

-- what a step gives for an event fits the key that a script looks up
abbrev pub Fits : Daemon → ℕ → Option Key → Event → Type 0
Fits d now key event = found_fits d.past event (given d now event).found ≡ true → fits_found key (given d now event).found ≡ true

-- what a ticket and an outage are given fits the key that the ticket, or the request, is named for
pub record FitsNamed (P : ℕ → Key → Type 0) (d : Daemon) (now : ℕ) : Type 0 where
  pub waited : (ticket : ℕ) (key : Key) → P ticket key → Fits d now (Some key) (events.Collect ticket)
  pub outage : (r : ℕ) (key : Key) → P r key → Fits d now (Some key) (events.Outage r)

stage_fits : {P : ℕ → Key → Type 0} (d : Daemon) (now : ℕ) → FitsNamed P d now → (key : Key) (stage : LookupStage) (led : List Led) → AllNamed P (stage_names key stage led) →
    IfEvent (lookup_need key stage) (Fits d now (Some key))
stage_fits d now fits key stages.Ask led named = λ h. kind_as key (given d now (events.Ask key)).found h
stage_fits d now fits key (stages.Wait ticket) led named = fits.waited ticket key named.0
stage_fits d now fits key (stages.Pick r) led named = λ _.
    none_fits d.past key (entry_made d now (events.Pick r)).reply (pick_names_none d.settings d.past r (moment_of d now))
stage_fits d now fits key (stages.Search r server) led named = tt
stage_fits d now fits key (stages.Answer r a) led named = λ _.
    none_fits d.past key (entry_made d now (events.Answer r a)).reply (answer_names_none d.past r a)
stage_fits d now fits key (stages.Refuse r refusal) led named = λ _.
    none_fits d.past key (entry_made d now (events.Refuse r refusal)).reply (refuse_names_none d.past r)
stage_fits d now fits key (stages.Fall r server why) led named = λ _.
    none_fits d.past key (entry_made d now (events.Fall r server why)).reply (fall_names_none d.past r server)
stage_fits d now fits key (stages.Outage r) led named = fits.outage r key named.0

abbrev pub FitsNeed : Daemon → ℕ → Option Key → Need → Event → Type 0
FitsNeed d now key need event = Fits d now key event

pub fits_at : {P : ℕ → Key → Type 0} (d : Daemon) (now : ℕ) → FitsNamed P d now → AtStages P (FitsNeed d now)
fits_at d now fits = record {
  at_lookup = stage_fits d now fits;
  at_login = λ words dn stage. each_event (login_need words dn stage) (Fits d now None) (λ event _. refl);
  at_access = λ words _. refl;
}

-- ---- the event may be stepped

-- any event but an answer and a kept row is stepped over each journal
abbrev pub is_always_stepped : Event → Bool
is_always_stepped (events.Answer r answered) = false
is_always_stepped (events.Kept row) = false
is_always_stepped _ = true

-- the event of a need may be stepped where the need is of the kind of the key that is looked up
abbrev pub MayStepNeed : (Event → Type 0) → Option Key → Need → Event → Type 0
MayStepNeed Y key need event = is_need_of_kind key need ≡ true → Y event

-- an answer of the kind of the key that its request is named for may be stepped too
pub record MayStepNamed (P : ℕ → Key → Type 0) (Y : Event → Type 0) : Type 0 where
  pub always : (event : Event) → is_always_stepped event ≡ true → Y event
  pub answer : (r : ℕ) (key : Key) (a : Answered) → P r key → is_answer_of_kind a key ≡ true → Y (events.Answer r a)

stage_may : {P : ℕ → Key → Type 0} {Y : Event → Type 0} → MayStepNamed P Y → (key : Key) (stage : LookupStage) (led : List Led) → AllNamed P (stage_names key stage led) →
    IfEvent (lookup_need key stage) (MayStepNeed Y (Some key) (lookup_need key stage))
stage_may may key stages.Ask led named = λ _. may.always (events.Ask key) refl
stage_may may key (stages.Wait ticket) led named = λ _. may.always (events.Collect ticket) refl
stage_may may key (stages.Pick r) led named = λ _. may.always (events.Pick r) refl
stage_may may key (stages.Search r server) led named = tt
stage_may may key (stages.Answer r a) led named = λ kind. may.answer r key a named.0 kind
stage_may may key (stages.Refuse r refusal) led named = λ _. may.always (events.Refuse r refusal) refl
stage_may may key (stages.Fall r server why) led named = λ _. may.always (events.Fall r server why) refl
stage_may may key (stages.Outage r) led named = λ _. may.always (events.Outage r) refl

proving_may : {P : ℕ → Key → Type 0} {Y : Event → Type 0} → MayStepNamed P Y → (words : LoginWords) (dn : List ℕ) (stage : LoginStage) →
    IfEvent (login_need words dn stage) (MayStepNeed Y None (login_need words dn stage))
proving_may may words dn login_stages.Open = λ _. may.always (events.LoginOpen words.user) refl
proving_may may words dn (login_stages.Try attempt named right) = λ _. may.always (events.LoginTry attempt named right) refl
proving_may may words dn (login_stages.Pick attempt) = λ _. may.always (events.Pick attempt) refl
proving_may may words dn (login_stages.Bind attempt server) = tt
proving_may may words dn (login_stages.Online attempt result) = λ _. may.always (events.LoginOnline attempt result) refl
proving_may may words dn (login_stages.Fall attempt server why) = λ _. may.always (events.Fall attempt server why) refl
proving_may may words dn (login_stages.Outage attempt) = λ _. may.always (events.Outage attempt) refl
proving_may may words dn login_stages.Look = λ _. may.always (events.LoginLook words.user) refl
proving_may may words dn (login_stages.Guess named right) = λ _. may.always (events.LoginGuess words.user named right) refl

pub may_at : {P : ℕ → Key → Type 0} {Y : Event → Type 0} → MayStepNamed P Y → AtStages P (MayStepNeed Y)
may_at may = record {
  at_lookup = stage_may may;
  at_login = proving_may may;
  at_access = λ words _. may.always (events.Access words.user words.service) refl;
}

-- so it is with a journal that has the keys of its open requests
abbrev pub Steppable : List Entry → Event → Type 0
Steppable past event = is_steppable past event ≡ true

steppable_always : (past : List Entry) (event : Event) → is_always_stepped event ≡ true → Steppable past event
steppable_always past (events.Answer r answered) h = cc
steppable_always past (events.Kept row) h = cc
steppable_always past _ h = refl

unless_open : (a b : Bool) → (a ≡ true → b ≡ true) → (not a || b) ≡ true
unless_open true b f = f refl
unless_open false b f = refl

answers_as : (own : Option Key) (key : Key) (a : Answered) → own ≡ Some key → is_answer_of_kind a key ≡ true → answers_kind own a ≡ true
answers_as own key a e h = subst (λ (o : Option Key). answers_kind o a ≡ true) (sym e) h

pub steppable_named : (P : ℕ → Key → Type 0) (past : List Entry) → ((r : ℕ) (key : Key) → P r key → is_open_request past r ≡ true → key_of past r ≡ Some key) →
    MayStepNamed P (Steppable past)
steppable_named P past known = record {
  always = steppable_always past;
  answer = λ r key a named kind. unless_open (is_open_request past r) (answers_kind (key_of past r) a) (λ open_yet. answers_as (key_of past r) key a (known r key named open_yet) kind);
}
