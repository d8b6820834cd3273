-- A step that the engine named, and what it is told of it.
use Rattle.std.proofs.Common.{◌≡◌, ◌∙◌, ℕ, true, List, ◌∷◌, Option, Some, None, refl, sym, subst}
use Rattle.std.specs.Prelude.{IfSome}
use Rattle.sd_rules.specs.declared.events.Event.{Event}
use Rattle.sd_rules.specs.declared.replies.Given.{Given}
use Rattle.sd_rules.specs.Reaching.{Reaches}
use Rattle.sd_rules.specs.Scripts.{awaits_reply, fits_found, key_at}
use Rattle.sd_rules.specs.Steps.{Daemon, after, is_steppable}
use Rattle.sd_core.proofs.EventLaws.{event_awaits}
use Rattle.sd_core.proofs.NamesLaws.{named_on}
use Rattle.sd_conf.specs.declared.config.Config.{Config}
use Rattle.sd_engine.specs.Courses.{Client, Course, need_of, script_at, client_replied}
use Rattle.sd_engine.specs.Names.{names}
use Rattle.sd_desk.proofs.Reached as reached
use Rattle.sd_desk.proofs.Reached.{speaks_after, speaks_reached}
use Rattle.sd_engine.specs.declared.ending.SessionEnd.{SessionEnd}
use Rattle.sd_engine.specs.declared.ending.SessionEnd.TheVariants as ends
use Rattle.sd_engine.specs.Engines.{Engine, replied}
use Rattle.sd_session.specs.Sessions.{Company, Trace, Finds, Refuses, stand_after}
use Rattle.sd_session.specs.Spoken.{Spoken, IsSpoken, KeepsNamed}
use Rattle.sd_session.specs.Running.{LeadsOn, Outside, Awaits, Stands, GoesOn, EndsIn, Turned, TellsOf, tracing}
use Rattle.sd_session.specs.Stepping.{IsMade, IsRefused, IsWaited}
use Rattle.sd_session.proofs.SpokenLaws.{known_steppable, known_after, given_fits}
use Rattle.sd_session.proofs.Standing.{stands_steps, stands_waits}
use Rattle.sd_session.proofs.Ending.{ran_refused, ran_untold}

-- what others make of a daemon is reached from it
abbrev pub Far : Company → Type 0
Far w = (d e : Daemon) → w.others d e → Reaches d e

-- what a journal says of a request's names, each that it reaches says too
pub spoken_reached : (d e : Daemon) (c : Course) → Reaches d e → IsSpoken d c → IsSpoken e c
spoken_reached d e c to spoken = record {
  asked = named_on (Spoken d) (Spoken e) (λ n key speaks. speaks_reached n key d e speaks to) (names c) spoken.asked;
  order = spoken.order;
}

same_client : (o : Option Client) (a b : Client) → o ≡ Some a → o ≡ Some b → a ≡ b
same_client o a b e f = let same : Some a ≡ Some b = sym e ∙ f in cc

-- the event may be stepped over each journal that is reached
pub may_step : (daemon found : Daemon) (e : Engine) (event : Event) → Awaits daemon e event → Reaches daemon found → is_steppable found.past event ≡ true
may_step daemon found e event a to = reached.may_step daemon found event (known_steppable a.client.seed daemon a.client.course event a.needed a.kind a.known) to

-- its reply is awaited
pub is_awaited : (daemon : Daemon) (e : Engine) (event : Event) → Awaits daemon e event → (c : Client) → e.client ≡ Some c → awaits_reply (need_of c) ≡ true
is_awaited daemon e event a c is =
    subst (λ (x : Client). awaits_reply (need_of x) ≡ true) (same_client e.client a.client c a.is is) (event_awaits (need_of a.client) event a.needed)

-- and what the step gives fits it
pub fits : (w : Company) (daemon daemon' : Daemon) (e : Engine) (event : Event) (gave : Given) (before later : Trace) → Far w → Awaits daemon e event → IsMade w daemon event gave daemon' before later
    → (c : Client) → e.client ≡ Some c → fits_found (key_at (script_at c)) gave.found ≡ true
fits w daemon daemon' e event gave before later far a m c is =
    subst (λ (x : Client). fits_found (key_at (script_at x)) gave.found ≡ true) (same_client e.client a.client c a.is is)
    (given_fits a.client.seed m.found m.now a.client.course event gave m.gives a.needed (spoken_reached daemon m.found a.client.course (far daemon m.found m.others) a.known) m.kept m.fits)

-- the journal then says of what the request names what it names it for
pub speaks_on : (w : Company) (daemon daemon' : Daemon) (e : Engine) (event : Event) (gave : Given) (before later : Trace) → Far w → (a : Awaits daemon e event) → IsMade w daemon event gave daemon' before later
    → IsSpoken daemon' (client_replied a.client gave).course
speaks_on w daemon daemon' e event gave before later far a m =
    let keeps : KeepsNamed m.found (after m.found m.now event) = record { kept = m.kept; keeps = λ n key s. speaks_after n key m.found m.now event s } in
    subst (λ (x : Daemon). IsSpoken x (client_replied a.client gave).course) (sym m.made)
    (known_after a.client.seed m.found m.now a.client.course event gave m.gives a.needed keeps (spoken_reached daemon m.found a.client.course (far daemon m.found m.others) a.known))

pub carries_on : (w : Company) (seed : List ℕ) (config : Config) (o : Outside) (daemon daemon' : Daemon) (e f : Engine) (event : Event) (gave : Given) (trace trace' : Trace) → Far w → Awaits daemon e event
    → IsMade w daemon event gave daemon' trace trace' → IfSome e.client (λ c. f ≡ replied e c gave) → GoesOn w seed config e daemon (tracing o trace) f daemon' (tracing o trace')
carries_on w seed config o daemon daemon' e f event gave trace trace' far a m told = λ d before s.
    stands_steps w seed config d before e f daemon daemon' (tracing o trace) (tracing o trace') a.client event gave s a.is a.needed a.about_it m (far daemon m.found m.others) (may_step daemon m.found e event a (far daemon m.found m.others))
    (speaks_on w daemon daemon' e event gave trace trace' far a m) (subst (λ (x : Option Client). IfSome x (λ c. f ≡ replied e c gave)) a.is told) refl

pub carries_untold : (w : Company) (seed : List ℕ) (config : Config) (o : Outside) (daemon daemon' : Daemon) (e f : Engine) (event : Event) (gave : Given) (trace trace' : Trace) → Far w → Awaits daemon e event
    → IsMade w daemon event gave daemon' trace trace' → LeadsOn e gave f → EndsIn w seed config ends.Memory e daemon (tracing o trace) f daemon' (tracing o trace')
carries_untold w seed config o daemon daemon' e f event gave trace trace' far a m leads = λ d before s.
    ran_untold w seed config d before e f daemon daemon' (tracing o trace) (tracing o trace') a.client event gave s a.is a.needed a.about_it m (far daemon m.found m.others) (may_step daemon m.found e event a (far daemon m.found m.others)) leads refl

-- what is so besides the want of room, wherever the session stood before a step that was refused as full
abbrev pub Forgot : Company → List ℕ → Config → SessionEnd → Engine → Daemon → Outside → Daemon → Event → ℕ → Type 0
Forgot w seed config ending e daemon o daemon' event now =
    (d : Daemon) (before : Outside) (s : Stands w seed config d before e daemon o) (count : ℕ) → ending ≡ ends.JournalFull count → w.full (stand_after seed config d (Refuses now ∷ Finds daemon' ∷ s.moves)) event count

pub carries_refused : (w : Company) (seed : List ℕ) (config : Config) (o : Outside) (ending : SessionEnd) (daemon daemon' : Daemon) (e : Engine) (event : Event) (trace trace' : Trace) → Far w → Awaits daemon e event
    → (r : IsRefused w daemon event ending daemon' trace trace') → Forgot w seed config ending e daemon (tracing o trace) daemon' event r.now → EndsIn w seed config ending e daemon (tracing o trace) e daemon' (tracing o trace')
carries_refused w seed config o ending daemon daemon' e event trace trace' far a r forgot = λ d before s.
    ran_refused w seed config d before ending e daemon daemon' (tracing o trace) (tracing o trace') a.client event s a.is a.needed r (forgot d before s) (far daemon daemon' r.others) refl

-- where the engine was told of the step, or memory was wanting for it
pub told_turned : (w : Company) (seed : List ℕ) (config : Config) (o : Outside) (daemon daemon' : Daemon) (e f : Engine) (event : Event) (gave : Given) (trace trace' : Trace) (r : Option SessionEnd) → Far w → Awaits daemon e event
    → IsMade w daemon event gave daemon' trace trace' → TellsOf r e gave f → Turned w seed config r e daemon (tracing o trace) f daemon' (tracing o trace')
told_turned w seed config o daemon daemon' e f event gave trace trace' None far a m told = carries_on w seed config o daemon daemon' e f event gave trace trace' far a m told
told_turned w seed config o daemon daemon' e f event gave trace trace' (Some ending) far a m memory =
    subst (λ (end : SessionEnd). EndsIn w seed config end e daemon (tracing o trace) f daemon' (tracing o trace')) (sym memory.0)
    (carries_untold w seed config o daemon daemon' e f event gave trace trace' far a m memory.1)

-- ---- a step that is not made yet

pub awaits_on : (daemon daemon' : Daemon) (e : Engine) (event : Event) → Reaches daemon daemon' → Awaits daemon e event → Awaits daemon' e event
awaits_on daemon daemon' e event to a = record {
  client = a.client;
  is = a.is;
  needed = a.needed;
  kind = a.kind;
  known = spoken_reached daemon daemon' a.client.course to a.known;
  ready = a.ready;
  about_it = a.about_it;
}

pub carries_waiting : (w : Company) (seed : List ℕ) (config : Config) (o : Outside) (daemon daemon' : Daemon) (e : Engine) (event : Event) (trace trace' : Trace) → Far w → Awaits daemon e event
    → IsWaited w daemon daemon' trace trace' → GoesOn w seed config e daemon (tracing o trace) e daemon' (tracing o trace')
carries_waiting w seed config o daemon daemon' e event trace trace' far a r = λ d before s.
    stands_waits w seed config d before e daemon daemon' (tracing o trace) (tracing o trace') event s r (far daemon daemon' r.others)
    (λ c is. subst (λ (x : Client). IsSpoken daemon' x.course) (same_client e.client a.client c a.is is) (spoken_reached daemon daemon' a.client.course (far daemon daemon' r.others) a.known)) refl
