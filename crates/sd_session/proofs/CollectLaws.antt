-- Which ticket a script collects: one that it waits with, which was given.
use Rattle.std.proofs.Common.{◌≡◌, ℕ, ◌<◌, Bool, true, false, List, Option, Some, None, refl, ap, subst}
use Rattle.sd_rules.specs.declared.keys.Key.{Key}
use Rattle.sd_rules.specs.declared.events.Event.{Event}
use Rattle.sd_rules.specs.declared.events.Event.TheVariants as events
use Rattle.sd_rules.specs.declared.scripts.Led.{Led}
use Rattle.sd_rules.specs.declared.scripts.LookupStage.{LookupStage}
use Rattle.sd_rules.specs.declared.scripts.LookupStage.TheVariants as stages
use Rattle.sd_rules.specs.declared.scripts.LoginStage.{LoginStage}
use Rattle.sd_rules.specs.declared.scripts.LoginStage.TheVariants as login_stages
use Rattle.sd_rules.specs.declared.tasks.Need.{Need}
use Rattle.sd_rules.specs.declared.tasks.Need.TheVariants as needs
use Rattle.sd_rules.specs.LoginScript.{LoginWords, login_need}
use Rattle.sd_rules.specs.Lookups.{lookup_need}
use Rattle.sd_rules.specs.Names.{AllNamed, stage_names}
use Rattle.sd_rules.specs.Scripts.{event_of, need_at}
use Rattle.sd_rules.specs.Steps.{Daemon}
use Rattle.sd_core.proofs.EventLaws.{AtStages, IfEvent}
use Rattle.sd_engine.specs.Courses.{Course, script_of}
use Rattle.sd_engine.specs.Names.{is_order}
use Rattle.sd_engine.proofs.CourseLaws.{course_law}
use Rattle.sd_session.specs.Desks.{MayCollect}
use Rattle.sd_session.specs.Spoken.{Spoken, IsSpoken}
use Rattle.sd_session.proofs.HoldingLaws.{untrue}

-- ---- what a script steps itself

abbrev is_collect : Event → Bool
is_collect (events.Collect ticket) = true
is_collect _ = false

pub may_collect : (d : Daemon) (event : Event) → is_collect event ≡ false → MayCollect d event
may_collect d (events.Collect ticket) h = let clash : ⊥ = cc in absurd clash
may_collect d _ h = tt

abbrev StepsNoCollect : Need → Event → Type 0
StepsNoCollect (needs.Step e) event = is_collect event ≡ false
StepsNoCollect _ event = Unit {0}

stage_uncollects : (key : Key) (stage : LookupStage) → IfEvent (lookup_need key stage) (StepsNoCollect (lookup_need key stage))
stage_uncollects key stages.Ask = refl
stage_uncollects key (stages.Wait ticket) = tt
stage_uncollects key (stages.Pick r) = refl
stage_uncollects key (stages.Search r server) = tt
stage_uncollects key (stages.Answer r a) = refl
stage_uncollects key (stages.Refuse r refusal) = refl
stage_uncollects key (stages.Fall r server why) = refl
stage_uncollects key (stages.Outage r) = refl

attempt_uncollects : (words : LoginWords) (dn : List ℕ) (stage : LoginStage) → IfEvent (login_need words dn stage) (StepsNoCollect (login_need words dn stage))
attempt_uncollects words dn login_stages.Open = refl
attempt_uncollects words dn (login_stages.Try a named right) = refl
attempt_uncollects words dn (login_stages.Pick a) = refl
attempt_uncollects words dn (login_stages.Bind a server) = tt
attempt_uncollects words dn (login_stages.Online a result) = refl
attempt_uncollects words dn (login_stages.Fall a server why) = refl
attempt_uncollects words dn (login_stages.Outage a) = refl
attempt_uncollects words dn login_stages.Look = refl
attempt_uncollects words dn (login_stages.Guess named right) = refl

order_uncollects : (order : Event) → is_order order ≡ true → is_collect order ≡ false
order_uncollects (events.Collect ticket) h = untrue h
order_uncollects _ h = refl

uncollecting : (d : Daemon) → AtStages (Spoken d) (λ key need event. StepsNoCollect need event)
uncollecting d = record { at_lookup = λ key stage led named. stage_uncollects key stage; at_login = attempt_uncollects; at_access = λ words. refl }

pub step_uncollects : (seed : List ℕ) (d : Daemon) (c : Course) (event : Event) → need_at (script_of seed c) ≡ needs.Step event → IsSpoken d c → is_collect event ≡ false
step_uncollects seed d c event needed known =
    subst (λ (n : Need). StepsNoCollect n event) needed (course_law (uncollecting d) order_uncollects seed c event (ap event_of needed) known.asked known.order)

-- ---- the ticket that is collected

abbrev IsBelow : Daemon → Option Key → Need → Event → Type 0
IsBelow d key need (events.Collect ticket) = ticket < d.next
IsBelow d key need _ = Unit {0}

stage_below : (d : Daemon) (key : Key) (stage : LookupStage) (led : List Led) → AllNamed (Spoken d) (stage_names key stage led) → IfEvent (lookup_need key stage) (IsBelow d (Some key) (lookup_need key stage))
stage_below d key stages.Ask led named = tt
stage_below d key (stages.Wait ticket) led named = named.0.below
stage_below d key (stages.Pick r) led named = tt
stage_below d key (stages.Search r server) led named = tt
stage_below d key (stages.Answer r a) led named = tt
stage_below d key (stages.Refuse r refusal) led named = tt
stage_below d key (stages.Fall r server why) led named = tt
stage_below d key (stages.Outage r) led named = tt

attempt_below : (d : Daemon) (words : LoginWords) (dn : List ℕ) (stage : LoginStage) → IfEvent (login_need words dn stage) (IsBelow d None (login_need words dn stage))
attempt_below d words dn login_stages.Open = tt
attempt_below d words dn (login_stages.Try a named right) = tt
attempt_below d words dn (login_stages.Pick a) = tt
attempt_below d words dn (login_stages.Bind a server) = tt
attempt_below d words dn (login_stages.Online a result) = tt
attempt_below d words dn (login_stages.Fall a server why) = tt
attempt_below d words dn (login_stages.Outage a) = tt
attempt_below d words dn login_stages.Look = tt
attempt_below d words dn (login_stages.Guess named right) = tt

order_below : (d : Daemon) (order : Event) → is_order order ≡ true → IsBelow d None (needs.Step order) order
order_below d (events.Collect ticket) h = untrue h
order_below d _ h = tt

being_below : (d : Daemon) → AtStages (Spoken d) (IsBelow d)
being_below d = record { at_lookup = stage_below d; at_login = attempt_below d; at_access = λ words. tt }

pub ticket_below : (seed : List ℕ) (d : Daemon) (c : Course) (ticket : ℕ) → event_of (need_at (script_of seed c)) ≡ Some (events.Collect ticket) → IsSpoken d c → ticket < d.next
ticket_below seed d c ticket needed known = course_law (being_below d) (order_below d) seed c (events.Collect ticket) needed known.asked known.order
