-- What a step under the turn says of the front before the turn was taken.
use Rattle.std.proofs.Common.{◌≡◌, ℕ, Bool, true, false, List, [], ◌∷◌, ◌<◌, arith, sym, ap, subst, refl, ◌∙◌}
use Rattle.std.specs.Prelude.{Result, Ok, Err, IfOk, IsOk, OnOk, OnErr, reverse, Option, Some, None, not, ◌&&◌, ◌||◌, if◌then◌else◌}
use Rattle.sd_turn.specs.declared.view.History.{History}
use Rattle.sd_turn.specs.Histories.{with_entry}
use Rattle.sd_rules.specs.declared.events.Event.TheVariants.{Collect}
use Rattle.sd_rules.specs.declared.replies.Outcome.{Outcome}
use Rattle.sd_rules.specs.declared.replies.Reply.TheVariants as replies
use Rattle.sd_rules.specs.declared.replies.StepFault.{StepFault}
use Rattle.sd_rules.specs.declared.replies.StepFault.TheVariants as steps
use Rattle.sd_rules.specs.declared.events.Event.{Event}
use Rattle.sd_rules.specs.declared.replies.Entry.{Entry}
use Rattle.sd_rules.specs.declared.replies.Given.{Given}
use Rattle.sd_rules.specs.declared.replies.Refused.{Refused}
use Rattle.sd_base.specs.declared.Memory.{Memory}
use Rattle.sd_rules.specs.Needed.{forgotten}
use Rattle.sd_rules.specs.Reaching.{Reaches, after_forget}
use Rattle.sd_rules.specs.Requests.{waits_for, is_open_request, outcome_of, is_took}
use Rattle.sd_rules.specs.Steps.{Daemon, entry_made, after, reply_to_collect, lacks_places, lacks_text, lacks_numbers}
use Rattle.sd_core.specs.declared.cores.Look.TheVariants.{Running, Closed}
use Rattle.sd_core.specs.Laws.{IsKept}
use Rattle.sd_core.specs.Looks.{look_by, look_of}
use Rattle.sd_core.specs.Sound.{IsSound}
use Rattle.sd_core.proofs.Room.{next_is_above}
use Rattle.sd_desk.specs.declared.refusals.CollectFault.{CollectFault}
use Rattle.sd_desk.specs.declared.refusals.CollectFault.TheVariants as collect
use Rattle.sd_desk.specs.Faults.{collect_fault}
use Rattle.sd_desk.specs.Journals.{history_of}
use Rattle.sd_desk.specs.Steps.{MadeOver, MadeEntry, Forgot, WasFull, IsPending}
use Rattle.sd_desk.proofs.Journals.{history_more}

pub made_at : (old before new : Daemon) (first between last : List Entry) (now : ℕ) (event : Event) (g : Given) → Reaches old before → between ≡ first →
    MadeOver before new between last now event g → MadeEntry old new first last now event g
made_at old before new first between last now event g reached same made =
    record { before = before; reached = reached; made = subst (λ (es : List Entry). MadeOver before new es last now event g) same made }

pub made_entry : (old before new : Daemon) (first between last : List Entry) (now : ℕ) (event : Event) (r : Result Given Refused) → Reaches old before → between ≡ first →
    IfOk r (λ g. MadeOver before new between last now event g) → IfOk r (λ g. MadeEntry old new first last now event g)
made_entry old before new first between last now event (Ok g) reached same made = made_at old before new first between last now event g reached same made
made_entry old before new first between last now event (Err refused) reached same made = tt

-- the entry that the core made ends the history that the seat took
pub ends_with : (before later : Daemon) (now : ℕ) (event : Event) (h : History Entry) → IsKept before → later ≡ after before now event → h ≡ history_of before →
    history_of later ≡ with_entry h (entry_made before now event)
ends_with before later now event h kept made is =
    let e = entry_made before now event in
    let n : e.number ≡ before.next = next_is_above before.next before.past kept.numbers in
    ap history_of made ∙ (history_more before e n ∙ ap (λ (k : History Entry). with_entry k e) (sym is))

pub grown_by : (before later : Daemon) (now : ℕ) (event : Event) (h : History Entry) → IsKept before → later ≡ after before now event → h ≡ history_of before →
    (x : Entry) × (history_of later ≡ with_entry h x) × (x.number ≡ h.next)
grown_by before later now event h kept made is =
    let e = entry_made before now event in
    let n : e.number ≡ before.next = next_is_above before.next before.past kept.numbers in
    (e, ends_with before later now event h kept made is, n ∙ ap (λ (k : History Entry). k.next) (sym is))

open_runs : (b : Bool) (r : ℕ) → b ≡ true → (if b then Running r else Closed) ≡ Running r
open_runs true r h = refl
open_runs false r h = let clash : ⊥ = cc in absurd clash

-- a ticket whose request is open is seen to wait for it
pub pending_runs : (past : List Entry) (ticket r : ℕ) → IsPending past ticket r → look_of past ticket ≡ Running r
pending_runs past ticket r p = ap (look_by past) p.waits ∙ open_runs (is_open_request past r) r p.open_yet

open_of : (b : Bool) (q r : ℕ) → (if b then Running q else Closed) ≡ Running r → (b ≡ true) × (q ≡ r)
open_of true q r h = (refl, cc)
open_of false q r h = let clash : ⊥ = cc in absurd clash

runs_by : (past : List Entry) (o : Option ℕ) (r : ℕ) → look_by past o ≡ Running r → (o ≡ Some r) × (is_open_request past r ≡ true)
runs_by past None r h = let clash : ⊥ = cc in absurd clash
runs_by past (Some q) r h =
    let found : (is_open_request past q ≡ true) × (q ≡ r) = open_of (is_open_request past q) q r h in
    (ap Some found.1, subst (λ (n : ℕ). is_open_request past n ≡ true) found.1 found.0)

-- and where it is seen to wait, the request is open
pub runs_pending : (past : List Entry) (ticket r : ℕ) → look_of past ticket ≡ Running r → IsPending past ticket r
runs_pending past ticket r h =
    let found : (waits_for past ticket ≡ Some r) × (is_open_request past r ≡ true) = runs_by past (waits_for past ticket) r h in
    record { waits = found.0; open_yet = found.1 }

waits_no : (b others : Bool) (r : ℕ) (t : Outcome) → not (is_took (if b then replies.NotYet r else replies.Took t)) && others ≡ true →
    ((if b then Running r else Closed) ≡ Running r → ⊥) → Some r ≡ None
waits_no true others r t h never = absurd (never refl)
waits_no false others r t h never = let clash : ⊥ = cc in absurd clash

not_waiting : (past : List Entry) (o : Option ℕ) (others : Bool) → not (is_took (reply_to_collect past o)) && others ≡ true →
    ((r : ℕ) → look_by past o ≡ Running r → ⊥) → o ≡ None
not_waiting past None others h never = refl
not_waiting past (Some r) others h never = waits_no (is_open_request past r) others r (outcome_of past r) h (never r)

-- a collect that was refused as full was of a ticket that does not wait
pub full_waits_not : (d : Daemon) (ticket n : ℕ) → WasFull d (Collect ticket) n → ((r : ℕ) → look_of d.past ticket ≡ Running r → ⊥) → waits_for d.past ticket ≡ None
full_waits_not d ticket n full never =
    not_waiting d.past (waits_for d.past ticket) (lacks_places d || (lacks_text d (Collect ticket) || lacks_numbers d)) full.full never

places_in : CollectFault → ℕ
places_in (collect.JournalFull n) = n
places_in _ = 0

-- the refusal as full is that of the step
pub full_was : (fault : StepFault) (n : ℕ) → collect_fault fault ≡ collect.JournalFull n → fault ≡ steps.JournalFull n
unfolding places_in
full_was (steps.JournalFull m) n h = let same : m ≡ n = ap places_in h in ap steps.JournalFull same
full_was steps.Memory n h = let clash : ⊥ = cc in absurd clash

-- the next number of a core is above what it counts
pub number_above : (d : Daemon) → IsSound d → 0 < d.next
number_above d sound = let few = sound.wrongs.fewer [] in omega arith

pub not_closing : (b : Bool) (r : Result Given Refused) → (b ≡ true → IsOk r) → OnErr r (b ≡ false)
not_closing b (Ok g) made = tt
not_closing true (Err refused) made = let e = made refl in let clash : ⊥ = cc in absurd clash
not_closing false (Err refused) made = refl

pub forgot_if_ok : (old before later new : Daemon) (r : Result (List Entry) Memory) → Reaches old before → new ≡ later → OnOk r (later ≡ after_forget before) →
    IfOk r (λ others. reverse others ≡ forgotten before.past) → IfOk r (Forgot old new)
forgot_if_ok old before later new (Ok others) to same made back = record { before = before; reached = to; front = same ∙ made; others_are = back }
forgot_if_ok old before later new (Err memory) to same made back = tt
