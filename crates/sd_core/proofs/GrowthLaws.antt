-- A step, and a list of steps, adds legal entries, and leads to a journal that is reached.
use Rattle.std.proofs.Common.{◌≡◌, ℕ, ◌+◌, ◌≤◌, Bool, true, false, ◌&&◌, List, [], ◌∷◌, ◌++◌, refl, sym, ap, subst, ◌∙◌, arith}
use Rattle.std.specs.Prelude.{max, Result, Ok, Err, OnOk, OnErr, IfErr}
use Rattle.sd_rules.specs.declared.events.Event.{Event}
use Rattle.sd_rules.specs.declared.replies.Entry.{Entry}
use Rattle.sd_rules.specs.declared.replies.Given.{Given}
use Rattle.sd_rules.specs.declared.replies.Refused.{Refused}
use Rattle.sd_rules.specs.declared.settings.Settings.{Settings}
use Rattle.sd_rules.specs.Legal.{IsMade}
use Rattle.sd_rules.specs.Reaching.{Move, Append, Reaches, after_moves, can_make}
use Rattle.sd_rules.specs.Steps.{Daemon, number_after, moment_after, next_number, moment_of, entry_made, reply_to, after, is_steppable}
use Rattle.sd_rules.proofs.ReachingLaws.{reaches_self}
use Rattle.sd_core.specs.declared.lists.ListFault.{ListFault}
use Rattle.sd_core.specs.declared.lists.ListFault.TheVariants as faults
use Rattle.sd_core.specs.declared.lists.Step.{Step}
use Rattle.sd_core.specs.Growth.{IsGrown}
use Rattle.sd_core.specs.Lists.{are_steppable, after_all, EndsEarly}

both_true : (a b : Bool) → a ≡ true → b ≡ true → a && b ≡ true
both_true true b h i = i
both_true false b h i = h

with_rest : (a b c : Bool) → a && b ≡ true → (b ≡ true → c ≡ true) → a && c ≡ true
with_rest true b c h f = f h
with_rest false b c h f = h

not_below : (next : ℕ) (past : List Entry) → next ≤ number_after next past
not_below next [] = omega arith
not_below next (e ∷ past) = omega arith

-- a moment that was raised once is raised no more
raised_once : (floor : ℕ) (past : List Entry) (t : ℕ) → moment_after floor past t ≡ moment_after floor past (moment_after floor past t)
raised_once floor [] t = omega arith
raised_once floor (e ∷ past) t = omega arith

made_legal : (opened d : Daemon) (now : ℕ) (event : Event) → d.settings ≡ opened.settings → d.floor ≡ opened.floor →
    next_number d ≡ number_after opened.next d.past → IsMade opened d.past (entry_made d now event)
made_legal opened d now event settings floor next = record {
  number = next;
  moment = raised_once d.floor d.past now ∙ ap (λ (f : ℕ). moment_after f d.past (moment_of d now)) floor;
  reply = ap (λ (s : Settings). reply_to s d.past (next_number d) (moment_of d now) event) settings;
}

same_next : (n m : ℕ) → m ≤ n → max (n + 1) (n + 1) ≡ max m (n + 1)
same_next n m h = omega arith

pub grown_after : (opened d : Daemon) (now : ℕ) (event : Event) → IsGrown opened d → IsGrown opened (after d now event)
grown_after opened d now event grown =
    let below = subst (λ (n : ℕ). opened.next ≤ n) (sym grown.next) (not_below opened.next d.past) in
    record {
      since = entry_made d now event ∷ grown.since;
      settings = grown.settings;
      floor = grown.floor;
      past = ap (λ (es : List Entry). entry_made d now event ∷ es) grown.past;
      next = same_next (next_number d) opened.next below;
      legal = (subst (λ (es : List Entry). IsMade opened es (entry_made d now event)) grown.past (made_legal opened d now event grown.settings grown.floor grown.next), grown.legal);
    }

pub grown_itself : (d : Daemon) → IsGrown d d
grown_itself d = record { since = []; settings = refl; floor = refl; past = refl; next = refl; legal = tt }

pub reaches_after : (d : Daemon) (now : ℕ) (event : Event) → is_steppable d.past event ≡ true → Reaches d (after d now event)
reaches_after d now event h = record { moves = Append now event ∷ []; can = both_true (is_steppable d.past event) true h refl; reached = refl }

-- whether the step was made or refused
pub grown_either : (opened d e : Daemon) (now : ℕ) (event : Event) (r : Result Given Refused) → OnOk r (e ≡ after d now event) → OnErr r (e ≡ d) →
    IsGrown opened d → IsGrown opened e
grown_either opened d e now event (Ok g) made same grown = subst (IsGrown opened) (sym made) (grown_after opened d now event grown)
grown_either opened d e now event (Err refused) made same grown = subst (IsGrown opened) (sym same) grown

pub reached_either : (d e : Daemon) (now : ℕ) (event : Event) (r : Result Given Refused) → OnOk r (e ≡ after d now event) → OnErr r (e ≡ d) →
    is_steppable d.past event ≡ true → Reaches d e
reached_either d e now event (Ok g) made same h = subst (Reaches d) (sym made) (reaches_after d now event h)
reached_either d e now event (Err refused) made same h = subst (Reaches d) (sym same) (reaches_self d)

grown_all : (opened d : Daemon) (steps : List Step) → IsGrown opened d → IsGrown opened (after_all d steps)
grown_all opened d [] grown = grown
grown_all opened d (s ∷ steps) grown = grown_all opened (after d s.now s.event) steps (grown_after opened d s.now s.event grown)

-- the moves that a list of steps makes
abbrev moves_of : List Step → List Move
moves_of [] = []
moves_of (s ∷ steps) = Append s.now s.event ∷ moves_of steps

can_all : (d : Daemon) (steps : List Step) → are_steppable d steps ≡ true → can_make d (moves_of steps) ≡ true
can_all d [] h = refl
can_all d (s ∷ steps) h =
    with_rest (is_steppable d.past s.event) (are_steppable (after d s.now s.event) steps) (can_make (after d s.now s.event) (moves_of steps)) h
    (can_all (after d s.now s.event) steps)

all_moved : (d : Daemon) (steps : List Step) → after_moves d (moves_of steps) ≡ after_all d steps
all_moved d [] = refl
all_moved d (s ∷ steps) = all_moved (after d s.now s.event) steps

reaches_all : (d : Daemon) (steps : List Step) → are_steppable d steps ≡ true → Reaches d (after_all d steps)
reaches_all d steps h = record { moves = moves_of steps; can = can_all d steps h; reached = all_moved d steps }

first_steppable : (d : Daemon) (first others : List Step) → are_steppable d (first ++ others) ≡ true → are_steppable d first ≡ true
first_steppable d [] others h = refl
first_steppable d (s ∷ first) others h =
    with_rest (is_steppable d.past s.event) (are_steppable (after d s.now s.event) (first ++ others)) (are_steppable (after d s.now s.event) first) h
    (first_steppable (after d s.now s.event) first others)

-- however a list of steps ends
pub grown_by_list : (d e : Daemon) (steps : List Step) (r : Result (List Given) ListFault) → OnOk r (e ≡ after_all d steps) → IfErr r (EndsEarly d e steps) →
    (opened : Daemon) → IsGrown opened d → IsGrown opened e
grown_by_list d e steps (Ok gave) made early opened grown = subst (IsGrown opened) (sym made) (grown_all opened d steps grown)
grown_by_list d e steps (Err (faults.Refused gave refused)) made early opened grown = subst (IsGrown opened) early.reached (grown_all opened d early.first grown)
grown_by_list d e steps (Err faults.Memory) made early opened grown = subst (IsGrown opened) early.reached (grown_all opened d early.first grown)

reached_by_first : (d e : Daemon) (first others steps : List Step) → first ++ others ≡ steps → after_all d first ≡ e → are_steppable d steps ≡ true → Reaches d e
reached_by_first d e first others steps whole reached h =
    subst (Reaches d) reached (reaches_all d first (first_steppable d first others (ap (are_steppable d) whole ∙ h)))

pub reached_by_list : (d e : Daemon) (steps : List Step) (r : Result (List Given) ListFault) → OnOk r (e ≡ after_all d steps) → IfErr r (EndsEarly d e steps) →
    are_steppable d steps ≡ true → Reaches d e
reached_by_list d e steps (Ok gave) made early h = subst (Reaches d) (sym made) (reaches_all d steps h)
reached_by_list d e steps (Err (faults.Refused gave refused)) made early h =
    reached_by_first d e early.first (early.step ∷ early.others) steps early.whole early.reached h
reached_by_list d e steps (Err faults.Memory) made early h =
    reached_by_first d e early.first early.others steps early.whole early.reached h
