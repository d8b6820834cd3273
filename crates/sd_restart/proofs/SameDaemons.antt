-- The two daemons of a restart give the same for every list of steps.
use Rattle.std.proofs.Common.{◌≡◌, ℕ, ◌+◌, ◌≤◌, Bool, true, false, List, [], ◌∷◌, ◌++◌, map, reverse, arith, refl, sym, ap, subst, ◌∙◌}
use Rattle.std.specs.Prelude.{Option, Some, None, Result, Ok, Err, IfErr, IfOk, max, nat_le, not, ◌&&◌, ◌||◌, if◌then◌else◌}
use Rattle.std.proofs.lemmas.Bool.Decides.{nat_tests}
use Rattle.std.proofs.lemmas.List.{reverse-append, reverse-reverse, map-append}
use Rattle.sd_rules.specs.declared.keys.Key.{Key}
use Rattle.sd_rules.specs.declared.records.Answered.{Answered}
use Rattle.sd_rules.specs.declared.events.Event.{Event}
use Rattle.sd_rules.specs.declared.events.Event.TheVariants as events
use Rattle.sd_rules.specs.declared.events.Row.{Row}
use Rattle.sd_rules.specs.declared.events.Row.TheVariants as rows
use Rattle.sd_rules.specs.declared.replies.Entry.{Entry}
use Rattle.sd_rules.specs.declared.replies.Given.{Given}
use Rattle.sd_rules.specs.declared.settings.Settings.{Settings}
use Rattle.sd_rules.specs.KeptRows.{bad_row, kept_entry, opens, settled, settled_past, ends_with_daemon, row_of, rows_among, rows_of, opened, row_moment, with_row}
use Rattle.sd_rules.specs.Past.{Standing, answer_by, answer_in, answer_under, is_closed, key_of}
use Rattle.sd_rules.specs.Requests.{is_open_request}
use Rattle.sd_rules.specs.Steps.{Daemon, after, answers_kind, entry_made, given, given_by, is_steppable, moment_after, moment_of, next_number, reply_to}
use Rattle.sd_core.specs.declared.lists.Step.{Step}
use Rattle.sd_core.specs.Opens.{FaultOf}
use Rattle.sd_core.specs.declared.cores.OpenFault.{OpenFault}
use Rattle.sd_core.specs.declared.cores.OpenFault.TheVariants as faults
use Rattle.sd_core.specs.Lists.{all_given, are_steppable}
use Rattle.sd_core.specs.Laws.{IsKept}
use Rattle.sd_core.specs.Sound.{falls_from, last_moment, moments_rise}
use Rattle.sd_core.proofs.KindLaws.{first_holds, second_holds}
use Rattle.sd_core.proofs.Room.{next_is_above}
use Rattle.sd_restart.specs.Alike.{Alike}
use Rattle.sd_restart.specs.Restarts.{AnswersAs, RefusedFor, continued, restarted}
use Rattle.sd_restart.proofs.KeptLogins.{kept_falls}
use Rattle.sd_restart.proofs.KeptReads.{RowIf, kept_of, row_law, true_not_false}
use Rattle.sd_restart.proofs.SameAtFirst.{alike_at_first}
use Rattle.sd_restart.proofs.SameGiven.{NamedAlike, named_alike, same_given}
use Rattle.sd_restart.proofs.SameReplies.{same_reply}
use Rattle.sd_restart.proofs.SameSteps.{alike_after}
use Rattle.sd_restart.proofs.Settled.{pick_past, settled_falls, settled_moment}

-- two daemons that answer alike
pub record AreAlike (from : ℕ) (d e : Daemon) : Type 0 where
  pub settings : d.settings ≡ e.settings
  pub floor : d.floor ≡ e.floor
  pub number : next_number d ≡ next_number e
  pub moment : (t : ℕ) → moment_of d t ≡ moment_of e t
  pub alike : Alike from (next_number d) d.past e.past

-- what a step of both makes is the same
same_made : (from : ℕ) (d e : Daemon) (now : ℕ) (event : Event) → AreAlike from d e → entry_made d now event ≡ entry_made e now event
same_made from d e now event h =
    let reply : reply_to d.settings d.past (next_number d) (moment_of d now) event ≡ reply_to e.settings e.past (next_number e) (moment_of e now) event =
    same_reply d.settings from (next_number d) (next_number d) (moment_of d now) d.past e.past event h.alike
    ∙ (ap (λ (s : Settings). reply_to s e.past (next_number d) (moment_of d now) event) h.settings
    ∙ (ap (λ n. reply_to e.settings e.past n (moment_of d now) event) h.number
    ∙ ap (λ t. reply_to e.settings e.past (next_number e) t event) (h.moment now))) in
    ap (λ n. let x : Entry = record { number = n; moment = moment_of d now; event = event; reply = reply_to d.settings d.past (next_number d) (moment_of d now) event } in x) h.number
    ∙ (ap (λ t. let x : Entry = record { number = next_number e; moment = t; event = event; reply = reply_to d.settings d.past (next_number d) (moment_of d now) event } in x) (h.moment now)
    ∙ ap (λ r. let x : Entry = record { number = next_number e; moment = moment_of e now; event = event; reply = r } in x) reply)

same_step : (from : ℕ) (d e : Daemon) (now : ℕ) (event : Event) → AreAlike from d e → given d now event ≡ given e now event
same_step from d e now event h =
    let named : NamedAlike (next_number d) d.past e.past (entry_made d now event).reply = named_alike d.settings from (next_number d) (next_number d) (moment_of d now) d.past e.past event h.alike in
    same_given (next_number d) (next_number d) d.past e.past (entry_made d now event).reply named
    ∙ (ap (λ n. given_by e.past n (entry_made d now event).reply) h.number
    ∙ ap (λ (x : Entry). given_by e.past (next_number e) x.reply) (same_made from d e now event h))

numbered : (number : ℕ) → max (number + 1) (number + 1) ≡ number + 1
numbered number = omega arith

alike_step : (from : ℕ) (d e : Daemon) (now : ℕ) (event : Event) → AreAlike from d e → AreAlike from (after d now event) (after e now event)
alike_step from d e now event h =
    let made = same_made from d e now event h in
    let here : Alike from (next_number d + 1) (entry_made d now event ∷ d.past) (entry_made d now event ∷ e.past) =
    alike_after d.settings from (next_number d) d.past e.past (entry_made d now event) h.alike refl (omega arith) in
    let both : Alike from (next_number d + 1) (entry_made d now event ∷ d.past) (entry_made e now event ∷ e.past) =
    subst (λ (x : Entry). Alike from (next_number d + 1) (entry_made d now event ∷ d.past) (x ∷ e.past)) made here in
    record {
      settings = h.settings;
      floor = h.floor;
      number = ap (λ n. max (n + 1) (n + 1)) h.number;
      moment = λ t.
          ap (λ f. max (max t f) (moment_of d now)) h.floor ∙ ap (λ m. max (max t e.floor) m) (h.moment now);
      alike = subst (λ n. Alike from n (entry_made d now event ∷ d.past) (entry_made e now event ∷ e.past)) (sym (numbered (next_number d))) both;
    }

-- the same events can be stepped
same_kinds : (a b : Bool) (k l : Option Key) (answered : Answered) → a ≡ b → (a ≡ true → k ≡ l) → (not a || answers_kind k answered) ≡ (not b || answers_kind l answered)
same_kinds true true k l answered e f = ap (λ x. answers_kind x answered) (f refl)
same_kinds false false k l answered e f = refl
same_kinds true false k l answered e f = true_not_false e
same_kinds false true k l answered e f = true_not_false (sym e)

same_steppable : (from next : ℕ) (p q : List Entry) (event : Event) → Alike from next p q → is_steppable p event ≡ is_steppable q event
same_steppable from next p q (events.Answer r answered) h = same_kinds (is_open_request p r) (is_open_request q r) (key_of p r) (key_of q r) answered (h.request r) (h.key r)
same_steppable from next p q (events.Kept row) h = refl
same_steppable from next p q _ h = refl

pub same_list : (from : ℕ) (d e : Daemon) (steps : List Step) → AreAlike from d e → all_given d steps ≡ all_given e steps
same_list from d e [] h = refl
same_list from d e (s ∷ steps) h =
    ap (λ (g : Given). g ∷ all_given (after d s.now s.event) steps) (same_step from d e s.now s.event h)
    ∙ ap (λ (gs : List Given). given e s.now s.event ∷ gs) (same_list from (after d s.now s.event) (after e s.now s.event) steps (alike_step from d e s.now s.event h))

pub same_steps : (from : ℕ) (d e : Daemon) (steps : List Step) → AreAlike from d e → are_steppable d steps ≡ are_steppable e steps
same_steps from d e [] h = refl
same_steps from d e (s ∷ steps) h =
    ap (λ b. b && are_steppable (after d s.now s.event) steps) (same_steppable from (next_number d) d.past e.past s.event h.alike)
    ∙ ap (λ b. is_steppable e.past s.event && b) (same_steps from (after d s.now s.event) (after e s.now s.event) steps (alike_step from d e s.now s.event h))

-- the entries that the kept rows open, the newest first
map_reversed : (rs : List Row) → reverse (map kept_entry rs) ≡ map kept_entry (reverse rs)
map_reversed [] = refl
map_reversed (row ∷ rs) =
    reverse-append (kept_entry row ∷ []) (map kept_entry rs) ∙ (ap (λ es. es ++ kept_entry row ∷ []) (map_reversed rs)
    ∙ (sym (map-append kept_entry (reverse rs) (row ∷ [])) ∙ ap (λ (xs : List Row). map kept_entry xs) (sym (reverse-append (row ∷ []) rs))))

opened_past : (d : Daemon) → reverse (map kept_entry (reverse (rows_among d.past d.past))) ≡ kept_of d.past d.past
opened_past d = map_reversed (reverse (rows_among d.past d.past)) ∙ ap (λ (xs : List Row). map kept_entry xs) (reverse-reverse (rows_among d.past d.past))

-- moments of entries are not above the least moment after them
abbrev AllWithin : ℕ → List Entry → Type 0
AllWithin t [] = Unit {0}
AllWithin t (e ∷ past) = (e.moment ≤ t) × AllWithin t past

within_more : (s t : ℕ) (past : List Entry) → s ≤ t → AllWithin s past → AllWithin t past
within_more s t [] le h = tt
within_more s t (e ∷ past) le h = (omega (arith, le, h.0), within_more s t past le h.1)

rising_within : (past : List Entry) → moments_rise past ≡ true → AllWithin (last_moment past) past
rising_within [] h = tt
rising_within (e ∷ past) h =
    let rises = first_holds (nat_le (last_moment past) e.moment) (moments_rise past) h in
    (omega arith, within_more (last_moment past) e.moment past (grind (arith, nat_tests, rises)) (rising_within past (second_holds (nat_le (last_moment past) e.moment) (moments_rise past) h)))

last_within : (floor : ℕ) (past : List Entry) → last_moment past ≤ moment_after floor past 0
last_within floor [] = omega arith
last_within floor (e ∷ past) = omega arith

moment_within : (t floor : ℕ) (past : List Entry) → AllWithin floor past → moment_after floor past t ≡ max t floor
moment_within t floor [] h = refl
moment_within t floor (e ∷ past) h = omega (arith, h.0)

settled_within : (t : ℕ) (past : List Entry) → AllWithin t past → AllWithin t (settled_past past)
settled_within t [] h = tt
settled_within t (e ∷ past) h =
    pick_past (AllWithin t) (ends_with_daemon e.event) (settled_past past) (settled e ∷ settled_past past) (λ _. settled_within t past h.1)
    (λ _. (subst (λ m. m ≤ t) (sym (settled_moment (opens e.reply) e)) h.0, settled_within t past h.1))

-- the moments of rows are those of their entries
abbrev MomentIs : ℕ → Option Standing → Type 0
MomentIs m None = Unit {0}
MomentIs m (Some a) = a.moment ≡ m

under_moment : (e : Entry) (answered : Answered) (own : Option Key) → MomentIs e.moment (answer_under e answered own)
under_moment e answered None = tt
under_moment e answered (Some own) = refl

moment_if : (m : ℕ) (b : Bool) (x : Option Standing) → MomentIs m x → MomentIs m (if b then x else None)
moment_if m true x h = h
moment_if m false x h = tt

row_answer_moment : (p : List Entry) (e : Entry) (row : Row) → MomentIs e.moment (answer_by p e (events.Kept row))
row_answer_moment p e (rows.Answer n m own answered marked) = refl
row_answer_moment p e _ = tt

answer_moment : (p : List Entry) (e : Entry) (event : Event) → MomentIs e.moment (answer_by p e event)
answer_moment p e (events.Answer r answered) = moment_if e.moment (is_closed e.reply) (answer_under e answered (key_of p r)) (under_moment e answered (key_of p r))
answer_moment p e (events.Kept row) = row_answer_moment p e row
answer_moment p e _ = tt

abbrev MomentOf : ℕ → Row → Type 0
MomentOf m row = row_moment row ≡ m

moment_at : (m : ℕ) (a : Option Standing) (b : Standing) → a ≡ Some b → MomentIs m a → b.moment ≡ m
moment_at m a b is h = let here : MomentIs m (Some b) = subst (MomentIs m) is h in here

row_moments : (all past : List Entry) (e : Entry) → RowIf (MomentOf e.moment) (row_of all past e)
row_moments all past e =
    row_law (MomentOf e.moment) all past e (λ a holds. moment_at e.moment (answer_in past e) a holds (answer_moment past e e.event))
    (λ u hash in_user is. refl) (λ u in_user is. refl) (λ u last counted. refl) (λ server is. refl)

with_within : (t m : ℕ) (r : Option Row) (es : List Row) → RowIf (MomentOf m) r → m ≤ t → AllWithin t (map kept_entry es) → AllWithin t (map kept_entry (with_row r es))
with_within t m None es h le f = f
with_within t m (Some row) es h le f = (omega (arith, h, le), f)

kept_within : (t : ℕ) (all past : List Entry) → AllWithin t past → AllWithin t (kept_of all past)
kept_within t all [] h = tt
kept_within t all (e ∷ past) h = with_within t e.moment (row_of all past e) (rows_among all past) (row_moments all past e) h.0 (kept_within t all past h.1)

-- the two daemons of a restart
abbrev daemon_from : Settings → ℕ → ℕ → List Entry → Daemon
daemon_from s next floor past = record { settings = s; next = next; floor = floor; past = past }

first_alike : (s : Settings) (next floor : ℕ) (p : List Entry) → Alike next next (kept_of p p) (settled_past p) → falls_from next p ≡ true → AllWithin floor p →
    AreAlike next (daemon_from s next floor (kept_of p p)) (daemon_from s next floor (settled_past p))
first_alike s next floor p alike f within =
    let kept = next_is_above next (kept_of p p) (kept_falls next p p f) in
    let stays = next_is_above next (settled_past p) (settled_falls next p f) in
    record {
      settings = refl;
      floor = refl;
      number = kept ∙ sym stays;
      moment = λ t. moment_within t floor (kept_of p p) (kept_within floor p p within) ∙ sym (moment_within t floor (settled_past p) (settled_within floor p within));
      alike = subst (λ n. Alike next n (kept_of p p) (settled_past p)) (sym kept) alike;
    }

pub restart_alike : (s : Settings) (d : Daemon) → IsKept d → AreAlike (next_number d) (restarted s d) (continued s d)
restart_alike s d kept =
    let falls : falls_from (next_number d) d.past ≡ true = subst (λ n. falls_from n d.past ≡ true) (sym (next_is_above d.next d.past kept.numbers)) kept.numbers in
    let within : AllWithin (moment_of d 0) d.past = within_more (last_moment d.past) (moment_of d 0) d.past (last_within d.floor d.past) (rising_within d.past kept.moments) in
    let first = first_alike s (next_number d) (moment_of d 0) d.past (alike_at_first (next_number d) d.past falls kept.names kept.moments) falls within in
    subst (λ (es : List Entry). AreAlike (next_number d) (daemon_from s (next_number d) (moment_of d 0) es) (continued s d)) (sym (opened_past d)) first

-- a restarted daemon takes the same lists, and gives the same
restart_answers : (s : Settings) (d : Daemon) → IsKept d → AnswersAs (restarted s d) (continued s d)
restart_answers s d kept = λ steps takes.
    let alike = restart_alike s d kept in
    (same_steps (next_number d) (restarted s d) (continued s d) steps alike ∙ takes, same_list (next_number d) (restarted s d) (continued s d) steps alike)

pub restart_law : {F : Type 0} (r : Result Daemon F) (s : Settings) (d : Daemon) (rs : List Row) → IfOk r (λ m. m ≡ opened s rs) → rs ≡ rows_of d → IsKept d →
    IfOk r (λ m. AnswersAs m (continued s d))
restart_law (Ok m) s d rs made kept lawful =
    subst (λ (x : Daemon). AnswersAs x (continued s d)) (sym (made ∙ ap (λ (x : List Row). opened s x) kept)) (restart_answers s d lawful)
restart_law (Err fault) s d rs made kept lawful = tt

refused_for : (d : Daemon) (rs : List Row) (fault : OpenFault) → rs ≡ rows_of d → FaultOf rs fault → RefusedFor d fault
refused_for d rs (faults.BadRows place) is h = ap (λ (x : List Row). bad_row x) (sym is) ∙ h
refused_for d rs faults.Memory is h = tt

pub restart_fault : {M : Type 0} (r : Result M OpenFault) (d : Daemon) (rs : List Row) → IfErr r (FaultOf rs) → rs ≡ rows_of d → IfErr r (RefusedFor d)
restart_fault (Ok m) d rs fault kept = tt
restart_fault (Err fault) d rs cause kept = refused_for d rs fault kept cause
