-- Tries of giving up, one after the other.
use Rattle.std.proofs.Common.{◌≡◌, ◌∙◌, ℕ, Bool, true, false, cond, List, [], ◌∷◌, ◌++◌, Option, Some, None, Result, Ok, Err, refl, sym, ap, subst, append_assoc, append-nil, ◌+◌, ◌<◌, suc, length, get_or, drop, drop-cons, add-one, ◌≤◌}
use Rattle.std.proofs.lemmas.List.{drop_all}
use Rattle.std.specs.Prelude.{IfOk, IfErr}
use Rattle.sd_rules.specs.declared.events.Event.{Event}
use Rattle.sd_rules.specs.declared.events.Event.TheVariants.{Abandon}
use Rattle.sd_rules.specs.declared.replies.Entry.{Entry}
use Rattle.sd_rules.specs.declared.replies.Given.{Given}
use Rattle.sd_rules.specs.Steps.{Daemon, entry_made}
use Rattle.sd_engine.specs.declared.ending.SessionEnd.{SessionEnd}
use Rattle.sd_session.specs.Sessions.{Company, Trace, ReadsOn}
use Rattle.sd_session.specs.Stepping.{IsMade, IsRefused}
use Rattle.sd_engine.specs.declared.ending.SessionEnd.TheVariants as ends
use Rattle.sd_engine.specs.Engines.{Engine}
use Rattle.sd_session.specs.Running.{Unfinished}
use Rattle.sd_session.specs.Withdrawing.{Try, after_tries, moments_of, events_of, entries_of, gives_up, abandoning, giving_up, AllGiveUp, Withdraws, MayTry, MayWithdraw, is_abrupt}
use Rattle.sd_session.proofs.Standing.{reads_more}

pub reads_none : (readings : Option (List ℕ)) → ReadsOn readings [] readings
reads_none None = tt
reads_none (Some list) = sym (append-nil list)

pub withdraws_nothing : (w : Company) (d : Daemon) (trace : Trace) → Withdraws w [] d d trace trace
withdraws_nothing w d trace = record { tries = []; give_up = tt; are = refl; given_up = refl; read = reads_none trace.readings; entries = sym (append-nil trace.entries) }

pub one_try : (w : Company) (d daemon : Daemon) (before later : Trace) (event : Event) (r : Result Given SessionEnd) → gives_up event ≡ true
    → IfOk r (λ (gave : Given). IsMade w d event gave daemon before later) → IfErr r (λ (ending : SessionEnd). IsRefused w d event ending daemon before later) → Withdraws w (event ∷ []) d daemon before later
one_try w d daemon before later event (Ok gave) gives made refused = record {
  tries = record { found = made.found; now = made.now; event = event; is_made = true } ∷ [];
  give_up = (gives, made.others, tt);
  are = refl;
  given_up = made.made;
  read = reads_more before.readings before.readings later.readings [] made.now (reads_none before.readings) made.read;
  entries = made.entries;
}
one_try w d daemon before later event (Err ending) gives made refused = record {
  tries = record { found = daemon; now = refused.now; event = event; is_made = false } ∷ [];
  give_up = (gives, refused.others, tt);
  are = refl;
  given_up = refl;
  read = reads_more before.readings before.readings later.readings [] refused.now (reads_none before.readings) refused.read;
  entries = refused.entries ∙ sym (append-nil before.entries);
}

tries_on : (d : Daemon) (first later : List Try) → after_tries d (later ++ first) ≡ after_tries (after_tries d first) later
tries_on d first [] = refl
tries_on d first (t ∷ later) = refl

moments_on : (first later : List Try) → moments_of (later ++ first) ≡ moments_of first ++ moments_of later
moments_on first [] = sym (append-nil (moments_of first))
moments_on first (t ∷ later) = ap (λ (list : List ℕ). list ++ t.now ∷ []) (moments_on first later) ∙ append_assoc (moments_of first) (moments_of later) (t.now ∷ [])

events_on : (first later : List Try) → events_of (later ++ first) ≡ events_of first ++ events_of later
events_on first [] = sym (append-nil (events_of first))
events_on first (t ∷ later) = ap (λ (list : List Event). list ++ t.event ∷ []) (events_on first later) ∙ append_assoc (events_of first) (events_of later) (t.event ∷ [])

events_both : (first later : List Try) (a b : List Event) → events_of first ≡ a → events_of later ≡ b → events_of (later ++ first) ≡ a ++ b
events_both first later a b e f = events_on first later ∙ ap (λ (list : List Event). list ++ events_of later) e ∙ ap (λ (list : List Event). a ++ list) f

entry_on : (b : Bool) (all first later : List Entry) (e : Entry) → all ≡ first ++ later → cond b (all ++ e ∷ []) all ≡ first ++ cond b (later ++ e ∷ []) later
entry_on true all first later e is = ap (λ (list : List Entry). list ++ e ∷ []) is ∙ append_assoc first later (e ∷ [])
entry_on false all first later e is = is

entries_on : (first later : List Try) → entries_of (later ++ first) ≡ entries_of first ++ entries_of later
entries_on first [] = sym (append-nil (entries_of first))
entries_on first (t ∷ later) = entry_on t.is_made (entries_of (later ++ first)) (entries_of first) (entries_of later) (entry_made t.found t.now t.event) (entries_on first later)

all_on : (w : Company) (d between : Daemon) (first later : List Try) → between ≡ after_tries d first → AllGiveUp w d first → AllGiveUp w between later → AllGiveUp w d (later ++ first)
all_on w d between first [] is f l = f
all_on w d between first (t ∷ later) is f l = (
  l.0,
  subst (λ (x : Daemon). w.others x t.found) (ap (λ (x : Daemon). after_tries x later) is ∙ sym (tries_on d first later)) l.1,
  all_on w d between first later is f l.2,
)

reads_both : (before between now : Option (List ℕ)) (first later : List ℕ) → ReadsOn before first between → ReadsOn between later now → ReadsOn before (first ++ later) now
reads_both before between None first later e f = tt
reads_both before None (Some readings) first later e f = absurd f
reads_both None (Some earlier) (Some readings) first later e f = absurd e
reads_both (Some known) (Some earlier) (Some readings) first later e f = f ∙ ap (λ (list : List ℕ). list ++ later) e ∙ append_assoc known first later

entries_both : (before between now first later : List Entry) → between ≡ before ++ first → now ≡ between ++ later → now ≡ before ++ (first ++ later)
entries_both before between now first later e f = f ∙ ap (λ (list : List Entry). list ++ later) e ∙ append_assoc before first later

after_both : (d between daemon : Daemon) (first later : List Try) → between ≡ after_tries d first → daemon ≡ after_tries between later → daemon ≡ after_tries d (later ++ first)
after_both d between daemon first later e f = f ∙ ap (λ (x : Daemon). after_tries x later) e ∙ sym (tries_on d first later)

pub withdraws_both : (w : Company) (first later : List Event) (d between daemon : Daemon) (before mid now : Trace) → Withdraws w first d between before mid → Withdraws w later between daemon mid now → Withdraws w (first ++ later) d daemon before now
withdraws_both w first later d between daemon before mid now a b = record {
  tries = b.tries ++ a.tries;
  give_up = all_on w d between a.tries b.tries a.given_up a.give_up b.give_up;
  are = events_both a.tries b.tries first later a.are b.are;
  given_up = after_both d between daemon a.tries b.tries a.given_up b.given_up;
  read = subst (λ (list : List ℕ). ReadsOn before.readings list now.readings) (sym (moments_on a.tries b.tries)) (reads_both before.readings mid.readings now.readings (moments_of a.tries) (moments_of b.tries) a.read b.read);
  entries = subst (λ (list : List Entry). now.entries ≡ before.entries ++ list) (sym (entries_on a.tries b.tries)) (entries_both before.entries mid.entries now.entries (entries_of a.tries) (entries_of b.tries) a.entries b.entries);
}

-- ---- numbers that are abandoned one after the other

-- those of the list are abandoned but for the rest
pub record Abandons (w : Company) (numbers rest : List ℕ) (d daemon : Daemon) (before now : Trace) : Type 0 where
  pub events : List Event
  pub withdraws : Withdraws w events d daemon before now
  pub left : events ++ abandoning rest ≡ abandoning numbers

pub abandons_none : (w : Company) (numbers : List ℕ) (d : Daemon) (trace : Trace) → Abandons w numbers numbers d d trace trace
abandons_none w numbers d trace = record { events = []; withdraws = withdraws_nothing w d trace; left = refl }

abandons_one : (w : Company) (numbers : List ℕ) (number : ℕ) (rest : List ℕ) (d f g : Daemon) (before mid now : Trace) → Abandons w numbers (number ∷ rest) d f before mid → Withdraws w (Abandon number ∷ []) f g mid now → Abandons w numbers rest d g before now
abandons_one w numbers number rest d f g before mid now a one = record {
  events = a.events ++ Abandon number ∷ [];
  withdraws = withdraws_both w a.events (Abandon number ∷ []) d f g before mid now a.withdraws one;
  left = append_assoc a.events (Abandon number ∷ []) (abandoning rest) ∙ a.left;
}

-- the number at a place of the list
pub abandons_at : (w : Company) (numbers : List ℕ) (i : ℕ) (d f g : Daemon) (before mid now : Trace) → i < length numbers → Abandons w numbers (drop i numbers) d f before mid → Withdraws w (Abandon (get_or numbers i 0) ∷ []) f g mid now
    → Abandons w numbers (drop (i + 1) numbers) d g before now
abandons_at w numbers i d f g before mid now lt a one =
    subst (λ (k : ℕ). Abandons w numbers (drop k numbers) d g before now) (sym (add-one i))
    (abandons_one w numbers (get_or numbers i 0) (drop (suc i) numbers) d f g before mid now (subst (λ (list : List ℕ). Abandons w numbers list d f before mid) (drop-cons numbers i 0 lt) a) one)

abandons_all : (w : Company) (numbers : List ℕ) (d f : Daemon) (before now : Trace) → Abandons w numbers [] d f before now → Withdraws w (abandoning numbers) d f before now
abandons_all w numbers d f before now a = subst (λ (events : List Event). Withdraws w events d f before now) (sym (append-nil a.events) ∙ a.left) a.withdraws

-- the whole list, at its end
pub abandons_end : (w : Company) (numbers : List ℕ) (i : ℕ) (d f : Daemon) (before now : Trace) → length numbers ≤ i → Abandons w numbers (drop i numbers) d f before now → Withdraws w (abandoning numbers) d f before now
abandons_end w numbers i d f before now past a = abandons_all w numbers d f before now (subst (λ (list : List ℕ). Abandons w numbers list d f before now) (drop_all i numbers past) a)

-- ---- at an end

pub may_try : (w : Company) (abrupt : Bool) (events : List Event) (d daemon : Daemon) (before now : Trace) → abrupt ≡ true → Withdraws w events d daemon before now → MayTry w abrupt events d daemon before now
may_try w true events d daemon before now h a = a
may_try w false events d daemon before now h a = let e : ⊥ = cc in absurd e

pub keeps_all : (w : Company) (abrupt : Bool) (events : List Event) (d : Daemon) (trace : Trace) → abrupt ≡ false → MayTry w abrupt events d d trace trace
keeps_all w true events d trace h = let e : ⊥ = cc in absurd e
keeps_all w false events d trace h = (refl, refl)

-- what an engine leads at its end is the session's own
pub gives_up_own : (w : Company) (ending : SessionEnd) (d f : Daemon) (engine : Engine) (own : List Entry) (before now : Trace) → Unfinished ending d engine own → MayTry w (is_abrupt ending) (giving_up engine.leads engine.ticket) d f before now
    → MayWithdraw w (is_abrupt ending) own d f before now
gives_up_own w (ends.JournalFull count) d f engine own before now left t = record { leads = engine.leads; ticket = engine.ticket; are_own = left.are_own; withdraws = t }
gives_up_own w ends.Memory d f engine own before now left t = record { leads = engine.leads; ticket = engine.ticket; are_own = left.are_own; withdraws = t }
gives_up_own w ends.Closed d f engine own before now left t = t
gives_up_own w ends.Stopped d f engine own before now left t = t
gives_up_own w ends.ReadFault d f engine own before now left t = t
gives_up_own w ends.WriteFault d f engine own before now left t = t
gives_up_own w (ends.BadFrame at) d f engine own before now left t = t
gives_up_own w ends.Cut d f engine own before now left t = t
gives_up_own w (ends.Long count) d f engine own before now left t = t
