-- A step of a core.
use Rattle.std.proofs.Common.{◌≡◌, ◌∙◌, ℕ, true, [], ◌∷◌, ◌++◌, refl, sym, ap}
use Rattle.std.specs.Prelude.{reverse}
use Rattle.std.proofs.lemmas.Grind.{reverse_onto}
use Rattle.sd_rules.specs.declared.events.Event.{Event}
use Rattle.sd_rules.specs.declared.replies.StepFault.{StepFault}
use Rattle.sd_rules.specs.declared.replies.StepFault.TheVariants as faults
use Rattle.sd_rules.specs.Reaching.{Reaches}
use Rattle.sd_rules.specs.Steps.{Daemon, after, entry_made, is_full, full_count}
use Rattle.sd_rules.proofs.ReachingLaws.{reaches_self}
use Rattle.std.proofs.Common.{subst}
use Rattle.sd_session.specs.Stepping.{RefusedAs, end_of}

pub refused_as : (d : Daemon) (event : Event) (fault : StepFault)
    → ((n : ℕ) → fault ≡ faults.JournalFull n → (is_full d event ≡ true) × (n ≡ full_count d)) → RefusedAs d event (end_of fault)
refused_as d event (faults.JournalFull n) only = only n refl
refused_as d event faults.Memory only = tt

-- the entry is the last of the journal
pub journal_more : (d e : Daemon) (now : ℕ) (event : Event) → e ≡ after d now event → reverse e.past ≡ reverse d.past ++ entry_made d now event ∷ []
journal_more d e now event is = ap (λ (x : Daemon). reverse x.past) is ∙ reverse_onto d.past (entry_made d now event) []

pub journal_same : (d e : Daemon) → e ≡ d → reverse e.past ≡ reverse d.past
journal_same d e is = ap (λ (x : Daemon). reverse x.past) is

-- whoever is alone finds what was left
pub stays_near : (d e : Daemon) → e ≡ d → Reaches d e
stays_near d e is = subst (λ (x : Daemon). Reaches d x) (sym is) (reaches_self d)

pub full_here : (d e : Daemon) (event : Event) (n : ℕ) → e ≡ d → (is_full d event ≡ true) × (n ≡ full_count d) → (is_full e event ≡ true) × (n ≡ full_count e)
full_here d e event n is full = subst (λ (x : Daemon). (is_full x event ≡ true) × (n ≡ full_count x)) (sym is) full
