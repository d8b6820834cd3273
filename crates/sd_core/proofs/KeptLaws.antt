-- Every step keeps what holds of a kept journal, and follows the laws.
use Rattle.std.proofs.Common.{◌≡◌, ℕ, ◌+◌, true, ◌∷◌, arith, sym, subst}
use Rattle.std.specs.Prelude.{nat_le, nat_lt, Result, Ok, Err, OnOk, OnErr, IfOk}
use Rattle.std.proofs.lemmas.Bool.Decides.{nat_tests}
use Rattle.sd_rules.specs.declared.events.Event.{Event}
use Rattle.sd_rules.specs.declared.replies.Given.{Given}
use Rattle.sd_rules.specs.declared.replies.Refused.{Refused}
use Rattle.sd_rules.specs.Steps.{Daemon, next_number, moment_of, entry_made, after, given, is_steppable}
use Rattle.sd_forgetting.proofs.Orders.{orderly_after}
use Rattle.sd_core.specs.Sound.{all_name_earlier, falls_from, last_moment, moments_rise, named_by, names_earlier}
use Rattle.sd_core.specs.Laws.{KeepsOutcomes, FollowsLaws, IsKept, is_asked_since, are_asked_since, is_own_outage, are_own_outages}
use Rattle.sd_core.proofs.Room.{next_is_above}
use Rattle.sd_core.proofs.KindLaws.{kinds_after, both_hold}
use Rattle.sd_core.proofs.NamedLaws.{given_fits}
use Rattle.sd_core.proofs.LawProofs.{names_fresh, waits_for_block}
use Rattle.sd_core.proofs.OpenLaws.{one_open_after, keeps_outcomes}
use Rattle.sd_core.proofs.AccessLaws.{goes_by_rules}
use Rattle.sd_core.proofs.NamingLaws.{moment_rises, step_names_earlier}
use Rattle.sd_core.proofs.AskedLaws.{step_asked_since, step_own_outage, names_its_outage}
use Rattle.sd_core.proofs.TicketLaws.{tickets_after, collect_fits}

numbers_after : (d : Daemon) (now : ℕ) (event : Event) → falls_from d.next d.past ≡ true → falls_from (next_number d + 1) (entry_made d now event ∷ d.past) ≡ true
numbers_after d now event h =
    both_hold (nat_lt (next_number d) (next_number d + 1)) (falls_from (next_number d) d.past) (grind (arith, nat_tests))
    (subst (λ n. falls_from n d.past ≡ true) (sym (next_is_above d.next d.past h)) h)

pub kept_after : (d : Daemon) (now : ℕ) (event : Event) → is_steppable d.past event ≡ true → IsKept d → IsKept (after d now event)
kept_after d now event h kept = record {
  numbers = numbers_after d now event kept.numbers;
  kinds = kinds_after d now event h kept.kinds;
  asked = both_hold (is_asked_since d.past event (entry_made d now event).reply) (are_asked_since d.past)
      (step_asked_since d.settings d.past (next_number d) (moment_of d now) event) kept.asked;
  outages = both_hold (is_own_outage (next_number d) event (entry_made d now event).reply) (are_own_outages d.past)
      (step_own_outage d.settings d.past (next_number d) (moment_of d now) event) kept.outages;
  names = both_hold (names_earlier (next_number d) (named_by event) (entry_made d now event).reply) (all_name_earlier d.past)
      (step_names_earlier d.settings d.past (next_number d) (moment_of d now) event (subst (λ n. falls_from n d.past ≡ true) (sym (next_is_above d.next d.past kept.numbers)) kept.numbers))
      kept.names;
  moments = both_hold (nat_le (last_moment d.past) (moment_of d now)) (moments_rise d.past) (moment_rises d.floor now d.past) kept.moments;
  open_once = one_open_after d now event kept.open_once;
  tickets = tickets_after d now event kept.numbers kept.kinds h kept.tickets;
  orderly = orderly_after d now event h kept.orderly;
}

follows_laws : (d : Daemon) (now : ℕ) (event : Event) → IsKept d → FollowsLaws d now event (given d now event)
follows_laws d now event kept = record {
  fresh = names_fresh d.settings d.past d.next (next_number d) (moment_of d now) event kept.numbers kept.asked;
  outage = names_its_outage d.settings d.past d.next (next_number d) (moment_of d now) event kept.numbers kept.outages;
  by_rules = goes_by_rules d.settings d.past (next_number d) (moment_of d now) event;
  after_blocks = waits_for_block d.settings d.past (next_number d) (moment_of d now) event;
  of_kind = given_fits d now event kept.numbers kept.kinds (λ ticket. collect_fits d.past d.next ticket kept.tickets);
}

pub given_follows : (d : Daemon) (now : ℕ) (event : Event) (g : Given) → g ≡ given d now event → IsKept d → FollowsLaws d now event g
given_follows d now event g is kept = subst (FollowsLaws d now event) (sym is) (follows_laws d now event kept)

pub outcomes_kept : (d e : Daemon) (now : ℕ) (event : Event) → e ≡ after d now event → KeepsOutcomes d.past e.past
outcomes_kept d e now event is = subst (λ (x : Daemon). KeepsOutcomes d.past x.past) (sym is) (keeps_outcomes d now event)

-- whether the step was made or refused
pub kept_either : (d e : Daemon) (now : ℕ) (event : Event) (r : Result Given Refused) → OnOk r (e ≡ after d now event) → OnErr r (e ≡ d) →
    is_steppable d.past event ≡ true → IsKept d → IsKept e
kept_either d e now event (Ok g) made same h kept = subst IsKept (sym made) (kept_after d now event h kept)
kept_either d e now event (Err refused) made same h kept = subst IsKept (sym same) kept

pub follows_if_made : (d : Daemon) (now : ℕ) (event : Event) (r : Result Given Refused) → IfOk r (λ g. g ≡ given d now event) → IsKept d →
    IfOk r (FollowsLaws d now event)
follows_if_made d now event (Ok g) is kept = given_follows d now event g is kept
follows_if_made d now event (Err refused) is kept = tt

pub outcomes_if_made : (d e : Daemon) (now : ℕ) (event : Event) (r : Result Given Refused) → OnOk r (e ≡ after d now event) → OnOk r (KeepsOutcomes d.past e.past)
outcomes_if_made d e now event (Ok g) made = outcomes_kept d e now event made
outcomes_if_made d e now event (Err refused) made = tt
