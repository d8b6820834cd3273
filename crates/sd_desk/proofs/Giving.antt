-- A seat that holds the turn may give back what it took.
use Rattle.std.proofs.Common.{◌≡◌, ℕ, sym, ap, subst, ◌∙◌}
use Rattle.sd_turn.specs.declared.view.History.{History}
use Rattle.sd_rules.specs.declared.events.Event.{Event}
use Rattle.sd_rules.specs.declared.replies.Entry.{Entry}
use Rattle.sd_rules.specs.Reaching.{Reaches}
use Rattle.sd_rules.specs.Steps.{Daemon, after}
use Rattle.sd_rules.proofs.ReachingLaws.{reaches_self}
use Rattle.sd_desk.specs.declared.desk.Desk.{Desk}
use Rattle.sd_desk.specs.declared.seat.DeskSeat.{DeskSeat}
use Rattle.sd_core.specs.Laws.{IsKept}
use Rattle.sd_turn.specs.Seats as seats
use Rattle.sd_turn.specs.Seats.{HasTaken}
use Rattle.sd_desk.specs.Desks.{opening, front, IsOwn}
use Rattle.sd_desk.specs.Holding.{Holds, MayGive}
use Rattle.sd_desk.specs.Journals.{basis_of, daemon_of, history_of}
use Rattle.sd_desk.proofs.Journals.{daemon_under}

pub may_give : (d : Desk) (s : DeskSeat) (core : Daemon) → Holds d s core → MayGive d s core
may_give d s core h =
    let b = basis_of (opening d) in
    record {
      own = h.own;
      holds = h.taken.0;
      basis = h.basis;
      reached = subst (λ (x : Daemon). Reaches x core) (sym (ap (daemon_of b) h.taken.1 ∙ daemon_under b core h.basis)) (reaches_self core);
      next = ap (λ (x : History Entry). x.next) (sym h.taken.2);
    }

-- A seat that took the turn holds it, with the core that it found.
pub holds_taken : (d : Desk) (old s : DeskSeat) (core : Daemon) → IsOwn d s → HasTaken s.seat (history_of core) → basis_of core ≡ basis_of (opening d)
    → seats.front s.seat ≡ seats.front old.seat → Reaches (front d old) (daemon_of (basis_of (opening d)) (history_of core))
    → IsKept (daemon_of (basis_of (opening d)) (history_of core)) → Holds d s core
holds_taken d old s core own taken basis same follows fits =
    let b = basis_of (opening d) in
    let is = daemon_under b core basis in
    record {
      own = own;
      taken = taken;
      basis = basis;
      reached = subst (Reaches (front d s)) is (subst (λ (h : History Entry). Reaches (daemon_of b h) (daemon_of b (history_of core))) (sym same) follows);
      kept = subst IsKept is fits;
    }

-- A seat that holds the turn, and appended the entry of a step, may give back the core with that entry.
pub gives_made : (d : Desk) (s t : DeskSeat) (taken found made back : Daemon) (now : ℕ) (event : Event) → Holds d s taken → found ≡ taken
    → made ≡ after found now event → Reaches found made → back ≡ made → IsOwn d t → seats.HoldsTurn t.seat
    → seats.history_taken t.seat ≡ seats.history_taken s.seat → seats.history_now t.seat ≡ history_of made → MayGive d t back
gives_made d s t taken found made back now event h same is reached kept own holds first grown =
    let b = basis_of (opening d) in
    subst (λ (x : Daemon). MayGive d t x) (sym kept)
    (record {
      own = own;
      holds = holds;
      basis = ap basis_of is ∙ ap basis_of same ∙ h.basis;
      reached = subst (λ (x : Daemon). Reaches x made) (same ∙ sym (ap (daemon_of b) (first ∙ h.taken.1) ∙ daemon_under b taken h.basis)) reached;
      next = ap (λ (x : History Entry). x.next) (sym grown);
    })
