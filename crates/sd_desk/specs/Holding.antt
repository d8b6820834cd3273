-- A seat that holds the turn.
use Rattle.std.specs.Prelude.{◌≡◌}
use Rattle.sd_rules.specs.Reaching.{Reaches}
use Rattle.sd_rules.specs.Steps.{Daemon}
use Rattle.sd_core.specs.Laws.{IsKept}
use Rattle.sd_turn.specs.Seats as seats
use Rattle.sd_desk.specs.declared.seat.DeskSeat.{DeskSeat}
use Rattle.sd_desk.specs.declared.desk.Desk.{Desk}
use Rattle.sd_desk.specs.Journals.{basis_of, history_of, daemon_of}
use Rattle.sd_desk.specs.Desks.{opening, front, IsOwn}

-- The seat has the turn of the desk, and with it this core, whose journal its front reaches.
pub record Holds (d : Desk) (s : DeskSeat) (core : Daemon) : Type 0 where
  pub own : IsOwn d s
  pub taken : seats.HasTaken s.seat (history_of core)
  pub basis : basis_of core ≡ basis_of (opening d)
  pub reached : Reaches (front d s) core
  pub kept : IsKept core

-- The core that the seat gives back: what it took reaches it, and it has the entries that the seat appended.
pub record MayGive (d : Desk) (s : DeskSeat) (core : Daemon) : Type 0 where
  pub own : IsOwn d s
  pub holds : seats.HoldsTurn s.seat
  pub basis : basis_of core ≡ basis_of (opening d)
  pub reached : Reaches (daemon_of (basis_of (opening d)) (seats.history_taken s.seat)) core
  pub next : core.next ≡ (seats.history_now s.seat).next
