-- What the contracts read of a desk and of its seats.
use Rattle.std.specs.Prelude.{◌≡◌, ◌<◌, ◌+◌, ℕ, List, map}
use Rattle.sd_rules.specs.declared.replies.Entry.{Entry}
use Rattle.sd_rules.specs.Steps.{Daemon}
use Rattle.sd_turn.specs.Seats as seats
use Rattle.sd_conf.specs.declared.config.Config.{Config}
use Rattle.sd_desk.specs.declared.counts.Counts.{Counts}
use Rattle.sd_desk.specs.declared.seat.DeskSeat.{DeskSeat}
use Rattle.sd_desk.specs.declared.desk.Desk.{Desk}
use Rattle.sd_desk.specs.Journals.{basis_of, daemon_of}

-- the daemon that the desk was made with
abbrev pub opening : Desk → Daemon
opening d = (seats.opening d.turn).core.value

abbrev pub config_of : Desk → Config
config_of d = d.config

-- the seed of the salts
abbrev pub salts_of : Desk → List ℕ
salts_of d = d.salts

-- the journal that the seat saw last
abbrev pub front : Desk → DeskSeat → Daemon
front d s = daemon_of (basis_of (opening d)) (seats.front s.seat)

-- the entries that the seat made, and had from seats that it joined
abbrev pub mine : DeskSeat → List Entry
mine s = seats.mine s.seat

abbrev pub numbers : List Entry → List ℕ
numbers entries = map (λ e. e.number) entries

abbrev pub counts_of : DeskSeat → Counts
counts_of s = s.counts

abbrev pub name : DeskSeat → List ℕ
name s = seats.name s.seat

abbrev pub splits : DeskSeat → ℕ
splits s = seats.splits s.seat

-- the names of the seats that are out
abbrev pub out : DeskSeat → List (List ℕ)
out s = seats.out s.seat

-- how often the seat tried to take the turn
abbrev pub takes : DeskSeat → ℕ
takes s = seats.takes s.seat

-- the turn word that the last such try found
abbrev pub found : DeskSeat → ℕ
found s = seats.found s.seat

-- The seat is one of this desk.
abbrev pub IsOwn : Desk → DeskSeat → Type 0
IsOwn d s = seats.IsOwn d.turn s.seat

abbrev pub HoldsNoTurn : DeskSeat → Type 0
HoldsNoTurn s = seats.HoldsNoTurn s.seat

-- Name, number of splits and list of seats out are the same.
abbrev pub IsSameSeat : DeskSeat → DeskSeat → Type 0
IsSameSeat old new = seats.IsSameSeat old.seat new.seat

-- The seat took the turn since, and the last try of it found the turn free.
abbrev pub HasWon : DeskSeat → DeskSeat → Type 0
HasWon old new = (takes old < takes new) × (found new ≡ 0)

-- The seat did not try to take the turn in between.
abbrev pub SameTries : DeskSeat → DeskSeat → Type 0
SameTries old new = seats.SameTries old.seat new.seat

-- The seat is the first of its desk and has done nothing yet.
abbrev pub IsFirst : DeskSeat → Type 0
IsFirst s = seats.IsFirst s.seat

-- The old seat was split in two: the child has the same front, a name of its own, and nothing else.
abbrev pub IsSplit : DeskSeat → DeskSeat → DeskSeat → Type 0
IsSplit old new child = seats.IsSplit old.seat new.seat child.seat

-- The other seat was joined into the old one. Of the fronts this says nothing.
abbrev pub IsJoined : DeskSeat → DeskSeat → DeskSeat → Type 0
IsJoined old other new = seats.IsJoined old.seat other.seat new.seat
