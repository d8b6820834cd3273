-- A daemon as a history of numbered entries under what never changes, and back.
use Rattle.std.specs.Prelude.{◌≡◌, ℕ, reverse, List}
use Rattle.sd_turn.specs.declared.view.History.{History}
use Rattle.sd_rules.specs.declared.replies.Entry.{Entry}
use Rattle.sd_rules.specs.Steps.{Daemon}
use Rattle.sd_desk.specs.declared.shared.Basis.{Basis}

abbrev pub basis_of : Daemon → Basis
basis_of d = record { settings = d.settings; floor = d.floor }

-- the entries, the oldest first, and the number of the next one
abbrev pub history_of : Daemon → History Entry
history_of d = record { entries = reverse d.past; next = d.next }

-- the daemon with this journal
abbrev pub daemon_of : Basis → History Entry → Daemon
daemon_of b h = record { settings = b.settings; next = h.next; floor = b.floor; past = reverse h.entries }
