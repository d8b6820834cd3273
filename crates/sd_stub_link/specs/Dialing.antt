-- What contracts see of a dialer in memory, and what its calls make of it.
use Rattle.std.specs.Prelude.{◌≡◌, ℕ, ◌+◌, ◌-◌, ◌^◌, min, nat_lt, Bool, true, false, not, ◌||◌, if◌then◌else◌, List, ◌∷◌, Option, Some, None, Result, MatchResult, slice_get, ◌⊎◌}
use Rattle.sd_ldap.specs.declared.entry.DirEntry.{DirEntry}
use Rattle.sd_stub.specs.declared.Mode.{Mode}
use Rattle.sd_dial.specs.Entries.{Behind}
use Rattle.sd_dial.specs.Operations.{with_dial}
use Rattle.sd_stub_link.specs.Modes.{is_down}
use Rattle.sd_stub_link.specs.Standing.{Standing, made, received_of, behind_by, counted, is_listed}
use Rattle.sd_stub_link.specs.Past.{Event, operations_of, line_dialled, line_given}
use Rattle.sd_stub_link.specs.declared.dialer.StubServer.{StubServer}

-- a server: its entries, and how it behaves
pub record Served : Type 0 where
  pub entries : List DirEntry
  pub mode : Mode

abbrev pub served : StubServer → Served
served s = record { entries = s.directory.now; mode = s.mode }

-- the servers, what was asked over all lines, the number of dials and of calls of the lines given back,
-- those that are to fail, the number of faults, and whether a dial or a line found no memory
pub record Dialing : Type 0 where
  pub servers : List Served
  pub past : List Event
  pub dials : ℕ
  pub failing_dials : List ℕ
  pub calls : ℕ
  pub failing_calls : List ℕ
  pub faults : ℕ
  pub starved : Bool

-- the next dial is to fail
abbrev pub is_dial_listed : Dialing → Bool
is_dial_listed d = is_listed d.failing_dials (counted d.dials)

-- a server takes lines where there is one and it is not down
abbrev pub takes_lines : Option Served → Bool
takes_lines None = false
takes_lines (Some s) = not (is_down s.mode)

-- the directory behind a server, where it is told
abbrev pub behind_served : Option Served → Option Behind
behind_served None = None
behind_served (Some s) = behind_by s.mode s.entries

abbrev pub behind_at : Dialing → ℕ → Option Behind
behind_at d server = behind_served (slice_get d.servers server)

-- a line to a server: its calls count on from those of the lines that were given back
abbrev pub line_to : Dialing → Served → Standing
line_to d s = made s.entries s.mode d.failing_calls d.calls

-- a dial that was made
abbrev pub dialled_at : Dialing → ℕ → Dialing
dialled_at d server = record d { past = line_dialled server ∷ d.past; dials = counted d.dials }

-- a dial that failed
abbrev pub undialled : Dialing → Dialing
undialled d = record d { dials = counted d.dials; faults = counted d.faults }

abbrev pub undialled_starving : Dialing → Dialing
undialled_starving d = record d { dials = counted d.dials; faults = counted d.faults; starved = true }

-- calls that are added to a count, which stands still at the greatest number
abbrev pub added : ℕ → ℕ → ℕ
added count more = min (count + more) (2 ^ 64 - 1)

-- a line that was given back, with the calls made over it
abbrev pub given_back : Dialing → Standing → Dialing
given_back d line =
    record d {
      past = line_given line.pieces (received_of line) ∷ d.past;
      calls = added d.calls (line.calls - line.before);
      faults = if nat_lt 0 line.faults then counted d.faults else d.faults;
      starved = d.starved || line.starved;
    }

-- A dial that is not listed, at a server that takes lines, makes a line to it.
pub record IsDialled (old : Dialing) (server : ℕ) (line : Standing) (new : Dialing) : Type 0 where
  pub unlisted : is_dial_listed old ≡ false
  pub at : Served
  pub found : slice_get old.servers server ≡ Some at
  pub up : is_down at.mode ≡ false
  pub line_is : line ≡ line_to old at
  pub new_is : new ≡ dialled_at old server

-- A dial fails only where it is listed, the server takes no lines, or the dialer is starved.
abbrev pub IsUndialled : Dialing → ℕ → Dialing → Type 0
IsUndialled old server new =
    ((new ≡ undialled old) × ((is_dial_listed old ≡ true) ⊎ (takes_lines (slice_get old.servers server) ≡ false))) ⊎ (new ≡ undialled_starving old)

-- a dial that was made is told behind the operations so far, and one that failed is not told
abbrev pub TellsDial : {A E : Type 0} → Result A E → ℕ → Dialing → Dialing → Type 0
TellsDial result server old new =
    MatchResult result (λ _. Some (operations_of new.past) ≡ with_dial (Some (operations_of old.past)) server) (λ _. Some (operations_of new.past) ≡ Some (operations_of old.past))
