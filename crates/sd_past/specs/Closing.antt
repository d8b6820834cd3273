-- Entries that close what is open, and the room that is made for them before.
use Rattle.std.specs.Prelude.{ℕ, Bool, false, ◌+◌, ◌≤◌, length, List, is_some}
use Rattle.sd_rules.specs.declared.events.Event.{Event}
use Rattle.sd_rules.specs.declared.events.Event.TheVariants.{Abandon, Leave}
use Rattle.sd_rules.specs.declared.replies.Entry.{Entry}
use Rattle.sd_rules.specs.Requests.{is_open, reserved_places, waits_for}

-- an event closes what is open, or lets a ticket go
abbrev pub closes_place : List Entry → Event → Bool
closes_place past (Abandon n) = is_open past n
closes_place past (Leave ticket) = is_some (waits_for past ticket)
closes_place past _ = false

-- a list of entries has room for itself and for an entry for each reserved place
abbrev pub HasRoom : List Entry → ℕ → Type 0
HasRoom past capacity = length past + reserved_places past ≤ capacity
