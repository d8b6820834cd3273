-- What was asked over all lines of a dialer, and what they received.
use Rattle.std.specs.Prelude.{ℕ, List, [], ◌∷◌, ◌++◌, map, fold}
use Rattle.sd_dial.specs.Operations.{Operation}
use Rattle.sd_dial.specs.Operations as operations
use Rattle.sd_stub_link.specs.Asking.{messages_of}
use Rattle.sd_stub_link.specs.declared.given.Given.{Given}
use Rattle.sd_stub_link.specs.declared.given.Given.TheVariants.{Nothing, After'}
use Rattle.sd_stub_link.specs.declared.given.Dialled.{Dialled}

-- a dial at a server, or a line that was given back with the pieces sent over it and the bytes received
pub data Event : Type 0 where
  line_dialled : ℕ → Event
  line_given : List (List ℕ) → List ℕ → Event

-- the operations, in their order: the newest event stands in front
abbrev pub operations_of : List Event → List Operation
operations_of [] = []
operations_of (line_dialled server ∷ past) = operations_of past ++ operations.dialled server ∷ []
operations_of (line_given pieces received ∷ past) = operations_of past ++ map operations.asked (messages_of pieces)

-- the bytes received on each line that was given back, in their order
abbrev pub lines_received : List Event → List (List ℕ)
lines_received [] = []
lines_received (line_dialled server ∷ past) = lines_received past
lines_received (line_given pieces received ∷ past) = lines_received past ++ received ∷ []

-- lines given back, the newest in front
abbrev pub lines_of : Given → List Event
lines_of Nothing = []
lines_of (After' p older pieces received) = line_given pieces received.items ∷ lines_of older

abbrev pub with_dialled : List Event → Dialled → List Event
with_dialled past d = line_dialled d.server ∷ (lines_of d.given ++ past)

-- the dials with the lines given back between them, the newest in front
abbrev pub events_of : List Dialled → List Event
events_of dials = fold with_dialled [] dials

-- and the lines given back after the last dial
abbrev pub past_of : Given → List Dialled → List Event
past_of given dials = lines_of given ++ events_of dials
