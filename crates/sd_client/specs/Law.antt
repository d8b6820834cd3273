-- A law on what bytes decide.
use Rattle.std.specs.Prelude.{◌≡◌, ℕ, ◌≤◌, List, ◌++◌, length}
use Rattle.sd_client.specs.declared.step.Request.{Request}
use Rattle.sd_client.specs.Deciding.{undecided, decided}

-- however the bytes received are cut, what they decided stays, whatever follows
abbrev pub StaysDecided : Type 0
StaysDecided =
    (request : Request) (id at : ℕ) (received more : List ℕ) → at ≤ length received
    → (decided request id at received ≡ undecided → ⊥) → decided request id at (received ++ more) ≡ decided request id at received
