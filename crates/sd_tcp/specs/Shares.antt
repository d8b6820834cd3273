-- How the time for connecting is shared out.
use Rattle.std.specs.Prelude.{ℕ, ◌+◌, ◌/◌, min, max}

-- an equal part of what is left for an address and those behind it: no less than half a second, and no more than is left
abbrev pub fair_share : ℕ → ℕ → ℕ
fair_share left behind = min left (max (left / (behind + 1)) 500)
