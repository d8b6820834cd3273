-- What a seat counts, so that its front need not be looked at.
use Rattle.std.specs.Prelude.{◌&&◌, ◌||◌, ◌==◌, nat_lt, if◌then◌else◌}
use Rattle.sd_desk.specs.declared.counts.Counts.{Counts}

-- Of the counts of two fronts, of which one reaches the other, those of the later: steps raise the next number, and a forget
-- leaves no more entries than it found.
abbrev pub later_of : Counts → Counts → Counts
later_of own other =
    if nat_lt own.next other.next || ((own.next == other.next) && nat_lt other.entries own.entries) then other else own
