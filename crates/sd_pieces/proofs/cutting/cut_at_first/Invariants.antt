use Rattle.std.proofs.Common.{◌≡◌, take, drop, ◌++◌}
use Rattle.sd_pieces.specs.Pieces.{cut_of}
use Rattle.sd_pieces.proofs.cutting.cut_at_first.Given as goal

-- what was passed, before the first piece of what is left
abbrev pub invariant-loop-at : goal.invariant-loop-at
invariant-loop-at l =
    (take l.at l.bytes ++ (cut_of l.by (drop l.at l.bytes)).0, (cut_of l.by (drop l.at l.bytes)).1) ≡ cut_of l.by l.bytes
