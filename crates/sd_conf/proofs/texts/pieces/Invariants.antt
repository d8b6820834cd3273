use Rattle.std.proofs.Common.{◌≡◌, ◌+◌, ◌++◌, map, length}
use Rattle.std.specs.Option.{option_copied, option_map_or}
use Rattle.sd_pieces.specs.Pieces.{pieces, pieces_in}
use Rattle.sd_conf.proofs.texts.pieces.Given as goal

-- the pieces so far and those that are left are those of all
abbrev pub invariant-loop-left : goal.invariant-loop-left
invariant-loop-left l =
    map (λ x. x.now) l.found.items ++ pieces_in l.by (option_copied l.left) ≡ pieces l.by l.bytes

abbrev pub decreases-loop-left : goal.decreases-loop-left
decreases-loop-left l = option_map_or (λ bytes. length bytes + 1) (option_copied l.left) 0
