use Rattle.std.proofs.Common.{◌≡◌, ◌+◌, ◌++◌, map, filter, not, length}
use Rattle.std.specs.Option.{option_copied, option_map_or}
use Rattle.sd_pieces.specs.Pieces.{pieces_in}
use Rattle.sd_conf.specs.Texts as texts
use Rattle.sd_conf.specs.Values.{labels_of}
use Rattle.sd_conf.proofs.choices.labels.Given as goal

-- the labels so far and those of the pieces left are those of the name
abbrev pub invariant-loop-left : goal.invariant-loop-left
invariant-loop-left l =
    map (λ x. x.now) l.found.items ++ filter (λ x. not (texts.is_empty x)) (pieces_in 46 (option_copied l.left)) ≡ labels_of l.name

abbrev pub decreases-loop-left : goal.decreases-loop-left
decreases-loop-left l = option_map_or (λ bytes. length bytes + 1) (option_copied l.left) 0
