use Rattle.std.proofs.Common.{◌≡◌, map, drop}
use Rattle.sd_lines.specs.Access as access
use Rattle.sd_lines.proofs.Collecting.{collected}
use Rattle.sd_lines.proofs.access.items_of.Given as goal

-- the items so far and those of the words left are those of all
abbrev pub invariant-loop-word : goal.invariant-loop-word
invariant-loop-word l =
    collected l.items (access.items_of (map (λ w. w.now) (drop l.word-index l.ws))) ≡ access.items_of (map (λ w. w.now) l.ws)
