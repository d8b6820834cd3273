use Rattle.std.proofs.Common.{◌≡◌, ◌++◌, drop}
use Rattle.sd_tools.specs.Replies as replies
use Rattle.sd_tools.proofs.endings.output_of.Given as goal

-- the lines so far, and then those of the texts left, are those of all
abbrev pub invariant-loop-text : goal.invariant-loop-text
invariant-loop-text l = l.output.items ++ replies.lines_of (drop l.text-index l.texts) ≡ replies.lines_of l.texts
