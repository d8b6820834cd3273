use Rattle.std.proofs.Common.{◌≡◌, map, drop}
use Rattle.sd_lines.specs.Accounts as accounts
use Rattle.sd_lines.proofs.Collecting.{collected}
use Rattle.sd_lines.proofs.accounts.members_of.Given as goal

-- the members so far and those of the words left are those of all
abbrev pub invariant-loop-word : goal.invariant-loop-word
invariant-loop-word l =
    collected l.members (accounts.members_of (map (λ w. w.now) (drop l.word-index l.ws))) ≡ accounts.members_of (map (λ w. w.now) l.ws)
