use Rattle.std.proofs.Common.{reverse}
use Rattle.sd_keeping.specs.Counts.{all_guesses}
use Rattle.sd_keeping.proofs.GuessLaws.{below_limit, counts_within}
use Rattle.sd_keeping.proofs.counts.counts_fit.Goals as goal

pub returns-clause-fits : goal.returns-clause-fits
returns-clause-fits c =
    λ h. counts_within (reverse c.args.entries.now)
    (below_limit c.all_guesses.result c.from.result (all_guesses (reverse c.args.entries.now)) h c.all_guesses.ensures c.from.ensures)
