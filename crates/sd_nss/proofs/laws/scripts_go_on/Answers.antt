use Rattle.sd_nss.proofs.Going.{goes_on, needs_on}
use Rattle.sd_nss.proofs.laws.scripts_go_on.Goals as goal

pub returns-clause-place : goal.returns-clause-place
returns-clause-place c = goes_on

pub returns-clause-need : goal.returns-clause-need
returns-clause-need c = needs_on
