use Rattle.sd_restart.proofs.SameDaemons.{restart_fault, restart_law}
use Rattle.sd_restart.proofs.restart.Goals as goal

pub returns-in-Ok-clause-same : goal.returns-in-Ok-clause-same
returns-in-Ok-clause-same c = restart_law c.open.result c.args.settings c.args.core.now c.in-Ok.rows c.open.ensures.opened c.in-Ok.ensures.rows c.in-Ok.ensures.lawful

pub returns-in-Ok-clause-fault : goal.returns-in-Ok-clause-fault
returns-in-Ok-clause-fault c = restart_fault c.open.result c.args.core.now c.in-Ok.rows c.open.ensures.fault c.in-Ok.ensures.rows
