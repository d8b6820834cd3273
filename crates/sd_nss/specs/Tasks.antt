-- The script that an administrator's request is at.
use Rattle.sd_rules.specs.Scripts.{Script, Admin}
use Rattle.sd_rules.specs.Scripts as scripts
use Rattle.sd_nss.specs.declared.admin.AdminTask.{AdminTask}
use Rattle.sd_nss.specs.declared.admin.AdminTask.TheVariants.{Stepping, Telling, Over}

abbrev pub script : AdminTask → Script
script (Stepping event) = Admin (scripts.Stepping event)
script (Telling number) = Admin (scripts.Telling number)
script Over = Admin scripts.Over
