-- Why a step was refused, as the calls that wait for nobody say it.
use Rattle.sd_rules.specs.declared.replies.StepFault.{StepFault}
use Rattle.sd_rules.specs.declared.replies.StepFault.TheVariants as steps
use Rattle.sd_desk.specs.declared.refusals.DeskFault.{DeskFault}
use Rattle.sd_desk.specs.declared.refusals.DeskFault.TheVariants as desk
use Rattle.sd_desk.specs.declared.refusals.CollectFault.{CollectFault}
use Rattle.sd_desk.specs.declared.refusals.CollectFault.TheVariants as collect

abbrev pub desk_fault : StepFault → DeskFault
desk_fault (steps.JournalFull places) = desk.JournalFull places
desk_fault steps.Memory = desk.Memory

abbrev pub collect_fault : StepFault → CollectFault
collect_fault (steps.JournalFull places) = collect.JournalFull places
collect_fault steps.Memory = collect.Memory
