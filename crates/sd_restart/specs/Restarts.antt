-- A restart: the daemon that is opened with the rows that were kept, and the daemon that would go on with all its entries.
use Rattle.std.specs.Prelude.{◌≡◌, true, List, Some}
use Rattle.sd_rules.specs.declared.settings.Settings.{Settings}
use Rattle.sd_rules.specs.KeptRows.{bad_row, opened, reopened, rows_of}
use Rattle.sd_rules.specs.Steps.{Daemon}
use Rattle.sd_core.specs.declared.lists.Step.{Step}
use Rattle.sd_core.specs.declared.cores.OpenFault.{OpenFault}
use Rattle.sd_core.specs.declared.cores.OpenFault.TheVariants as faults
use Rattle.sd_core.specs.Lists.{all_given, are_steppable}

-- a daemon that is opened with the rows kept of another, with settings of its own
abbrev pub restarted : Settings → Daemon → Daemon
restarted s d = opened s (rows_of d)

-- the same restart with nothing forgotten: all entries stay but those of outages and of the daemon's end, nothing is open and
-- nobody waits
abbrev pub continued : Settings → Daemon → Daemon
continued s d = record (reopened d) { settings = s }

-- one daemon takes every list of steps that another takes, and each step gives what it gives over the other
abbrev pub AnswersAs : Daemon → Daemon → Type 0
AnswersAs d e = (steps : List Step) → are_steppable e steps ≡ true → (are_steppable d steps ≡ true) × (all_given d steps ≡ all_given e steps)

-- kept rows that are refused are against the rules; memory may be wanted
abbrev pub RefusedFor : Daemon → OpenFault → Type 0
RefusedFor d (faults.BadRows place) = bad_row (rows_of d) ≡ Some place
RefusedFor d faults.Memory = Unit {0}
