use Rattle.std.proofs.Common.{◌≡◌, ◌++◌, drop}
use Rattle.sd_sudo.specs.Printing.{lines_of}
use Rattle.sd_sudo.proofs.printing.printed.Given as goal

abbrev pub invariant-loop-role : goal.invariant-loop-role
invariant-loop-role l = l.out.items ++ lines_of (drop l.role-index l.roles) ≡ lines_of l.roles
