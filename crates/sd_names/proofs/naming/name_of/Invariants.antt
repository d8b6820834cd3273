use Rattle.std.proofs.Common.{◌≡◌, take}
use Rattle.sd_names.specs.Naming.{parts_of, lower_dn}
use Rattle.sd_names.proofs.naming.name_of.Given as goal

abbrev pub invariant-loop-rdn : goal.invariant-loop-rdn
invariant-loop-rdn l = parts_of l.levels.items ≡ lower_dn (take l.rdn-index l.dn)
