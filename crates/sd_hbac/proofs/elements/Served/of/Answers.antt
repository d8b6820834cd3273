use Rattle.std.proofs.Common.{rules, refl}
use Rattle.sd_hbac.proofs.Compiling.{served_of}
use Rattle.sd_hbac.proofs.elements.Served.of.Goals as goal

pub returns : goal.returns
returns c =
    served_of c.args.services.now c.args.element.now c.in_ok-groups.groups c.in_ok-names.names (record { all = c.args.element.now.all; names = c.in_ok-of.field-0 }) refl
    c.in_ok-groups.ensures c.in_ok-names.ensures c.in_ok-of.ensures
