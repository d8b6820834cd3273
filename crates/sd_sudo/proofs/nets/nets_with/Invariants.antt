use Rattle.std.proofs.Common.{drop}
use Rattle.sd_sudo.proofs.Stood.{Left}
use Rattle.sd_sudo.proofs.nets.nets_with.Given as goal

abbrev pub invariant-loop-net : goal.invariant-loop-net
invariant-loop-net l = Left l.directory l.base l.user l.asked (drop l.net-index l.asked) l.nets
