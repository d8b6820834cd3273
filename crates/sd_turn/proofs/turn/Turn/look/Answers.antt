use Rattle.std.proofs.Common.{rules}
use Rattle.sd_turn.specs.Seats.{opening}
use Rattle.sd_turn.proofs.Looking.{looks}
use Rattle.sd_turn.proofs.turn.Turn.look.Goals as goal

pub load-requires : goal.load-requires
load-requires g c = (search rules, search rules, looks g.V.Chronicle (opening c.args.self.now) _ _ _ _ c.requires.1)
