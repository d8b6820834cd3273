use Rattle.sd_world.proofs.moves.make_move.Goals as goal

pub returns-in_err-settle_twice-clause-known : goal.returns-in_err-settle_twice-clause-known
returns-in_err-settle_twice-clause-known c = c.settle_twice.ensures.known c.act.new.core c.act.ensures.known

pub returns-clause-known : goal.returns-clause-known
returns-clause-known c = c.settle_twice.ensures.known c.act.new.core c.act.ensures.known
