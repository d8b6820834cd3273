use Rattle.sd_world.proofs.LineLaws.{rests_if, steps_if}
use Rattle.sd_world.proofs.world.World.do_line.Goals as goal

pub returns-clause-rests : goal.returns-clause-rests
returns-clause-rests c = rests_if c.args.self.now c.carry_out.new.self c.args.line.now c.carry_out.result c.carry_out.ensures.done

pub returns-clause-steps : goal.returns-clause-steps
returns-clause-steps c = steps_if c.args.self.now c.carry_out.new.self c.args.line.now c.carry_out.result c.carry_out.ensures.done
