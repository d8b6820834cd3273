use Rattle.std.proofs.Common.{rules}
use Rattle.sd_world.proofs.KnownLaws.{keeps_itself}
use Rattle.sd_world.proofs.moves.act.Goals as goal

pub returns-in_err-settle_by-in_default : goal.returns-in_err-settle_by-in_default
returns-in_err-settle_by-in_default c = record {
  known = c.settle_by.ensures.known c.args.core.now c.requires.known;
  keys = keeps_itself c.args.core.now;
  done = search rules;
}

pub returns-in_ok-settle_by-in_default : goal.returns-in_ok-settle_by-in_default
returns-in_ok-settle_by-in_default c = record {
  known = c.settle_by.ensures.known c.args.core.now c.requires.known;
  keys = keeps_itself c.args.core.now;
  done = search rules;
}
