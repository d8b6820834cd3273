use Rattle.std.specs.Option.{option_copied}
use Rattle.sd_layout.specs.Blocks.{statements_of}
use Rattle.sd_lines.specs.Words as words
use Rattle.sd_world.proofs.LineLaws.{begun_bounded, starts_bounded}
use Rattle.sd_world.proofs.runs.run.Goals as goal

pub returns-in_err-world-clause-bounded : goal.returns-in_err-world-clause-bounded
returns-in_err-world-clause-bounded c = begun_bounded c.args.config (statements_of c.args.first (words.pieces_in 10 (option_copied c.args.body)))

pub do_lines-requires-clause-bounded : goal.do_lines-requires-clause-bounded
do_lines-requires-clause-bounded c =
    starts_bounded c.in_ok-world.world c.args.config (statements_of c.args.first (words.pieces_in 10 (option_copied c.args.body))) c.in_ok-world.ensures

pub returns-in_err-whole-clause-bounded : goal.returns-in_err-whole-clause-bounded
returns-in_err-whole-clause-bounded c = begun_bounded c.args.config (statements_of c.args.first (words.pieces_in 10 (option_copied c.args.body)))
