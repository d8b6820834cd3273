use Rattle.std.proofs.Common.{◌≡◌, ◌∷◌, ◌++◌, ap}
use Rattle.std.specs.Option.{option_copied}
use Rattle.sd_layout.specs.Blocks.{statements_of}
use Rattle.sd_lines.specs.Words as words
use Rattle.sd_world.specs.Prints.{full_line}
use Rattle.sd_world.specs.Tasks.{World}
use Rattle.sd_world.proofs.LineLaws.{line_of_bounded}
use Rattle.sd_world.proofs.Output.{full_end}
use Rattle.sd_world.proofs.runs.do_lines.Goals as goal

pub do_line-requires : goal.do_line-requires
do_line-requires c =
    let begins : statements_of c.loop-left.number (words.pieces_in 10 (option_copied c.loop-left.left)) ≡ c.in_ok-next.next.statement ∷ statements_of c.in_ok-next.next.number (words.pieces_in 10 (option_copied c.in_ok-next.next.rest)) = rw c.in-Some.is c.in_ok-next.ensures.told in
    record { bounded = line_of_bounded c.loop-left.world c.args.world.now c.in_ok-next.next.statement _ _ (statements_of c.args.first (words.pieces_in 10 (option_copied c.args.body))) begins c.loop-left.invariant.told c.requires.bounded }

pub returns-in-Err-Full : goal.returns-in-Err-Full
returns-in-Err-Full c =
    let done = rw c.in-Err-Full.field-0-is at c.in-Err-Full.ensures.done in
    let printed = ap (λ (w : World). w.printed) c.in_ok-print_full-in-Err-Full.ensures in
    let ended : c.print_full.new.self.printed ≡ c.do_line.new.self.printed ++ full_line c.in-Err-Full.number = cc (c.in-Err-Full.number-is, printed) in
    let begins : statements_of c.loop-left.number (words.pieces_in 10 (option_copied c.loop-left.left)) ≡ c.in_ok-next.next.statement ∷ statements_of c.in_ok-next.next.number (words.pieces_in 10 (option_copied c.in_ok-next.next.rest)) = rw c.in-Some.is c.in_ok-next.ensures.told in
    full_end _ c.args.world.now _ _ _ _ _ (statements_of c.args.first (words.pieces_in 10 (option_copied c.args.body))) _ done ended begins c.loop-left.invariant.told
