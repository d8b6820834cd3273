use Rattle.std.proofs.Common.{sym}
use Rattle.sd_books.proofs.RuledLaws.{rules_below}
use Rattle.sd_books.proofs.rulings.rules_of.Goals as goal

pub compile-requires : goal.compile-requires
compile-requires c = rules_below c.args.answer.answered.now c.in-Some.book.now (sym c.in-Some.ensures) c.requires
