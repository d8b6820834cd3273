use Rattle.sd_books.proofs.NotedLaws.{say_if_forgotten}
use Rattle.sd_books.proofs.books.UserBookLoginBook.forget.Goals as goal

pub returns-clause-says : goal.returns-clause-says
returns-clause-says g c =
    say_if_forgotten c.forget.result (g.P.Past.entries c.args.past.now) (g.P.Past.entries c.forget.new.self) c.args.self.now.marks c.forget.ensures.kept c.forget.ensures.unchanged c.requires.shown.logins c.requires.says
