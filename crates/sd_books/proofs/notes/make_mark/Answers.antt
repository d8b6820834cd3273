use Rattle.std.proofs.Common.{rules, ◌≡◌, ap, sym, ◌∙◌}
use Rattle.sd_creds.specs.declared.marks.Mark.{Mark}
use Rattle.sd_books.proofs.NotedLaws.{say_then}
use Rattle.sd_books.proofs.notes.make_mark.Goals as goal

pub returns-in_ok-wrong-clause-says : goal.returns-in_ok-wrong-clause-says
returns-in_ok-wrong-clause-says c =
    let none : c.mark.result.wrong_count ≡ 0 = search rules in
    say_then c.args.marks.now c.wrong.new.self c.args.user.now c.args.moment (ap (λ (m : Mark). m.wrong_count) (sym c.mark.ensures) ∙ none) c.in_ok-wrong.ensures.marks
