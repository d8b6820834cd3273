use Rattle.std.proofs.Common.{List, ap, sym, subst, ◌∙◌}
use Rattle.std.specs.Option.{option_copied}
use Rattle.sd_rules.specs.declared.replies.Entry.{Entry}
use Rattle.sd_books.specs.declared.notes.Note.{Note}
use Rattle.sd_books.specs.Noted.{HasCount, Keeps, SayOfUsers, user_told}
use Rattle.sd_books.proofs.NotedLaws.{has_count, say_after}
use Rattle.sd_books.proofs.books.UserBookLoginBook.put.Goals as goal

pub keep-requires-clause-counts : goal.keep-requires-clause-counts
keep-requires-clause-counts g c =
    let past : List Entry = g.P.Past.entries c.args.past.now in
    let user = c.as_ref.ensures.value ∙ (c.in-Ok.ensures.user ∙ ap (λ (es : List Entry). user_told es c.args.entry) c.list.ensures) in
    subst (λ (note : Note). HasCount c.make_room.new.marks (option_copied c.as_ref.result) note) (sym c.note_of-note.ensures)
    (has_count c.make_room.new.marks past c.args.entry (option_copied c.as_ref.result) (c.make_room.ensures.says past c.requires.says) user c.requires.before c.requires.after)

pub returns-clause-says : goal.returns-clause-says
returns-clause-says g c =
    let past : List Entry = g.P.Past.entries c.args.past.now in
    let user = c.as_ref.ensures.value ∙ (c.in-Ok.ensures.user ∙ ap (λ (es : List Entry). user_told es c.args.entry) c.list.ensures) in
    let kept = subst (λ (note : Note). Keeps c.make_room.new.marks c.keep.new.marks (option_copied c.as_ref.result) note) c.note_of-note.ensures c.keep.ensures in
    subst (λ (es : List Entry). SayOfUsers c.keep.new.marks es) (sym c.in_ok-put.ensures.ok)
    (say_after c.make_room.new.marks c.keep.new.marks past c.args.entry (option_copied c.as_ref.result) (c.make_room.ensures.says past c.requires.says) user kept)
