use Rattle.std.proofs.Common.{rules, ◌≡◌, ◌<◌, List, ℕ, length, reverse, take, get_or, sym, subst, ◌∙◌}
use Rattle.std.specs.Option.{option_copied}
use Rattle.sd_rules.specs.declared.replies.Entry.{Entry}
use Rattle.sd_books.specs.declared.notes.Note.{Note}
use Rattle.sd_books.specs.Noted.{HasCount, Keeps, SayOfUsers}
use Rattle.sd_books.proofs.NotedLaws.{counts_at, has_count, more_at, say_after}
use Rattle.sd_books.proofs.books.marks_of.Goals as goal

pub keep-requires-clause-counts : goal.keep-requires-clause-counts
keep-requires-clause-counts c =
    let all : List Entry = c.args.entries.now in
    let e : Entry = c.index-entries-place.result in
    let place : ℕ = c.loop-place.place in
    let lt : place < length all = search rules in
    let at : e ≡ get_or all place e = search rules in
    let before : List Entry = reverse (take place all) in
    let user = c.as_ref.ensures.value ∙ c.in_ok-user.ensures.user in
    let counts = counts_at all place e lt at c.requires in
    subst (λ (note : Note). HasCount c.make_room.new.marks (option_copied c.as_ref.result) note) (sym c.note_of.ensures)
    (has_count c.make_room.new.marks before e (option_copied c.as_ref.result) (c.make_room.ensures.says before c.loop-place.invariant) user counts.0 counts.1)

pub loop-place-preserved : goal.loop-place-preserved
loop-place-preserved c =
    let all : List Entry = c.args.entries.now in
    let e : Entry = c.index-entries-place.result in
    let place : ℕ = c.loop-place.place in
    let lt : place < length all = search rules in
    let at : e ≡ get_or all place e = search rules in
    let before : List Entry = reverse (take place all) in
    let user = c.as_ref.ensures.value ∙ c.in_ok-user.ensures.user in
    let kept = subst (λ (note : Note). Keeps c.make_room.new.marks c.keep.new.marks (option_copied c.as_ref.result) note) c.note_of.ensures c.keep.ensures in
    subst (λ (es : List Entry). SayOfUsers c.keep.new.marks es) (sym (more_at all place e lt at))
    (say_after c.make_room.new.marks c.keep.new.marks before e (option_copied c.as_ref.result) (c.make_room.ensures.says before c.loop-place.invariant) user kept)
