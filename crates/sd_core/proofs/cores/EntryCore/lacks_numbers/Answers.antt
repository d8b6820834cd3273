use Rattle.std.proofs.Common.{◌∙◌, List, ap, length, sym}
use Rattle.std.proofs.lemmas.List.{length-reverse}
use Rattle.sd_rules.specs.Steps.{Daemon}
use Rattle.sd_rules.specs.declared.replies.Entry.{Entry}
use Rattle.sd_core.proofs.Room.{numbers_left}
use Rattle.sd_core.proofs.cores.EntryCore.lacks_numbers.Goals as goal

pub returns-else-last-next : goal.returns-else-last-next
returns-else-last-next g c =
    let kept = sym (length-reverse c.list-entries.result.now) ∙ ap (λ (es : List Entry). length es) c.list-entries.ensures ∙ ap (λ (d : Daemon). length d.past) c.self.view_is in
    numbers_left _ _ _ c.args.self.now c.from-last.ensures (c.from-next.ensures ∙ c.next_number.ensures.number) kept c.if-last-next.false
