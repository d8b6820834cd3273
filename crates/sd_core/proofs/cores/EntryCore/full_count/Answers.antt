use Rattle.std.proofs.Common.{List, length, arith, ap}
use Rattle.std.proofs.lemmas.List.{length-reverse}
use Rattle.sd_rules.specs.declared.replies.Entry.{Entry}
use Rattle.sd_core.proofs.HeldLaws.{entries_below}
use Rattle.sd_core.proofs.cores.EntryCore.full_count.Goals as goal

pub overflow_add-result : goal.overflow_add-result
overflow_add-result g c =
    let few = entries_below c.self.inside.next (g.P.Past.entries c.self.inside.past) c.self.invariant.0.sound.numbers in
    let same = ap (λ (es : List Entry). length es) c.list.ensures in
    let long = length-reverse c.list.result.now in
    omega (arith, few, same, long, c.reserved_places.ensures, c.self.invariant.0.sound.room)
