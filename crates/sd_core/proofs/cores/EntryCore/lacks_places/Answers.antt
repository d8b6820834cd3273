use Rattle.std.proofs.Common.{◌∙◌, List, ap, length, sym}
use Rattle.std.proofs.lemmas.List.{length-reverse}
use Rattle.sd_rules.specs.declared.replies.Entry.{Entry}
use Rattle.sd_rules.specs.Steps.{Daemon}
use Rattle.sd_core.proofs.Room.{places_left}
use Rattle.sd_core.proofs.cores.EntryCore.lacks_places.Goals as goal

pub returns-else-limit-entries : goal.returns-else-limit-entries
returns-else-limit-entries g c =
    let kept = sym (length-reverse c.list-entries.result.now) ∙ ap (λ (es : List Entry). length es) c.list-entries.ensures ∙ ap (λ (d : Daemon). length d.past) c.self.view_is in
    places_left _ _ c.args.self.now c.requires kept c.if-limit-entries.false
