use Rattle.std.proofs.Common.{List, ◌∙◌, ap}
use Rattle.sd_index.specs.declared.places.Place.{Place}
use Rattle.sd_index.specs.Places.{waits_in}
use Rattle.sd_index.specs.Table.{Table}
use Rattle.sd_index.proofs.OpenLaws.{waits_is}
use Rattle.sd_index.proofs.index.Index.waits_for.Goals as goal

pub returns : goal.returns
returns c = λ past is.
    c.waits.ensures
    ∙ ap (λ (ps : List Place). waits_in ps c.args.ticket) c.as_slice.ensures.value
    ∙ ap (λ (t : Table). waits_in t.places c.args.ticket) c.self.view_is
    ∙ ap (λ (ps : List Place). waits_in ps c.args.ticket) is.places
    ∙ waits_is past c.args.ticket is.numbers
