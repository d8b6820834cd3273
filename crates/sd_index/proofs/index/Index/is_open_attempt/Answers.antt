use Rattle.std.proofs.Common.{◌∙◌, ap}
use Rattle.std.specs.List.{list_any}
use Rattle.sd_index.specs.Places.{is_attempt_of}
use Rattle.sd_index.specs.Table.{Table}
use Rattle.sd_index.proofs.OpenLaws.{attempt_is}
use Rattle.sd_index.proofs.index.Index.is_open_attempt.Goals as goal

pub returns : goal.returns
returns c = λ past is.
    c.has_attempt.ensures
    ∙ ap (list_any (is_attempt_of c.args.number)) c.as_slice.ensures.value
    ∙ ap (λ (t : Table). list_any (is_attempt_of c.args.number) t.places) c.self.view_is
    ∙ ap (list_any (is_attempt_of c.args.number)) is.places
    ∙ attempt_is past c.args.number is.numbers
