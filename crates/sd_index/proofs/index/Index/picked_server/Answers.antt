use Rattle.std.proofs.Common.{List, reverse, ◌∙◌, ap}
use Rattle.sd_rules.specs.declared.replies.Entry.{Entry}
use Rattle.sd_rules.specs.Servers.{picked_server}
use Rattle.sd_index.specs.Table.{Table}
use Rattle.sd_index.proofs.SignalLaws.{signals_pick}
use Rattle.sd_index.proofs.index.Index.picked_server.Goals as goal

pub returns : goal.returns
returns c = λ past is.
    c.picked_server.ensures
    ∙ ap (λ (es : List Entry). picked_server c.args.settings.now (reverse es) c.args.request c.args.moment) c.as_slice.ensures.value
    ∙ ap (λ (t : Table). picked_server c.args.settings.now t.signals c.args.request c.args.moment) c.self.view_is
    ∙ ap (λ (es : List Entry). picked_server c.args.settings.now es c.args.request c.args.moment) is.signals
    ∙ signals_pick c.args.settings.now past c.args.request c.args.moment
