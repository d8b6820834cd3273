use Rattle.std.proofs.Common.{Option, ◌∙◌, ap}
use Rattle.std.specs.Option.{option_map}
use Rattle.sd_rules.specs.Past.{newest}
use Rattle.sd_cache.specs.declared.kept.Newest.{Newest}
use Rattle.sd_past.specs.Standings.{standing_of}
use Rattle.sd_past.proofs.StandingLaws.{standing_kept}
use Rattle.sd_past.proofs.standings.newest_by.Goals as goal

pub returns : goal.returns
returns c = λ past indexes.
    c.standing_if.ensures
    ∙ ap (λ (o : Option Newest). option_map standing_of o) (c.newest.ensures past indexes)
    ∙ standing_kept (newest past c.args.key.now)
