use Rattle.std.proofs.Common.{subst}
use Rattle.sd_core.specs.Sound.{IsSound}
use Rattle.sd_core.proofs.HeldLaws.{rows_kept, kept_few, kept_fit}
use Rattle.sd_core.proofs.cores.EntryCore.kept.Goals as goal

pub returns-clause-rows : goal.returns-clause-rows
returns-clause-rows g c =
    rows_kept c.rows.result c.self.inside.settings c.self.inside.next c.self.inside.floor (g.P.Past.entries c.self.inside.past) c.args.self.now c.rows.ensures c.self.view_is

pub returns-clause-few : goal.returns-clause-few
returns-clause-few g c =
    kept_few c.rows.result c.args.self.now
    (rows_kept c.rows.result c.self.inside.settings c.self.inside.next c.self.inside.floor (g.P.Past.entries c.self.inside.past) c.args.self.now c.rows.ensures c.self.view_is)
    (subst IsSound c.self.view_is c.self.invariant.0.sound)

pub returns-clause-texts : goal.returns-clause-texts
returns-clause-texts g c =
    kept_fit c.rows.result c.args.self.now
    (rows_kept c.rows.result c.self.inside.settings c.self.inside.next c.self.inside.floor (g.P.Past.entries c.self.inside.past) c.args.self.now c.rows.ensures c.self.view_is)
    (subst IsSound c.self.view_is c.self.invariant.0.sound)
