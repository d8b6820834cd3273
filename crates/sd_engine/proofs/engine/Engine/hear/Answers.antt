use Rattle.std.proofs.Common.{ap, subst, inr}
use Rattle.sd_engine.specs.Engines.{Engine, with_inbox}
use Rattle.sd_engine.specs.Listening.{IsTaken}
use Rattle.sd_engine.proofs.engine.Engine.hear.Goals as goal

pub returns-in-Waits-clause-hears : goal.returns-in-Waits-clause-hears
returns-in-Waits-clause-hears g c = inr (record {
  inbox = c.listen.new.inbox;
  taken =
      subst (λ (e : Engine). IsTaken e.inbox c.listen.new.inbox (g.S.Source.left c.args.source.now) (g.S.Source.left c.listen.new.source)) c.self.view_is
      c.in-Waits.ensures.listens;
  after = ap (λ (e : Engine). with_inbox e c.listen.new.inbox) c.self.view_is;
})
