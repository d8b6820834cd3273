use Rattle.std.proofs.Common.{inl}
use Rattle.sd_engine.proofs.Serving.{serves_by}
use Rattle.sd_engine.proofs.engine.Engine.serve.Goals as goal

pub returns-in-Ok-clause-serves : goal.returns-in-Ok-clause-serves
returns-in-Ok-clause-serves g c =
    inl (serves_by c.args.config.now.pwfield c.args.config.now _ c.in-Ok.need _ c.args.client c.need.new.self _ _ _ _ _ _ c.in-Ok.ensures.need c.in-Ok.ensures.told c.in-Ok.ensures.same c.go_on.ensures.goes)
