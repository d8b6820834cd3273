use Rattle.std.proofs.Common.{rules, ◌∙◌}
use Rattle.sd_storm.proofs.Asking.{asked_step}
use Rattle.sd_storm.proofs.asked.users_asked.Goals as goal

pub loop-request-preserved : goal.loop-request-preserved
loop-request-preserved c =
    let step = asked_step c.loop-request.users.items c.loop-request.state c.args.requests c.loop-request.request c.loop-request-test.true in
    let before = step ∙ c.loop-request.invariant in
    search rules
