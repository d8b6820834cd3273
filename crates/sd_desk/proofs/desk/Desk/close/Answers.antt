use Rattle.std.proofs.Common.{◌≡◌, rules, subst}
use Rattle.sd_rules.specs.Reaching.{Reaches}
use Rattle.sd_desk.specs.Desks.{opening, front}
use Rattle.sd_desk.specs.Journals.{basis_of}
use Rattle.sd_desk.proofs.Journals.{daemon_under}
use Rattle.sd_desk.proofs.desk.Desk.close.Goals as goal

pub returns-clause-reached : goal.returns-clause-reached
returns-clause-reached c =
    let same : c.in_ok-core.field-0.core.value ≡ c.into_inner.result = search rules in
    subst (Reaches (front c.args.self c.args.seat)) same
    (subst (Reaches (front c.args.self c.args.seat)) (daemon_under (basis_of (opening c.args.self)) c.in_ok-core.field-0.core.value c.in_ok-core.ensures.setting) c.in_ok-core.ensures.follows)
