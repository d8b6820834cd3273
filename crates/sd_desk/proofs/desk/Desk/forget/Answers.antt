use Rattle.std.proofs.Common.{rules, ◌≡◌, sym, ap, subst, ◌∙◌}
use Rattle.std.specs.Prelude.{Result, IfOk, OnOk, OnErr}
use Rattle.sd_turn.specs.Seats as seats
use Rattle.sd_rules.specs.Reaching.{Reaches}
use Rattle.sd_rules.specs.Steps.{Daemon}
use Rattle.sd_desk.specs.declared.shared.SharedCore.{SharedCore}
use Rattle.sd_desk.specs.Desks.{front, mine}
use Rattle.sd_desk.specs.Steps.{Forgot}
use Rattle.sd_desk.proofs.Made.{forgot_if_ok}
use Rattle.sd_desk.proofs.desk.Desk.forget.Goals as goal

pub returns-clause-forgot : goal.returns-clause-forgot
returns-clause-forgot g c =
    let same : c.value.result.now.core.value ≡ c.take-held.result.value.core.value = ap (λ (v : SharedCore). v.core.value) c.value.ensures.value in
    let given_back : front c.args.self.now c.give.new.seat ≡ c.forget-dropped.new.self.core.value = search rules in
    forgot_if_ok (front c.args.self.now c.args.seat.now) c.value.result.now.core.value c.forget-dropped.new.self.core.value (front c.args.self.now c.give.new.seat) c.forget-dropped.result
    (subst (λ (d : Daemon). Reaches (front c.args.self.now c.args.seat.now) d) (sym same)
    (subst (λ (f : Daemon). Reaches f c.take-held.result.value.core.value) c.take-held.ensures.front c.take-held.ensures.holds.reached))
    given_back c.forget-dropped.ensures.forgotten c.forget-dropped.ensures.back
