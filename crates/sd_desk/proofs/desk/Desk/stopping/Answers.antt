use Rattle.std.proofs.Common.{sym, subst}
use Rattle.sd_desk.specs.declared.shared.SharedCore.{SharedCore}
use Rattle.sd_desk.specs.Holding.{MayGive}
use Rattle.sd_desk.proofs.Giving.{may_give}
use Rattle.sd_desk.proofs.desk.Desk.stopping.Goals as goal

pub give-requires : goal.give-requires
give-requires g c =
    subst (λ (v : SharedCore). MayGive c.args.self.now c.take-held.new.seat v.core.value) (sym c.value.ensures.value)
    (may_give c.args.self.now c.take-held.new.seat c.take-held.result.value.core.value c.take-held.ensures.holds)
