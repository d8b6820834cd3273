use Rattle.std.proofs.Common.{◌≡◌, ◌<◌, rules, subst, sym}
use Rattle.sd_rules.specs.Steps.{Daemon}
use Rattle.sd_desk.proofs.Made.{number_above}
use Rattle.sd_desk.proofs.shared.SharedCore.new.Goals as goal

pub invariant_of-result : goal.invariant_of-result
invariant_of-result c =
    let same : c.in_ok-new.field-0.value ≡ c.args.core = search rules in
    record { above = subst (λ (d : Daemon). 0 < d.next) (sym same) (number_above c.args.core c.next_number.ensures.sound) }
