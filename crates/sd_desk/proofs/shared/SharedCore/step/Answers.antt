use Rattle.std.proofs.Common.{◌≡◌, true, rules, subst}
use Rattle.std.specs.Prelude.{IsOk}
use Rattle.sd_rules.specs.Steps.{Daemon}
use Rattle.sd_past.specs.Closing.{closes_place}
use Rattle.sd_core.specs.Sound.{IsSound}
use Rattle.sd_desk.proofs.Made.{not_closing}
use Rattle.sd_desk.proofs.Texts.{bounded_if_made}
use Rattle.sd_desk.proofs.shared.SharedCore.step.Goals as goal

pub returns-clause-texts : goal.returns-clause-texts
returns-clause-texts c =
    let same : c.deref.result.now ≡ c.deref_mut.result.now = search rules in
    bounded_if_made c.deref_mut.result.now c.args.now c.args.event c.step.result (subst IsSound same c.next_number.ensures.sound) c.step.ensures.room c.step.ensures.given

pub returns-clause-closing : goal.returns-clause-closing
returns-clause-closing c =
    let same : c.deref_mut.result.now ≡ c.args.self.now.core.value = search rules in
    not_closing (closes_place c.args.self.now.core.value.past c.args.event) c.step.result
    (subst (λ (d : Daemon). closes_place d.past c.args.event ≡ true → IsOk c.step.result) same c.step.ensures.closing)
