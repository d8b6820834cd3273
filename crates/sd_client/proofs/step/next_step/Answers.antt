use Rattle.std.proofs.Common.{length, subst, sym}
use Rattle.sd_ldap.specs.Values.{message_value}
use Rattle.sd_client.specs.declared.step.Step.{Step}
use Rattle.sd_client.specs.Waiting.{IsWithin}
use Rattle.sd_ldap.proofs.Sizes.{used_within}
use Rattle.sd_client.proofs.Steps.{message_within}
use Rattle.sd_client.proofs.step.next_step.Goals as goal

pub returns-in-Whole-clause-within : goal.returns-in-Whole-clause-within
returns-in-Whole-clause-within c =
    let m = message_value c.in-Whole.message in
    let count = length c.args.bytes.now in
    subst
    (λ (s : Step). IsWithin s count)
    (sym c.message_step.ensures)
    (message_within c.args.request c.args.id c.in-Whole.used count m (used_within c.args.bytes.now m c.in-Whole.used c.in-Whole.ensures.exact))
