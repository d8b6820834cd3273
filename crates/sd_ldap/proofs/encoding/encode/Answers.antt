use Rattle.std.proofs.Common.{◌≡◌, ◌≤◌, length, ap, ◌∙◌, arith, rules}
use Rattle.std.proofs.lemmas.Grind.{common_steps}
use Rattle.sd_ldap.specs.Values.{message_value}
use Rattle.sd_ldap.specs.Spelling.{inside, content_bytes, message_bytes}
use Rattle.sd_ldap.proofs.MessageAgain.{decoded_as}
use Rattle.sd_ldap.proofs.encoding.encode.Goals as goal

pub returns-clause-back : goal.returns-clause-back
returns-clause-back c = λ sound.
    let m = message_value c.args.message.now in
    let same : c.in_ok-framed.field-0.items ≡ message_bytes m = c.in_ok-framed.ensures ∙ ap (inside 48) (c.deref.ensures.value ∙ c.in_ok-contents.ensures) in
    let small : length (content_bytes m) ≤ 16777216 = first_of (search rules, grind (arith, common_steps)) in
    decoded_as m c.in_ok-framed.field-0.items sound small same
