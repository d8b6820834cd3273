-- no request is led where the outcome is known
use Rattle.std.proofs.Common.{ap, sym, ◌∙◌, List}
use Rattle.sd_rules.specs.declared.scripts.Led.{Led}
use Rattle.sd_rules.specs.Lookups.{dn_said}
use Rattle.sd_rules.specs.LoginScript as scripts
use Rattle.sd_pam.proofs.login.finding.Goals as goal

pub returns-in-Ended : goal.returns-in-Ended
returns-in-Ended c = λ user.
    c.found_by.ensures user
    ∙ ap (λ (led : List Led). scripts.found_by c.in-Ended.said led (dn_said c.in-Ended.said)) (c.no_renewals.ensures.led user)
    ∙ sym (ap (scripts.finding user) c.in-Ended.is)
