-- the course after the reply keeps records of the kinds of their keys
use Rattle.std.proofs.Common.{◌≡◌, true, ap, ◌∙◌}
use Rattle.sd_rules.specs.AccessScript as scripts
use Rattle.sd_rules.specs.Scripts.{fits_found, key_at}
use Rattle.sd_rules.proofs.ScriptKinds.{access_replied_of_kind}
use Rattle.sd_pam.specs.Checks.{AccessState}
use Rattle.sd_pam.specs.Checks as seen
use Rattle.sd_pam.proofs.access.AccessTaskTask.replied.Goals as goal

pub invariant_of-self : goal.invariant_of-self
invariant_of-self c =
    let user = c.self.inside.words.user in
    let before : scripts.AccessCourse = seen.course_of user c.self.inside.words.mode c.self.inside.course in
    let fits : fits_found (scripts.access_key before) c.args.given.found ≡ true =
    ap (λ (s : AccessState). fits_found (key_at (seen.script s)) c.args.given.found) c.self.view_is ∙ c.requires.kind in (
      ap scripts.is_access_of_kind (c.replied.ensures.course user) ∙ access_replied_of_kind before c.args.given c.self.invariant.0 fits,
      c.replied.ensures.order,
    )
