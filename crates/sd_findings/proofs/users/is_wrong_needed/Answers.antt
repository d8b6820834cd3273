use Rattle.std.proofs.Common.{ℕ, ◌&&◌, not, ◌==◌, Option, List, ◌∙◌, ap, sym}
use Rattle.std.specs.Option.{option_copied}
use Rattle.sd_rules.specs.Needed.{is_since_accepted}
use Rattle.sd_rules.specs.Needed as needed
use Rattle.sd_findings.specs.Users.{is_after}
use Rattle.sd_findings.proofs.SinceLaws.{since_is, counted}
use Rattle.sd_findings.proofs.users.is_wrong_needed.Goals as goal

pub returns-then-wrongs-ne0 : goal.returns-then-wrongs-ne0
returns-then-wrongs-ne0 c = λ past held falling stands.
    let user : List ℕ = c.in-Some.user.now in
    let n : ℕ = c.args.entry.now.number in
    let kept = held.accepts.each user in
    let since = since_is past c.args.entry.now user falling stands in
    c.is_after.ensures
    ∙ ap (λ (o : Option ℕ). is_after n o) (c.number_under.ensures ∙ kept)
    ∙ sym since
    ∙ counted c.wrongs.result (is_since_accepted past user n) c.if-wrongs-ne0.true
    ∙ ap (λ (k : ℕ). not (k == 0) && is_since_accepted past user n) c.wrongs.ensures
    ∙ ap (λ o. needed.is_wrong_needed past c.args.entry.now (option_copied o)) (sym c.in-Some.is)
