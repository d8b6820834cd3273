use Rattle.std.proofs.Common.{ℕ, List, reverse, ◌∙◌, ap}
use Rattle.sd_findings.specs.Findings.{has_below}
use Rattle.sd_findings.proofs.FindingLaws.{after_asking}
use Rattle.sd_sieve.proofs.voids.is_after_asking.Goals as goal

pub returns : goal.returns
returns c = λ all found.
    c.has_below.ensures
    ∙ ap (λ (l : List ℕ). has_below c.args.number l) c.as_slice.ensures.value
    ∙ ap (λ (l : List ℕ). has_below c.args.number l) found.askings
    ∙ after_asking (reverse all) (reverse all) c.args.number
