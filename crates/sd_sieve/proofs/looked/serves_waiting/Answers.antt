use Rattle.std.proofs.Common.{ℕ, List, reverse, ◌∙◌, ap}
use Rattle.sd_findings.specs.Findings.{is_among}
use Rattle.sd_findings.proofs.FindingLaws.{among_awaited}
use Rattle.sd_sieve.proofs.looked.serves_waiting.Goals as goal

pub returns : goal.returns
returns c = λ all found.
    c.has.ensures
    ∙ ap (λ (l : List ℕ). is_among c.args.number l) c.as_slice.ensures.value
    ∙ ap (λ (l : List ℕ). is_among c.args.number l) found.awaited
    ∙ among_awaited (reverse all) (reverse all) c.args.number
