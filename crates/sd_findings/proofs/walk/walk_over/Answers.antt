use Rattle.sd_findings.proofs.walk.walk_over.Goals as goal

pub returns : goal.returns
returns c = c.in_ok-pass_all.ensures (c.in_ok-walk.ensures _)
