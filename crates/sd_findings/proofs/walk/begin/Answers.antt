use Rattle.sd_findings.proofs.walk.begin.Goals as goal

pub returns : goal.returns
returns c = λ all. record {
  outline = c.in_ok-outline.ensures all;
  notes = c.no_notes.ensures all;
  briefs = c.in_ok-briefs.ensures;
}
