use Rattle.std.proofs.Common.{false, arith}
use Rattle.sd_findings.proofs.MarkLaws.{looked_at, looked_long}
use Rattle.sd_findings.proofs.marks.is_looked_at.Goals as goal

pub bounds-marks-place : goal.bounds-marks-place
bounds-marks-place c =
    let long = looked_long c.args.entries.now c.args.marks.now c.requires.marks in
    omega (arith, long, c.requires.within)

pub returns : goal.returns
returns c = looked_at c.args.entries.now c.args.marks.now c.args.place c.args.entry.now false c.requires.marks c.requires.within c.requires.at
