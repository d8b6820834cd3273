use Rattle.sd_idmap.proofs.lines.cut_line.Goals as goal

pub returns : goal.returns
returns c = record {
  pieces = c.cut.ensures.pieces;
  shorter = c.cut.ensures.shorter;
}
