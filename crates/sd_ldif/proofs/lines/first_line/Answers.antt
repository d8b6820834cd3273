use Rattle.sd_ldif.proofs.Pieces.{first_by_pieces}
use Rattle.sd_ldif.proofs.lines.first_line.Goals as goal

pub returns : goal.returns
returns c = record {
  first = first_by_pieces c.args.text.now _ _ _ c.cut.ensures.pieces c.ended_piece.ensures;
  shorter = c.cut.ensures.shorter;
}
