use Rattle.sd_pieces.proofs.Cuts.{pieces_by_cut, shorter_by_cut}
use Rattle.sd_pieces.proofs.cutting.cut.Goals as goal

pub returns : goal.returns
returns c = record {
  parts = c.cut_at_first.ensures;
  pieces = pieces_by_cut c.args.by c.args.bytes.now _ c.cut_at_first.ensures;
  shorter = shorter_by_cut c.args.by c.args.bytes.now _ c.cut_at_first.ensures;
}
