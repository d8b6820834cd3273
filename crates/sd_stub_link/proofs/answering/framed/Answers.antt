use Rattle.std.proofs.Common.{◌≡◌, length, ◌∙◌}
use Rattle.std.proofs.lemmas.Result.{IfOk-weaker}
use Rattle.std.specs.List.{flat_map}
use Rattle.sd_ldap.specs.MessageReading.{decode_of}
use Rattle.sd_match.specs.Answering.{replies_to}
use Rattle.sd_stub_link.specs.Modes.{answer_where_whole, framed_bytes}
use Rattle.sd_stub_link.specs.Framing.{Reframes}
use Rattle.sd_stub_link.proofs.Modes.{framed_whole}
use Rattle.sd_stub_link.proofs.answering.framed.Goals as goal

pub returns : goal.returns
returns c =
    IfOk-weaker c.reframed.result (λ v. Reframes c.args.outer c.deref.result.now v.items)
    (λ v. v.items ≡ answer_where_whole (λ m. flat_map (framed_bytes c.args.outer) (replies_to c.args.directory.now m)) (length c.args.piece.now) (decode_of c.args.piece.now))
    (λ v reframes. framed_whole c.args.outer c.args.directory.now c.args.piece.now c.deref.result.now v.items (c.deref.ensures.value ∙ c.in_ok-bytes.ensures) reframes)
    c.reframed.ensures
