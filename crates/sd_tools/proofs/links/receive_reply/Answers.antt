use Rattle.std.proofs.Common.{◌∙◌}
use Rattle.sd_tools.proofs.Talking.{ok_mapped, reply_whole}
use Rattle.sd_tools.proofs.links.receive_reply.Goals as goal

pub returns-clause-reply : goal.returns-clause-reply
returns-clause-reply g c =
    ok_mapped c.receive_bytes-2.result _ _
    (λ text h. reply_whole c.in_ok-octets.octets.items text.items c.size_of-size.result _ _ _
    (c.size_of-size.ensures.octets ∙ c.as_slice.ensures.value)
    c.if-size-gt-LONGEST_REPLY.false
    c.in_ok-octets.ensures.whole.1
    h)
    c.receive_bytes-2.ensures.whole
