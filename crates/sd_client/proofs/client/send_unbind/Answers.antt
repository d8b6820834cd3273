use Rattle.std.proofs.Common.{◌≡◌, ℕ, List, Some, subst}
use Rattle.sd_ldap.specs.Spelling.{message_bytes}
use Rattle.sd_client.specs.Talk.{unbind_message}
use Rattle.sd_client.proofs.client.send_unbind.Goals as goal

pub returns-in-Ok-clause-asked : goal.returns-in-Ok-clause-asked
returns-in-Ok-clause-asked g c = λ yes.
    let m = unbind_message c.args.id in
    let piece : c.split_at.result.0.now ≡ message_bytes m = cc (c.split_at.ensures.front, c.unbind_bytes-count.ensures.bytes) in
    g.met.L.DirectoryLink.asks c.args.link.now c.send.new.self m (record { id = c.requires; operation = tt })
    (subst (λ (bytes : List ℕ). g.L.Link.went c.args.link.now (Some bytes) c.send.new.self) piece c.in-Ok.ensures.went)
