use Rattle.std.proofs.Common.{rules, ◌≡◌, ◌++◌, codes, ℕ, List, OnOk, subst}
use Rattle.sd_wire.specs.Forms.{numbered, worded}
use Rattle.sd_log.proofs.Joined.{joined}
use Rattle.sd_log.specs.Lines as texts
use Rattle.sd_log.proofs.lines.push_provider.Goals as goal

pub returns : goal.returns
returns c =
    let behind = codes ", but logins are asked of the LDAP servers" in
    let named = worded (codes ": auth_provider = ") c.args.provider.now in
    subst (λ (line : ℕ). OnOk c.push_bytes.result (c.push_bytes.new.out.items ≡ c.args.out.now.items ++ (numbered (codes "line ") line ++ (named ++ behind)))) c.from.ensures
    (joined c.push_bytes.result c.args.out.now.items (numbered (codes "line ") c.from.result) (named ++ behind) c.push_numbered.new.out.items c.push_bytes.new.out.items
    c.in_ok-push_numbered.ensures.ok
    (joined c.push_bytes.result c.push_numbered.new.out.items named behind c.push_worded.new.out.items c.push_bytes.new.out.items
    c.in_ok-push_worded.ensures.ok c.push_bytes.ensures.ok))
