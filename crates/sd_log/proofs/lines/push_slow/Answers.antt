use Rattle.std.proofs.Common.{rules, ◌≡◌, ◌++◌, codes, ℕ, List, ◌∙◌}
use Rattle.sd_wire.specs.Forms.{numbered, numbered_within}
use Rattle.sd_log.proofs.Joined.{joined}
use Rattle.sd_log.specs.Lines as texts
use Rattle.sd_log.proofs.lines.push_slow.Goals as goal

pub returns : goal.returns
returns c =
    joined c.push_numbered_within.result c.args.out.now.items (numbered (codes "a forget and a flush took ") c.args.whole)
    (numbered_within (codes " milliseconds, ") c.args.store (codes " of them the store")) c.push_numbered.new.out.items c.push_numbered_within.new.out.items
    c.in_ok-push_numbered.ensures.ok c.push_numbered_within.ensures.ok
