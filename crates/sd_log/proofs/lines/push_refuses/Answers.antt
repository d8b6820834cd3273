use Rattle.std.proofs.Common.{rules, ◌≡◌, ◌++◌, codes, ℕ, List}
use Rattle.sd_log.proofs.Joined.{joined}
use Rattle.sd_log.specs.Lines as texts
use Rattle.sd_log.proofs.lines.push_refuses.Goals as goal

pub returns : goal.returns
returns c =
    joined c.push_code.result c.args.out.now.items (codes "the directory refuses: ") (texts.code_text c.args.code) c.push_bytes.new.out.items c.push_code.new.out.items
    c.in_ok-push_bytes.ensures.ok c.push_code.ensures
