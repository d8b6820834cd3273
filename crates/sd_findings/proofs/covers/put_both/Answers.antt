use Rattle.std.specs.Option.{option_copied}
use Rattle.sd_cache.proofs.Puts.{on_ok}
use Rattle.sd_findings.proofs.CoverLaws.{first_of_two}
use Rattle.sd_findings.proofs.covers.put_both.Goals as goal

pub returns : goal.returns
returns c =
    on_ok c.put_first-2.result _ _
    (λ two. first_of_two (option_copied c.args.name) (option_copied c.args.other) c.args.lasts.now.entries c.args.firsts.now.entries c.put_first.new.firsts.entries
    c.put_first-2.new.firsts.entries c.args.number c.in_ok-put_first.ensures two)
    c.put_first-2.ensures
