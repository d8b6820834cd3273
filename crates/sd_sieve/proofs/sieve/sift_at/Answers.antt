use Rattle.std.proofs.Common.{Bool, List, subst, sym}
use Rattle.sd_rules.specs.declared.replies.Entry.{Entry}
use Rattle.sd_sieve.specs.Sifting.{SiftsAt}
use Rattle.sd_sieve.proofs.SiftLaws.{sifts_kept}
use Rattle.sd_sieve.proofs.sieve.sift_at.Goals as goal

pub returns-then-is_kept-clause-sifted : goal.returns-then-is_kept-clause-sifted
returns-then-is_kept-clause-sifted c =
    let held : List Entry = c.args.kept.now.items in
    let longer : List Entry = c.push_reserved.new.self.items in
    let old : List Entry = c.args.entries.now.items in
    let taken : List Entry = c.take_at.new.entries.items in
    subst (λ (b : Bool). SiftsAt b c.args.place c.args.count c.args.count held longer old taken) (sym c.if-is_kept.true)
    (sifts_kept held longer old taken c.take_at.result c.args.count c.args.place c.requires.ordered c.requires.within c.take_at.ensures.taken c.take_at.ensures.long
    c.take_at.ensures.before c.take_at.ensures.behind c.push_reserved.ensures.items)
