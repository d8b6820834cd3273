use Rattle.std.proofs.Common.{ℕ, nat_lt, ◌∙◌, ap}
use Rattle.sd_journal.specs.Seen.{standing}
use Rattle.sd_past.proofs.VoidedLaws.{void_after_is}
use Rattle.sd_past.proofs.voided.is_void_after.Goals as goal

pub returns : goal.returns
returns c =
    ap (λ (n : ℕ). nat_lt c.args.a.number n) c.bound.ensures
    ∙ void_after_is c.args.all.now c.args.place c.args.entry.now c.args.voids.now (standing c.args.a) c.requires.numbers c.requires.voids c.requires.within
    c.requires.at c.requires.holds
