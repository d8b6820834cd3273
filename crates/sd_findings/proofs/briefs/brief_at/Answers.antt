use Rattle.std.proofs.Common.{ℕ, ◌∙◌, ap, arith}
use Rattle.sd_findings.specs.declared.briefs.Brief.{Brief}
use Rattle.sd_findings.specs.declared.briefs.Traits.{Traits}
use Rattle.sd_findings.proofs.MarkLaws.{offset_at, offsets_long, traits_at, traits_long}
use Rattle.sd_findings.proofs.briefs.brief_at.Goals as goal

pub index-requires : goal.index-requires
index-requires c =
    let long = offsets_long c.args.entries.now c.args.made.now c.requires.briefs in
    omega (arith, long, c.requires.within)

pub number_of-requires : goal.number_of-requires
number_of-requires c =
    c.index.ensures
    ∙ offset_at c.args.entries.now c.args.made.now c.args.place c.args.entry.now c.index.result.now c.requires.briefs c.requires.within c.requires.at

pub index-requires-2 : goal.index-requires-2
index-requires-2 c =
    let long = traits_long c.args.entries.now c.args.made.now c.requires.briefs in
    omega (arith, long, c.requires.within)

pub returns : goal.returns
returns c =
    ap (λ (n : ℕ). let b : Brief = record { number = n; traits = c.index-2.result.now } in b) c.number_of.ensures
    ∙ ap (λ (t : Traits). let b : Brief = record { number = c.args.entry.now.number; traits = t } in b)
    (c.index-2.ensures
    ∙ traits_at c.args.entries.now c.args.made.now c.args.place c.args.entry.now c.index-2.result.now c.requires.briefs c.requires.within c.requires.at)
