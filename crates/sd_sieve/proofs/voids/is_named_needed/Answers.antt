use Rattle.std.proofs.Common.{ℕ, Bool, ◌&&◌, ◌||◌, Option, List, reverse, ◌∙◌, ap}
use Rattle.sd_rules.specs.declared.keys.What.{What}
use Rattle.sd_rules.specs.declared.replies.Entry.{Entry}
use Rattle.sd_rules.specs.Needed as needed
use Rattle.sd_findings.specs.Covers as covers
use Rattle.sd_findings.specs.declared.findings.Findings.{Findings}
use Rattle.sd_findings.proofs.CoverLaws.{void_needed}
use Rattle.sd_sieve.proofs.voids.is_named_needed.Goals as goal

pub returns : goal.returns
returns c =
    let all : List Entry = reverse c.args.all.now in
    let found : Findings = c.args.found.now in
    let what : What = c.args.what.now in
    let n : ℕ = c.args.entry.now.number in
    let last : Bool = needed.is_number n (covers.number_for found.walk.notes.lasts what) in
    c.is_called_for.ensures
    ∙ ap (λ (b : Bool). b && (c.is_before-covers.result || c.is_after_asking.result)) (c.is_number-last.ensures ∙ ap (λ (o : Option ℕ). needed.is_number n o) c.number_for.ensures)
    ∙ ap (λ (b : Bool). last && (b || c.is_after_asking.result)) (c.is_before-covers.ensures ∙ ap (λ (o : Option ℕ). covers.is_before o n) c.number_for-2.ensures)
    ∙ ap (λ (b : Bool). last && (covers.is_before (covers.number_for found.firsts what) n || b)) (c.is_after_asking.ensures c.args.all.now c.requires.found)
    ∙ void_needed c.args.all.now c.args.place c.args.entry.now what found.walk.notes.lasts found.firsts (needed.is_after_asking all n all) c.requires.numbers
    c.requires.found.lasts c.requires.found.firsts c.requires.within c.requires.at c.requires.void
