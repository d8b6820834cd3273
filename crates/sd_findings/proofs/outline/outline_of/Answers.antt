use Rattle.std.proofs.Common.{rules, ◌≡◌, ℕ, ◌<◌, List, length, reverse, get_or, sym, subst}
use Rattle.sd_rules.specs.declared.replies.Entry.{Entry}
use Rattle.sd_findings.specs.Outlines.{IsOutlineOf}
use Rattle.sd_findings.proofs.CoverLaws.{more_at}
use Rattle.sd_findings.proofs.outline.outline_of.Goals as goal

pub loop-place-init : goal.loop-place-init
loop-place-init c = c.in_ok-outline.ensures (reverse c.args.whole.entries.now)

pub loop-place-preserved : goal.loop-place-preserved
loop-place-preserved c =
    let all : List Entry = c.args.whole.entries.now in
    let e : Entry = c.index-entries-place.result in
    let place : ℕ = c.loop-place.place in
    let lt : place < length all = search rules in
    let at : e ≡ get_or all place e = search rules in
    subst (λ (l : List Entry). IsOutlineOf (reverse all) l c.note.new.outline) (sym (more_at all place e lt at)) (c.in_ok-note.ensures c.loop-place.invariant)
