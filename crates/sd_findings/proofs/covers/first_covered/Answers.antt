use Rattle.std.proofs.Common.{◌≡◌, ℕ, ◌<◌, List, length, reverse, get_or, rules, sym, subst}
use Rattle.sd_rules.specs.declared.replies.Entry.{Entry}
use Rattle.sd_findings.specs.Covers.{HoldCovered}
use Rattle.sd_findings.proofs.CoverLaws.{more_at}
use Rattle.sd_findings.proofs.covers.first_covered.Goals as goal

pub loop-place-preserved : goal.loop-place-preserved
loop-place-preserved c =
    let all : List Entry = c.args.all.now in
    let e : Entry = c.index-all-place.result in
    let place : ℕ = c.loop-place.place in
    let lt : place < length all = search rules in
    let at : e ≡ get_or all place e = search rules in
    subst (λ (l : List Entry). HoldCovered (reverse all) l c.args.lasts.now c.note_covered.new.firsts) (sym (more_at all place e lt at))
    (c.in_ok-note_covered.ensures c.loop-place.invariant)
