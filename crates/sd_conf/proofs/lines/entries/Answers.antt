use Rattle.std.proofs.Common.{◌≡◌, ℕ, ◌<◌, List, [], ◌∙◌, ap, sym, subst, length, take, map, get_or, arith}
use Rattle.std.proofs.lemmas.List.{take-map, get_or-map, length-map, length-reverse, length-take-le}
use Rattle.sd_conf.specs.Lines.{form_of, forms_of, seen_line, Told}
use Rattle.sd_conf.proofs.Faults.{walk_ends}
use Rattle.sd_conf.proofs.lines.entries.Goals as goal

pub returns-in-Err : goal.returns-in-Err
returns-in-Err c =
    let lines = c.in_ok-lines.lines.items in
    let n = c.loop-place.place in
    let all = map (λ x. x.now) lines in
    let within : n < length lines = omega (arith, c.loop-place-test.true, c.len-place-end.ensures) in
    let past = forms_of (map (λ x. x.now) (take n lines)) in
    let count : length past ≡ n = length-reverse (map form_of (map (λ x. x.now) (take n lines))) ∙ (length-map (map (λ x. x.now) (take n lines)) form_of ∙ (length-map (take n lines) (λ x. x.now) ∙ length-take-le n lines (omega arith))) in
    let line : c.index.result.now.now ≡ get_or all n [] = ap (λ x. x.now) c.index.ensures ∙ sym (get_or-map (λ x. x.now) lines n c.index.result.now [] within) in
    let before : past ≡ forms_of (take n all) = ap forms_of (sym (take-map (λ x. x.now) n lines)) in
    let many : n < length all = omega (arith, length-map lines (λ x. x.now)) in
    subst (λ (texts : List (List ℕ)). Told c.in-Err.fault (forms_of texts)) c.in_ok-lines.ensures
    (walk_ends c.in-Err.fault all n (seen_line c.line_of.result) past many (c.line_of.ensures ∙ ap form_of line) before (c.in-Err.ensures past count c.loop-place.invariant))
