use Rattle.std.proofs.Common.{rules, ◌≡◌, ◌<◌, [], ◌∷◌, ◌++◌, List, ℕ, length, reverse, take, get_or, sym, subst}
use Rattle.sd_rules.specs.declared.replies.Entry.{Entry}
use Rattle.sd_rules.specs.Needed.{needed_among}
use Rattle.sd_index.specs.Table.{Remakes}
use Rattle.sd_sieve.proofs.KeptLaws.{kept_below, needed_more, marks_more}
use Rattle.sd_sieve.proofs.sieve.planned.Goals as goal

pub loop-place-preserved : goal.loop-place-preserved
loop-place-preserved c =
    let all : List Entry = c.args.entries.now in
    let e : Entry = c.index-entries-place.result in
    let place : ℕ = c.loop-place.place in
    let lt : place < length all = search rules in
    let at : e ≡ get_or all place e = search rules in
    let put : c.push.new.self.items ≡ c.loop-place.marks.items ++ c.is_needed_by-is_kept.result ∷ [] = search rules in (
      marks_more all place e c.is_needed_by-is_kept.result c.loop-place.marks.items c.push.new.self.items lt at c.is_needed_by-is_kept.ensures c.loop-place.invariant.0 put,
      subst (λ (es : List Entry). Remakes es c.note_if.new.made) (sym (needed_more all place e c.is_needed_by-is_kept.result lt at c.is_needed_by-is_kept.ensures))
          (c.in_ok-note_if.ensures (needed_among (reverse all) (reverse (take place all))) (kept_below all place e c.requires.numbers lt at) c.loop-place.invariant.1),
    )
