use Rattle.std.proofs.Common.{rules, List, ℕ, map, ap, subst, ◌∙◌}
use Rattle.std.specs.Char.{to_ascii_lowercase}
use Rattle.std.proofs.lemmas.List.{take_all}
use Rattle.sd_hbac.specs.Lowered.{mark, Marked}
use Rattle.sd_hbac.proofs.Marking.{marked_more}
use Rattle.sd_hbac.proofs.names.marks_of.Goals as goal

pub loop-name-preserved : goal.loop-name-preserved
loop-name-preserved c =
    marked_more c.loop-name.marks c.mark_of.result c.args.names.now c.loop-name.name-index c.name-item.result c.mark_of.ensures.below
    (c.mark_of.ensures.value ∙ ap (λ (n : List ℕ). mark (map to_ascii_lowercase n)) c.bytes.ensures) (search rules) c.name-item.is c.loop-name.invariant

pub returns : goal.returns
returns c =
    subst (λ (names : List (List ℕ)). Marked c.loop-name.marks (map (map to_ascii_lowercase) names))
    (take_all c.loop-name.name-index c.args.names.now (search rules)) c.loop-name.invariant
