use Rattle.std.proofs.Common.{List, ℕ, map, ap, ◌∙◌}
use Rattle.sd_hbac.specs.Lowered.{among}
use Rattle.sd_hbac.proofs.Marking.{not_among}
use Rattle.sd_hbac.proofs.names.Names.hold.Goals as goal

pub returns-else-self-mark_of-eq1 : goal.returns-else-self-mark_of-eq1
returns-else-self-mark_of-eq1 c =
    let names : List (List ℕ) = map (λ v. v.items) c.self.inside.names.items in
    not_among c.self.inside.marks c.mark_of.result names c.bytes-name.result.now c.self.invariant.1 c.mark_of.ensures.value c.if-self-mark_of-eq1.false
    ∙ (ap (λ (n : List ℕ). among names n) c.bytes-name.ensures
    ∙ ap (λ (ns : List (List ℕ)). among ns c.args.name.now) c.self.view_is)
