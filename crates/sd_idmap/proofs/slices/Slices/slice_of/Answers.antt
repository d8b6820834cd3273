use Rattle.std.specs.Prelude.{is_some}
use Rattle.std.proofs.Common.{List, ℕ, ap, sym, ◌∙◌}
use Rattle.sd_idmap.specs.Slicing.{is_held}
use Rattle.sd_idmap.proofs.Tables.{slice_held, lookup_small}
use Rattle.sd_idmap.proofs.Calls.{one_to_one}
use Rattle.sd_idmap.proofs.slices.Slices.slice_of.Goals as goal

pub returns-clause-held : goal.returns-clause-held
returns-clause-held c =
    ap is_some (c.copied.ensures ∙ c.get.ensures.value)
    ∙ (slice_held c.self.inside.by_domain.entries c.args.domain.now ∙ ap (λ (w : List (List ℕ)). is_held w c.args.domain.now) c.self.view_is)

pub returns-clause-small : goal.returns-clause-small
returns-clause-small c =
    lookup_small c.args.domain.now c.self.inside.by_domain.entries c.copied.result c.self.invariant.small (sym (c.copied.ensures ∙ c.get.ensures.value))

pub returns-clause-apart : goal.returns-clause-apart
returns-clause-apart c = one_to_one c.self.inside.by_domain.entries c.self.inside.by_slice.entries c.args.self.now c.self.invariant c.self.view_is
