use Rattle.std.proofs.Common.{◌≡◌, List, ℕ, ap, sym, subst, ◌∙◌}
use Rattle.sd_idmap.specs.Slicing.{free_slice, placed, with_domain, slice_of}
use Rattle.std.proofs.Common.{Some}
use Rattle.sd_idmap.proofs.Calls.{added_ok, added_keeps}
use Rattle.sd_idmap.proofs.slices.Slices.add.Goals as goal

pub returns-clause-ok : goal.returns-clause-ok
returns-clause-ok c =
    let now = c.args.self.now in
    let slice = c.in-Some-free_slice.slice in
    subst (λ (w : List ℕ). (c.place.new.self ≡ with_domain now w) × (slice_of c.place.new.self w ≡ Some slice)) c.in_ok-domain.ensures
    (added_ok now c.place.new.self c.in_ok-domain.domain slice (sym c.in_default.ensures.held) c.in_default.ensures.value
    (ap (free_slice (placed now)) (sym c.in_ok-first.ensures.0) ∙ sym c.in-Some-free_slice.ensures.value) c.in_ok-place.ensures.ok)

pub returns-clause-keeps : goal.returns-clause-keeps
returns-clause-keeps c =
    let now = c.args.self.now in
    added_keeps now c.place.new.self c.in_ok-domain.domain c.in-Some-free_slice.slice
    (ap (free_slice (placed now)) (sym c.in_ok-first.ensures.0) ∙ sym c.in-Some-free_slice.ensures.value) c.in_ok-place.ensures.ok
