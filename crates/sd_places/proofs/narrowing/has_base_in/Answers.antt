use Rattle.std.proofs.Common.{ℕ, ap, ◌∙◌}
use Rattle.sd_places.specs.Index.{found_under}
use Rattle.sd_places.proofs.Near.{base_there}
use Rattle.sd_places.proofs.narrowing.has_base_in.Goals as goal

pub returns : goal.returns
returns c =
    c.has_base.ensures
    ∙ base_there c.args.index.now c.args.slots.now c.args.base.now c.places-places.result.now c.places-places.ensures.some c.requires
    (c.places-places.ensures.places ∙ ap (λ (n : ℕ). found_under c.args.index.now n) c.base_number.ensures)
