use Rattle.std.proofs.Common.{subst, ◌∙◌, ℕ, Option}
use Rattle.sd_places.specs.Naming.{IsPlaceOf}
use Rattle.sd_places.proofs.Slots.{right_alone, right_nowhere}
use Rattle.sd_stub.proofs.binding.is_right.Goals as goal

pub returns-in-Some : goal.returns-in-Some
returns-in-Some c =
    c.accepts_at.ensures
    ∙ right_alone c.args.slots.now c.args.name.now c.args.password.now c.in-Some.place (subst (λ (o : Option ℕ). IsPlaceOf c.args.slots.now c.args.name.now o) c.in-Some.is c.in_ok-place.ensures)

pub returns-in-None : goal.returns-in-None
returns-in-None c =
    right_nowhere c.args.slots.now c.args.name.now c.args.password.now (subst (λ (o : Option ℕ). IsPlaceOf c.args.slots.now c.args.name.now o) c.in-None.is c.in_ok-place.ensures)
