use Rattle.std.proofs.Common.{subst, ℕ, Option}
use Rattle.sd_ldap.specs.Values.{search_value}
use Rattle.sd_places.specs.Naming.{IsPlaceOf}
use Rattle.sd_places.proofs.Slots.{alone_enough, nowhere_enough}
use Rattle.sd_stub.proofs.answering.base_bytes.Goals as goal

pub found_bytes-requires-clause-enough : goal.found_bytes-requires-clause-enough
found_bytes-requires-clause-enough c =
    alone_enough c.args.slots.now (search_value c.args.request.now) c.args.base.now c.in-Some.place c.requires.base c.requires.scope
    (subst (λ (o : Option ℕ). IsPlaceOf c.args.slots.now c.args.base.now o) c.in-Some.is c.in_ok-place.ensures)

pub found_bytes-requires-in-None-clause-enough : goal.found_bytes-requires-in-None-clause-enough
found_bytes-requires-in-None-clause-enough c =
    nowhere_enough c.args.slots.now (search_value c.args.request.now) c.args.base.now c.requires.base c.requires.scope
    (subst (λ (o : Option ℕ). IsPlaceOf c.args.slots.now c.args.base.now o) c.in-None.is c.in_ok-place.ensures)
