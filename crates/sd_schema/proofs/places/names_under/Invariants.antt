use Rattle.std.proofs.Common.{◌≡◌, ◌++◌, drop}
use Rattle.sd_schema.specs.Places.{names_under}
use Rattle.sd_schema.proofs.places.names_under.Given as goal

-- the names so far, and those by the attributes that are left
abbrev pub invariant-loop-attribute : goal.invariant-loop-attribute
invariant-loop-attribute l = l.names ++ names_under l.container l.naming l.name (drop l.attribute-index l.attributes) ≡ names_under l.container l.naming l.name l.attributes
