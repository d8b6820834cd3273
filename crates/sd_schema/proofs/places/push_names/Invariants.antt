use Rattle.std.proofs.Common.{◌≡◌, ◌++◌, drop}
use Rattle.sd_schema.specs.Places.{names_of}
use Rattle.sd_schema.proofs.places.push_names.Given as goal

-- the names so far, and those by the values that are left
abbrev pub invariant-loop-value : goal.invariant-loop-value
invariant-loop-value l = l.names ++ names_of l.container l.naming (drop l.value-index l.values) ≡ l.fn.names ++ names_of l.container l.naming l.values
