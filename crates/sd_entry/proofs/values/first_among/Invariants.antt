use Rattle.std.proofs.Common.{◌≡◌, drop}
use Rattle.sd_entry.specs.Values.{first_of}
use Rattle.sd_entry.proofs.values.first_among.Given as goal

-- what is left gives the answer
abbrev pub invariant-loop-attribute : goal.invariant-loop-attribute
invariant-loop-attribute l = first_of l.name (drop l.attribute-index l.attributes) ≡ first_of l.name l.attributes
