use Rattle.std.proofs.Common.{◌≡◌, drop}
use Rattle.sd_schema.specs.Values.{first_like}
use Rattle.sd_schema.proofs.values.first_among.Given as goal

-- what is left gives the answer
abbrev pub invariant-loop-attribute : goal.invariant-loop-attribute
invariant-loop-attribute l = first_like l.name l.text (drop l.attribute-index l.attributes) ≡ first_like l.name l.text l.attributes
