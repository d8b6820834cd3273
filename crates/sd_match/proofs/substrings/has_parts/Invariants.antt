use Rattle.std.proofs.Common.{◌≡◌, drop}
use Rattle.sd_match.specs.Matching.{has_parts}
use Rattle.sd_match.proofs.substrings.has_parts.Given as goal

-- the parts that are left decide, behind those so far
abbrev pub invariant-loop-part : goal.invariant-loop-part
invariant-loop-part l = has_parts (drop l.part-index l.parts) l.last l.rest ≡ has_parts l.parts l.last l.text
