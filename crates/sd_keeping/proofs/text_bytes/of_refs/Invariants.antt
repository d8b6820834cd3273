use Rattle.std.proofs.Common.{◌≡◌, ◌-◌, ◌^◌, min, take}
use Rattle.std.specs.Prelude.{sum_by}
use Rattle.sd_rules.specs.TextBytes as bytes
use Rattle.sd_keeping.proofs.text_bytes.of_refs.Given as goal

-- the bytes of the texts so far
abbrev pub invariant-loop-group : goal.invariant-loop-group
invariant-loop-group l = l.total ≡ min (sum_by bytes.bytes_of_ref (take l.group-index l.groups)) (2 ^ 64 - 1)
