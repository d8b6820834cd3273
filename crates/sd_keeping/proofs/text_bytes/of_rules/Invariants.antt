use Rattle.std.proofs.Common.{◌≡◌, ◌-◌, ◌^◌, min, take}
use Rattle.std.specs.Prelude.{sum_by}
use Rattle.sd_rules.specs.TextBytes as bytes
use Rattle.sd_keeping.proofs.text_bytes.of_rules.Given as goal

-- the bytes of the texts so far
abbrev pub invariant-loop-rule : goal.invariant-loop-rule
invariant-loop-rule l = l.total ≡ min (sum_by bytes.bytes_of_rule (take l.rule-index l.rules)) (2 ^ 64 - 1)
