use Rattle.std.proofs.Common.{◌≡◌, ◌-◌, ◌^◌, min, take}
use Rattle.std.specs.Prelude.{sum_by}
use Rattle.sd_rules.specs.TextBytes as bytes
use Rattle.sd_keeping.proofs.text_bytes.of_services.Given as goal

-- the bytes of the texts so far
abbrev pub invariant-loop-service : goal.invariant-loop-service
invariant-loop-service l = l.total ≡ min (sum_by bytes.bytes_of_service (take l.service-index l.services)) (2 ^ 64 - 1)
