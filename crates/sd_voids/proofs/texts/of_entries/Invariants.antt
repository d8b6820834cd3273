use Rattle.std.proofs.Common.{◌≡◌, ◌-◌, ◌^◌, min, reverse, take}
use Rattle.sd_rules.specs.TextBytes as bytes
use Rattle.sd_voids.proofs.texts.of_entries.Given as goal

-- the sum so far
abbrev pub invariant-loop-place : goal.invariant-loop-place
invariant-loop-place l = l.total ≡ min (bytes.text_bytes (reverse (take l.place l.entries))) (2 ^ 64 - 1)
