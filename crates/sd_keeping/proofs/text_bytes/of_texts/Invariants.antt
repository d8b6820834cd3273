use Rattle.std.proofs.Common.{◌≡◌, ◌-◌, ◌^◌, min, take}
use Rattle.std.specs.Prelude.{sum_by}
use Rattle.sd_rules.specs.TextBytes as bytes
use Rattle.sd_keeping.proofs.text_bytes.of_texts.Given as goal

-- the bytes of the texts so far
abbrev pub invariant-loop-text : goal.invariant-loop-text
invariant-loop-text l = l.total ≡ min (sum_by bytes.bytes_of_text (take l.text-index l.texts)) (2 ^ 64 - 1)
