use Rattle.std.proofs.Common.{◌≡◌, ◌+◌, ◌-◌, ◌^◌, [], min, reverse, take, drop}
use Rattle.std.specs.Prelude.{sum_by}
use Rattle.sd_rules.specs.KeptRows as kept
use Rattle.sd_rules.specs.TextBytes as bytes
use Rattle.sd_keeping.proofs.row_rules.first_bad.Given as goal

-- the first bad row among those left is the first of all, and the text bytes are those of the rows so far
abbrev pub invariant-loop-place : goal.invariant-loop-place
invariant-loop-place l = record {
  bad : kept.first_bad l.head (reverse (take l.place l.others)) (l.place + 1) (drop l.place l.others) ≡ kept.first_bad l.head [] 1 l.others;
  text : l.text ≡ min (sum_by bytes.bytes_of_row (reverse (take l.place l.others))) (2 ^ 64 - 1);
}
