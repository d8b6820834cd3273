use Rattle.std.proofs.Common.{◌≡◌, length, take}
use Rattle.sd_creds.proofs.texts.first_bytes.Given as goal

-- the bytes before the place are copied
abbrev pub invariant-loop-place : goal.invariant-loop-place
invariant-loop-place g l = (length l.bytes ≡ g.row.N) × (take l.place l.bytes ≡ take l.place l.room)
