use Rattle.std.proofs.Common.{◌≡◌, ◌↔◌, ◌<◌, ℕ, get_or}
use Rattle.sd_creds.proofs.hashes.is_same_digest.Given as goal

-- no bit differs so far exactly where the bytes so far are equal
abbrev pub invariant-loop-place : goal.invariant-loop-place
invariant-loop-place l = (l.difference ≡ 0) ↔ ((k : ℕ) → k < l.place → get_or l.a k 0 ≡ get_or l.b k 0)
