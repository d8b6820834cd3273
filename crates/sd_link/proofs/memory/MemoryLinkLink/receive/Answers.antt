use Rattle.std.proofs.Common.{◌≡◌, ℕ, List, ◌++◌, ◌+◌, take, drop, sym, arith}
use Rattle.std.proofs.lemmas.List.{take-append-drop, drop-drop}
use Rattle.std.proofs.Math.Seq.{take-add}
use Rattle.std.proofs.lemmas.Grind.{common_steps}
use Rattle.sd_link.proofs.memory.MemoryLinkLink.receive.Goals as goal

-- what is given stands in front of what is left
front_left : (at n : ℕ) (bytes buf : List ℕ) → take n buf ≡ take n (drop at bytes) → drop at bytes ≡ take n buf ++ drop (at + n) bytes
front_left at n bytes buf e = rw (e, ← drop-drop n at bytes) (sym (take-append-drop n (drop at bytes)))

-- and behind what was given
behind_front : (at n : ℕ) (bytes buf : List ℕ) → take n buf ≡ take n (drop at bytes) → take (at + n) bytes ≡ take at bytes ++ take n buf
behind_front at n bytes buf e = rw e (take-add at n bytes)

pub returns-clause-coming : goal.returns-clause-coming
returns-clause-coming c = grind (arith, common_steps, front_left)

pub returns-clause-received : goal.returns-clause-received
returns-clause-received c = grind (arith, common_steps, behind_front)
