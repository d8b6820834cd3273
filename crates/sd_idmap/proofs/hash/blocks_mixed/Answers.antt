use Rattle.std.proofs.Common.{◌≡◌, ℕ, ◌-◌, List, length, take, drop, sym, ap, ◌∙◌, arith}
use Rattle.std.proofs.lemmas.Grind.{common_steps}
use Rattle.sd_idmap.specs.Hash as hashing
use Rattle.sd_idmap.proofs.Blocks.{block_first}
use Rattle.sd_idmap.proofs.hash.blocks_mixed.Goals as goal

rest_whole : (xs : List ℕ) → take (length xs - 4) (drop 4 xs) ≡ drop 4 xs
rest_whole xs = grind (arith, common_steps)

pub loop-left-preserved : goal.loop-left-preserved
loop-left-preserved c =
    let left = c.loop-left.left.now in
    ap (λ (xs : List ℕ). hashing.blocks_mixed c.mixed-hash.result xs) (rest_whole left)
    ∙ (ap (λ (h : ℕ). hashing.blocks_mixed h (drop 4 left)) (c.mixed-hash.ensures ∙ ap (λ (k : ℕ). hashing.mixed c.loop-left.hash k) c.block_of.ensures)
    ∙ (sym (block_first c.loop-left.hash left c.in-len4-up.len_at_least) ∙ c.loop-left.invariant))
