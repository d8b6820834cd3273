-- The output of a scenario that a full journal ends.
use Rattle.std.proofs.Common.{◌≡◌, ◌∙◌, ℕ, true, false, List, ◌∷◌, ◌++◌, Result, Err, ap, sym, subst}
use Rattle.sd_layout.specs.declared.blocks.Statement.{Statement}
use Rattle.sd_lines.specs.declared.lines.Line.{Line}
use Rattle.sd_world.specs.Prints.{full_line}
use Rattle.sd_world.specs.Tasks.{World, Halt, Full}
use Rattle.sd_world.specs.Transcript.{Transcript, halted, line_done, transcript_on, transcript_after}

pub full_end : (w v : World) (s : Statement) (printed new : List ℕ) (rest left all : List Statement) (n : ℕ)
    → line_done w s.line ≡ Err (Full n printed) → new ≡ printed ++ full_line n
    → left ≡ s ∷ rest → transcript_on w left ≡ transcript_on v all → transcript_on v all ≡ record { text = new; is_full = true; is_endless = false }
full_end w v s printed new rest left all n done ended begins told =
    let h : Halt = Full n printed in
    let step : transcript_on w (s ∷ rest) ≡ halted h = ap (λ (r : Result World Halt). transcript_after r (λ u. transcript_on u rest)) done in
    let begun : transcript_on w left ≡ halted h = subst (λ (ls : List Statement). transcript_on w ls ≡ halted h) (sym begins) step in
    let text : halted h ≡ record { text = new; is_full = true; is_endless = false } = ap (λ (bs : List ℕ). let t : Transcript = record { text = bs; is_full = true; is_endless = false } in t) (sym ended) in
    sym told ∙ begun ∙ text
