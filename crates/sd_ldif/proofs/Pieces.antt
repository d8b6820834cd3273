-- The first line of a text, and those behind it.
use Rattle.std.proofs.Common.{◌≡◌, ℕ, List, ◌∷◌, Option, Some, None, refl, sym, ap, ◌∙◌}
use Rattle.sd_pieces.specs.Pieces.{pieces, pieces_in}
use Rattle.sd_pieces.proofs.Cuts.{split_cut}
use Rattle.sd_pieces.specs.Pieces.{cut_of}
use Rattle.sd_ldif.specs.Lines.{without_return, ended_lines, lines_of, lines_left, ended_piece}

ended_by : (piece : List ℕ) (more : List (List ℕ)) (first : List ℕ) (rest : List (List ℕ)) → more ≡ first ∷ rest → ended_lines (piece ∷ more) ≡ without_return piece ∷ ended_lines more
ended_by piece more first rest h = ap (λ (w : List (List ℕ)). ended_lines (piece ∷ w)) h ∙ ap (λ (w : List (List ℕ)). without_return piece ∷ ended_lines w) (sym h)

lines_by_pieces : (piece : List ℕ) (left : Option (List ℕ)) → ended_lines (piece ∷ pieces_in 10 left) ≡ ended_piece piece left ∷ lines_left left
lines_by_pieces piece None = refl
lines_by_pieces piece (Some rest) = ended_by piece (pieces 10 rest) (cut_of 10 rest).0 (pieces_in 10 (cut_of 10 rest).1) (split_cut 10 rest)

-- the first line and those of what is left, by the pieces at LF
pub first_by_pieces : (text line piece : List ℕ) (left : Option (List ℕ)) → pieces 10 text ≡ piece ∷ pieces_in 10 left → line ≡ ended_piece piece left → lines_of text ≡ line ∷ lines_left left
first_by_pieces text line piece left h e =
    ap ended_lines h ∙ (lines_by_pieces piece left ∙ ap (λ (w : List ℕ). w ∷ lines_left left) (sym e))
