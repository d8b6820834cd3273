-- Blocks are what their lines say as a whole.
use Rattle.std.proofs.Common.{◌≡◌, ℕ, suc, Bool, true, false, cond, ◌+◌, ◌++◌, List, [], ◌∷◌, length, Option, Some, None, codes, refl, sym, ap, ◌∙◌, arith}
use Rattle.std.proofs.lemmas.List.{append_assoc, append-nil}
use Rattle.std.specs.Option.{option_map}
use Rattle.sd_ldif.specs.Records.{ldif_of}
use Rattle.sd_lines.specs.declared.lines.Line.{Line}
use Rattle.sd_lines.specs.declared.lines.Line.TheVariants.{Bad}
use Rattle.sd_lines.specs.Lines.{line_of}
use Rattle.sd_layout.specs.declared.blocks.Statement.{Statement}
use Rattle.sd_layout.specs.Blocks.{Block, begins_block, ends_block, entries_put, statement, statements_from, statements_of}
use Rattle.sd_layout.specs.Laws.{parted_at_end, text_of, block_in, HasBlocks}

abbrev Parted : Type 0
Parted = Option (List (List ℕ) × List (List ℕ))

abbrev in_front : List ℕ → Parted → Parted
in_front l parted = option_map (λ p. (l ∷ p.0, p.1)) parted

abbrev block : ℕ → List ℕ → Block
block first text = record { first = first; text = text }

-- a block of which a text was read, before the line of the number m
abbrev block_after : ℕ → ℕ → List ℕ → Parted → List Statement
block_after first m text None = statement first Bad ∷ []
block_after first m text (Some p) = entries_put first (ldif_of (text ++ text_of p.0)) ∷ statements_of (m + length p.0 + 1) p.1

-- two statements and what follows them
same_put : (first m k : ℕ) (a b : List ℕ) (ls : List (List ℕ)) → a ≡ b → m ≡ k
    → entries_put first (ldif_of a) ∷ statements_of m ls ≡ entries_put first (ldif_of b) ∷ statements_of k ls
same_put first m k a b ls h e = rw h (rw e refl)

-- a line more
longer : (first m : ℕ) (text l : List ℕ) (parted : Parted) → block_after first (m + 1) (text ++ (l ++ codes "\n")) parted ≡ block_after first m text (in_front l parted)
longer first m text l None = refl
longer first m text l (Some p) =
    same_put first (m + 1 + length p.0 + 1) (m + suc (length p.0) + 1) ((text ++ (l ++ codes "\n")) ++ text_of p.0) (text ++ ((l ++ codes "\n") ++ text_of p.0)) p.1
    (append_assoc text (l ++ codes "\n") (text_of p.0)) (omega arith)

-- the end
ended : (first m : ℕ) (text : List ℕ) (ls : List (List ℕ)) → entries_put first (ldif_of text) ∷ statements_of (m + 1) ls ≡ block_after first m text (Some ([], ls))
ended first m text ls = same_put first (m + 1) (m + 0 + 1) text (text ++ []) ls (sym (append-nil text)) (omega arith)

by_end : (e : Bool) (first m : ℕ) (text l : List ℕ) (ls : List (List ℕ))
    → statements_from (m + 1) (Some (block first (text ++ (l ++ codes "\n")))) ls ≡ block_after first (m + 1) (text ++ (l ++ codes "\n")) (parted_at_end ls)
    → cond e (entries_put first (ldif_of text) ∷ statements_of (m + 1) ls) (statements_from (m + 1) (Some (block first (text ++ (l ++ codes "\n")))) ls)
    ≡ block_after first m text (cond e (Some ([], ls)) (in_front l (parted_at_end ls)))
by_end true first m text l ls h = ended first m text ls
by_end false first m text l ls h = h ∙ longer first m text l (parted_at_end ls)

goes : (ls : List (List ℕ)) (first m : ℕ) (text : List ℕ) → statements_from m (Some (block first text)) ls ≡ block_after first m text (parted_at_end ls)
goes [] first m text = refl
goes (l ∷ ls) first m text = by_end (ends_block l) first m text l ls (goes ls first (m + 1) (text ++ (l ++ codes "\n")))

-- from the first line on
begun : (n : ℕ) (parted : Parted) → block_after n (n + 1) [] parted ≡ block_in n parted
begun n None = refl
begun n (Some p) = same_put n (n + 1 + length p.0 + 1) (n + length p.0 + 2) (text_of p.0) (text_of p.0) p.1 refl (omega arith)

by_begin : (b : Bool) (n : ℕ) (l : List ℕ) (ls : List (List ℕ)) → b ≡ true
    → cond b (statements_from (n + 1) (Some (block n [])) ls) (statement n (line_of l) ∷ statements_of (n + 1) ls) ≡ block_in n (parted_at_end ls)
by_begin true n l ls h = goes ls n (n + 1) [] ∙ begun n (parted_at_end ls)
by_begin false n l ls h = cc

by_line : (b : Bool) (n : ℕ) (l : List ℕ) (ls : List (List ℕ)) → b ≡ false
    → cond b (statements_from (n + 1) (Some (block n [])) ls) (statement n (line_of l) ∷ statements_of (n + 1) ls) ≡ statement n (line_of l) ∷ statements_of (n + 1) ls
by_line true n l ls h = cc
by_line false n l ls h = refl

pub has_blocks : HasBlocks
has_blocks = record {
  blocks = λ n l ls h. by_begin (begins_block (codes "ldif") l) n l ls h;
  lines = λ n l ls h. by_line (begins_block (codes "ldif") l) n l ls h;
}
