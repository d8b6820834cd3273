-- What a block is, said of its lines as a whole.
use Rattle.std.specs.Prelude.{◌≡◌, ℕ, Bool, true, false, ◌+◌, ◌++◌, List, [], ◌∷◌, length, Option, Some, None, codes, if◌then◌else◌}
use Rattle.std.specs.Option.{option_map}
use Rattle.sd_ldif.specs.Records.{ldif_of}
use Rattle.sd_lines.specs.declared.lines.Line.TheVariants.{Bad}
use Rattle.sd_lines.specs.Lines.{line_of}
use Rattle.sd_layout.specs.declared.blocks.Statement.{Statement}
use Rattle.sd_layout.specs.Blocks.{begins_block, ends_block, entries_put, statement, statements_of}

-- the lines in front of the first that ends a block, and those behind it, where one does
abbrev pub parted_at_end : List (List ℕ) → Option (List (List ℕ) × List (List ℕ))
parted_at_end [] = None
parted_at_end (l ∷ ls) = if ends_block l then Some ([], ls) else option_map (λ p. (l ∷ p.0, p.1)) (parted_at_end ls)

-- a text of lines, each with its line feed
abbrev pub text_of : List (List ℕ) → List ℕ
text_of [] = []
text_of (l ∷ ls) = (l ++ codes "\n") ++ text_of ls

-- A block whose first line has the number n: all lines up to the dot are its text, comments and empty lines too, and the lines
-- go on behind the dot. Without a dot its first line is bad.
abbrev pub block_in : ℕ → Option (List (List ℕ) × List (List ℕ)) → List Statement
block_in n None = statement n Bad ∷ []
block_in n (Some p) = entries_put n (ldif_of (text_of p.0)) ∷ statements_of (n + length p.0 + 2) p.1

-- the lines where a block begins, and where none does
pub record HasBlocks : Type 0 where
  pub blocks : (n : ℕ) (l : List ℕ) (ls : List (List ℕ)) → begins_block (codes "ldif") l ≡ true → statements_of n (l ∷ ls) ≡ block_in n (parted_at_end ls)
  pub lines : (n : ℕ) (l : List ℕ) (ls : List (List ℕ)) → begins_block (codes "ldif") l ≡ false → statements_of n (l ∷ ls) ≡ statement n (line_of l) ∷ statements_of (n + 1) ls
