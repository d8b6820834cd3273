-- The lines of a scenario with their numbers, a block of directory entries being one of them.
use Rattle.std.specs.Prelude.{ℕ, Bool, false, ◌&&◌, ◌+◌, ◌++◌, not, List, [], ◌∷◌, length, Option, Some, None, Result, Ok, Err, codes, if◌then◌else◌}
use Rattle.std.specs.Option.{option_map_or}
use Rattle.sd_rules.specs.Keys.{same_name}
use Rattle.sd_ldap.specs.declared.entry.DirEntry.{DirEntry}
use Rattle.sd_ldif.specs.declared.LdifFault.{LdifFault}
use Rattle.sd_ldif.specs.declared.LdifFault.TheVariants as ldif_faults
use Rattle.sd_ldif.specs.Records.{ldif_of}
use Rattle.sd_lines.specs.Words.{pieces_in, words_of}
use Rattle.sd_lines.specs.declared.lines.Line.{Line}
use Rattle.sd_lines.specs.declared.lines.Line.TheVariants.{Ldif, Bad}
use Rattle.sd_lines.specs.Lines.{is_comment, line_of}
use Rattle.sd_layout.specs.declared.blocks.Statement.{Statement}

-- ---- a block: from a line of one word to a line that is a dot alone

abbrev pub is_alone : List ℕ → List (List ℕ) → Bool
is_alone word (w ∷ []) = same_name w word
is_alone word _ = false

abbrev pub begins_block : List ℕ → List ℕ → Bool
begins_block word line = not (is_comment line) && is_alone word (words_of line)

abbrev pub ends_block : List ℕ → Bool
ends_block line = same_name line (codes ".")

-- ---- ldif: entries in the LDAP Data Interchange Format

-- a block that has not ended: the number of its first line, and the text of those behind it
pub record Block : Type 0 where
  pub first : ℕ
  pub text : List ℕ

-- no line of a block is passed over
abbrev pub with_line : Block → List ℕ → Block
with_line b line = record { first = b.first; text = b.text ++ (line ++ codes "\n") }

abbrev pub statement : ℕ → Line → Statement
statement number line = record { number = number; line = line }

-- how many lines behind the first of its block a refusal is
abbrev pub refused_line : LdifFault → ℕ
refused_line (ldif_faults.BadLine line) = line
refused_line (ldif_faults.BadBase64 line) = line
refused_line (ldif_faults.NoDn line) = line
refused_line ldif_faults.Memory = 0

abbrev pub entries_put : ℕ → Result (List DirEntry) LdifFault → Statement
entries_put first (Ok entries) = statement first (Ldif entries)
entries_put first (Err fault) = statement (first + refused_line fault) Bad

-- a whole block: it puts its entries, or is bad at the line that is refused
abbrev pub block_statement : Block → Statement
block_statement b = entries_put b.first (ldif_of b.text)

-- a block without an end is bad at its first line
abbrev pub unended : Block → List Statement
unended b = statement b.first Bad ∷ []

-- ---- all lines

-- the lines from the number n on, a block being open or not
abbrev pub statements_from : ℕ → Option Block → List (List ℕ) → List Statement
statements_from n None [] = []
statements_from n (Some b) [] = unended b
statements_from n None (l ∷ ls) =
    if begins_block (codes "ldif") l then statements_from (n + 1) (Some (record { first = n; text = [] })) ls
    else statement n (line_of l) ∷ statements_from (n + 1) None ls
statements_from n (Some b) (l ∷ ls) =
    if ends_block l then block_statement b ∷ statements_from (n + 1) None ls
    else statements_from (n + 1) (Some (with_line b l)) ls

-- the lines, the first of which has the number n
abbrev pub statements_of : ℕ → List (List ℕ) → List Statement
statements_of n ls = statements_from n None ls

-- the lines left, the first of which has the number n
abbrev pub statements_left : ℕ → Option (List ℕ) → List Statement
statements_left n lines = statements_of n (pieces_in 10 lines)

-- a block whose first line has the number n, and what comes behind it, where the lines behind the first are left
abbrev pub statements_in_block : ℕ → Option (List ℕ) → List Statement
statements_in_block n lines = statements_from (n + 1) (Some (record { first = n; text = [] })) (pieces_in 10 lines)

-- how many bytes the lines left have, with the line feed in front of them; none where no line is left
abbrev pub bytes_left : Option (List ℕ) → ℕ
bytes_left lines = option_map_or (λ bytes. length bytes + 1) lines 0
