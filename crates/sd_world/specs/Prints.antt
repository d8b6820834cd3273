-- The lines that a scenario prints.
use Rattle.std.specs.Prelude.{ℕ, ◌++◌, codes, List, [], ◌∷◌}
use Rattle.std.specs.Fmt.{decimal}
use Rattle.sd_rules.specs.declared.replies.Entry.{Entry}
use Rattle.sd_rules.specs.declared.tasks.Said.{Said}
use Rattle.sd_wire.specs.SaidTexts.{line_of}
use Rattle.sd_wire.specs.EntryLines.{entry_line}

-- the number of a task and what its client is told
abbrev pub answer_line : List ℕ → ℕ → Said → List ℕ
answer_line pwfield task said = decimal task ++ (codes " " ++ (line_of said pwfield ++ codes "\n"))

-- the line of a task that left before its client was told anything
abbrev pub left_line : ℕ → List ℕ
left_line task = decimal task ++ codes " left\n"

-- the line that ends a scenario whose journal is full
abbrev pub full_line : ℕ → List ℕ
full_line n = codes "journal full " ++ (decimal n ++ codes "\n")

-- the journal's entries, the oldest first, a line each
abbrev pub journal_text : List Entry → List ℕ
journal_text [] = []
journal_text (e ∷ es) = entry_line e ++ (codes "\n" ++ journal_text es)
