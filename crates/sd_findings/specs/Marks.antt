-- Marks of entries, the newest first: what is said of each by a rule, which is told the entries before it.
use Rattle.std.specs.Prelude.{◌≡◌, Bool, List, [], ◌∷◌, reverse}
use Rattle.sd_rules.specs.declared.replies.Entry.{Entry}
use Rattle.sd_rules.specs.Needed.{is_newest_answer, is_looked_at, is_needed}

abbrev pub marks : {X : Type 0} → (List Entry → Entry → X) → List Entry → List X
marks rule [] = []
marks rule (e ∷ past) = rule past e ∷ marks rule past

-- the marks of a journal's entries, the oldest first: of those that hold the newest answer of a key
abbrev pub MarkNewest : List Entry → List Bool → Type 0
MarkNewest all ms = reverse ms ≡ marks (is_newest_answer (reverse all)) (reverse all)

-- of those that are looked at
abbrev pub MarkLooked : List Entry → List Bool → Type 0
MarkLooked all ms = reverse ms ≡ marks (is_looked_at (reverse all)) (reverse all)

-- of those that are needed
abbrev pub MarkNeeded : List Entry → List Bool → Type 0
MarkNeeded all ms = reverse ms ≡ marks (is_needed (reverse all)) (reverse all)
