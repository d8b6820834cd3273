-- What lines print, one after the other.
use Rattle.std.specs.Prelude.{ℕ, ◌+◌, List, [], ◌∷◌, ◌++◌, codes, fold, Option, Some, None}
use Rattle.std.specs.Fmt.{decimal}
use Rattle.sd_idmap.specs.declared.sids.Sid.{Sid}
use Rattle.sd_idmap.specs.declared.lines.Line.{Line}
use Rattle.sd_idmap.specs.declared.lines.Line.TheVariants as kinds
use Rattle.sd_idmap.specs.declared.runs.Run.{Run}
use Rattle.sd_idmap.specs.Sids.{numbers_of, text_of}
use Rattle.sd_idmap.specs.Slicing.{slice_of, id_of, sid_of, added}
use Rattle.sd_idmap.specs.Lines.{lines_of, line_of}

-- the domains added so far, the count of the lines that printed, and what they printed
pub record State : Type 0 where
  pub domains : List (List ℕ)
  pub count : ℕ
  pub printed : List ℕ

abbrev pub state_of : Run → State
state_of run = record { domains = run.slices; count = run.count; printed = run.printed.items }

abbrev pub start : State
start = record { domains = []; count = 0; printed = [] }

-- a word and a number, or another word where there is none
abbrev pub worded : Option ℕ → List ℕ → List ℕ → List ℕ
worded None word none = none
worded (Some n) word none = word ++ decimal n

abbrev pub sid_text : Option Sid → List ℕ
sid_text None = codes "unmapped"
sid_text (Some sid) = codes "sid " ++ text_of (numbers_of sid)

-- a line of its own for one more answer
abbrev pub numbered : ℕ → List ℕ → List ℕ
numbered n text = decimal n ++ (32 ∷ (text ++ 10 ∷ []))

abbrev pub answered : State → List (List ℕ) → List ℕ → State
answered s domains text =
    record { domains = domains; count = s.count + 1; printed = s.printed ++ numbered (s.count + 1) text }

abbrev pub done : State → Line → State
done s (kinds.Domain sid) =
    answered s (added s.domains (numbers_of sid)) (worded (slice_of (added s.domains (numbers_of sid)) (numbers_of sid)) (codes "slice ") (codes "full"))
done s (kinds.Id sid) = answered s s.domains (worded (id_of s.domains sid) (codes "id ") (codes "unmapped"))
done s (kinds.Number id) = answered s s.domains (sid_text (sid_of s.domains id))
done s _ = s

abbrev pub all_done : State → List (List ℕ) → State
all_done s lines = fold (λ t line. done t (line_of line)) s lines

-- what the lines of a text print
abbrev pub transcript : List ℕ → List ℕ
transcript text = (all_done start (lines_of text)).printed
