-- Reading a SID's text from left to right, one byte after the other.
use Rattle.std.specs.Prelude.{ℕ, ◌+◌, ◌-◌, ◌*◌, ◌^◌, Bool, ◌&&◌, ◌==◌, nat_lt, nat_le, if◌then◌else◌, List, [], ◌∷◌, ◌++◌, length, Option, Some, None}
use Rattle.sd_pieces.specs.Steps.{run_by}
use Rattle.sd_pieces.specs.Steps as steps
use Rattle.sd_idmap.specs.declared.sids.Sid.{Sid}
use Rattle.sd_idmap.specs.declared.reading.Stage.{Stage}
use Rattle.sd_idmap.specs.declared.reading.Stage.TheVariants as stages
use Rattle.sd_idmap.specs.declared.reading.Next.{Next}
use Rattle.sd_idmap.specs.declared.reading.Next.TheVariants as nexts

-- how far reading has come: the numbers that are whole, and where it stands
pub record Progress : Type 0 where
  pub whole : List ℕ
  pub stage : Stage

abbrev pub at : List ℕ → Stage → Progress
at whole stage = record { whole = whole; stage = stage }

abbrev pub start : Progress
start = at [] (stages.Lead 0)

-- the greatest number behind so many others
abbrev pub greatest : ℕ → ℕ
greatest count = if count == 0 then 2 ^ 48 - 1 else 2 ^ 32 - 1

abbrev pub is_digit : ℕ → Bool
is_digit b = nat_le 48 b && nat_le b 57

-- in front of the first number stands `S-1-`
abbrev pub in_lead : ℕ → ℕ → Option Next
in_lead read b =
    if (read == 0) && (b == 83) then Some (nexts.Goes (stages.Lead 1))
    else if (read == 1) && (b == 45) then Some (nexts.Goes (stages.Lead 2))
    else if (read == 2) && (b == 49) then Some (nexts.Goes (stages.Lead 3))
    else if (read == 3) && (b == 45) then Some (nexts.Goes stages.Begin)
    else None

abbrev pub first_digit : ℕ → Option Next
first_digit b = if is_digit b then Some (nexts.Goes (stages.Number (b - 48))) else None

-- one more digit behind a number that is not 0
abbrev pub one_more_digit : ℕ → ℕ → ℕ → Option Next
one_more_digit count n digit =
    if nat_lt 0 n && nat_le (10 * n + digit) (greatest count) then Some (nexts.Goes (stages.Number (10 * n + digit))) else None

-- behind a number: one more digit, or a hyphen, where another number fits
abbrev pub in_number : ℕ → ℕ → ℕ → Option Next
in_number count n b =
    if is_digit b then one_more_digit count n (b - 48)
    else if (b == 45) && nat_lt count 15 then Some (nexts.Ends n)
    else None

abbrev pub next_at : ℕ → Stage → ℕ → Option Next
next_at count (stages.Lead read) b = in_lead read b
next_at count stages.Begin b = first_digit b
next_at count (stages.Number n) b = in_number count n b

abbrev pub gone : List ℕ → Next → Progress
gone whole (nexts.Goes stage) = record { whole = whole; stage = stage }
gone whole (nexts.Ends n) = record { whole = whole ++ n ∷ []; stage = stages.Begin }

abbrev pub gone_by : List ℕ → Option Next → Option Progress
gone_by whole None = None
gone_by whole (Some n) = Some (gone whole n)

-- one byte further
abbrev pub step : Progress → ℕ → Option Progress
step p b = gone_by p.whole (next_at (length p.whole) p.stage b)

abbrev pub run : Progress → List ℕ → Option Progress
run = run_by step

-- the SID where the text may end: behind a number that is a part
abbrev pub ended : List ℕ → Stage → Option Sid
ended [] stage = None
ended (authority ∷ parts) (stages.Number n) =
    if nat_lt (2 ^ 32 - 1) n then None else Some (record { domain = authority ∷ parts; rid = n })
ended (authority ∷ parts) _ = None

abbrev pub sid_by : Option Progress → Option Sid
sid_by None = None
sid_by (Some p) = ended p.whole p.stage

-- the SID that a text spells
abbrev pub sid_in : List ℕ → Option Sid
sid_in text = sid_by (run start text)

-- reading fails there: at a byte that has no place, or at the end, where no SID ends
abbrev pub IsBadAt : List ℕ → ℕ → Type 0
IsBadAt text place = steps.IsBadAt step start (λ p. ended p.whole p.stage) text place
