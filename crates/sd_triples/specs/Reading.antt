-- Reading a triple's text from left to right, one byte after the other.
use Rattle.std.specs.Prelude.{ℕ, ◌==◌, if◌then◌else◌, List, [], ◌∷◌, ◌++◌, Option, Some, None}
use Rattle.sd_pieces.specs.Steps.{run_by}
use Rattle.sd_pieces.specs.Steps as steps
use Rattle.sd_triples.specs.declared.triples.Triple.{Triple}
use Rattle.sd_triples.specs.declared.reading.Stage.{Stage}
use Rattle.sd_triples.specs.declared.reading.Stage.TheVariants as stages
use Rattle.sd_triples.specs.declared.reading.Reader.{Reader}
use Rattle.sd_triples.specs.Grammar.{is_reserved, triple_of}

-- how far reading has come: the fields so far, and where it stands
pub record Progress : Type 0 where
  pub host : List ℕ
  pub user : List ℕ
  pub domain : List ℕ
  pub stage : Stage

abbrev pub at : List ℕ → List ℕ → List ℕ → Stage → Progress
at host user domain stage = record { host = host; user = user; domain = domain; stage = stage }

abbrev pub progress : Reader → Progress
progress r = at r.host.items r.user.items r.domain.items r.stage

abbrev pub start : Progress
start = at [] [] [] stages.Start

-- a byte of a field, or the byte that ends it
abbrev pub in_field : Progress → Progress → ℕ → ℕ → Option Progress
in_field longer ended ends b = if b == ends then Some ended else if is_reserved b then None else Some longer

-- one byte further
abbrev pub step_by : Stage → Progress → ℕ → Option Progress
step_by stages.Start p b = if b == 40 then Some (at p.host p.user p.domain stages.Host) else None
step_by stages.Host p b = in_field (at (p.host ++ b ∷ []) p.user p.domain stages.Host) (at p.host p.user p.domain stages.User) 44 b
step_by stages.User p b = in_field (at p.host (p.user ++ b ∷ []) p.domain stages.User) (at p.host p.user p.domain stages.Domain) 44 b
step_by stages.Domain p b = in_field (at p.host p.user (p.domain ++ b ∷ []) stages.Domain) (at p.host p.user p.domain stages.End) 41 b
step_by stages.End p b = None

abbrev pub step : Progress → ℕ → Option Progress
step p b = step_by p.stage p b

abbrev pub run : Progress → List ℕ → Option Progress
run = run_by step

-- the triple where the text may end
abbrev pub ended_at : Stage → Progress → Option Triple
ended_at stages.End p = Some (triple_of p.host p.user p.domain)
ended_at _ p = None

abbrev pub ended : Progress → Option Triple
ended p = ended_at p.stage p

abbrev pub triple_by : Option Progress → Option Triple
triple_by None = None
triple_by (Some p) = ended p

-- the triple that a text spells
abbrev pub triple_in : List ℕ → Option Triple
triple_in text = triple_by (run start text)

-- reading fails there: at a byte that has no place, or at the end, where no triple ends
abbrev pub IsBadAt : List ℕ → ℕ → Type 0
IsBadAt text place = steps.IsBadAt step start ended text place
