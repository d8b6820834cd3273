-- What the bytes received on a line decide of what was sent on it.
use Rattle.std.specs.Prelude.{ℕ, List, ◌++◌, Option}
use Rattle.std.specs.Option.{option_map}
use Rattle.sd_rules.specs.declared.tasks.Bound.{Bound}
use Rattle.sd_dial.specs.declared.searched.Searched.{Searched}
use Rattle.sd_client.specs.declared.step.Request.TheVariants as requests
use Rattle.sd_client.specs.Deciding.{decided}
use Rattle.sd_client.specs.Talk.{IsSearched, IsBound}

-- All bytes received on the line decide a search that was sent by this id, where reading stands at a place: entries, or another code, and
-- the place after the reply; or a failure. The link fell only where they decide nothing.
abbrev pub DecidesSearch : List ℕ → ℕ → ℕ → Searched → ℕ → Type 0
DecidesSearch received id at searched after = IsSearched searched (decided requests.Search id at received) after (Unit {0})

-- the same of the one bind of a line
abbrev pub DecidesBind : List ℕ → Bound → Type 0
DecidesBind received bound = (after : ℕ) × IsBound bound (decided requests.Bind 1 0 received) after (Unit {0})

-- the bytes told of each line given back, and then those of some more lines
abbrev pub with_lines : Option (List (List ℕ)) → List (List ℕ) → Option (List (List ℕ))
with_lines known more = option_map (λ lines. lines ++ more) known
