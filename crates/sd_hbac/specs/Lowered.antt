-- Names whose case was dropped once.
use Rattle.std.specs.Prelude.{◌≡◌, ℕ, ◌+◌, ◌-◌, ◌*◌, ◌%◌, Bool, List, map, length, slice_index}
use Rattle.std.specs.Char.{to_ascii_lowercase}
use Rattle.std.specs.Int.{bit_at}
use Rattle.std.specs.List.{list_any, All}
use Rattle.sd_rules.specs.Keys.{same_name}
use Rattle.sd_rules.specs.Access.{holds_letters}

-- a name is among lowered names once its own case is dropped
abbrev pub among : List (List ℕ) → List ℕ → Bool
among lowered name = list_any (λ n. same_name n (map to_ascii_lowercase name)) lowered

-- one of some names is among lowered ones
abbrev pub shares : List (List ℕ) → List (List ℕ) → Bool
shares names lowered = list_any (λ n. among lowered n) names

-- the lowered names hold what the names themselves hold
pub record Lowers (names lowered : List (List ℕ)) : Type 0 where
  pub each : (name : List ℕ) → among lowered name ≡ holds_letters names name

-- the mark of a lowered name: a number below 64, of its length, its first byte and its last two
unfoldable pub mark : List ℕ → ℕ
mark name = (length name + 5 * slice_index name 0 + 11 * slice_index name (length name - 2) + slice_index name (length name - 1)) % 64

-- each of some lowered names has its mark among some, which are the bits of a number
abbrev pub Marked : ℕ → List (List ℕ) → Type 0
Marked marks names = All (λ n. bit_at marks (mark n) ≡ 1) names
