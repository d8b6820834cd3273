-- How large what stands among the entries can be.
use Rattle.std.specs.Prelude.{ℕ, Option, Some, None}
use Rattle.sd_rules.specs.Past.{Standing}
use Rattle.sd_rules.specs.TextBytes.{bytes_of_answered}

-- the text bytes of an answer, where there is one
abbrev pub bytes_of_standing : Option Standing → ℕ
bytes_of_standing None = 0
bytes_of_standing (Some a) = bytes_of_answered a.answered
