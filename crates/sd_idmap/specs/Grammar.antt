-- Which texts spell which SID.
use Rattle.std.specs.Prelude.{◌≡◌, ℕ, true, List, Result, Ok, Err}
use Rattle.sd_pieces.specs.Steps as steps
use Rattle.sd_idmap.specs.declared.sids.Sid.{Sid}
use Rattle.sd_idmap.specs.declared.reading.SidFault.{SidFault}
use Rattle.sd_idmap.specs.declared.reading.SidFault.TheVariants as faults
use Rattle.sd_idmap.specs.Sids.{numbers_of, text_of, is_sid}

-- The text is that of the SID, whose numbers fit.
pub record Spells (text : List ℕ) (sid : Sid) : Type 0 where
  pub fits : is_sid (numbers_of sid) ≡ true
  pub text_is : text ≡ text_of (numbers_of sid)

-- The place of the first byte with which no SID goes on, or the length of a text that ends too soon: the
-- bytes before it go on to a SID in some way, and with the byte there they don't in any.
abbrev pub IsFirstBad : List ℕ → ℕ → Type 0
IsFirstBad text place = steps.IsFirstBad Spells text place

-- What was answered for a text that spells the SID: it, unless memory ran out.
abbrev pub Reads : Result Sid SidFault → Sid → Type 0
Reads (Ok read) sid = read ≡ sid
Reads (Err (faults.BadSid place)) sid = ⊥
Reads (Err faults.Memory) sid = Unit {0}
