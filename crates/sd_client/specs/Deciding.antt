-- What the bytes received over a link decide of a request, however they were cut.
use Rattle.std.specs.Prelude.{ℕ, zero, suc, ◌+◌, ◌-◌, nat_lt, if◌then◌else◌, List, [], ◌∷◌, ◌++◌, length, take, drop}
use Rattle.sd_base.specs.declared.Why.{Why}
use Rattle.sd_base.specs.declared.Why.TheVariants as whys
use Rattle.sd_ldap.specs.declared.entry.DirEntry.{DirEntry}
use Rattle.sd_ldap.specs.MessageReading.{decode_of}
use Rattle.sd_client.specs.declared.step.Request.{Request}
use Rattle.sd_client.specs.declared.step.Step.{Step}
use Rattle.sd_client.specs.declared.step.Step.TheVariants.{Waits, Passed, Found, Ended, Failed}
use Rattle.sd_client.specs.Heard.{step_of}

-- nothing yet; the entries, the result code and the place behind the message that ended the reply; a failure
pub data Decision : Type 0 where
  undecided : Decision
  ended : List DirEntry → ℕ → ℕ → Decision
  failed : Why → Decision

-- the decision by the message at a place, where next is the decision of what stands so many bytes behind it
abbrev pub by_step : (ℕ → List DirEntry → Decision) → List DirEntry → ℕ → Step → Decision
by_step next found at Waits = undecided
by_step next found at (Passed used) = next used found
by_step next found at (Found entry used) = next used (found ++ entry ∷ [])
by_step next found at (Ended code used) = ended found code (at + used)
by_step next found at (Failed why) = failed why

-- Message by message: the first byte is at a place, and so many bytes in front belong to a message that was
-- read already.
unfoldable pub reply : Request → ℕ → List DirEntry → ℕ → ℕ → List ℕ → Decision
reply request id found at within [] = undecided
reply request id found at zero (byte ∷ bytes) =
    by_step (λ used more. reply request id more (at + 1) (used - 1) bytes) found at (step_of request id (decode_of (byte ∷ bytes)))
reply request id found at (suc within) (byte ∷ bytes) = reply request id found (at + 1) within bytes

-- the decision by what stands at a place
abbrev pub reply_at : Request → ℕ → List DirEntry → ℕ → List ℕ → Decision
reply_at request id found at bytes = reply request id found at 0 (drop at bytes)

-- what is read over one link: 64 MiB
abbrev pub limit : ℕ
limit = 67108864

-- more bytes than may be read are a flood, unless those that may be read decided before
abbrev pub flooded : ℕ → Decision → Decision
flooded count undecided = if nat_lt limit count then failed (whys.Flood 67108865) else undecided
flooded count (ended found code at) = ended found code at
flooded count (failed why) = failed why

-- what all bytes received over a link decide of a request, where reading goes on at a place
abbrev pub decided : Request → ℕ → ℕ → List ℕ → Decision
decided request id at received = flooded (length received) (reply_at request id [] at (take limit received))
