-- What reading as far as the bytes go says of the decision.
use Rattle.std.specs.Prelude.{◌≡◌, ℕ, List}
use Rattle.sd_ldap.specs.declared.entry.DirEntry.{DirEntry}
use Rattle.sd_client.specs.declared.reading.Read.{Read}
use Rattle.sd_client.specs.declared.reading.Read.TheVariants.{Waits, Ended, Failed}
use Rattle.sd_client.specs.Deciding.{Decision, ended, failed}
use Rattle.sd_client.specs.Waiting.{IsByBytes}

-- the decision before, of what stands at the old place, is that of what stands at the new one, or is made
abbrev pub IsRead : Read → List DirEntry → ℕ → Decision → Decision → Type 0
IsRead Waits found at before after = before ≡ after
IsRead (Ended code) found at before after = before ≡ ended found code at
IsRead (Failed why) found at before after = (before ≡ failed why) × IsByBytes why
