-- How a load ends.
use Rattle.std.specs.Prelude.{◌≡◌, ◌⊎◌, ℕ}
use Rattle.sd_tools.specs.declared.endings.TheConstants.{DONE, WRITE_FAULT, NO_MEMORY}

abbrev pub IsStatus : ℕ → Type 0
IsStatus status = (status ≡ DONE) ⊎ ((status ≡ WRITE_FAULT) ⊎ (status ≡ NO_MEMORY))
