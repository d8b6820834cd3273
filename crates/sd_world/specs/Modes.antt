-- How the servers of a scenario's directory behave.
use Rattle.std.specs.Prelude.{ℕ, ◌==◌, List, [], ◌∷◌, if◌then◌else◌}
use Rattle.sd_stub.specs.declared.Mode.{Mode}
use Rattle.sd_stub.specs.declared.Mode.TheVariants.{Up}
use Rattle.sd_world.specs.declared.directory.Change.{Change}

-- as the last change of a server says, and at first it answers; the changes come with the newest first
abbrev pub mode_of : List Change → ℕ → Mode
mode_of [] server = Up
mode_of (c ∷ earlier) server = if c.server == server then c.mode else mode_of earlier server
