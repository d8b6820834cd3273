-- Frames of requests: where the first of a client's bytes ends, and which of them only an administrator may send.
use Rattle.std.specs.Prelude.{ℕ, Bool, true, false, drop, ◌==◌, ◌&&◌, ◌||◌, ◌+◌, nat_le, nat_lt, List, [], ◌∷◌, length, Option, Some, None, if◌then◌else◌}
use Rattle.std.specs.Int.{w32, from_be_bytes}
use Rattle.std.specs.List.{starts_with}
use Rattle.sd_unix.specs.declared.frames.Visitor.{Visitor}
use Rattle.sd_unix.specs.declared.frames.Visitor.TheVariants as visitors
use Rattle.sd_unix.specs.declared.frames.Progress.{Progress}
use Rattle.sd_unix.specs.declared.frames.Progress.TheVariants as progresses

-- the commands that every user of the host may send: lookups, logins and account checks
abbrev pub is_public : ℕ → Bool
is_public command = (nat_le 1 command && nat_le command 5) || (command == 16 || command == 17)

-- the command of the frame in front: the first byte of its body
abbrev pub command_of : List ℕ → Option ℕ
command_of (a ∷ b ∷ c ∷ d ∷ command ∷ rest) = Some command
command_of _ = None

-- the length of its body: the first four bytes, the most significant first
abbrev pub body_of : List ℕ → Option ℕ
body_of (a ∷ b ∷ c ∷ d ∷ rest) = Some (from_be_bytes w32 (a ∷ b ∷ c ∷ d ∷ []))
body_of _ = None

-- a client may send a command, as far as it is known
abbrev pub is_allowed : Visitor → Option ℕ → Bool
is_allowed visitors.Anyone (Some command) = is_public command
is_allowed _ _ = true

-- a body has 1 to 65536 bytes; a frame is whole once these are there behind its length
abbrev pub progress_of : ℕ → ℕ → Progress
progress_of body there =
    if body == 0 || nat_lt 65536 body then progresses.Refused
    else if nat_lt there (4 + body) then progresses.Cut
    else progresses.Whole (4 + body)

-- the progress of a frame by the length of its body, where it is known
abbrev pub progress_by : Option ℕ → ℕ → Progress
progress_by (Some body) there = progress_of body there
progress_by None there = progresses.Cut

-- the progress of the frame in front of a client's bytes
abbrev pub frame_progress : Visitor → List ℕ → Progress
frame_progress visitor bytes = if is_allowed visitor (command_of bytes) then progress_by (body_of bytes) (length bytes) else progresses.Refused

-- a command is a login's
abbrev pub is_login_command : Option ℕ → Bool
is_login_command (Some command) = command == 16
is_login_command None = false

-- the frame in front is a login's
abbrev pub is_login : List ℕ → Bool
is_login bytes = is_login_command (command_of bytes)

-- a reply's text, behind its length, begins with the word 'wrong' and a space
abbrev pub is_wrong : List ℕ → Bool
is_wrong reply = starts_with ◌==◌ (drop 4 reply) (119 ∷ 114 ∷ 111 ∷ 110 ∷ 103 ∷ 32 ∷ [])
