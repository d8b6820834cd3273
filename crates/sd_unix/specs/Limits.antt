-- Who is served, and for how long.
use Rattle.std.specs.Prelude.{ℕ, Bool, not, ◌==◌, ◌&&◌, nat_le, nat_lt}
use Rattle.sd_unix.specs.declared.frames.Visitor.{Visitor}
use Rattle.sd_unix.specs.declared.frames.Visitor.TheVariants as visitors

-- of 64 places 48 at most go to the public, so that the administrator has sixteen of its own
abbrev pub has_place : Visitor → ℕ → ℕ → Bool
has_place visitors.Administrator public all = nat_lt all 64
has_place visitors.Anyone public all = nat_lt all 64 && nat_lt public 48

-- a thread looks for a client's next frame only where none has begun, nobody waits, and at most half of the places are taken
abbrev pub may_linger : Bool → ℕ → ℕ → Bool
may_linger has_begun waiting served = not has_begun && (waiting == 0 && nat_le served 32)

-- where somebody waits, a turn is over after four frames
abbrev pub is_turn_over : ℕ → ℕ → Bool
is_turn_over frames waiting = nat_le 4 frames && nat_lt 0 waiting

-- sixteen logins over the public socket at a time
abbrev pub may_guess : ℕ → Bool
may_guess guesses = nat_lt guesses 16
