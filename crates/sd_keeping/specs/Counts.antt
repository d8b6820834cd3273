-- Wrong guesses that a row can hold.
use Rattle.std.specs.Prelude.{ℕ, ◌<◌, ◌+◌, ◌^◌, List, [], ◌∷◌}
use Rattle.sd_rules.specs.declared.events.Event.{Event}
use Rattle.sd_rules.specs.declared.events.Event.TheVariants.{LoginGuess, Kept}
use Rattle.sd_rules.specs.declared.events.Row.{Row}
use Rattle.sd_rules.specs.declared.events.Row.TheVariants as rows
use Rattle.sd_rules.specs.declared.replies.Entry.{Entry}
use Rattle.sd_rules.specs.Logins.{wrong_count}

-- the wrong guesses of each user that still count are a number of 64 bits
pub record HasCounts (past : List Entry) : Type 0 where
  pub fits : (user : List ℕ) → wrong_count past user < 2 ^ 64

-- for how many wrong guesses an event can count, whoever the user is
abbrev pub guesses_in_row : Row → ℕ
guesses_in_row (rows.Wrong n m user count) = count
guesses_in_row _ = 0

abbrev pub guesses_in : Event → ℕ
guesses_in (LoginGuess user named right) = 1
guesses_in (Kept row) = guesses_in_row row
guesses_in _ = 0

abbrev pub all_guesses : List Entry → ℕ
all_guesses [] = 0
all_guesses (e ∷ past) = guesses_in e.event + all_guesses past
