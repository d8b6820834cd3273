-- The wrong guesses of one user are among all.
use Rattle.std.proofs.Common.{◌≡◌, ℕ, ◌<◌, ◌≤◌, ◌+◌, ◌^◌, Bool, true, false, ◌&&◌, List, [], ◌∷◌, arith}
use Rattle.std.specs.Prelude.{nat_le, if◌then◌else◌}
use Rattle.std.proofs.lemmas.Bool.Decides.{nat_tests}
use Rattle.sd_rules.specs.declared.events.Event.{Event}
use Rattle.sd_rules.specs.declared.events.Event.TheVariants as events
use Rattle.sd_rules.specs.declared.events.Row.{Row}
use Rattle.sd_rules.specs.declared.events.Row.TheVariants as rows
use Rattle.sd_rules.specs.declared.replies.Entry.{Entry}
use Rattle.sd_rules.specs.declared.replies.Reply.{Reply}
use Rattle.sd_rules.specs.Keys.{same_name}
use Rattle.sd_rules.specs.Logins.{accepts, is_wrong, wrongs, wrong_count}
use Rattle.sd_keeping.specs.Counts.{HasCounts, guesses_in, all_guesses}

either_within : (b : Bool) (m n : ℕ) → m ≤ n → (if b then m else 0) ≤ n
either_within true m n h = h
either_within false m n h = omega arith

or_none_within : (b : Bool) (m n : ℕ) → m ≤ n → (if b then 0 else m) ≤ n
or_none_within true m n h = omega arith
or_none_within false m n h = h

both_name : (a b : Bool) → (if a && b then 1 else 0) ≤ 1
both_name true b = either_within b 1 1 (omega arith)
both_name false b = omega arith

row_within : (user : List ℕ) (row : Row) (reply : Reply) → wrongs user (events.Kept row) reply ≤ guesses_in (events.Kept row)
row_within user (rows.Wrong n m u count) reply = either_within (same_name u user) count count (omega arith)
row_within user _ reply = omega arith

event_within : (user : List ℕ) (event : Event) (reply : Reply) → wrongs user event reply ≤ guesses_in event
event_within user (events.LoginGuess u named right) reply = both_name (is_wrong reply) (same_name u user)
event_within user (events.Kept row) reply = row_within user row reply
event_within user _ reply = omega arith

both_within : (a b m n : ℕ) → a ≤ m → b ≤ n → a + b ≤ m + n
both_within a b m n h i = omega arith

count_within : (past : List Entry) (user : List ℕ) → wrong_count past user ≤ all_guesses past
count_within [] user = omega arith
count_within (e ∷ past) user =
    or_none_within (accepts past user e.event e.reply) (wrongs user e.event e.reply + wrong_count past user) (guesses_in e.event + all_guesses past)
    (both_within (wrongs user e.event e.reply) (wrong_count past user) (guesses_in e.event) (all_guesses past) (event_within user e.event e.reply) (count_within past user))

-- where all guesses fit in 64 bits, those of each user do
pub counts_within : (past : List Entry) → all_guesses past < 2 ^ 64 → HasCounts past
counts_within past h = record { fits = λ user. omega (arith, count_within past user, h) }

pub below_limit : (a b n : ℕ) → nat_le a b ≡ true → a ≡ n → b ≡ 18446744073709551615 → n < 2 ^ 64
below_limit a b n h i j = grind (arith, nat_tests)
