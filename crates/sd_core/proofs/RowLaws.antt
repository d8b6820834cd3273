-- Entries of which rows can be kept, and wrong guesses: a step makes at most one more.
use Rattle.std.proofs.Common.{◌≡◌, ℕ, ◌+◌, ◌-◌, ◌^◌, ◌<◌, ◌≤◌, Bool, true, false, List, [], ◌∷◌, length, arith, refl}
use Rattle.std.specs.Prelude.{◌&&◌, if◌then◌else◌}
use Rattle.std.proofs.lemmas.Bool.Decides.{nat_tests}
use Rattle.sd_rules.specs.declared.events.Event.{Event}
use Rattle.sd_rules.specs.declared.events.Event.TheVariants as events
use Rattle.sd_rules.specs.declared.replies.Entry.{Entry}
use Rattle.sd_rules.specs.declared.replies.Reply.{Reply}
use Rattle.sd_rules.specs.Keys.{same_name}
use Rattle.sd_rules.specs.Logins.{is_wrong, wrongs}
use Rattle.sd_rules.specs.Steps.{Daemon, is_steppable, gives_back, lacks_places}
use Rattle.sd_core.specs.Sound.{holds_row, row_holders}
use Rattle.sd_core.proofs.Room.{false_is_not_true, one_at_most}

pub holders_at_most : (past : List Entry) → row_holders past ≤ length past
holders_at_most [] = omega arith
holders_at_most (e ∷ past) = omega (arith, one_at_most (holds_row e.event), holders_at_most past)

-- of what gives a place back no row is kept
pub back_holds_none : (past : List Entry) (event : Event) → gives_back past event ≡ true → holds_row event ≡ false
back_holds_none past (events.Abandon n) g = refl
back_holds_none past (events.Leave n) g = refl
back_holds_none past (events.Collect n) g = refl
back_holds_none past _ g = absurd (false_is_not_true g)

pub holders_if_none : (h : Bool) (n : ℕ) → h ≡ false → (if h then 1 else 0) + n ≡ n
holders_if_none true n f = absurd (false_is_not_true_again f)
  where
    false_is_not_true_again : true ≡ false → ⊥
    false_is_not_true_again e = cc
holders_if_none false n f = omega arith

-- where a place is left, the next entry leaves the rows few enough
pub few_with_place : (d : Daemon) (h : Bool) → d.settings.journal_limit < 2 ^ 32 → lacks_places d ≡ false →
    (if h then 1 else 0) + row_holders d.past < 2 ^ 32 - 1
few_with_place d h limit f =
    let most = holders_at_most d.past in
    let here = one_at_most h in
    grind (arith, nat_tests, limit, f, most, here)

-- an event that a step takes counts for one wrong guess at most
one_if_both : (a b : Bool) → (if a && b then 1 else 0) ≤ 1
one_if_both true b = one_at_most b
one_if_both false b = omega arith

pub one_wrong : (past : List Entry) (event : Event) (reply : Reply) (user : List ℕ) → is_steppable past event ≡ true → wrongs user event reply ≤ 1
one_wrong past (events.LoginGuess name named right) reply user h = one_if_both (is_wrong reply) (same_name name user)
one_wrong past (events.Kept row) reply user h = absurd (false_is_not_true h)
one_wrong past _ reply user h = omega arith

pub count_by_choice : (b : Bool) (m n k : ℕ) → m ≤ 1 → n < k → (if b then 0 else m + n) < k + 1
count_by_choice true m n k f g = omega arith
count_by_choice false m n k f g = omega arith
