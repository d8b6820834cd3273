-- What is closed stays closed, in each journal that is reached.
use Rattle.std.proofs.Common.{◌≡◌, ◌∙◌, ℕ, ◌<◌, ◌≤◌, Bool, true, false, ◌&&◌, ◌||◌, ◌==◌, cond, List, [], ◌∷◌, Option, Some, None, refl, sym, ap, subst, arith}
use Rattle.std.specs.Prelude.{is_some}
use Rattle.std.proofs.lemmas.Bool.Decides.{nat_tests}
use Rattle.sd_rules.specs.declared.events.Event.{Event}
use Rattle.sd_rules.specs.declared.replies.Entry.{Entry}
use Rattle.sd_rules.specs.Needed.{needed}
use Rattle.sd_rules.specs.Reaching.{Move, Append, Forget, Reaches, after_forget, after_moves, can_make}
use Rattle.sd_rules.specs.Requests.{closes, ends_waiting, joined, unclosed, has_opened_request, has_opened_attempt, is_open, is_open_request, is_open_attempt, waits_for, reserves}
use Rattle.sd_rules.specs.Steps.{Daemon, number_after, next_number, after, entry_made, is_steppable}
use Rattle.sd_forgetting.specs.Orderly.{IsOrderly}
use Rattle.sd_forgetting.proofs.Orders.{orderly_after}
use Rattle.sd_forgetting.proofs.Runs.{Beside, beside_itself, beside_forget}
use Rattle.sd_session.specs.Closing.{WasGiven, IsShut, HasLeft, IsNoRequest, IsNoAttempt}

pub neither : (a b : Bool) → a ≡ false → b ≡ false → (a || b) ≡ false
neither true b f g = f
neither false b f g = g

first_false : (a b : Bool) → (a || b) ≡ false → a ≡ false
first_false true b h = h
first_false false b h = refl

second_false : (a b : Bool) → (a || b) ≡ false → b ≡ false
second_false true b h = let clash : ⊥ = cc in absurd clash
second_false false b h = h

first_true : (a b : Bool) → (a && b) ≡ true → a ≡ true
first_true true b h = refl
first_true false b h = h

second_true : (a b : Bool) → (a && b) ≡ true → b ≡ true
second_true true b h = h
second_true false b h = let clash : ⊥ = cc in absurd clash

-- ---- numbers that were given

above : (next : ℕ) (past : List Entry) → next ≤ number_after next past
above next [] = omega arith
above next (e ∷ past) = omega arith

pub not_next : (n : ℕ) (d : Daemon) → n < d.next → (next_number d == n) ≡ false
not_next n d lt = let up = above d.next d.past in grind (arith, nat_tests, up, lt)

pub given_after : (n : ℕ) (d : Daemon) (now : ℕ) (event : Event) → is_steppable d.past event ≡ true → WasGiven n d → WasGiven n (after d now event)
given_after n d now event may g =
    let up = above d.next d.past in
    let lt = g.below in
    record { orderly = orderly_after d now event may g.orderly; below = omega arith }

-- the number of the entry that a step makes
pub given_now : (d : Daemon) (now : ℕ) (event : Event) → is_steppable d.past event ≡ true → IsOrderly d.next d.past → WasGiven (next_number d) (after d now event)
given_now d now event may o = record { orderly = orderly_after d now event may o; below = omega arith }

beside : (d : Daemon) → IsOrderly d.next d.past → Beside d (needed d.past)
beside d o = beside_forget d d.past (beside_itself d o)

given_forgot : (n : ℕ) (d : Daemon) → WasGiven n d → WasGiven n (after_forget d)
given_forgot n d g = record { orderly = (beside d g.orderly).part; below = g.below }

-- ---- an entry more

requests_over : (c b : Bool) (x : Entry) (y : Option Entry) → b ≡ false → has_opened_request y ≡ false → has_opened_request (cond c None (cond b (Some x) y)) ≡ false
requests_over true b x y f h = refl
requests_over false true x y f h = let clash : ⊥ = cc in absurd clash
requests_over false false x y f h = h

attempts_over : (c b : Bool) (x : Entry) (y : Option Entry) → b ≡ false → has_opened_attempt y ≡ false → has_opened_attempt (cond c None (cond b (Some x) y)) ≡ false
attempts_over true b x y f h = refl
attempts_over false true x y f h = let clash : ⊥ = cc in absurd clash
attempts_over false false x y f h = h

waits_over : (c b : Bool) (x w : Option ℕ) → b ≡ false → w ≡ None → cond c None (cond b x w) ≡ None
waits_over true b x w f h = refl
waits_over false true x w f h = let clash : ⊥ = cc in absurd clash
waits_over false false x w f h = h

pub no_request_after : (n : ℕ) (d : Daemon) (now : ℕ) (event : Event) → is_steppable d.past event ≡ true → IsNoRequest n d → IsNoRequest n (after d now event)
no_request_after n d now event may s =
    let e : Entry = entry_made d now event in
    record {
      given = given_after n d now event may s.given;
      none = requests_over (closes e.event e.reply n) (next_number d == n) e (unclosed d.past n) (not_next n d s.given.below) s.none;
    }

pub no_attempt_after : (n : ℕ) (d : Daemon) (now : ℕ) (event : Event) → is_steppable d.past event ≡ true → IsNoAttempt n d → IsNoAttempt n (after d now event)
no_attempt_after n d now event may s =
    let e : Entry = entry_made d now event in
    record {
      given = given_after n d now event may s.given;
      none = attempts_over (closes e.event e.reply n) (next_number d == n) e (unclosed d.past n) (not_next n d s.given.below) s.none;
    }

-- what is open neither as a request nor as an attempt
pub shut_both : (n : ℕ) (d : Daemon) → IsNoRequest n d → IsNoAttempt n d → IsShut n d
shut_both n d r a = record { given = r.given; shut = neither (is_open_request d.past n) (is_open_attempt d.past n) r.none a.none }

shut_request : (n : ℕ) (d : Daemon) → IsShut n d → IsNoRequest n d
shut_request n d s = record { given = s.given; none = first_false (is_open_request d.past n) (is_open_attempt d.past n) s.shut }

shut_attempt : (n : ℕ) (d : Daemon) → IsShut n d → IsNoAttempt n d
shut_attempt n d s = record { given = s.given; none = second_false (is_open_request d.past n) (is_open_attempt d.past n) s.shut }

pub shut_after : (n : ℕ) (d : Daemon) (now : ℕ) (event : Event) → is_steppable d.past event ≡ true → IsShut n d → IsShut n (after d now event)
shut_after n d now event may s =
    shut_both n (after d now event) (no_request_after n d now event may (shut_request n d s)) (no_attempt_after n d now event may (shut_attempt n d s))

pub left_after : (n : ℕ) (d : Daemon) (now : ℕ) (event : Event) → is_steppable d.past event ≡ true → HasLeft n d → HasLeft n (after d now event)
left_after n d now event may s =
    let e : Entry = entry_made d now event in
    record {
      given = given_after n d now event may s.given;
      left = waits_over (ends_waiting e.event e.reply n) (next_number d == n) (joined e.reply) (waits_for d.past n) (not_next n d s.given.below) s.left;
    }

-- ---- a forget

no_request_forgot : (n : ℕ) (d : Daemon) → IsNoRequest n d → IsNoRequest n (after_forget d)
no_request_forgot n d s = record {
  given = given_forgot n d s.given;
  none = sym ((beside d s.given.orderly).kept.opens.requests n) ∙ s.none;
}

no_attempt_forgot : (n : ℕ) (d : Daemon) → IsNoAttempt n d → IsNoAttempt n (after_forget d)
no_attempt_forgot n d s = record {
  given = given_forgot n d s.given;
  none = sym ((beside d s.given.orderly).kept.opens.attempts n) ∙ s.none;
}

left_forgot : (n : ℕ) (d : Daemon) → HasLeft n d → HasLeft n (after_forget d)
left_forgot n d s = record {
  given = given_forgot n d s.given;
  left = sym ((beside d s.given.orderly).kept.tickets.waiting n) ∙ s.left;
}

-- ---- each journal that is reached

-- what steps and forgets keep
record StepKeeps (P : Daemon → Type 0) : Type 0 where
  pub step : (d : Daemon) (now : ℕ) (event : Event) → is_steppable d.past event ≡ true → P d → P (after d now event)
  pub forget : (d : Daemon) → P d → P (after_forget d)

moved : (P : Daemon → Type 0) → StepKeeps P → (moves : List Move) (d : Daemon) → can_make d moves ≡ true → P d → P (after_moves d moves)
moved P k [] d can p = p
moved P k (Append now event ∷ moves) d can p =
    moved P k moves (after d now event) (second_true (is_steppable d.past event) (can_make (after d now event) moves) can)
    (k.step d now event (first_true (is_steppable d.past event) (can_make (after d now event) moves) can) p)
moved P k (Forget ∷ moves) d can p = moved P k moves (after_forget d) can (k.forget d p)

reached : (P : Daemon → Type 0) → StepKeeps P → (d e : Daemon) → Reaches d e → P d → P e
reached P k d e to p = subst P to.reached (moved P k to.moves d to.can p)

pub given_reached : (n : ℕ) (d e : Daemon) → Reaches d e → WasGiven n d → WasGiven n e
given_reached n d e to = reached (WasGiven n) (record { step = given_after n; forget = given_forgot n }) d e to

pub no_request_reached : (n : ℕ) (d e : Daemon) → Reaches d e → IsNoRequest n d → IsNoRequest n e
no_request_reached n d e to = reached (IsNoRequest n) (record { step = no_request_after n; forget = no_request_forgot n }) d e to

pub no_attempt_reached : (n : ℕ) (d e : Daemon) → Reaches d e → IsNoAttempt n d → IsNoAttempt n e
no_attempt_reached n d e to = reached (IsNoAttempt n) (record { step = no_attempt_after n; forget = no_attempt_forgot n }) d e to

pub shut_reached : (n : ℕ) (d e : Daemon) → Reaches d e → IsShut n d → IsShut n e
shut_reached n d e to s = shut_both n e (no_request_reached n d e to (shut_request n d s)) (no_attempt_reached n d e to (shut_attempt n d s))

pub left_reached : (n : ℕ) (d e : Daemon) → Reaches d e → HasLeft n d → HasLeft n e
left_reached n d e to = reached (HasLeft n) (record { step = left_after n; forget = left_forgot n }) d e to

-- what is shut and has left reserves no place
pub reserves_none : (n : ℕ) (d : Daemon) → IsShut n d → HasLeft n d → reserves d.past n ≡ false
reserves_none n d s l = neither (is_open d.past n) (is_some (waits_for d.past n)) s.shut (ap is_some l.left)
