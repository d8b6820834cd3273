-- An entry serves nothing where what it may serve is not open.
use Rattle.std.proofs.Common.{◌≡◌, ℕ, Bool, true, false, ◌&&◌, List, Option, None, Some, refl, ◌∙◌, ap}
use Rattle.sd_rules.specs.declared.events.Event.{Event}
use Rattle.sd_rules.specs.declared.events.Event.TheVariants.{Answer, Pick, Fall}
use Rattle.sd_rules.specs.declared.replies.Entry.{Entry}
use Rattle.sd_rules.specs.Needed.{serves_open, is_last_again, is_last_pick}
use Rattle.sd_rules.specs.Requests.{is_open}
use Rattle.sd_rules.specs.Servers.{is_noted}
use Rattle.sd_sieve.specs.Readings.{served}

abbrev number_or : ℕ → Option ℕ → ℕ
number_or d None = d
number_or d (Some n) = n

pub serves_none : (all : List Entry) (e : Entry) (event : Event) → served event ≡ None → serves_open all e event ≡ false
serves_none all e (Answer request answered) h = cc
serves_none all e (Pick request) h = cc
serves_none all e (Fall request server why) h = cc
serves_none all e _ h = refl

both_shut : (o p : Bool) → o ≡ false → (o && p) ≡ false
both_shut true p h = cc
both_shut false p h = refl

pub serves_shut : (all : List Entry) (e : Entry) (event : Event) (n : ℕ) → served event ≡ Some n → is_open all n ≡ false → serves_open all e event ≡ false
serves_shut all e (Answer request answered) n h shut =
    both_shut (is_open all request) (is_last_again all request e) (ap (λ (o : Option ℕ). is_open all (number_or n o)) h ∙ shut)
serves_shut all e (Pick request) n h shut =
    both_shut (is_open all request) (is_last_pick all request e) (ap (λ (o : Option ℕ). is_open all (number_or n o)) h ∙ shut)
serves_shut all e (Fall request server why) n h shut =
    both_shut (is_open all request) (is_noted e.reply) (ap (λ (o : Option ℕ). is_open all (number_or n o)) h ∙ shut)
serves_shut all e _ n h shut = refl
