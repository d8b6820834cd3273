-- Whether tickets that wait look at an entry can be asked of the entries that joined alone.
use Rattle.std.proofs.Common.{◌≡◌, refl, ℕ, Bool, true, false, ◌&&◌, List, [], ◌∷◌, arith}
use Rattle.std.proofs.lemmas.Bool.{or_left, or_right}
use Rattle.std.specs.Prelude.{◌||◌, ◌==◌, Option, Some, None, is_some, if◌then◌else◌}
use Rattle.std.proofs.lemmas.Bool.Decides.{nat_tests}
use Rattle.sd_rules.specs.declared.replies.Entry.{Entry}
use Rattle.sd_rules.specs.Requests.{ends_waiting, joined, waits_for}
use Rattle.sd_rules.specs.KeptRows.{is_join}
use Rattle.sd_rules.specs.Needed.{serves_ticket, serves_waiting}
use Rattle.sd_needs.specs.Looks.{serves_joined}

either : (a b c : Bool) → (a || b) ≡ true → (a ≡ true → c ≡ true) → (b ≡ true → c ≡ true) → c ≡ true
either true b c h f g = f refl
either false b c h f g = g h

weaker : (j a b c : Bool) → ((j && a) || b) ≡ true → (b ≡ true → c ≡ true) → (a || c) ≡ true
weaker true true b c h f = refl
weaker true false b c h f = f h
weaker false true b c h f = refl
weaker false false b c h f = f h

both_ways : (a b : Bool) → (a ≡ true → b ≡ true) → (b ≡ true → a ≡ true) → a ≡ b
both_ways true true f g = refl
both_ways true false f g = let e = f refl in cc
both_ways false true f g = let e = g refl in cc
both_ways false false f g = refl

equal_numbers : (a b : ℕ) → (a == b) ≡ true → a ≡ b
equal_numbers a b h = grind (arith, nat_tests)

same_served : (f : ℕ → Bool) (a b : ℕ) → a ≡ b → f b ≡ true → f a ≡ true
same_served f a b e h = rw e h

head_joins :
    (ends same : Bool) (w later : Option ℕ) (served next : Bool) → is_some (if ends then None else if same then w else later) ≡ true
    → (same ≡ true → served ≡ true) → (is_some later ≡ true → next ≡ true) → ((is_join w && served) || next) ≡ true
head_joins true same w later served next h f g = cc
head_joins false true (Some r) later served next h f g = or_left served next (f refl)
head_joins false true None later served next h f g = cc
head_joins false false w later served next h f g = or_right (is_join w && served) next (g h)

served_waits : (all : List Entry) (n : ℕ) (w : Option ℕ) → serves_ticket all n w ≡ true → is_some w ≡ true
served_waits all n None h = h
served_waits all n (Some r) h = refl

-- a ticket that waits and looks at the entry n joined somewhere
joined_serves :
    (all : List Entry) (n t : ℕ) → serves_ticket all n (waits_for all t) ≡ true
    → (past : List Entry) → is_some (waits_for past t) ≡ true → serves_joined all n past ≡ true
joined_serves all n t s [] h = h
joined_serves all n t s (e ∷ past) h =
    head_joins (ends_waiting e.event e.reply t) (e.number == t) (joined e.reply) (waits_for past t)
    (serves_ticket all n (waits_for all e.number)) (serves_joined all n past) h
    (λ same. same_served (λ x. serves_ticket all n (waits_for all x)) e.number t (equal_numbers e.number t same) s)
    (joined_serves all n t s past)

waiting_joined : (all : List Entry) (n : ℕ) (past : List Entry) → serves_waiting all n past ≡ true → serves_joined all n all ≡ true
waiting_joined all n [] h = cc
waiting_joined all n (e ∷ past) h =
    either (serves_ticket all n (waits_for all e.number)) (serves_waiting all n past) (serves_joined all n all) h
    (λ s. joined_serves all n e.number s all (served_waits all n (waits_for all e.number) s))
    (waiting_joined all n past)

joined_waiting : (all : List Entry) (n : ℕ) (past : List Entry) → serves_joined all n past ≡ true → serves_waiting all n past ≡ true
joined_waiting all n [] h = h
joined_waiting all n (e ∷ past) h =
    weaker (is_join (joined e.reply)) (serves_ticket all n (waits_for all e.number)) (serves_joined all n past)
    (serves_waiting all n past) h (joined_waiting all n past)

-- the tickets that joined are all that can wait
pub same_tickets : (all : List Entry) (n : ℕ) → serves_joined all n all ≡ serves_waiting all n all
same_tickets all n =
    both_ways (serves_joined all n all) (serves_waiting all n all) (joined_waiting all n all) (waiting_joined all n all)
