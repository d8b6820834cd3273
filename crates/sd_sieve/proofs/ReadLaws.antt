-- Whether an entry is read with one that is looked at can be asked of what these are read with.
use Rattle.std.proofs.Common.{◌≡◌, ℕ, Bool, true, false, cond, ◌&&◌, ◌||◌, ◌==◌, List, [], ◌∷◌, Option, None, Some, refl, sym, ◌∙◌, ap, arith}
use Rattle.std.proofs.lemmas.Bool.Decides.{nat_tests}
use Rattle.sd_rules.specs.declared.events.Event.{Event}
use Rattle.sd_rules.specs.declared.events.Event.TheVariants.{Answer, LoginOnline, LoginTry}
use Rattle.sd_rules.specs.declared.replies.Entry.{Entry}
use Rattle.sd_rules.specs.declared.replies.Reply.{Reply}
use Rattle.sd_rules.specs.Needed.{is_number, last_where, is_looked_at, is_last_again, is_answer_to, is_read_for, is_read_with, read_with, is_tried}
use Rattle.sd_rules.specs.Past.{is_closed}
use Rattle.sd_rules.specs.Steps.{is_again, asks_again}
use Rattle.sd_findings.specs.Briefs.{request_again}
use Rattle.sd_sieve.specs.Readings.{only_if, reads_lead, answer_read, reads_answer, is_again_read}

and_none : (p : Bool) → (p && false) ≡ false
and_none true = refl
and_none false = refl

and_all : (p : Bool) → (p && true) ≡ p
and_all true = refl
and_all false = refl

or_none : (p : Bool) → (p || false) ≡ p
or_none true = refl
or_none false = refl

same_self : (n : ℕ) → (n == n) ≡ true
same_self n = grind (arith, nat_tests)

is_same : (n m : ℕ) → (n == m) ≡ true → n ≡ m
is_same n m h = grind (arith, nat_tests)

same_turned : (n m : ℕ) → (n == m) ≡ (m == n)
same_turned n m = grind (arith, nat_tests)

not_turned : (n m : ℕ) → (n == m) ≡ false → (m == n) ≡ false
not_turned n m h = same_turned m n ∙ h

-- an entry is the last answer to a request that was replied Again, where that is the request of its own
abbrev own_again : (ℕ → Bool) → Option ℕ → ℕ → Bool
own_again last None request = false
own_again last (Some own) request = last own && (request == own)

module _ (last : ℕ → Option ℕ) (n : ℕ) where
  same_again : (c : Bool) (own request : ℕ) → (own == request) ≡ c
      → (((own == request) && true) && is_number n (last request)) ≡ ((((own == own) && true) && is_number n (last own)) && (request == own))
  same_again true own request is =
      let same : own ≡ request = is_same own request is in
      ap (λ (x : ℕ). ((own == x) && true) && is_number n (last x)) (sym same)
      ∙ sym (and_all (((own == own) && true) && is_number n (last own)))
      ∙ ap (λ (b : Bool). (((own == own) && true) && is_number n (last own)) && b) (sym (same_turned request own ∙ is))
  same_again false own request is =
      ap (λ (b : Bool). (b && true) && is_number n (last request)) is
      ∙ sym (and_none (((own == own) && true) && is_number n (last own)))
      ∙ ap (λ (b : Bool). (((own == own) && true) && is_number n (last own)) && b) (sym (not_turned own request is))

  again_one : (b : Bool) (own request : ℕ)
      → (((own == request) && b) && is_number n (last request)) ≡ own_again (λ x. ((own == x) && b) && is_number n (last x)) (cond b (Some own) None) request
  again_one true own request = same_again (own == request) own request refl
  again_one false own request = ap (λ (b : Bool). b && is_number n (last request)) (and_none (own == request))

  again_by : (event : Event) (reply : Reply) (request : ℕ)
      → (asks_again event reply request && is_number n (last request)) ≡ own_again (λ x. asks_again event reply x && is_number n (last x)) (request_again event reply) request
  again_by (Answer own answered) reply request = again_one (is_again reply) own request
  again_by _ reply request = refl

last_again_is : (all : List Entry) (e : Entry) (request : ℕ) → is_last_again all request e ≡ own_again (λ x. is_last_again all x e) (request_again e.event e.reply) request
last_again_is all e request =
    again_by (λ x. last_where (λ (y : Entry). asks_again y.event y.reply x) all) e.number e.event e.reply request

-- an entry is read for another by its number or as the last that was replied Again
abbrev again_for : (ℕ → Bool) → Option ℕ → Option ℕ → Bool
again_for last None own = false
again_for last (Some request) own = own_again last own request

module _ (all : List Entry) (e : Entry) where
  abbrev own : Option ℕ
  own = request_again e.event e.reply

  abbrev last : ℕ → Bool
  last = λ x. is_last_again all x e

  answer_for : (request : ℕ) (b : Bool) → ((e.number == request) || (b && is_last_again all request e)) ≡ (is_number e.number (Some request) || (b && own_again last own request))
  answer_for request b =
      ap (λ (x : Bool). x || (b && is_last_again all request e)) (same_turned e.number request)
      ∙ ap (λ (x : Bool). (request == e.number) || (b && x)) (last_again_is all e request)

  read_if : (c : Bool) (event : Event) (request : ℕ) → is_answer_to event request ≡ false
      → is_read_for all e event (cond c (Some request) None) ≡ (is_number e.number (cond c (Some request) None) || false)
  read_if true event request h =
      ap (λ (b : Bool). (e.number == request) || (b && is_last_again all request e)) h
      ∙ ap (λ (b : Bool). b || false) (same_turned e.number request)
  read_if false event request h = refl

  read_answer : (c : Bool) (event : Event) (request : ℕ) → is_answer_to event request ≡ true
      → is_read_for all e event (cond c (Some request) None) ≡ (is_number e.number (cond c (Some request) None) || again_for last (cond c (Some request) None) own)
  read_answer true event request h =
      ap (λ (b : Bool). (e.number == request) || (b && is_last_again all request e)) h ∙ answer_for request true
  read_answer false event request h = refl

  read_for_is : (event : Event) (reply : Reply)
      → is_read_for all e event (read_with event reply) ≡ (is_number e.number (read_with event reply) || again_for last (answer_read event reply) own)
  read_for_is (Answer request answered) reply = read_answer (is_closed reply || is_again reply) (Answer request answered) request (same_self request)
  read_for_is (LoginOnline attempt result) reply = read_if (is_closed reply) (LoginOnline attempt result) attempt refl
  read_for_is (LoginTry attempt named right) reply = read_if (is_tried reply) (LoginTry attempt named right) attempt refl
  read_for_is _ reply = refl

-- one entry that is looked at, and those before it
abbrev rest_again : (ℕ → Bool) → (ℕ → Bool) → Option ℕ → Bool
rest_again last read None = false
rest_again last read (Some mine) = last mine && read mine

and_or_if : (l p r : Bool) → (l && p || l && r) ≡ (l && (p || r))
and_or_if true p r = refl
and_or_if false p r = refl

joins : (looked lead again leads agains : Bool) → ((looked && (lead || again)) || (leads || agains)) ≡ (((looked && lead) || leads) || ((looked && again) || agains))
joins true true again leads agains = refl
joins true false true true agains = refl
joins true false true false agains = refl
joins true false false leads agains = refl
joins false lead again leads agains = refl

number_if : (n : ℕ) (looked : Bool) (o : Option ℕ) → (looked && is_number n o) ≡ is_number n (only_if looked o)
number_if n true o = refl
number_if n false o = refl

again_more : (last read : ℕ → Bool) (looked : Bool) (request mine : Option ℕ)
    → ((looked && again_for last request mine) || rest_again last read mine) ≡ rest_again last (λ x. is_number x (only_if looked request) || read x) mine
again_more last read true None None = refl
again_more last read false None None = refl
again_more last read true (Some request) None = refl
again_more last read false (Some request) None = refl
again_more last read true None (Some mine) = refl
again_more last read false None (Some mine) = refl
again_more last read true (Some request) (Some mine) = and_or_if (last mine) (request == mine) (read mine)
again_more last read false (Some request) (Some mine) = refl

rest_is : (all : List Entry) (e : Entry) (past : List Entry) (mine : Option ℕ) → rest_again (λ x. is_last_again all x e) (λ x. reads_answer all x past) mine ≡ is_again_read all e past mine
rest_is all e past None = refl
rest_is all e past (Some mine) = refl

none_again : (last : ℕ → Bool) (mine : Option ℕ) → ◌≡◌ {A = Bool} false (rest_again last (λ x. false) mine)
none_again last None = refl
none_again last (Some mine) = sym (and_none (last mine))

read_among : (all : List Entry) (e : Entry) (past : List Entry)
    → is_read_with all e past ≡ (reads_lead all e.number past || rest_again (λ x. is_last_again all x e) (λ x. reads_answer all x past) (request_again e.event e.reply))
read_among all e [] = none_again (λ x. is_last_again all x e) (request_again e.event e.reply)
read_among all e (o ∷ past) =
    let looked : Bool = is_looked_at all past o in
    let lead : Option ℕ = read_with o.event o.reply in
    let answer : Option ℕ = answer_read o.event o.reply in
    let again : Option ℕ = request_again e.event e.reply in
    let test : ℕ → Bool = λ x. is_last_again all x e in
    let read : ℕ → Bool = λ x. reads_answer all x past in
    ap (λ (b : Bool). (looked && b) || is_read_with all e past) (read_for_is all e o.event o.reply)
    ∙ ap (λ (b : Bool). (looked && (is_number e.number lead || again_for test answer again)) || b) (read_among all e past)
    ∙ joins looked (is_number e.number lead) (again_for test answer again) (reads_lead all e.number past) (rest_again test read again)
    ∙ ap (λ (b : Bool). (b || reads_lead all e.number past) || ((looked && again_for test answer again) || rest_again test read again)) (number_if e.number looked lead)
    ∙ ap (λ (b : Bool). reads_lead all e.number (o ∷ past) || b) (again_more test read looked answer again)

pub read_with_is : (all : List Entry) (e : Entry) → is_read_with all e all ≡ (reads_lead all e.number all || is_again_read all e all (request_again e.event e.reply))
read_with_is all e =
    read_among all e all ∙ ap (λ (b : Bool). reads_lead all e.number all || b) (rest_is all e all (request_again e.event e.reply))
