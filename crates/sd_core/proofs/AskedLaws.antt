-- A fresh answer was asked for after the last invalidation that covers it, and a ticket's outcome names the outage that closed its
-- request.
use Rattle.std.proofs.Common.{◌≡◌, ℕ, ◌<◌, Bool, true, false, List, [], ◌∷◌, arith, refl, sym, ap, subst, ◌∙◌}
use Rattle.std.specs.Prelude.{Option, Some, None, not, nat_lt, is_some, ◌==◌, ◌||◌, if◌then◌else◌}
use Rattle.std.proofs.lemmas.Bool.Decides.{nat_tests}
use Rattle.sd_rules.specs.declared.keys.Key.{Key}
use Rattle.sd_rules.specs.declared.records.Answered.{Answered}
use Rattle.sd_rules.specs.declared.records.Answered.TheVariants.{Found, Absent}
use Rattle.sd_rules.specs.declared.events.Event.{Event}
use Rattle.sd_rules.specs.declared.events.Event.TheVariants as events
use Rattle.sd_rules.specs.declared.events.Row.{Row}
use Rattle.sd_rules.specs.declared.events.Row.TheVariants as rows
use Rattle.sd_rules.specs.declared.replies.Entry.{Entry}
use Rattle.sd_rules.specs.declared.replies.Outcome.{Outcome}
use Rattle.sd_rules.specs.declared.replies.Outcome.TheVariants as outcomes
use Rattle.sd_rules.specs.declared.replies.Reply.{Reply}
use Rattle.sd_rules.specs.declared.replies.Reply.TheVariants as replies
use Rattle.sd_rules.specs.declared.settings.Settings.{Settings}
use Rattle.sd_rules.specs.Past.{Standing, is_closed, is_shut, key_of, answer_by, answer_in, answer_under, spoken, newest, or_else, voids, is_void_after, is_voided}
use Rattle.sd_rules.specs.Keys.{speaks_of}
use Rattle.sd_rules.specs.Answers.{is_found}
use Rattle.sd_rules.specs.Requests.{closes, is_open, is_open_request, waits_for, outcome_by, outcome_of, shut_outcome, answered_outcome}
use Rattle.sd_rules.specs.Servers.{picked_server}
use Rattle.sd_rules.specs.Steps.{event_at, is_asking, void_since, reply_by_void, reply_to, reply_to_answer, reply_to_collect, reply_to_outage, outage_outcome, outcome_in_outage}
use Rattle.sd_core.specs.Laws.{IsUnvoidedSinceAsking, OutcomeNames, TookNames, NamesItsOutage, is_unvoided_since, is_asked_since, are_asked_since, is_outage_of, shuts_as, is_own_outage, are_own_outages}
use Rattle.sd_core.specs.Sound.{falls_from}
use Rattle.sd_core.proofs.Room.{false_is_not_true, same_number}
use Rattle.sd_core.proofs.KindLaws.{first_holds, second_holds, newest_below, at_own}

-- a step that closes a request by an answer finds no such invalidation
closed_clean : (v : Option ℕ) → (not (is_closed (reply_by_void v)) || not (is_some v)) ≡ true
closed_clean None = refl
closed_clean (Some n) = refl

answer_clean : (o : Bool) (past : List Entry) (r : ℕ) (own : Option Key) (answered : Answered) →
    (not (is_closed (if o then reply_to_answer past r own answered else replies.NoRequest)) || is_unvoided_since past r own answered) ≡ true
answer_clean false past r own answered = refl
answer_clean true past r None answered = refl
answer_clean true past r (Some own) answered = closed_clean (void_since past r own answered)

pub step_asked_since : (s : Settings) (past : List Entry) (number moment : ℕ) (event : Event) → is_asked_since past event (reply_to s past number moment event) ≡ true
step_asked_since s past number moment (events.Answer r answered) = answer_clean (is_open_request past r) past r (key_of past r) answered
step_asked_since s past number moment _ = refl

-- a step that shuts a request by an outage names itself
outcome_own : (number : ℕ) (a : Option Standing) → is_outage_of number (outage_outcome number a) ≡ true
outcome_own number None = same_number number
outcome_own number (Some a) = found_or_gone (is_found a.answered)
  where
    found_or_gone : (b : Bool) → is_outage_of number (if b then outcomes.Old a.number number else outcomes.OldGone a.number number) ≡ true
    found_or_gone true = same_number number
    found_or_gone false = same_number number

in_outage_own : (past : List Entry) (number : ℕ) (k : Option Key) → is_outage_of number (outcome_in_outage past number k) ≡ true
in_outage_own past number None = same_number number
in_outage_own past number (Some k) = outcome_own number (newest past k)

closing_own : (b : Bool) (past : List Entry) (number : ℕ) (k : Option Key) →
    shuts_as number (if b then replies.Shut (outcome_in_outage past number k) else replies.Closed) ≡ true
closing_own true past number k = in_outage_own past number k
closing_own false past number k = refl

outage_own : (o : Bool) (past : List Entry) (number n : ℕ) (server : Option ℕ) → shuts_as number (if o then reply_to_outage past number n server else replies.NoRequest) ≡ true
outage_own false past number n server = refl
outage_own true past number n (Some server) = refl
outage_own true past number n None = closing_own (is_open_request past n) past number (key_of past n)

pub step_own_outage : (s : Settings) (past : List Entry) (number moment : ℕ) (event : Event) → is_own_outage number event (reply_to s past number moment event) ≡ true
step_own_outage s past number moment (events.Outage n) = outage_own (is_open past n) past number n (picked_server s past n moment)
step_own_outage s past number moment _ = refl

-- the newest answer of a key, where nothing voids it after it, is not voided since the last asking of its request
no_void : (v : Option ℕ) → not (is_some v) ≡ true → v ≡ None
no_void None h = refl
no_void (Some n) h = absurd (false_is_not_true h)

none_asked : (b : Bool) (v : Option ℕ) → v ≡ None → (if b then None else v) ≡ None
none_asked true v h = refl
none_asked false v h = h

-- of what stands here
abbrev StandsClean : Entry → List Entry → Option Standing → Type 0
StandsClean x xs None = Unit {0}
StandsClean x xs (Some a) =
    (a.number ≡ x.number)
    × ((r : ℕ) (answered : Answered) → x.event ≡ events.Answer r answered → void_since (x ∷ xs) r a.own a.answered ≡ None)

clean_under : (x : Entry) (xs : List Entry) (r : ℕ) (answered : Answered) (own : Option Key) → x.event ≡ events.Answer r answered →
    is_unvoided_since xs r own answered ≡ true → StandsClean x xs (answer_under x answered own)
clean_under x xs r answered None is h = tt
clean_under x xs r answered (Some own) is h = (
  refl,
  λ q other same.
      let here : (q ≡ r) = cc in
      subst (λ m. void_since (x ∷ xs) m own answered ≡ None) (sym here)
      (subst (λ event. (if voids event own answered then Some x.number else if is_asking x r then None else void_since xs r own answered) ≡ None) (sym is)
      (none_asked (is_asking x r) (void_since xs r own answered) (no_void (void_since xs r own answered) h))),
)

clean_if_closed : (c : Bool) (x : Entry) (xs : List Entry) (r : ℕ) (answered : Answered) (own : Option Key) → x.event ≡ events.Answer r answered →
    (not c || is_unvoided_since xs r own answered) ≡ true → StandsClean x xs (if c then answer_under x answered own else None)
clean_if_closed false x xs r answered own is h = tt
clean_if_closed true x xs r answered own is h = clean_under x xs r answered own is h

clean_here : (x : Entry) (xs : List Entry) (event : Event) → x.event ≡ event → is_asked_since xs event x.reply ≡ true → StandsClean x xs (answer_by xs x event)
clean_here x xs (events.Answer r answered) is h = clean_if_closed (is_closed x.reply) x xs r answered (key_of xs r) is h
clean_here x xs (events.Kept row) is h = clean_row row is
  where
    clean_row : (row : Row) → x.event ≡ events.Kept row → StandsClean x xs (answer_by xs x (events.Kept row))
    clean_row (rows.Answer n m own answered marked) is = (refl, λ r other same. let clash : ⊥ = cc in absurd clash)
    clean_row _ is = tt
clean_here x xs _ is h = tt

-- an answer that is not voided after it is clean
abbrev CleanIf : List Entry → Option Standing → Type 0
CleanIf past None = Unit {0}
CleanIf past (Some a) = is_void_after past a ≡ false → IsUnvoidedSinceAsking past a

some_event : (x : Event) (y : Event) → Some x ≡ Some y → x ≡ y
some_event x y e = cc

clean_stands : (x : Entry) (xs : List Entry) (a : Option Standing) → StandsClean x xs a → CleanIf (x ∷ xs) a
clean_stands x xs None h = tt
clean_stands x xs (Some a) h = λ unvoided r answered is.
    h.1 r answered (some_event x.event (events.Answer r answered) (sym (at_own x xs) ∙ (ap (λ n. event_at (x ∷ xs) n) (sym h.0) ∙ is)))

clean_spoken : (k : Key) (past : List Entry) (a : Option Standing) → CleanIf past a → CleanIf past (spoken k a)
clean_spoken k past None h = tt
clean_spoken k past (Some a) h = spoken_or_none (speaks_of a.own a.answered k) h
  where
    spoken_or_none : (b : Bool) → CleanIf past (Some a) → CleanIf past (if b then Some a else None)
    spoken_or_none true h = h
    spoken_or_none false h = tt

clean_else : (past : List Entry) (a b : Option Standing) → CleanIf past a → CleanIf past b → CleanIf past (or_else a b)
clean_else past None b f g = g
clean_else past (Some a) b f g = f

neither_first : (a b : Bool) → (a || b) ≡ false → a ≡ false
neither_first true b h = h
neither_first false b h = refl

neither_second : (a b : Bool) → (a || b) ≡ false → b ≡ false
neither_second true b h = absurd (false_is_not_true (sym h))
neither_second false b h = h

later_void : (s : Bool) (v w : Bool) → s ≡ false → (if s then false else v || w) ≡ false → (v ≡ false) × (w ≡ false)
later_void true v w f h = absurd (false_is_not_true (sym f))
later_void false v w f h = (neither_first v w h, neither_second v w h)

later_since : (v asked : Bool) (n : ℕ) (since : Option ℕ) → v ≡ false → since ≡ None → (if v then Some n else if asked then None else since) ≡ None
later_since true asked n since f h = absurd (false_is_not_true (sym f))
later_since false asked n since f h = none_asked asked since h

-- whose number is below a number
abbrev IsBelow : ℕ → Option Standing → Type 0
IsBelow n None = Unit {0}
IsBelow n (Some a) = a.number < n

clean_later : (x : Entry) (xs : List Entry) (a : Option Standing) → IsBelow x.number a → CleanIf xs a → CleanIf (x ∷ xs) a
clean_later x xs None below h = tt
clean_later x xs (Some a) below h = λ unvoided r answered is.
    let other : (x.number == a.number) ≡ false = grind (arith, nat_tests, below) in
    let passed : event_at (x ∷ xs) a.number ≡ event_at xs a.number = rw other refl in
    let both = later_void (x.number == a.number) (voids x.event a.own a.answered) (is_void_after xs a) other unvoided in
    later_since (voids x.event a.own a.answered) (is_asking x r) x.number (void_since xs r a.own a.answered) both.0
    (h both.1 r answered (sym passed ∙ is))

newest_clean : (next : ℕ) (past : List Entry) (k : Key) → falls_from next past ≡ true → are_asked_since past ≡ true → CleanIf past (newest past k)
newest_clean next [] k f h = tt
newest_clean next (x ∷ xs) k f h =
    let falls = second_holds (nat_lt x.number next) (falls_from x.number xs) f in
    let here = first_holds (is_asked_since xs x.event x.reply) (are_asked_since xs) h in
    let others = second_holds (is_asked_since xs x.event x.reply) (are_asked_since xs) h in
    clean_else (x ∷ xs) (spoken k (answer_in xs x)) (newest xs k)
    (clean_spoken k (x ∷ xs) (answer_in xs x) (clean_stands x xs (answer_in xs x) (clean_here x xs x.event refl here)))
    (clean_later x xs (newest xs k) (newest_below x.number xs k falls) (newest_clean x.number xs k falls others))

pub unvoided_since_asking : (next : ℕ) (past : List Entry) (k : Key) (a : Standing) → falls_from next past ≡ true → are_asked_since past ≡ true →
    newest past k ≡ Some a → is_voided past a ≡ false → IsUnvoidedSinceAsking past a
unvoided_since_asking next past k a f h is unvoided =
    let clean : CleanIf past (Some a) = subst (CleanIf past) is (newest_clean next past k f h) in
    clean (neither_second a.marked (is_void_after past a) unvoided)

-- the outage that an outcome names is the entry that closed the request
abbrev OutageOf : List Entry → ℕ → Outcome → Type 0
OutageOf past r (outcomes.Old n o) = event_at past o ≡ Some (events.Outage r)
OutageOf past r (outcomes.OldGone n o) = event_at past o ≡ Some (events.Outage r)
OutageOf past r (outcomes.Dark o) = event_at past o ≡ Some (events.Outage r)
OutageOf past r _ = Unit {0}

own_at : (x : Entry) (xs : List Entry) (r n o : ℕ) → x.event ≡ events.Outage n → (n == r) ≡ true → (o == x.number) ≡ true → event_at (x ∷ xs) o ≡ Some (events.Outage r)
own_at x xs r n o is same own =
    let here : o ≡ x.number = grind (arith, nat_tests, own) in
    let request : n ≡ r = grind (arith, nat_tests, same) in
    ap (λ m. event_at (x ∷ xs) m) here ∙ (at_own x xs ∙ (ap (λ e. Some e) is ∙ ap (λ m. Some (events.Outage m)) request))

named_by_outcome : (x : Entry) (xs : List Entry) (r n : ℕ) (outcome : Outcome) → x.event ≡ events.Outage n → (n == r) ≡ true → is_outage_of x.number outcome ≡ true →
    OutageOf (x ∷ xs) r outcome
named_by_outcome x xs r n (outcomes.Old a o) is same own = own_at x xs r n o is same own
named_by_outcome x xs r n (outcomes.OldGone a o) is same own = own_at x xs r n o is same own
named_by_outcome x xs r n (outcomes.Dark o) is same own = own_at x xs r n o is same own
named_by_outcome x xs r n _ is same own = tt

named_by_reply : (x : Entry) (xs : List Entry) (r n : ℕ) (reply : Reply) → x.event ≡ events.Outage n → (n == r) ≡ true → shuts_as x.number reply ≡ true →
    OutageOf (x ∷ xs) r (shut_outcome x.number reply)
named_by_reply x xs r n (replies.Shut outcome) is same own = named_by_outcome x xs r n outcome is same own
named_by_reply x xs r n _ is same own = tt

answered_names_none : (past : List Entry) (r n : ℕ) (answered : Answered) → OutageOf past r (answered_outcome n answered)
answered_names_none past r n Absent = tt
answered_names_none past r n (Found found) = tt

closed_names : (x : Entry) (xs : List Entry) (r : ℕ) (event : Event) → x.event ≡ event → closes event x.reply r ≡ true → is_own_outage x.number event x.reply ≡ true →
    OutageOf (x ∷ xs) r (outcome_by x.number event x.reply)
closed_names x xs r (events.Outage n) is c own = named_by_reply x xs r n x.reply is (outage_request n x.reply c) own
  where
    outage_request : (n : ℕ) (reply : Reply) → closes (events.Outage n) reply r ≡ true → (n == r) ≡ true
    outage_request n reply c = first_holds (n == r) (is_closed reply || is_shut reply) c
closed_names x xs r (events.Answer q answered) is c own = answered_names_none (x ∷ xs) r x.number answered
closed_names x xs r _ is c own = tt

event_here : (b : Bool) (m n k : ℕ) (x y : Option Event) (e : Event) → (m == n) ≡ b → m < k → (if b then x else y) ≡ Some e → (y ≡ Some e → n < k) → n < k
event_here true m n k x y e is below h f = grind (arith, nat_tests, is, below)
event_here false m n k x y e is below h f = f h

none_is_no_event : (e : Event) → None ≡ Some e → ⊥
none_is_no_event e h = cc

event_below : (m n : ℕ) (past : List Entry) (e : Event) → falls_from m past ≡ true → event_at past n ≡ Some e → n < m
event_below m n [] e f h = absurd (none_is_no_event e h)
event_below m n (x ∷ xs) e f h =
    let below : x.number < m = grind (arith, nat_tests, f) in
    let falls = second_holds (nat_lt x.number m) (falls_from x.number xs) f in
    event_here (x.number == n) x.number n m (Some x.event) (event_at xs n) e refl below h
    (λ g. below_too n x.number m (event_below x.number n xs e falls g) below)
  where
    below_too : (a b c : ℕ) → a < b → b < c → a < c
    below_too a b c f g = omega arith

later_event : (x : Entry) (xs : List Entry) (n : ℕ) (e : Event) → falls_from x.number xs ≡ true → event_at xs n ≡ Some e → event_at (x ∷ xs) n ≡ Some e
later_event x xs n e f h =
    let below = event_below x.number n xs e f h in
    let other : (x.number == n) ≡ false = grind (arith, nat_tests, below) in
    rw other h

later_outage : (x : Entry) (xs : List Entry) (r : ℕ) (outcome : Outcome) → falls_from x.number xs ≡ true → OutageOf xs r outcome → OutageOf (x ∷ xs) r outcome
later_outage x xs r (outcomes.Old n o) f h = later_event x xs o (events.Outage r) f h
later_outage x xs r (outcomes.OldGone n o) f h = later_event x xs o (events.Outage r) f h
later_outage x xs r (outcomes.Dark o) f h = later_event x xs o (events.Outage r) f h
later_outage x xs r _ f h = tt

pick_outage : (past : List Entry) (r : ℕ) (c : Bool) (x y : Outcome) → (c ≡ true → OutageOf past r x) → OutageOf past r y → OutageOf past r (if c then x else y)
pick_outage past r true x y f g = f refl
pick_outage past r false x y f g = g

outage_of : (next : ℕ) (past : List Entry) (r : ℕ) → falls_from next past ≡ true → are_own_outages past ≡ true → OutageOf past r (outcome_of past r)
outage_of next [] r f h = tt
outage_of next (x ∷ xs) r f h =
    let falls = second_holds (nat_lt x.number next) (falls_from x.number xs) f in
    let here = first_holds (is_own_outage x.number x.event x.reply) (are_own_outages xs) h in
    let others = second_holds (is_own_outage x.number x.event x.reply) (are_own_outages xs) h in
    pick_outage (x ∷ xs) r (closes x.event x.reply r) (outcome_by x.number x.event x.reply) (outcome_of xs r)
    (λ c. closed_names x xs r x.event refl c here)
    (later_outage x xs r (outcome_of xs r) falls (outage_of x.number xs r falls others))

outcome_names : (past : List Entry) (ticket r : ℕ) (outcome : Outcome) → waits_for past ticket ≡ Some r → OutageOf past r outcome → OutcomeNames past ticket outcome
outcome_names past ticket r (outcomes.Old n o) w h = record { request = r; waits = w; closed = h }
outcome_names past ticket r (outcomes.OldGone n o) w h = record { request = r; waits = w; closed = h }
outcome_names past ticket r (outcomes.Dark o) w h = record { request = r; waits = w; closed = h }
outcome_names past ticket r _ w h = tt

took_names : (next : ℕ) (past : List Entry) (ticket : ℕ) (w : Option ℕ) → falls_from next past ≡ true → are_own_outages past ≡ true →
    waits_for past ticket ≡ w → TookNames past ticket (reply_to_collect past w)
took_names next past ticket None f h w = tt
took_names next past ticket (Some r) f h w = took_if (is_open_request past r)
  where
    took_if : (b : Bool) → TookNames past ticket (if b then replies.NotYet r else replies.Took (outcome_of past r))
    took_if true = tt
    took_if false = outcome_names past ticket r (outcome_of past r) w (outage_of next past r f h)

pub names_its_outage : (s : Settings) (past : List Entry) (next number t : ℕ) (event : Event) → falls_from next past ≡ true → are_own_outages past ≡ true →
    NamesItsOutage past event (reply_to s past number t event)
names_its_outage s past next number t (events.Collect ticket) f h = took_names next past ticket (waits_for past ticket) f h refl
names_its_outage s past next number t _ f h = tt
