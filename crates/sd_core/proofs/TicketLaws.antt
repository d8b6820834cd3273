-- A ticket that waits is for a request of its own key's kind, and what it takes is of that kind.
use Rattle.std.proofs.Common.{◌≡◌, ℕ, ◌+◌, ◌<◌, Bool, true, false, List, [], ◌∷◌, arith, refl, sym, subst, ap, ◌∙◌, inl, inr}
use Rattle.std.specs.Prelude.{Option, Some, None, cond, not, nat_lt, ◌⊎◌, ◌==◌, ◌&&◌, ◌||◌, if◌then◌else◌}
use Rattle.std.proofs.lemmas.Bool.Decides.{nat_tests}
use Rattle.sd_rules.specs.declared.keys.Key.{Key}
use Rattle.sd_rules.specs.declared.records.Answered.{Answered}
use Rattle.sd_rules.specs.declared.records.Answered.TheVariants.{Found, Absent}
use Rattle.sd_rules.specs.declared.records.Record.{Record}
use Rattle.sd_rules.specs.declared.events.Event.{Event}
use Rattle.sd_rules.specs.declared.events.Event.TheVariants as events
use Rattle.sd_rules.specs.declared.replies.Entry.{Entry}
use Rattle.sd_rules.specs.declared.replies.Outcome.{Outcome}
use Rattle.sd_rules.specs.declared.replies.Outcome.TheVariants as outcomes
use Rattle.sd_rules.specs.declared.replies.Reply.{Reply}
use Rattle.sd_rules.specs.declared.replies.Reply.TheVariants as replies
use Rattle.sd_rules.specs.declared.settings.Settings.{Settings}
use Rattle.sd_rules.specs.Keys.{kind_of, is_of_kind}
use Rattle.sd_rules.specs.Past.{Standing, is_closed, is_shut, newest, key_asked, key_of}
use Rattle.sd_rules.specs.Requests.{unclosed, closes, opens_request, opens_attempt, has_opened_request, has_opened_attempt, is_open, is_open_request, is_open_attempt, asks_for, open_among, ends_waiting, joined, waits_for, answered_outcome, shut_outcome, outcome_by, outcome_of}
use Rattle.sd_rules.specs.Servers.{picked_server}
use Rattle.sd_rules.specs.Steps.{Daemon, next_number, moment_of, reply_to, reply_to_collect, reply_to_outage, outcome_in_outage, outage_outcome, entry_made, answers_kind, is_steppable, event_at, event_named, record_in, record_of, record_named, answer_named_by_outcome}
use Rattle.sd_core.specs.Sound.{falls_from, holds_kinds, is_of_kind_of, fits_key}
use Rattle.sd_core.specs.Laws.{HasFitTickets, outcome_record}
use Rattle.sd_core.proofs.Room.{false_is_not_true, same_number, next_is_above}
use Rattle.sd_core.proofs.KindLaws.{first_holds, second_holds, kind_only, same_kind, Below, newest_below}
use Rattle.sd_core.proofs.NamedLaws.{Names, outcome_names, closing_fits}
use Rattle.sd_core.proofs.OpenLaws.{request_before, key_before, keeps_outcomes}
use Rattle.sd_core.proofs.JoinLaws.{HasJoined, has_joined}

-- the kind of a record, where there is one, asks only for the kind of the key
option_kind : (found : Option Record) (q k : Key) → kind_of q ≡ kind_of k → is_of_kind_of q found ≡ true → is_of_kind_of k found ≡ true
option_kind None q k e h = refl
option_kind (Some found) q k e h = kind_only found q k e h

none_is_not : {X : Type 0} (x : X) → None ≡ Some x → ⊥
none_is_not x e = cc

same_some : {X : Type 0} (x y : X) → Some x ≡ Some y → x ≡ y
same_some x y e = cc

-- a request that is open for a key stands below, is open, and was asked for a key of that kind
chosen_some : (b : Bool) (n : ℕ) (x : Option ℕ) (r : ℕ) → (if b then Some n else x) ≡ Some r → ((b ≡ true) × (n ≡ r)) ⊎ ((b ≡ false) × (x ≡ Some r))
chosen_some true n x r h = inl (refl, same_some n r h)
chosen_some false n x r h = inr (refl, h)

running_below : (n : ℕ) (all past : List Entry) (k : Key) (r : ℕ) → falls_from n past ≡ true → open_among all past k ≡ Some r → r < n
running_below n all [] k r h e = absurd (none_is_not r e)
running_below n all (x ∷ past) k r h e =
    elim (chosen_some (asks_for x.event k && is_open_request all x.number) x.number (open_among all past k) r e) [
      | inl p ↦ (let below : x.number < n = grind (arith, nat_tests, h) in subst (λ m. m < n) p.1 below)
      | inr p ↦ (let rest = running_below x.number all past k r (second_holds (nat_lt x.number n) (falls_from x.number past) h) p.1 in
          let below : x.number < n = grind (arith, nat_tests, h) in omega arith)
    ]

running_open : (all past : List Entry) (k : Key) (r : ℕ) → open_among all past k ≡ Some r → is_open_request all r ≡ true
running_open all [] k r e = absurd (none_is_not r e)
running_open all (x ∷ past) k r e =
    elim (chosen_some (asks_for x.event k && is_open_request all x.number) x.number (open_among all past k) r e) [
      | inl p ↦ subst (λ m. is_open_request all m ≡ true) p.1 (second_holds (asks_for x.event k) (is_open_request all x.number) p.0)
      | inr p ↦ running_open all past k r p.1
    ]

asked_kind : (event : Event) (q k : Key) → key_asked event ≡ Some q → asks_for event k ≡ true → kind_of q ≡ kind_of k
asked_kind (events.Ask key) q k own h = subst (λ (x : Key). kind_of x ≡ kind_of k) (same_some key q own) (same_kind key k h)
asked_kind _ q k own h = absurd (none_is_not q own)

key_at : (b : Bool) (x y : Option Key) (q : Key) → b ≡ true → (if b then x else y) ≡ Some q → x ≡ Some q
key_at true x y q f g = g
key_at false x y q f g = absurd (false_is_not_true f)

running_kind : (n : ℕ) (all past : List Entry) (k q : Key) (r : ℕ) → falls_from n past ≡ true → open_among all past k ≡ Some r → key_of past r ≡ Some q → kind_of q ≡ kind_of k
running_kind n all [] k q r h e own = absurd (none_is_not r e)
running_kind n all (x ∷ past) k q r h e own =
    elim (chosen_some (asks_for x.event k && is_open_request all x.number) x.number (open_among all past k) r e) [
      | inl p ↦ (let here : (x.number == r) ≡ true = subst (λ m. (x.number == m) ≡ true) p.1 (same_number x.number) in
          asked_kind x.event q k (key_at (x.number == r) (key_asked x.event) (key_of past r) q here own)
          (first_holds (asks_for x.event k) (is_open_request all x.number) p.0))
      | inr p ↦ (let falls = second_holds (nat_lt x.number n) (falls_from x.number past) h in
          let below = running_below x.number all past k r falls p.1 in
          let other : (x.number == r) ≡ false = grind (arith, nat_tests, below) in
          running_kind x.number all past k q r falls p.1 (key_before x past r q other own))
    ]

-- what is open as a request is open as no attempt, and has a key
opened_apart : (event : Event) (reply : Reply) → opens_request event reply ≡ true → opens_attempt event reply ≡ false
opened_apart (events.Ask key) reply h = refl
opened_apart _ reply h = absurd (false_is_not_true h)

apart : (u : Option Entry) → has_opened_request u ≡ true → has_opened_attempt u ≡ false
apart None h = refl
apart (Some x) h = opened_apart x.event x.reply h

opened_key : (event : Event) (reply : Reply) → opens_request event reply ≡ true → (q : Key) × (key_asked event ≡ Some q)
opened_key (events.Ask key) reply h = (key, refl)
opened_key _ reply h = absurd (false_is_not_true h)

key_by : (c b : Bool) (x : Entry) (y : Option Entry) (z : Option Key) → (has_opened_request y ≡ true → (q : Key) × (z ≡ Some q)) →
    has_opened_request (cond c None (cond b (Some x) y)) ≡ true → (q : Key) × ((if b then key_asked x.event else z) ≡ Some q)
key_by true b x y z f h = absurd (false_is_not_true h)
key_by false true x y z f h = opened_key x.event x.reply h
key_by false false x y z f h = f h

open_has_key : (past : List Entry) (r : ℕ) → is_open_request past r ≡ true → (q : Key) × (key_of past r ≡ Some q)
open_has_key [] r h = absurd (false_is_not_true h)
open_has_key (x ∷ past) r h = key_by (closes x.event x.reply r) (x.number == r) x (unclosed past r) (key_of past r) (open_has_key past r) h

-- what an entry does not close stays open; what is open after it, but for its own, was open before
stays_by : (c b : Bool) (x : Entry) (y : Option Entry) → c ≡ false → b ≡ false → has_opened_request y ≡ true → has_opened_request (cond c None (cond b (Some x) y)) ≡ true
stays_by true b x y f g h = absurd (false_is_not_true (sym f))
stays_by false true x y f g h = absurd (false_is_not_true (sym g))
stays_by false false x y f g h = h

stays_open : (e : Entry) (past : List Entry) (r : ℕ) → closes e.event e.reply r ≡ false → (e.number == r) ≡ false → is_open_request past r ≡ true → is_open_request (e ∷ past) r ≡ true
stays_open e past r c other h = stays_by (closes e.event e.reply r) (e.number == r) e (unclosed past r) c other h

attempt_by : (c b : Bool) (x : Entry) (y : Option Entry) → b ≡ false → has_opened_attempt y ≡ false → has_opened_attempt (cond c None (cond b (Some x) y)) ≡ false
attempt_by true b x y f h = refl
attempt_by false true x y f h = absurd (false_is_not_true (sym f))
attempt_by false false x y f h = h

no_attempt_after : (e : Entry) (past : List Entry) (r : ℕ) → (e.number == r) ≡ false → is_open_attempt past r ≡ false → is_open_attempt (e ∷ past) r ≡ false
no_attempt_after e past r other h = attempt_by (closes e.event e.reply r) (e.number == r) e (unclosed past r) other h

asked_closes : (event : Event) (reply : Reply) (k : Key) (n : ℕ) → key_asked event ≡ Some k → closes event reply n ≡ false
asked_closes (events.Ask key) reply k n own = refl
asked_closes _ reply k n own = absurd (none_is_not k own)

-- a ticket that waits after an entry is new with it, or waited before
waits_either : (d b : Bool) (x y : Option ℕ) (r : ℕ) → cond d None (cond b x y) ≡ Some r → ((b ≡ true) × (x ≡ Some r)) ⊎ ((b ≡ false) × (y ≡ Some r))
waits_either true b x y r h = absurd (none_is_not r h)
waits_either false true x y r h = inl (refl, h)
waits_either false false x y r h = inr (refl, h)

-- what is named before stays what it is after an entry of a number above
passed_event : (e : Entry) (past : List Entry) (m : Option ℕ) → ((n : ℕ) → m ≡ Some n → n < e.number) → event_named (e ∷ past) m ≡ event_named past m
passed_event e past None below = refl
passed_event e past (Some n) below =
    let less = below n refl in
    let other : (e.number == n) ≡ false = grind (arith, nat_tests, less) in
    rw other refl

-- What is asked of an outcome that an entry gives: its answer stands, and is of the kind of the request's key.
record IsFitOutcome (past : List Entry) (e : Entry) (q : Key) (o : Outcome) : Type 0 where
  named : (n : ℕ) → answer_named_by_outcome o ≡ Some n → n < e.number + 1
  kind : is_of_kind_of q (record_in (event_named (e ∷ past) (answer_named_by_outcome o))) ≡ true

unnamed : (past : List Entry) (e : Entry) (q : Key) (o : Outcome) → answer_named_by_outcome o ≡ None → IsFitOutcome past e q o
unnamed past e q o h = record {
  named = λ n is. absurd (none_is_not n (sym h ∙ is));
  kind = ap (λ m. is_of_kind_of q (record_in (event_named (e ∷ past) m))) h;
}

earlier : (past : List Entry) (e : Entry) (q : Key) (o : Outcome) → ((n : ℕ) → answer_named_by_outcome o ≡ Some n → n < e.number) →
    is_of_kind_of q (record_in (event_named past (answer_named_by_outcome o))) ≡ true → IsFitOutcome past e q o
earlier past e q o below kind = record {
  named = λ n is. let less = below n is in omega arith;
  kind = ap (λ x. is_of_kind_of q (record_in x)) (passed_event e past (answer_named_by_outcome o) below) ∙ kind;
}

named_lower : (past : List Entry) (number : ℕ) (x : Option Standing) (m : Option ℕ) (n : ℕ) → Names x m → Below number x → m ≡ Some n → n < number
named_lower past number x None n names below is = absurd (none_is_not n is)
named_lower past number None (Some m) n names below is = absurd names
named_lower past number (Some a) (Some m) n names below is = subst (λ i. i < number) (sym names ∙ same_some m n is) below

module _ (past : List Entry) (e : Entry) (falls : falls_from e.number past ≡ true) (kinds : holds_kinds past ≡ true) (q : Key) where
  shut_newest : IsFitOutcome past e q (outcome_in_outage past e.number (Some q))
  shut_newest =
      earlier past e q (outcome_in_outage past e.number (Some q))
      (λ n is. named_lower past e.number (newest past q) (answer_named_by_outcome (outage_outcome e.number (newest past q))) n (outcome_names e.number (newest past q)) (newest_below e.number past q falls) is)
      (closing_fits past e.number e.number (Some q) falls kinds)

  shut_own : (own : Option Key) → own ≡ Some q → IsFitOutcome past e q (outcome_in_outage past e.number own)
  shut_own own is = subst (λ (k : Option Key). IsFitOutcome past e q (outcome_in_outage past e.number k)) (sym is) shut_newest

  shut_closing : (b : Bool) (own : Option Key) → own ≡ Some q →
      IsFitOutcome past e q (shut_outcome e.number (if b then replies.Shut (outcome_in_outage past e.number own) else replies.Closed))
  shut_closing true own is = shut_own own is
  shut_closing false own is = unnamed past e q (shut_outcome e.number replies.Closed) refl

  shut_picked : (n : ℕ) (picked : Option ℕ) → key_of past n ≡ Some q → IsFitOutcome past e q (shut_outcome e.number (reply_to_outage past e.number n picked))
  shut_picked n (Some i) is = unnamed past e q (shut_outcome e.number (replies.Servable i)) refl
  shut_picked n None is = shut_closing (is_open_request past n) (key_of past n) is

  shut_open : (b : Bool) (n : ℕ) (picked : Option ℕ) → key_of past n ≡ Some q →
      IsFitOutcome past e q (shut_outcome e.number (if b then reply_to_outage past e.number n picked else replies.NoRequest))
  shut_open true n picked is = shut_picked n picked is
  shut_open false n picked is = unnamed past e q (shut_outcome e.number replies.NoRequest) refl

  found_here : (found : Record) → record_of e.event ≡ Some found → is_of_kind found q ≡ true → IsFitOutcome past e q (outcomes.Found e.number)
  found_here found is h = record {
    named = λ n own. let same = same_some e.number n own in omega arith;
    kind =
        let at : record_in (event_at (e ∷ past) e.number) ≡ Some found = rw (same_number e.number) is in
        ap (is_of_kind_of q) at ∙ h;
  }

  found_kind : (o : Bool) (own : Option Key) (found : Record) → o ≡ true → own ≡ Some q → (not o || answers_kind own (Found found)) ≡ true → is_of_kind found q ≡ true
  found_kind false own found f is h = absurd (false_is_not_true f)
  found_kind true None found f is h = absurd (none_is_not q is)
  found_kind true (Some k) found f is h = subst (λ (x : Key). is_of_kind found x ≡ true) (same_some k q is) h

  answered_here : (answered : Answered) (n : ℕ) → e.event ≡ events.Answer n answered → is_open_request past n ≡ true → key_of past n ≡ Some q →
      (not (is_open_request past n) || answers_kind (key_of past n) answered) ≡ true → IsFitOutcome past e q (answered_outcome e.number answered)
  answered_here Absent n is o own h = unnamed past e q (outcomes.Absent e.number) refl
  answered_here (Found found) n is o own h =
      found_here found (ap record_of is) (found_kind (is_open_request past n) (key_of past n) found o own h)

closing_same : (n r : ℕ) (c : Bool) → ((n == r) && c) ≡ true → n ≡ r
closing_same n r c h = let is = first_holds (n == r) c h in grind (arith, nat_tests, is)

-- the outcome of the entry that closes a request fits the request's key
closing_outcome : (s : Settings) (past : List Entry) (number t : ℕ) (event : Event) (r : ℕ) (q : Key) → falls_from number past ≡ true → holds_kinds past ≡ true →
    is_steppable past event ≡ true → is_open_request past r ≡ true → key_of past r ≡ Some q → closes event (reply_to s past number t event) r ≡ true →
    IsFitOutcome past (record { number = number; moment = t; event = event; reply = reply_to s past number t event }) q (outcome_by number event (reply_to s past number t event))
closing_outcome s past number t (events.Answer n answered) r q falls kinds steppable o own c =
    let reply : Reply = reply_to s past number t (events.Answer n answered) in
    let e : Entry = record { number = number; moment = t; event = events.Answer n answered; reply = reply } in
    let same = closing_same n r (is_closed reply) c in
    answered_here past e falls kinds q answered n refl
    (subst (λ m. is_open_request past m ≡ true) (sym same) o) (subst (λ m. key_of past m ≡ Some q) (sym same) own) steppable
closing_outcome s past number t (events.Outage n) r q falls kinds steppable o own c =
    let reply : Reply = reply_to s past number t (events.Outage n) in
    let e : Entry = record { number = number; moment = t; event = events.Outage n; reply = reply } in
    let same = closing_same n r (is_closed reply || is_shut reply) c in
    shut_open past e falls kinds q (is_open past n) n (picked_server s past n t) (subst (λ m. key_of past m ≡ Some q) (sym same) own)
closing_outcome s past number t event r q falls kinds steppable o own c =
    unnamed past (record { number = number; moment = t; event = event; reply = reply_to s past number t event }) q (outcome_by number event (reply_to s past number t event)) refl

module _ (d : Daemon) (now : ℕ) (event : Event) (numbers : falls_from d.next d.past ≡ true) (kinds : holds_kinds d.past ≡ true)
    (steppable : is_steppable d.past event ≡ true) (fit : HasFitTickets d.next d.past) where
  abbrev e : Entry
  e = entry_made d now event

  same : next_number d ≡ d.next
  same = next_is_above d.next d.past numbers

  falls : falls_from e.number d.past ≡ true
  falls = subst (λ n. falls_from n d.past ≡ true) (sym same) numbers

  other_number : (r : ℕ) → r < e.number → (e.number == r) ≡ false
  other_number r less = grind (arith, nat_tests, less)

  waited : (t r : ℕ) → waits_for (e ∷ d.past) t ≡ Some r → (((e.number == t) ≡ true) × (joined e.reply ≡ Some r)) ⊎ (((e.number == t) ≡ false) × (waits_for d.past t ≡ Some r))
  waited t r w = waits_either (ends_waiting e.event e.reply t) (e.number == t) (joined e.reply) (waits_for d.past t) r w

  join : (r : ℕ) → joined e.reply ≡ Some r → HasJoined d.past event r
  join r h = has_joined d.settings d.past (next_number d) (moment_of d now) event r h

  joined_below : (r : ℕ) → HasJoined d.past event r → r < e.number
  joined_below r j = running_below e.number d.past d.past j.key r falls j.running

  before_below : (t r : ℕ) → waits_for d.past t ≡ Some r → r < e.number
  before_below t r w = subst (λ n. r < n) (sym same) (fit.below t r w)

  below_after : (t r : ℕ) → waits_for (e ∷ d.past) t ≡ Some r → r < e.number + 1
  below_after t r w =
      elim (waited t r w) [
        | inl p ↦ (let less = joined_below r (join r p.1) in omega arith)
        | inr p ↦ (let less = before_below t r p.1 in omega arith)
      ]

  attempt_after : (t r : ℕ) → waits_for (e ∷ d.past) t ≡ Some r → is_open_attempt (e ∷ d.past) r ≡ false
  attempt_after t r w =
      elim (waited t r w) [
        | inl p ↦ (let j = join r p.1 in
            no_attempt_after e d.past r (other_number r (joined_below r j)) (apart (unclosed d.past r) (running_open d.past d.past j.key r j.running)))
        | inr p ↦ no_attempt_after e d.past r (other_number r (before_below t r p.1)) (fit.no_attempt t r p.1)
      ]

  own_key : (t : ℕ) (k : Key) → (e.number == t) ≡ true → key_of (e ∷ d.past) t ≡ Some k → key_asked event ≡ Some k
  own_key t k here own = key_at (e.number == t) (key_asked event) (key_of d.past t) k here own

  kind_after : (t r : ℕ) (k q : Key) → waits_for (e ∷ d.past) t ≡ Some r → is_open_request (e ∷ d.past) r ≡ true → key_of (e ∷ d.past) t ≡ Some k →
      key_of (e ∷ d.past) r ≡ Some q → kind_of q ≡ kind_of k
  kind_after t r k q w o kt kr =
      elim (waited t r w) [
        | inl p ↦ (let j = join r p.1 in
            let asked : j.key ≡ k = same_some j.key k (sym j.asked ∙ own_key t k p.0 kt) in
            let own = key_before e d.past r q (other_number r (joined_below r j)) kr in
            subst (λ (x : Key). kind_of q ≡ kind_of x) asked (running_kind e.number d.past d.past j.key q r falls j.running own))
        | inr p ↦ (let apart_from = other_number r (before_below t r p.1) in
            fit.same_kind t r k q p.1 (request_before e d.past r apart_from o) (key_before e d.past t k p.0 kt) (key_before e d.past r q apart_from kr))
      ]

  -- a request that a new ticket joins is not closed by that entry
  joined_stays : (r : ℕ) → HasJoined d.past event r → is_open_request (e ∷ d.past) r ≡ false → ⊥
  joined_stays r j c =
      let opened = stays_open e d.past r (asked_closes event e.reply j.key r j.asked) (other_number r (joined_below r j)) (running_open d.past d.past j.key r j.running) in
      false_is_not_true (sym c ∙ opened)

  -- the outcome of a request that is closed after the entry fits a key of the kind of the ticket's
  closed_by_entry : (r : ℕ) (q : Key) → r < e.number → is_open_request d.past r ≡ true → key_of d.past r ≡ Some q → (b : Bool) → closes event e.reply r ≡ b →
      is_open_request (e ∷ d.past) r ≡ false → IsFitOutcome d.past e q (outcome_of (e ∷ d.past) r)
  closed_by_entry r q less o own true is c =
      let gives : outcome_of (e ∷ d.past) r ≡ outcome_by e.number event e.reply = rw is refl in
      subst (λ (x : Outcome). IsFitOutcome d.past e q x) (sym gives)
      (closing_outcome d.settings d.past (next_number d) (moment_of d now) event r q falls kinds steppable o own is)
  closed_by_entry r q less o own false is c =
      absurd (false_is_not_true (sym c ∙ stays_open e d.past r is (other_number r less) o))

  closed_before : (t r : ℕ) (k : Key) → waits_for d.past t ≡ Some r → is_open_request d.past r ≡ false → key_of d.past t ≡ Some k →
      IsFitOutcome d.past e k (outcome_of (e ∷ d.past) r)
  closed_before t r k w c own =
      let closed : is_open d.past r ≡ false = neither_open (is_open_request d.past r) (is_open_attempt d.past r) c (fit.no_attempt t r w) in
      let stays = (keeps_outcomes d now event).stays r closed in
      subst (λ (x : Outcome). IsFitOutcome d.past e k x) (sym stays)
      (earlier d.past e k (outcome_of d.past r) (λ n is. subst (λ m. n < m) (sym same) (fit.named_below t r n w c is)) (fit.of_kind t r k w c own))
    where
      neither_open : (a b : Bool) → a ≡ false → b ≡ false → (a || b) ≡ false
      neither_open a b f g = cc

  other_kind : (q k : Key) (o : Outcome) → kind_of q ≡ kind_of k → IsFitOutcome d.past e q o → IsFitOutcome d.past e k o
  other_kind q k o same_kinds f = record {
    named = f.named;
    kind = option_kind (record_in (event_named (e ∷ d.past) (answer_named_by_outcome o))) q k same_kinds f.kind;
  }

  closed_by : (t r : ℕ) (k : Key) (b : Bool) → is_open_request d.past r ≡ b → waits_for d.past t ≡ Some r → key_of d.past t ≡ Some k →
      is_open_request (e ∷ d.past) r ≡ false → IsFitOutcome d.past e k (outcome_of (e ∷ d.past) r)
  closed_by t r k false is w own c = closed_before t r k w is own
  closed_by t r k true is w own c =
      let key = open_has_key d.past r is in
      other_kind key.0 k (outcome_of (e ∷ d.past) r) (fit.same_kind t r k key.0 w is own key.1)
      (closed_by_entry r key.0 (before_below t r w) is key.1 (closes event e.reply r) refl c)

  outcome_after : (t r : ℕ) (k : Key) → waits_for (e ∷ d.past) t ≡ Some r → is_open_request (e ∷ d.past) r ≡ false → key_of (e ∷ d.past) t ≡ Some k →
      IsFitOutcome d.past e k (outcome_of (e ∷ d.past) r)
  outcome_after t r k w c own =
      elim (waited t r w) [
        | inl p ↦ absurd (joined_stays r (join r p.1) c)
        | inr p ↦ closed_by t r k (is_open_request d.past r) refl p.1 (key_before e d.past t k p.0 own) c
      ]

  -- a ticket that waits has a key
  key_after : (t r : ℕ) → waits_for (e ∷ d.past) t ≡ Some r → (k : Key) × (key_of (e ∷ d.past) t ≡ Some k)
  key_after t r w =
      elim (waited t r w) [
        | inl p ↦ (let j = join r p.1 in (j.key, here (e.number == t) (key_asked event) (key_of d.past t) j.key p.0 j.asked))
        | inr p ↦ (let own = fit.has_key t r p.1 in (own.0, there (e.number == t) (key_asked event) (key_of d.past t) own.0 p.0 own.1))
      ]
    where
      here : (b : Bool) (x y : Option Key) (k : Key) → b ≡ true → x ≡ Some k → (if b then x else y) ≡ Some k
      here true x y k f g = g
      here false x y k f g = absurd (false_is_not_true f)

      there : (b : Bool) (x y : Option Key) (k : Key) → b ≡ false → y ≡ Some k → (if b then x else y) ≡ Some k
      there true x y k f g = absurd (false_is_not_true (sym f))
      there false x y k f g = g

  pub tickets_after : HasFitTickets (e.number + 1) (e ∷ d.past)
  tickets_after = record {
    has_key = key_after;
    below = below_after;
    no_attempt = attempt_after;
    same_kind = kind_after;
    named_below = λ t r n w c is. (outcome_after t r (key_after t r w).0 w c (key_after t r w).1).named n is;
    of_kind = λ t r k w c own. (outcome_after t r k w c own).kind;
  }

-- what a ticket takes is of the kind of its question's key
taken_fits : (past : List Entry) (r : ℕ) (own : Option Key) (b : Bool) → ((k : Key) → own ≡ Some k → b ≡ false → is_of_kind_of k (outcome_record past r) ≡ true) →
    fits_key own (record_named past (if b then replies.NotYet r else replies.Took (outcome_of past r))) ≡ true
taken_fits past r None b f = refl
taken_fits past r (Some k) true f = refl
taken_fits past r (Some k) false f = f k refl refl

ticket_fits : (past : List Entry) (next t : ℕ) (w : Option ℕ) → waits_for past t ≡ w → HasFitTickets next past →
    fits_key (key_of past t) (record_named past (reply_to_collect past w)) ≡ true
ticket_fits past next t None is fit = no_ticket (key_of past t)
  where
    no_ticket : (own : Option Key) → fits_key own None ≡ true
    no_ticket None = refl
    no_ticket (Some k) = refl
ticket_fits past next t (Some r) is fit = taken_fits past r (key_of past t) (is_open_request past r) (λ k own c. fit.of_kind t r k is c own)

pub collect_fits : (past : List Entry) (next t : ℕ) → HasFitTickets next past → fits_key (key_of past t) (record_named past (reply_to_collect past (waits_for past t))) ≡ true
collect_fits past next t fit = ticket_fits past next t (waits_for past t) refl fit
