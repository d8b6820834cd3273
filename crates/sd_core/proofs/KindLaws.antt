-- Every answer of a journal is of its key's kind, and the newest answer of a key is of that key's kind.
use Rattle.std.proofs.Common.{◌≡◌, ℕ, ◌<◌, Bool, true, false, List, [], ◌∷◌, arith, refl, subst, ap, inl, inr, ◌∙◌}
use Rattle.std.specs.Prelude.{Option, Some, None, not, nat_lt, ◌⊎◌, ◌==◌, ◌&&◌, ◌||◌, if◌then◌else◌}
use Rattle.std.proofs.lemmas.Bool.Decides.{nat_tests}
use Rattle.sd_rules.specs.declared.keys.Key.{Key}
use Rattle.sd_rules.specs.declared.keys.Key.TheVariants as keys
use Rattle.sd_rules.specs.declared.records.Answered.{Answered}
use Rattle.sd_rules.specs.declared.records.Answered.TheVariants.{Found, Absent}
use Rattle.sd_rules.specs.declared.records.Record.{Record}
use Rattle.sd_rules.specs.declared.records.Record.TheVariants as records
use Rattle.sd_rules.specs.declared.events.Event.{Event}
use Rattle.sd_rules.specs.declared.events.Event.TheVariants as events
use Rattle.sd_rules.specs.declared.events.Row.{Row}
use Rattle.sd_rules.specs.declared.events.Row.TheVariants as rows
use Rattle.sd_rules.specs.declared.replies.Entry.{Entry}
use Rattle.sd_rules.specs.declared.replies.Reply.{Reply}
use Rattle.sd_rules.specs.declared.replies.Reply.TheVariants as replies
use Rattle.sd_rules.specs.declared.settings.Settings.{Settings}
use Rattle.sd_rules.specs.Keys.{kind_of, carried, same_name, same_key, is_of_kind, is_answer_of_kind, record_speaks, speaks_of}
use Rattle.sd_rules.specs.Past.{Standing, is_closed, key_of, answer_in, answer_by, answer_under, spoken, newest, or_else}
use Rattle.sd_rules.specs.Requests.{is_open_request}
use Rattle.sd_rules.specs.Steps.{Daemon, next_number, moment_of, reply_to, reply_to_answer, entry_made, is_steppable, answers_kind, record_of, record_in, record_in_answer, event_at}
use Rattle.sd_core.specs.Sound.{holds_kind, holds_kinds, falls_from}
use Rattle.sd_core.proofs.Room.{false_is_not_true, falls_on, same_number}

-- the kind of a record asks only for the kind of the key
pub kind_only : (found : Record) (own k : Key) → kind_of own ≡ kind_of k → is_of_kind found own ≡ true → is_of_kind found k ≡ true
kind_only (records.User user) own k e h = subst (λ n. ((n == 0) || (n == 1)) ≡ true) e h
kind_only (records.Group group) own k e h = subst (λ n. ((n == 2) || (n == 3)) ≡ true) e h
kind_only (records.Groups groups) own k e h = subst (λ n. (n == 4) ≡ true) e h
kind_only (records.Host host) own k e h = subst (λ n. (n == 5) ≡ true) e h
kind_only (records.Rules book) own k e h = subst (λ n. (n == 6) ≡ true) e h

pub first_holds : (a b : Bool) → (a && b) ≡ true → a ≡ true
first_holds true b h = refl
first_holds false b h = h

pub second_holds : (a b : Bool) → (a && b) ≡ true → b ≡ true
second_holds true b h = h
second_holds false b h = absurd (false_is_not_true h)

pub one_holds : (a b : Bool) → (a || b) ≡ true → (a ≡ true) ⊎ (b ≡ true)
one_holds true b h = inl refl
one_holds false b h = inr h

pub same_kind : (a b : Key) → same_key a b ≡ true → kind_of a ≡ kind_of b
same_kind a b h =
    let kinds = first_holds (kind_of a == kind_of b) (same_name (carried a) (carried b)) h in
    grind (arith, nat_tests, kinds)

either_kind : (found : Record) (a b k : Key) → is_of_kind found a ≡ true → is_of_kind found b ≡ true → (same_key a k || same_key b k) ≡ true → is_of_kind found k ≡ true
either_kind found a b k f g h =
    elim (one_holds (same_key a k) (same_key b k) h) [
      | inl x ↦ kind_only found a k (same_kind a k x) f
      | inr y ↦ kind_only found b k (same_kind b k y) g
    ]

-- a record speaks of keys of its kind
record_speaks_kind : (found : Record) (k : Key) → record_speaks found k ≡ true → is_of_kind found k ≡ true
record_speaks_kind (records.User user) k h = either_kind (records.User user) (keys.User user.name) (keys.Uid user.uid) k refl refl h
record_speaks_kind (records.Group group) k h = either_kind (records.Group group) (keys.Group group.name) (keys.Gid group.gid) k refl refl h
record_speaks_kind (records.Groups groups) k h = absurd (false_is_not_true h)
record_speaks_kind (records.Host host) k h = absurd (false_is_not_true h)
record_speaks_kind (records.Rules book) k h = absurd (false_is_not_true h)

-- an answer of its own key's kind is of the kind of each key that it speaks of
speaks_kind : (own k : Key) (answered : Answered) → is_answer_of_kind answered own ≡ true → speaks_of own answered k ≡ true → is_answer_of_kind answered k ≡ true
speaks_kind own k Absent f h = refl
speaks_kind own k (Found found) f h =
    elim (one_holds (same_key own k) (record_speaks found k) h) [
      | inl x ↦ kind_only found own k (same_kind own k x) f
      | inr y ↦ record_speaks_kind found k y
    ]

-- the newest answer, as one that is there or not, is of the kind of the key
abbrev pub is_kind_for : Key → Option Standing → Bool
is_kind_for k None = true
is_kind_for k (Some a) = is_answer_of_kind a.answered k

spoken_kind_by : (b : Bool) (k : Key) (a : Standing) → (b ≡ true → is_answer_of_kind a.answered k ≡ true) → is_kind_for k (if b then Some a else None) ≡ true
spoken_kind_by true k a f = f refl
spoken_kind_by false k a f = refl

spoken_kind : (k : Key) (a : Option Standing) → holds_kind a ≡ true → is_kind_for k (spoken k a) ≡ true
spoken_kind k None h = refl
spoken_kind k (Some a) h = spoken_kind_by (speaks_of a.own a.answered k) k a (speaks_kind a.own k a.answered h)

else_kind : (k : Key) (a b : Option Standing) → is_kind_for k a ≡ true → is_kind_for k b ≡ true → is_kind_for k (or_else a b) ≡ true
else_kind k None b f g = g
else_kind k (Some a) b f g = f

pub newest_kind : (past : List Entry) (k : Key) → holds_kinds past ≡ true → is_kind_for k (newest past k) ≡ true
newest_kind [] k h = refl
newest_kind (e ∷ past) k h =
    else_kind k (spoken k (answer_in past e)) (newest past k)
    (spoken_kind k (answer_in past e) (first_holds (holds_kind (answer_in past e)) (holds_kinds past) h))
    (newest_kind past k (second_holds (holds_kind (answer_in past e)) (holds_kinds past) h))

-- a step keeps every answer of its own key's kind
closed_kind : (c : Bool) (own : Option Key) (answered : Answered) (e : Entry) → answers_kind own answered ≡ true →
    holds_kind (if c then answer_under e answered own else None) ≡ true
closed_kind false own answered e h = refl
closed_kind true None answered e h = refl
closed_kind true (Some own) answered e h = h

answered_kind : (o : Bool) (own : Option Key) (answered : Answered) (reply : Reply) (e : Entry) → (not o || answers_kind own answered) ≡ true →
    holds_kind (if is_closed (if o then reply else replies.NoRequest) then answer_under e answered own else None) ≡ true
answered_kind false own answered reply e h = refl
answered_kind true own answered reply e h = closed_kind (is_closed reply) own answered e h

step_kind : (s : Settings) (past : List Entry) (number moment : ℕ) (event : Event) → is_steppable past event ≡ true →
    holds_kind (answer_by past (record { number = number; moment = moment; event = event; reply = reply_to s past number moment event }) event) ≡ true
step_kind s past number moment (events.Answer r answered) h =
    answered_kind (is_open_request past r) (key_of past r) answered (reply_to_answer past r (key_of past r) answered)
    (record { number = number; moment = moment; event = events.Answer r answered; reply = reply_to s past number moment (events.Answer r answered) }) h
step_kind s past number moment (events.Kept row) h = absurd (false_is_not_true h)
step_kind s past number moment _ h = refl

pub both_hold : (a b : Bool) → a ≡ true → b ≡ true → (a && b) ≡ true
both_hold a b f g = cc

pub kinds_after : (d : Daemon) (now : ℕ) (event : Event) → is_steppable d.past event ≡ true → holds_kinds d.past ≡ true →
    holds_kinds (entry_made d now event ∷ d.past) ≡ true
kinds_after d now event h kinds =
    both_hold (holds_kind (answer_in d.past (entry_made d now event))) (holds_kinds d.past)
    (step_kind d.settings d.past (next_number d) (moment_of d now) event h) kinds

-- the newest answer of a key is found under its number
abbrev pub Stood : List Entry → Option Standing → Type 0
Stood past None = Unit {0}
Stood past (Some a) = record_in (event_at past a.number) ≡ record_in_answer a.answered

abbrev pub Below : ℕ → Option Standing → Type 0
Below n None = Unit {0}
Below n (Some a) = a.number < n

pub at_own : (e : Entry) (past : List Entry) → event_at (e ∷ past) e.number ≡ Some e.event
at_own e past = rw (same_number e.number) refl

stood_here : (e : Entry) (past : List Entry) (answered : Answered) → record_of e.event ≡ record_in_answer answered →
    record_in (event_at (e ∷ past) e.number) ≡ record_in_answer answered
stood_here e past answered h = ap record_in (at_own e past) ∙ h

under_stood : (e : Entry) (past : List Entry) (answered : Answered) (own : Option Key) → record_of e.event ≡ record_in_answer answered →
    Stood (e ∷ past) (answer_under e answered own)
under_stood e past answered None h = tt
under_stood e past answered (Some own) h = stood_here e past answered h

chosen_stood : (b : Bool) (past : List Entry) (x : Option Standing) → Stood past x → Stood past (if b then x else None)
chosen_stood true past x h = h
chosen_stood false past x h = tt

entry_stood : (e : Entry) (past : List Entry) (event : Event) → e.event ≡ event → Stood (e ∷ past) (answer_by past e event)
entry_stood e past (events.Answer r answered) h =
    chosen_stood (is_closed e.reply) (e ∷ past) (answer_under e answered (key_of past r)) (under_stood e past answered (key_of past r) (ap record_of h))
entry_stood e past (events.Kept row) h = kept_stood row (ap record_of h)
  where
    kept_stood : (row : Row) → record_of e.event ≡ record_of (events.Kept row) → Stood (e ∷ past) (answer_by past e (events.Kept row))
    kept_stood (rows.Answer n m own answered marked) f = stood_here e past answered f
    kept_stood _ f = tt
entry_stood e past _ h = tt

spoken_stood : (k : Key) (past : List Entry) (x : Option Standing) → Stood past x → Stood past (spoken k x)
spoken_stood k past None h = tt
spoken_stood k past (Some a) h = chosen_stood (speaks_of a.own a.answered k) past (Some a) h

else_stood : (past : List Entry) (x y : Option Standing) → Stood past x → Stood past y → Stood past (or_else x y)
else_stood past None y f g = g
else_stood past (Some a) y f g = f

later_stood : (e : Entry) (past : List Entry) (x : Option Standing) → Below e.number x → Stood past x → Stood (e ∷ past) x
later_stood e past None f g = tt
later_stood e past (Some a) f g =
    let other : (e.number == a.number) ≡ false = grind (arith, nat_tests, f) in
    let passed : event_at (e ∷ past) a.number ≡ event_at past a.number = rw other refl in
    ap record_in passed ∙ g

-- numbers of answers are those of entries
under_below : (n : ℕ) (e : Entry) (answered : Answered) (own : Option Key) → e.number < n → Below n (answer_under e answered own)
under_below n e answered None h = tt
under_below n e answered (Some own) h = h

chosen_below : (b : Bool) (n : ℕ) (x : Option Standing) → Below n x → Below n (if b then x else None)
chosen_below true n x h = h
chosen_below false n x h = tt

entry_below : (n : ℕ) (e : Entry) (past : List Entry) (event : Event) → e.number < n → Below n (answer_by past e event)
entry_below n e past (events.Answer r answered) h =
    chosen_below (is_closed e.reply) n (answer_under e answered (key_of past r)) (under_below n e answered (key_of past r) h)
entry_below n e past (events.Kept row) h = kept_below row
  where
    kept_below : (row : Row) → Below n (answer_by past e (events.Kept row))
    kept_below (rows.Answer m t own answered marked) = h
    kept_below _ = tt
entry_below n e past _ h = tt

spoken_below : (k : Key) (n : ℕ) (x : Option Standing) → Below n x → Below n (spoken k x)
spoken_below k n None h = tt
spoken_below k n (Some a) h = chosen_below (speaks_of a.own a.answered k) n (Some a) h

else_below : (n : ℕ) (x y : Option Standing) → Below n x → Below n y → Below n (or_else x y)
else_below n None y f g = g
else_below n (Some a) y f g = f

pub newest_below : (n : ℕ) (past : List Entry) (k : Key) → falls_from n past ≡ true → Below n (newest past k)
newest_below n [] k h = tt
newest_below n (e ∷ past) k h =
    let below : e.number < n = grind (arith, nat_tests, h) in
    else_below n (spoken k (answer_in past e)) (newest past k)
    (spoken_below k n (answer_in past e) (entry_below n e past e.event below))
    (newest_below n past k (falls_on n e past h))

pub newest_stood : (n : ℕ) (past : List Entry) (k : Key) → falls_from n past ≡ true → Stood past (newest past k)
newest_stood n [] k h = tt
newest_stood n (e ∷ past) k h =
    let falls = second_holds (nat_lt e.number n) (falls_from e.number past) h in
    else_stood (e ∷ past) (spoken k (answer_in past e)) (newest past k)
    (spoken_stood k (e ∷ past) (answer_in past e) (entry_stood e past e.event refl))
    (later_stood e past (newest past k) (newest_below e.number past k falls) (newest_stood e.number past k falls))
