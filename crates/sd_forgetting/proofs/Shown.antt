-- What a reply names is the same entry in a journal and in what is kept of it, so a step gives the same.
use Rattle.std.proofs.Common.{◌≡◌, ℕ, Bool, true, false, List, [], ◌∷◌, refl, sym, ap, ◌∙◌}
use Rattle.std.specs.Prelude.{Option, Some, None, not, nat_lt, ◌==◌, ◌&&◌, if◌then◌else◌}
use Rattle.sd_rules.specs.declared.keys.Key.{Key}
use Rattle.sd_rules.specs.declared.keys.Key.TheVariants as keys
use Rattle.sd_rules.specs.declared.records.Answered.{Answered}
use Rattle.sd_rules.specs.declared.records.Answered.TheVariants.{Found}
use Rattle.sd_rules.specs.declared.records.Record.{Record}
use Rattle.sd_rules.specs.declared.records.Record.TheVariants as records
use Rattle.sd_rules.specs.declared.events.Event.{Event}
use Rattle.sd_rules.specs.declared.events.Event.TheVariants as events
use Rattle.sd_rules.specs.declared.settings.AccessMode.{AccessMode}
use Rattle.sd_rules.specs.declared.settings.AccessMode.TheVariants.{Permit, Deny, Simple, Ipa}
use Rattle.sd_rules.specs.declared.settings.Settings.{Settings}
use Rattle.sd_rules.specs.declared.replies.By.TheVariants as by
use Rattle.sd_rules.specs.declared.replies.NotBy.TheVariants as not_by
use Rattle.sd_rules.specs.declared.replies.Entry.{Entry}
use Rattle.sd_rules.specs.declared.replies.Given.{Given}
use Rattle.sd_rules.specs.declared.replies.Outcome.{Outcome}
use Rattle.sd_rules.specs.declared.replies.Outcome.TheVariants as outcomes
use Rattle.sd_rules.specs.declared.replies.Reply.{Reply}
use Rattle.sd_rules.specs.declared.replies.Reply.TheVariants as replies
use Rattle.sd_rules.specs.Past.{Standing, key_of, newest, outage_at}
use Rattle.sd_rules.specs.Requests.{is_open, is_open_request, is_open_attempt, open_for, waits_for, outcome_of}
use Rattle.sd_rules.specs.Servers.{picked_server, was_picked}
use Rattle.sd_rules.specs.Answers.{is_found, is_filtered, is_fresh, is_past_midpoint, is_renewable, reply_in_outage, reply_by_request, reply_unless_fresh, reply_if_fresh, reply_by_newest}
use Rattle.sd_rules.specs.Logins.{Login, user_of, only_hashed, hash_entry, last_online_login, usable_hash, usable_login, cached_until, still_cached, cached_login}
use Rattle.sd_rules.specs.Access.{Asker, user_groups, asker_of, granting_rule, reply_by_rule, reply_by_book, reply_by_rules, simple_allows, access_by}
use Rattle.sd_rules.specs.Needed.{answer_of_outcome}
use Rattle.sd_rules.specs.Steps.{event_at, record_in, hash_in, rule_in, answer_named_by_outcome, void_since, reply_by_void, reply_to_answer, reply_by_pick, outage_outcome, outcome_in_outage, reply_to_outage, reply_to_collect, reply_to_leave, reply_by_cached, reply_to_login, reply_to_look, reply_to_try, reply_to, given_by}
use Rattle.sd_forgetting.specs.Parts.{entry_at}
use Rattle.sd_forgetting.specs.Kept.{IsKeptOf}
use Rattle.sd_forgetting.proofs.Tests.{none_is_not, same_some}

-- a law of a choice by laws of both
pub pick_law : (L : Reply → Type 0) (b : Bool) (f g : Reply) → (b ≡ true → L f) → (b ≡ false → L g) → L (if b then f else g)
pick_law L true f g h k = h refl
pick_law L false f g h k = k refl

-- the entry that a reply names, whose record, hash or rule is given
abbrev pub entry_shown : Reply → Option ℕ
entry_shown (replies.Fresh n) = Some n
entry_shown (replies.Refresh n request) = Some n
entry_shown (replies.Old n o) = Some n
entry_shown (replies.Shut outcome) = answer_named_by_outcome outcome
entry_shown (replies.Took outcome) = answer_named_by_outcome outcome
entry_shown (replies.Hash n) = Some n
entry_shown (replies.Cached attempt n) = Some n
entry_shown (replies.Granted (by.Rule n place)) = Some n
entry_shown _ = None

pub named_is_answer : (o : Outcome) (n : ℕ) → answer_named_by_outcome o ≡ Some n → answer_of_outcome o ≡ Some n
named_is_answer (outcomes.Found m) n h = h
named_is_answer (outcomes.Old m o) n h = h
named_is_answer _ n h = absurd (none_is_not n h)

module _ (s : Settings) (w p : List Entry) (number t : ℕ) (k : IsKeptOf w p) where
  abbrev Shows : Reply → Type 0
  Shows reply = (m : ℕ) → entry_shown reply ≡ Some m → entry_at w m ≡ entry_at p m

  shows_one : (n : ℕ) → entry_at w n ≡ entry_at p n → (m : ℕ) → Some n ≡ Some m → entry_at w m ≡ entry_at p m
  shows_one n e m h = (let same = same_some n m h in ap (entry_at w) (sym same) ∙ (e ∙ ap (entry_at p) same))

  in_outage_shows : (o : ℕ) (x : Option Standing) → ((a : Standing) → x ≡ Some a → entry_at w a.number ≡ entry_at p a.number) → Shows (reply_in_outage o x)
  in_outage_shows o None e = λ m h. absurd (none_is_not m h)
  in_outage_shows o (Some a) e =
      pick_law Shows (is_found a.answered) (replies.Old a.number o) (replies.OldGone a.number o) (λ _. shows_one a.number (e a refl)) (λ _ m h. absurd (none_is_not m h))

  by_request_shows : (running : Option ℕ) → Shows (reply_by_request number running)
  by_request_shows None = λ m h. absurd (none_is_not m h)
  by_request_shows (Some r) = λ m h. absurd (none_is_not m h)

  unless_shows : (x : Option Standing) (outage running : Option ℕ) → ((a : Standing) → x ≡ Some a → entry_at w a.number ≡ entry_at p a.number) → Shows (reply_unless_fresh number x outage running)
  unless_shows x None running e = by_request_shows running
  unless_shows x (Some o) running e = in_outage_shows o x e

  if_fresh_shows : (a : Standing) (outage running : Option ℕ) → entry_at w a.number ≡ entry_at p a.number → Shows (reply_if_fresh s number t a outage running)
  if_fresh_shows a outage running e =
      pick_law Shows (not (is_found a.answered)) (replies.Gone a.number)
      (if is_past_midpoint s t a && is_renewable outage running then replies.Refresh a.number number else replies.Fresh a.number)
      (λ _ m h. absurd (none_is_not m h))
      (λ _. pick_law Shows (is_past_midpoint s t a && is_renewable outage running) (replies.Refresh a.number number) (replies.Fresh a.number)
      (λ _. shows_one a.number e) (λ _. shows_one a.number e))

  newest_shows : (x : Option Standing) (outage running : Option ℕ) → ((a : Standing) → x ≡ Some a → entry_at w a.number ≡ entry_at p a.number) →
      Shows (reply_by_newest s w number t x outage running)
  newest_shows None outage running e = unless_shows None outage running e
  newest_shows (Some a) outage running e =
      pick_law Shows (is_fresh s w t a) (reply_if_fresh s number t a outage running) (reply_unless_fresh number (Some a) outage running)
      (λ _. if_fresh_shows a outage running (e a refl)) (λ _. unless_shows (Some a) outage running e)

  by_pick_shows : (o : Option ℕ) → Shows (reply_by_pick o)
  by_pick_shows None = λ m h. absurd (none_is_not m h)
  by_pick_shows (Some server) = λ m h. absurd (none_is_not m h)

  by_void_shows : (o : Option ℕ) → Shows (reply_by_void o)
  by_void_shows None = λ m h. absurd (none_is_not m h)
  by_void_shows (Some v) = λ m h. absurd (none_is_not m h)

  answer_shows : (r : ℕ) (own : Option Key) (answered : Answered) → Shows (reply_to_answer w r own answered)
  answer_shows r None answered = λ m h. absurd (none_is_not m h)
  answer_shows r (Some own) answered = by_void_shows (void_since w r own answered)

  outcome_shows : (x : Option Standing) → ((a : Standing) → x ≡ Some a → entry_at w a.number ≡ entry_at p a.number) → Shows (replies.Shut (outage_outcome number x))
  outcome_shows None e = λ m h. absurd (none_is_not m h)
  outcome_shows (Some a) e = by_found (is_found a.answered)
    where
      by_found : (b : Bool) → Shows (replies.Shut (if b then outcomes.Old a.number number else outcomes.OldGone a.number number))
      by_found true = shows_one a.number (e a refl)
      by_found false = λ m h. absurd (none_is_not m h)

  shut_shows : (own : Option Key) → Shows (replies.Shut (outcome_in_outage w number own))
  shut_shows None = λ m h. absurd (none_is_not m h)
  shut_shows (Some key) = outcome_shows (newest w key) (k.answers.entries key)

  outage_shows : (n : ℕ) (server : Option ℕ) → Shows (reply_to_outage w number n server)
  outage_shows n (Some server) = λ m h. absurd (none_is_not m h)
  outage_shows n None =
      pick_law Shows (is_open_request w n) (replies.Shut (outcome_in_outage w number (key_of w n))) replies.Closed
      (λ _. shut_shows (key_of w n)) (λ _ m h. absurd (none_is_not m h))

  collect_shows : (ticket : ℕ) (r : Option ℕ) → waits_for w ticket ≡ r → Shows (reply_to_collect w r)
  collect_shows ticket None is = λ m h. absurd (none_is_not m h)
  collect_shows ticket (Some r) is =
      pick_law Shows (is_open_request w r) (replies.NotYet r) (replies.Took (outcome_of w r)) (λ _ m h. absurd (none_is_not m h))
      (λ c m h. k.tickets.named ticket r m is c (named_is_answer (outcome_of w r) m h))

  leave_shows : (r : Option ℕ) → Shows (reply_to_leave r)
  leave_shows None = λ m h. absurd (none_is_not m h)
  leave_shows (Some r) = λ m h. absurd (none_is_not m h)

  only_hashed_some : (o : Option Login) (l : Login) → only_hashed o ≡ Some l → o ≡ Some l
  only_hashed_some None l h = absurd (none_is_not l h)
  only_hashed_some (Some m) l h = by_hash m.hashed h
    where
      by_hash : (b : Bool) → (if b then Some m else None) ≡ Some l → Some m ≡ Some l
      by_hash true g = g
      by_hash false g = absurd (none_is_not l g)

  if_some : (b : Bool) (o : Option Login) (l : Login) → (if b then o else None) ≡ Some l → o ≡ Some l
  if_some true o l h = h
  if_some false o l h = absurd (none_is_not l h)

  by_cached_shows : (o : Option ℕ) → ((n : ℕ) → o ≡ Some n → entry_at w n ≡ entry_at p n) → Shows (reply_by_cached number o)
  by_cached_shows None e = λ m h. absurd (none_is_not m h)
  by_cached_shows (Some n) e = shows_one n (e n refl)

  still_named : (o : Option Login) (n : ℕ) → ((l : Login) → o ≡ Some l → entry_at w l.number ≡ entry_at p l.number) → still_cached s t o ≡ Some n → entry_at w n ≡ entry_at p n
  still_named None n e h = absurd (none_is_not n h)
  still_named (Some l) n e h = by_time (nat_lt t (cached_until s l)) h
    where
      by_time : (b : Bool) → (if b then Some l.number else None) ≡ Some n → entry_at w n ≡ entry_at p n
      by_time true g = shows_one l.number (e l refl) n g
      by_time false g = absurd (none_is_not n g)

  cached_named : (user : List ℕ) (b : Bool) (n : ℕ) → (if b then None else still_cached s t (usable_login s w user)) ≡ Some n → entry_at w n ≡ entry_at p n
  cached_named user true n h = absurd (none_is_not n h)
  cached_named user false n h =
      still_named (usable_login s w user) n
      (λ l g. k.logins.online user l (only_hashed_some (last_online_login w user) l (if_some s.cache_credentials (only_hashed (last_online_login w user)) l g))) h

  login_shows : (user : List ℕ) (o : Option ℕ) → Shows (reply_to_login s w number t user o)
  login_shows user (Some o) = λ m h. absurd (none_is_not m h)
  login_shows user None = by_cached_shows (cached_login s w t user) (cached_named user (s.cached_auth_timeout == 0))

  look_shows : (o : Option Login) → ((l : Login) → o ≡ Some l → entry_at w l.number ≡ entry_at p l.number) → Shows (reply_to_look o)
  look_shows None e = λ m h. absurd (none_is_not m h)
  look_shows (Some l) e = shows_one l.number (e l refl)

  try_shows : (named : ℕ) (right : Bool) (user : Option (List ℕ)) → Shows (reply_to_try s w t named right user)
  try_shows named right None = λ m h. absurd (none_is_not m h)
  try_shows named right (Some user) = λ m h. absurd (none_is_not m h)

  rule_shows : (n : ℕ) → entry_at w n ≡ entry_at p n → (place : Option ℕ) → Shows (reply_by_rule n place)
  rule_shows n e None = λ m h. absurd (none_is_not m h)
  rule_shows n e (Some place) = shows_one n e

  book_shows : (who : Asker) (n : ℕ) (answered : Answered) → entry_at w n ≡ entry_at p n → Shows (reply_by_book who n answered)
  book_shows who n (Found (records.Rules book)) e = rule_shows n e (granting_rule book who)
  book_shows who n _ e = λ m h. absurd (none_is_not m h)

  rules_show : (who : Asker) (x : Option Standing) → ((a : Standing) → x ≡ Some a → entry_at w a.number ≡ entry_at p a.number) → Shows (reply_by_rules who x)
  rules_show who None e = λ m h. absurd (none_is_not m h)
  rules_show who (Some a) e = book_shows who a.number a.answered (e a refl)

  access_shows : (mode : AccessMode) (user service : List ℕ) → Shows (access_by mode s w user service)
  access_shows Permit user service = λ m h. absurd (none_is_not m h)
  access_shows Deny user service = λ m h. absurd (none_is_not m h)
  access_shows Simple user service =
      pick_law Shows (simple_allows s.simple user (user_groups w user)) (replies.Granted by.Simple) (replies.Denied not_by.Simple)
      (λ _ m h. absurd (none_is_not m h)) (λ _ m h. absurd (none_is_not m h))
  access_shows Ipa user service = rules_show (asker_of s w user service) (newest w keys.Rules) (k.answers.entries keys.Rules)

  closed_shows : (b : Bool) → Shows (if b then replies.Closed else replies.NoRequest)
  closed_shows b = pick_law Shows b replies.Closed replies.NoRequest (λ _ m h. absurd (none_is_not m h)) (λ _ m h. absurd (none_is_not m h))

  if_open_shows : (b : Bool) (f : Reply) → Shows f → Shows (if b then f else replies.NoRequest)
  if_open_shows b f e = pick_law Shows b f replies.NoRequest (λ _. e) (λ _ m h. absurd (none_is_not m h))

  pub reply_shows : (event : Event) → Shows (reply_to s w number t event)
  reply_shows (events.Ask key) =
      pick_law Shows (is_filtered s key) replies.Filtered (reply_by_newest s w number t (newest w key) (outage_at s.offline_timeout w t) (open_for w key))
      (λ _ m h. absurd (none_is_not m h))
      (λ _. newest_shows (newest w key) (outage_at s.offline_timeout w t) (open_for w key) (k.answers.entries key))
  reply_shows (events.Pick n) = if_open_shows (is_open w n) (reply_by_pick (picked_server s w n t)) (by_pick_shows (picked_server s w n t))
  reply_shows (events.Fall n i why) =
      if_open_shows (is_open w n) (if was_picked w n i then replies.Noted else replies.NotPicked)
      (pick_law Shows (was_picked w n i) replies.Noted replies.NotPicked (λ _ m h. absurd (none_is_not m h)) (λ _ m h. absurd (none_is_not m h)))
  reply_shows (events.Answer r answered) = if_open_shows (is_open_request w r) (reply_to_answer w r (key_of w r) answered) (answer_shows r (key_of w r) answered)
  reply_shows (events.Refuse r refusal) = closed_shows (is_open_request w r)
  reply_shows (events.Outage n) = if_open_shows (is_open w n) (reply_to_outage w number n (picked_server s w n t)) (outage_shows n (picked_server s w n t))
  reply_shows (events.Abandon n) = closed_shows (is_open w n)
  reply_shows (events.Collect ticket) = collect_shows ticket (waits_for w ticket) refl
  reply_shows (events.Leave ticket) = leave_shows (waits_for w ticket)
  reply_shows (events.LoginOpen user) = login_shows user (outage_at s.offline_timeout w t)
  reply_shows (events.LoginOnline a result) = closed_shows (is_open_attempt w a)
  reply_shows (events.LoginLook user) = look_shows (usable_hash s w user) (λ l g. k.logins.hashed user l (if_some s.cache_credentials (hash_entry w user) l g))
  reply_shows (events.LoginTry a named right) = if_open_shows (is_open_attempt w a) (reply_to_try s w t named right (user_of w a)) (try_shows named right (user_of w a))
  reply_shows (events.Access user service) = access_shows s.access user service
  reply_shows _ = λ m h. absurd (none_is_not m h)

-- the event of a number, by its entry
abbrev event_in : Option Entry → Option Event
event_in None = None
event_in (Some e) = Some e.event

event_if : (b : Bool) (x : Entry) (y : Option Event) (z : Option Entry) → y ≡ event_in z → (if b then Some x.event else y) ≡ event_in (if b then Some x else z)
event_if true x y z h = refl
event_if false x y z h = h

event_by_entry : (xs : List Entry) (n : ℕ) → event_at xs n ≡ event_in (entry_at xs n)
event_by_entry [] n = refl
event_by_entry (x ∷ xs) n = event_if (x.number == n) x (event_at xs n) (entry_at xs n) (event_by_entry xs n)

pub event_same : (w p : List Entry) (n : ℕ) → entry_at w n ≡ entry_at p n → event_at w n ≡ event_at p n
event_same w p n h = event_by_entry w n ∙ (ap event_in h ∙ sym (event_by_entry p n))

abbrev with_record : ℕ → Reply → Option Record → Given
with_record number reply found = record { number = number; reply = reply; found = found; hash = None; rule = None }

-- what is given of a reply that names alike
pub given_same : (w p : List Entry) (number : ℕ) (reply : Reply) → ((m : ℕ) → entry_shown reply ≡ Some m → entry_at w m ≡ entry_at p m) → given_by w number reply ≡ given_by p number reply
given_same w p number (replies.Fresh n) h =
    ap (λ (e : Option Event). with_record number (replies.Fresh n) (record_in e)) (event_same w p n (h n refl))
given_same w p number (replies.Refresh n r) h =
    ap (λ (e : Option Event). with_record number (replies.Refresh n r) (record_in e)) (event_same w p n (h n refl))
given_same w p number (replies.Old n o) h =
    ap (λ (e : Option Event). with_record number (replies.Old n o) (record_in e)) (event_same w p n (h n refl))
given_same w p number (replies.Shut (outcomes.Found n)) h =
    ap (λ (e : Option Event). with_record number (replies.Shut (outcomes.Found n)) (record_in e)) (event_same w p n (h n refl))
given_same w p number (replies.Shut (outcomes.Old n o)) h =
    ap (λ (e : Option Event). with_record number (replies.Shut (outcomes.Old n o)) (record_in e)) (event_same w p n (h n refl))
given_same w p number (replies.Took (outcomes.Found n)) h =
    ap (λ (e : Option Event). with_record number (replies.Took (outcomes.Found n)) (record_in e)) (event_same w p n (h n refl))
given_same w p number (replies.Took (outcomes.Old n o)) h =
    ap (λ (e : Option Event). with_record number (replies.Took (outcomes.Old n o)) (record_in e)) (event_same w p n (h n refl))
given_same w p number (replies.Hash n) h =
    ap (λ (e : Option Event). record { number = number; reply = replies.Hash n; found = None; hash = hash_in e; rule = None }) (event_same w p n (h n refl))
given_same w p number (replies.Cached a n) h =
    ap (λ (e : Option Event). record { number = number; reply = replies.Cached a n; found = None; hash = hash_in e; rule = None }) (event_same w p n (h n refl))
given_same w p number (replies.Granted (by.Rule n place)) h =
    ap (λ (e : Option Event). record { number = number; reply = replies.Granted (by.Rule n place); found = None; hash = None; rule = rule_in (record_in e) place }) (event_same w p n (h n refl))
given_same w p number _ h = refl
