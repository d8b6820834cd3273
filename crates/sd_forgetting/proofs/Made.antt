-- What holds of the entry that a step makes, over the entries before it.
use Rattle.std.proofs.Common.{◌≡◌, ℕ, ◌<◌, ◌≤◌, Bool, true, false, List, [], ◌∷◌, arith, refl, sym, ap, ◌∙◌, inl, inr}
use Rattle.std.specs.Prelude.{Option, Some, None, not, nat_lt, ◌⊎◌, ◌&&◌, if◌then◌else◌}
use Rattle.sd_rules.specs.declared.keys.Key.{Key}
use Rattle.sd_rules.specs.declared.keys.Key.TheVariants as keys
use Rattle.sd_rules.specs.declared.records.Answered.{Answered}
use Rattle.sd_rules.specs.declared.records.Answered.TheVariants.{Found}
use Rattle.sd_rules.specs.declared.records.Record.TheVariants as records
use Rattle.sd_rules.specs.declared.events.Event.{Event}
use Rattle.sd_rules.specs.declared.events.Event.TheVariants as events
use Rattle.sd_rules.specs.declared.settings.AccessMode.{AccessMode}
use Rattle.sd_rules.specs.declared.settings.AccessMode.TheVariants.{Permit, Deny, Simple, Ipa}
use Rattle.sd_rules.specs.declared.settings.Settings.{Settings}
use Rattle.sd_rules.specs.declared.replies.By.TheVariants as by
use Rattle.sd_rules.specs.declared.replies.NotBy.TheVariants as not_by
use Rattle.sd_rules.specs.declared.replies.Entry.{Entry}
use Rattle.sd_rules.specs.declared.replies.Outcome.TheVariants as outcomes
use Rattle.sd_rules.specs.declared.replies.Reply.{Reply}
use Rattle.sd_rules.specs.declared.replies.Reply.TheVariants as replies
use Rattle.sd_rules.specs.Past.{Standing, is_closed, key_of, newest, outage_at}
use Rattle.sd_rules.specs.Requests.{is_open, is_open_request, is_open_attempt, asks_for, open_among, open_for, joined, waits_for, outcome_of}
use Rattle.sd_rules.specs.Servers.{picked_server, was_picked}
use Rattle.sd_rules.specs.Answers.{is_found, is_filtered, is_fresh, is_past_midpoint, is_renewable, reply_in_outage, reply_by_request, reply_unless_fresh, reply_if_fresh, reply_by_newest, reply_to_ask}
use Rattle.sd_rules.specs.Logins.{Login, user_of, usable_hash, cached_login}
use Rattle.sd_rules.specs.Access.{Asker, user_groups, asker_of, granting_rule, reply_by_rule, reply_by_book, reply_by_rules, simple_allows, access_by}
use Rattle.sd_rules.specs.Needed.{answer_of_outcome}
use Rattle.sd_rules.specs.Steps.{Daemon, number_after, next_number, moment_of, entry_made, is_steppable, void_since, reply_by_void, reply_to_answer, reply_by_pick, outage_outcome, outcome_in_outage, reply_to_outage, reply_to_collect, reply_to_leave, reply_by_cached, reply_to_login, reply_to_look, reply_to_try, reply_to}
use Rattle.sd_forgetting.specs.Parts.{numbers_fall}
use Rattle.sd_forgetting.specs.Orderly.{is_no_request, named_unless, named_by, is_ask}
use Rattle.sd_forgetting.proofs.Tests.{not_true, none_is_not, same_some, or_left, or_right, both, first_holds, second_holds, is_less, less}
use Rattle.sd_forgetting.proofs.Shown.{pick_law}

abbrev pub is_held : Event → Bool
is_held (events.Kept row) = true
is_held _ = false

-- the answer that a reply names which closed a request by an outage
abbrev pub shut_answer : Reply → Option ℕ
shut_answer (replies.Shut outcome) = answer_of_outcome outcome
shut_answer _ = None

-- What the rules say of a new entry: what it is about is open; only a question joins, and joins what is open; an outage closes with
-- the newest answer; a recorded answer has a key; its number is above all before it.
pub record IsMade (past : List Entry) (e : Entry) : Type 0 where
  pub about : (r : ℕ) → named_by e.event e.reply ≡ Some r → is_open past r ≡ true
  pub joins : (r : ℕ) → joined e.reply ≡ Some r → (is_open_request past r ≡ true) × (is_ask e.event ≡ true)
  pub shuts : (n : ℕ) → shut_answer e.reply ≡ Some n → (k : Key) × ((a : Standing) × ((newest past k ≡ Some a) × (a.number ≡ n)))
  pub keyed : (r : ℕ) (answered : Answered) → e.event ≡ events.Answer r answered → is_closed e.reply ≡ true → (own : Key) × (key_of past r ≡ Some own)
  pub stepped : is_held e.event ≡ false
  pub above : numbers_fall e.number past ≡ true

-- what an entry is about
unless_some : (c : Bool) (q r : ℕ) → named_unless c q ≡ Some r → q ≡ r
unless_some true q r h = absurd (none_is_not r h)
unless_some false q r h = same_some q r h

about_if : (o : Bool) (f : Reply) (q r : ℕ) → named_unless (is_no_request (if o then f else replies.NoRequest)) q ≡ Some r → (o ≡ true) × (q ≡ r)
about_if true f q r h = (refl, unless_some (is_no_request f) q r h)
about_if false f q r h = absurd (none_is_not r h)

module _ (s : Settings) (w : List Entry) (number t : ℕ) where
  about_open : (q r : ℕ) (f : Reply) → named_unless (is_no_request (if is_open w q then f else replies.NoRequest)) q ≡ Some r → is_open w r ≡ true
  about_open q r f h = (let i = about_if (is_open w q) f q r h in ap (is_open w) (sym i.1) ∙ i.0)

  about_request : (q r : ℕ) (f : Reply) → named_unless (is_no_request (if is_open_request w q then f else replies.NoRequest)) q ≡ Some r → is_open w r ≡ true
  about_request q r f h =
      (let i = about_if (is_open_request w q) f q r h in ap (is_open w) (sym i.1) ∙ or_left (is_open_request w q) (is_open_attempt w q) i.0)

  about_attempt : (q r : ℕ) (f : Reply) → named_unless (is_no_request (if is_open_attempt w q then f else replies.NoRequest)) q ≡ Some r → is_open w r ≡ true
  about_attempt q r f h =
      (let i = about_if (is_open_attempt w q) f q r h in ap (is_open w) (sym i.1) ∙ or_right (is_open_request w q) (is_open_attempt w q) i.0)

  is_about : (event : Event) (r : ℕ) → named_by event (reply_to s w number t event) ≡ Some r → is_open w r ≡ true
  is_about (events.Pick q) r h = about_open q r (reply_by_pick (picked_server s w q t)) h
  is_about (events.Fall q i why) r h = about_open q r (if was_picked w q i then replies.Noted else replies.NotPicked) h
  is_about (events.Answer q answered) r h = about_request q r (reply_to_answer w q (key_of w q) answered) h
  is_about (events.Refuse q refusal) r h = about_request q r replies.Closed h
  is_about (events.Outage q) r h = about_open q r (reply_to_outage w number q (picked_server s w q t)) h
  is_about (events.Abandon q) r h = about_open q r replies.Closed h
  is_about (events.LoginOnline q result) r h = about_attempt q r replies.Closed h
  is_about (events.LoginTry q named right) r h = about_attempt q r (reply_to_try s w t named right (user_of w q)) h
  is_about _ r h = absurd (none_is_not r h)

  -- which reply joins, and which closes by an outage
  abbrev Plain : Reply → Type 0
  Plain reply = (joined reply ≡ None) × (shut_answer reply ≡ None)

  if_plain : (b : Bool) (f : Reply) → Plain f → Plain (if b then f else replies.NoRequest)
  if_plain b f h = pick_law Plain b f replies.NoRequest (λ _. h) (λ _. (refl, refl))

  pick_plain : (o : Option ℕ) → Plain (reply_by_pick o)
  pick_plain None = (refl, refl)
  pick_plain (Some server) = (refl, refl)

  void_plain : (o : Option ℕ) → Plain (reply_by_void o)
  void_plain None = (refl, refl)
  void_plain (Some v) = (refl, refl)

  answer_plain : (r : ℕ) (own : Option Key) (answered : Answered) → Plain (reply_to_answer w r own answered)
  answer_plain r None answered = (refl, refl)
  answer_plain r (Some own) answered = void_plain (void_since w r own answered)

  collect_plain : (o : Option ℕ) → Plain (reply_to_collect w o)
  collect_plain None = (refl, refl)
  collect_plain (Some r) = pick_law Plain (is_open_request w r) (replies.NotYet r) (replies.Took (outcome_of w r)) (λ _. (refl, refl)) (λ _. (refl, refl))

  leave_plain : (o : Option ℕ) → Plain (reply_to_leave o)
  leave_plain None = (refl, refl)
  leave_plain (Some r) = (refl, refl)

  cached_plain : (o : Option ℕ) → Plain (reply_by_cached number o)
  cached_plain None = (refl, refl)
  cached_plain (Some n) = (refl, refl)

  login_plain : (user : List ℕ) (o : Option ℕ) → Plain (reply_to_login s w number t user o)
  login_plain user (Some o) = (refl, refl)
  login_plain user None = cached_plain (cached_login s w t user)

  look_plain : (o : Option Login) → Plain (reply_to_look o)
  look_plain None = (refl, refl)
  look_plain (Some l) = (refl, refl)

  try_plain : (named : ℕ) (right : Bool) (o : Option (List ℕ)) → Plain (reply_to_try s w t named right o)
  try_plain named right None = (refl, refl)
  try_plain named right (Some user) = (refl, refl)

  rule_plain : (n : ℕ) (o : Option ℕ) → Plain (reply_by_rule n o)
  rule_plain n None = (refl, refl)
  rule_plain n (Some place) = (refl, refl)

  book_plain : (who : Asker) (n : ℕ) (answered : Answered) → Plain (reply_by_book who n answered)
  book_plain who n (Found (records.Rules book)) = rule_plain n (granting_rule book who)
  book_plain who n _ = (refl, refl)

  rules_plain : (who : Asker) (x : Option Standing) → Plain (reply_by_rules who x)
  rules_plain who None = (refl, refl)
  rules_plain who (Some a) = book_plain who a.number a.answered

  access_plain : (mode : AccessMode) (user service : List ℕ) → Plain (access_by mode s w user service)
  access_plain Permit user service = (refl, refl)
  access_plain Deny user service = (refl, refl)
  access_plain Simple user service =
      pick_law Plain (simple_allows s.simple user (user_groups w user)) (replies.Granted by.Simple) (replies.Denied not_by.Simple) (λ _. (refl, refl)) (λ _. (refl, refl))
  access_plain Ipa user service = rules_plain (asker_of s w user service) (newest w keys.Rules)

  -- a question joins only what is open for its key
  abbrev Joins : Option ℕ → Reply → Type 0
  Joins running reply = ((r : ℕ) → joined reply ≡ Some r → running ≡ Some r) × (shut_answer reply ≡ None)

  joins_none : (running : Option ℕ) (reply : Reply) → Plain reply → Joins running reply
  joins_none running reply h = ((λ r g. absurd (none_is_not r (sym h.0 ∙ g))), h.1)

  request_joins : (running : Option ℕ) → Joins running (reply_by_request number running)
  request_joins None = joins_none None (replies.Lead number) (refl, refl)
  request_joins (Some q) = ((λ r g. g), refl)

  outage_joins : (o : ℕ) (x : Option Standing) (running : Option ℕ) → Joins running (reply_in_outage o x)
  outage_joins o None running = joins_none running (replies.Dark o) (refl, refl)
  outage_joins o (Some a) running =
      pick_law (Joins running) (is_found a.answered) (replies.Old a.number o) (replies.OldGone a.number o)
      (λ _. joins_none running (replies.Old a.number o) (refl, refl)) (λ _. joins_none running (replies.OldGone a.number o) (refl, refl))

  stale_joins : (x : Option Standing) (outage running : Option ℕ) → Joins running (reply_unless_fresh number x outage running)
  stale_joins x None running = request_joins running
  stale_joins x (Some o) running = outage_joins o x running

  fresh_joins : (a : Standing) (outage running : Option ℕ) → Joins running (reply_if_fresh s number t a outage running)
  fresh_joins a outage running =
      pick_law (Joins running) (not (is_found a.answered)) (replies.Gone a.number)
      (if is_past_midpoint s t a && is_renewable outage running then replies.Refresh a.number number else replies.Fresh a.number)
      (λ _. joins_none running (replies.Gone a.number) (refl, refl))
      (λ _. pick_law (Joins running) (is_past_midpoint s t a && is_renewable outage running) (replies.Refresh a.number number) (replies.Fresh a.number)
      (λ _. joins_none running (replies.Refresh a.number number) (refl, refl)) (λ _. joins_none running (replies.Fresh a.number) (refl, refl)))

  newest_joins : (x : Option Standing) (outage running : Option ℕ) → Joins running (reply_by_newest s w number t x outage running)
  newest_joins None outage running = stale_joins None outage running
  newest_joins (Some a) outage running =
      pick_law (Joins running) (is_fresh s w t a) (reply_if_fresh s number t a outage running) (reply_unless_fresh number (Some a) outage running)
      (λ _. fresh_joins a outage running) (λ _. stale_joins (Some a) outage running)

  ask_joins : (k : Key) → Joins (open_for w k) (reply_to_ask s w number t k)
  ask_joins k =
      pick_law (Joins (open_for w k)) (is_filtered s k) replies.Filtered (reply_by_newest s w number t (newest w k) (outage_at s.offline_timeout w t) (open_for w k))
      (λ _. joins_none (open_for w k) replies.Filtered (refl, refl)) (λ _. newest_joins (newest w k) (outage_at s.offline_timeout w t) (open_for w k))

  running_if : (b c : Bool) (n r : ℕ) (y : Option ℕ) → (if b && c then Some n else y) ≡ Some r → ((c ≡ true) × (n ≡ r)) ⊎ (y ≡ Some r)
  running_if true true n r y h = inl (refl, same_some n r h)
  running_if true false n r y h = inr h
  running_if false c n r y h = inr h

  running_open : (all xs : List Entry) (k : Key) (r : ℕ) → open_among all xs k ≡ Some r → is_open_request all r ≡ true
  running_open all [] k r h = absurd (none_is_not r h)
  running_open all (x ∷ xs) k r h = elim (running_if (asks_for x.event k) (is_open_request all x.number) x.number r (open_among all xs k) h) [
    | inl i ↦ ap (is_open_request all) (sym i.1) ∙ i.0
    | inr i ↦ running_open all xs k r i
  ]

  -- an outage closes with the newest answer
  abbrev Newest : ℕ → Type 0
  Newest n = (k : Key) × ((a : Standing) × ((newest w k ≡ Some a) × (a.number ≡ n)))

  abbrev Shuts : Reply → Type 0
  Shuts reply = (joined reply ≡ None) × ((n : ℕ) → shut_answer reply ≡ Some n → Newest n)

  shuts_none : (reply : Reply) → Plain reply → Shuts reply
  shuts_none reply h = (h.0, λ n g. absurd (none_is_not n (sym h.1 ∙ g)))

  found_named : (b : Bool) (m n : ℕ) → answer_of_outcome (if b then outcomes.Old m number else outcomes.OldGone m number) ≡ Some n → m ≡ n
  found_named true m n h = same_some m n h
  found_named false m n h = same_some m n h

  outcome_newest : (k : Key) (x : Option Standing) → newest w k ≡ x → (n : ℕ) → answer_of_outcome (outage_outcome number x) ≡ Some n → Newest n
  outcome_newest k None is n h = absurd (none_is_not n h)
  outcome_newest k (Some a) is n h = (k, (a, (is, found_named (is_found a.answered) a.number n h)))

  in_outage_newest : (own : Option Key) (n : ℕ) → answer_of_outcome (outcome_in_outage w number own) ≡ Some n → Newest n
  in_outage_newest None n h = absurd (none_is_not n h)
  in_outage_newest (Some k) n h = outcome_newest k (newest w k) refl n h

  to_outage_shuts : (q : ℕ) (server : Option ℕ) → Shuts (reply_to_outage w number q server)
  to_outage_shuts q (Some server) = shuts_none (replies.Servable server) (refl, refl)
  to_outage_shuts q None =
      pick_law Shuts (is_open_request w q) (replies.Shut (outcome_in_outage w number (key_of w q))) replies.Closed
      (λ _. (refl, in_outage_newest (key_of w q))) (λ _. shuts_none replies.Closed (refl, refl))

  outage_shuts : (q : ℕ) → Shuts (reply_to s w number t (events.Outage q))
  outage_shuts q =
      pick_law Shuts (is_open w q) (reply_to_outage w number q (picked_server s w q t)) replies.NoRequest
      (λ _. to_outage_shuts q (picked_server s w q t)) (λ _. shuts_none replies.NoRequest (refl, refl))

  -- both laws, of each event
  abbrev Both : Event → Reply → Type 0
  Both event reply = ((r : ℕ) → joined reply ≡ Some r → (is_open_request w r ≡ true) × (is_ask event ≡ true)) × ((n : ℕ) → shut_answer reply ≡ Some n → Newest n)

  plain_both : (event : Event) (reply : Reply) → Plain reply → Both event reply
  plain_both event reply h = ((λ r g. absurd (none_is_not r (sym h.0 ∙ g))), λ n g. absurd (none_is_not n (sym h.1 ∙ g)))

  both_laws : (event : Event) → Both event (reply_to s w number t event)
  both_laws (events.Ask k) =
      (let j = ask_joins k in ((λ r g. (running_open w w k r (j.0 r g), refl)), λ n g. absurd (none_is_not n (sym j.1 ∙ g))))
  both_laws (events.Outage q) = (let j = outage_shuts q in ((λ r g. absurd (none_is_not r (sym j.0 ∙ g))), j.1))
  both_laws (events.Pick q) =
      plain_both (events.Pick q) (reply_to s w number t (events.Pick q)) (if_plain (is_open w q) (reply_by_pick (picked_server s w q t)) (pick_plain (picked_server s w q t)))
  both_laws (events.Fall q i why) =
      plain_both (events.Fall q i why) (reply_to s w number t (events.Fall q i why))
      (if_plain (is_open w q) (if was_picked w q i then replies.Noted else replies.NotPicked)
      (pick_law Plain (was_picked w q i) replies.Noted replies.NotPicked (λ _. (refl, refl)) (λ _. (refl, refl))))
  both_laws (events.Answer q answered) =
      plain_both (events.Answer q answered) (reply_to s w number t (events.Answer q answered))
      (if_plain (is_open_request w q) (reply_to_answer w q (key_of w q) answered) (answer_plain q (key_of w q) answered))
  both_laws (events.Refuse q refusal) = plain_both (events.Refuse q refusal) (reply_to s w number t (events.Refuse q refusal)) (if_plain (is_open_request w q) replies.Closed (refl, refl))
  both_laws (events.Abandon q) = plain_both (events.Abandon q) (reply_to s w number t (events.Abandon q)) (if_plain (is_open w q) replies.Closed (refl, refl))
  both_laws (events.Collect ticket) = plain_both (events.Collect ticket) (reply_to s w number t (events.Collect ticket)) (collect_plain (waits_for w ticket))
  both_laws (events.Leave ticket) = plain_both (events.Leave ticket) (reply_to s w number t (events.Leave ticket)) (leave_plain (waits_for w ticket))
  both_laws (events.LoginOpen user) =
      plain_both (events.LoginOpen user) (reply_to s w number t (events.LoginOpen user)) (login_plain user (outage_at s.offline_timeout w t))
  both_laws (events.LoginOnline q result) =
      plain_both (events.LoginOnline q result) (reply_to s w number t (events.LoginOnline q result)) (if_plain (is_open_attempt w q) replies.Closed (refl, refl))
  both_laws (events.LoginLook user) = plain_both (events.LoginLook user) (reply_to s w number t (events.LoginLook user)) (look_plain (usable_hash s w user))
  both_laws (events.LoginTry q named right) =
      plain_both (events.LoginTry q named right) (reply_to s w number t (events.LoginTry q named right))
      (if_plain (is_open_attempt w q) (reply_to_try s w t named right (user_of w q)) (try_plain named right (user_of w q)))
  both_laws (events.Access user service) = plain_both (events.Access user service) (reply_to s w number t (events.Access user service)) (access_plain s.access user service)
  both_laws (events.Void what) = plain_both (events.Void what) replies.Done (refl, refl)
  both_laws events.Offline = plain_both events.Offline replies.Done (refl, refl)
  both_laws events.Online = plain_both events.Online replies.Done (refl, refl)
  both_laws events.Stop = plain_both events.Stop replies.Done (refl, refl)
  both_laws (events.LoginGuess user named right) = plain_both (events.LoginGuess user named right) (reply_to s w number t (events.LoginGuess user named right)) (refl, refl)
  both_laws (events.Kept row) = plain_both (events.Kept row) replies.Held (refl, refl)

  -- an answer that is recorded has a key
  closed_key : (o : Bool) (r : ℕ) (own : Option Key) (answered : Answered) → is_closed (if o then reply_to_answer w r own answered else replies.NoRequest) ≡ true → (k : Key) × (own ≡ Some k)
  closed_key false r own answered h = absurd (not_true h)
  closed_key true r None answered h = absurd (not_true h)
  closed_key true r (Some k) answered h = (k, refl)

  is_keyed : (event : Event) (r : ℕ) (answered : Answered) → event ≡ events.Answer r answered → is_closed (reply_to s w number t event) ≡ true → (k : Key) × (key_of w r ≡ Some k)
  is_keyed event r answered is h =
      closed_key (is_open_request w r) r (key_of w r) answered (sym (ap (λ (e : Event). is_closed (reply_to s w number t e)) is) ∙ h)

not_held : (past : List Entry) (event : Event) → is_steppable past event ≡ true → is_held event ≡ false
not_held past (events.Kept row) h = absurd (not_true h)
not_held past _ h = refl

pub falls_above : (b c : ℕ) (xs : List Entry) → numbers_fall b xs ≡ true → b ≤ c → numbers_fall c xs ≡ true
falls_above b c [] f h = refl
falls_above b c (x ∷ xs) f h =
    let low = is_less x.number b (first_holds (nat_lt x.number b) (numbers_fall x.number xs) f) in
    let lower : x.number < c = omega arith in
    both (nat_lt x.number c) (numbers_fall x.number xs) (less x.number c lower) (second_holds (nat_lt x.number b) (numbers_fall x.number xs) f)

pub next_above : (next : ℕ) (xs : List Entry) → next ≤ number_after next xs
next_above next [] = omega arith
next_above next (x ∷ xs) = omega arith

pub made_over : (d : Daemon) (now : ℕ) (event : Event) → is_steppable d.past event ≡ true → numbers_fall d.next d.past ≡ true → IsMade d.past (entry_made d now event)
made_over d now event h f = record {
  about = is_about d.settings d.past (next_number d) (moment_of d now) event;
  joins = (both_laws d.settings d.past (next_number d) (moment_of d now) event).0;
  shuts = (both_laws d.settings d.past (next_number d) (moment_of d now) event).1;
  keyed = λ r answered. is_keyed d.settings d.past (next_number d) (moment_of d now) event r answered;
  stepped = not_held d.past event h;
  above = falls_above d.next (next_number d) d.past f (next_above d.next d.past);
}
