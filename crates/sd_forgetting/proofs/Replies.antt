-- A reply is the same over a journal and over what is kept of it.
use Rattle.std.proofs.Common.{◌≡◌, ℕ, ◌+◌, ◌-◌, Bool, true, false, List, [], ◌∷◌, refl, sym, ap, ◌∙◌}
use Rattle.std.specs.Prelude.{Option, Some, None, not, nat_lt, find, is_some, ◌≢◌, ◌==◌, ◌&&◌, ◌||◌, ◌%◌, if◌then◌else◌}
use Rattle.std.specs.List.{range_with_len}
use Rattle.sd_rules.specs.declared.keys.Key.{Key}
use Rattle.sd_rules.specs.declared.keys.Key.TheVariants as keys
use Rattle.sd_rules.specs.declared.records.Answered.{Answered}
use Rattle.sd_rules.specs.declared.events.Event.{Event}
use Rattle.sd_rules.specs.declared.events.Event.TheVariants as events
use Rattle.sd_rules.specs.declared.settings.AccessMode.{AccessMode}
use Rattle.sd_rules.specs.declared.settings.AccessMode.TheVariants.{Permit, Deny, Simple, Ipa}
use Rattle.sd_rules.specs.declared.settings.Settings.{Settings}
use Rattle.sd_rules.specs.declared.replies.Entry.{Entry}
use Rattle.sd_rules.specs.declared.replies.Outcome.{Outcome}
use Rattle.sd_rules.specs.declared.replies.Reply.{Reply}
use Rattle.sd_rules.specs.declared.replies.Reply.TheVariants as replies
use Rattle.sd_rules.specs.declared.replies.Verdict.{Verdict}
use Rattle.sd_rules.specs.declared.replies.Verdict.TheVariants as verdicts
use Rattle.sd_rules.specs.Past.{Standing, or_else, key_of, newest, is_void_after, records_outage, ends_outage, outage_at}
use Rattle.sd_rules.specs.Requests.{reserves, is_open, is_open_request, is_open_attempt, asks_for, open_among, open_for, waits_for, outcome_of}
use Rattle.sd_rules.specs.Servers.{has_fallen_under, has_fallen_lately, is_down, picked_server, was_picked}
use Rattle.sd_rules.specs.Answers.{is_filtered, timeout_of, reply_unless_fresh, reply_if_fresh, reply_by_newest, reply_to_ask}
use Rattle.sd_rules.specs.Logins.{Login, user_of, only_hashed, wrong_count, last_wrong, is_at_limit, block_until, block_of, usable_hash, usable_login, still_cached, cached_login, is_expired, expiry_of, verdict_unless_blocked, verdict_by_hash, verdict_of, verdict_by_login}
use Rattle.sd_rules.specs.Access.{Asker, groups_of_user, groups_of_host, user_groups, asker_of, reply_by_rules, reply_by_lists, simple_allows, access_by}
use Rattle.sd_rules.specs.Steps.{reply_by_void, reply_to_answer, reply_by_pick, outage_outcome, outcome_in_outage, reply_to_closing_outage, reply_to_outage, reply_to_collect, reply_to_leave, reply_by_cached, reply_to_login, reply_to_look, reply_to_try, reply_to}
use Rattle.sd_forgetting.specs.Parts.{part}
use Rattle.sd_forgetting.specs.Orderly.{last_word}
use Rattle.sd_forgetting.specs.Kept.{reserving, SameOpen, IsKeptOf}
use Rattle.sd_forgetting.proofs.Tests.{not_true, or_left, or_right, second_holds, cases, is_false, if_true, if_false, is_equal}
use Rattle.sd_forgetting.proofs.Places.{key_kept, user_kept}
use Rattle.sd_forgetting.proofs.Forgets.{open_both}

-- the outage that stands, by the last word of one
abbrev pub outage_by : ℕ → ℕ → Option Entry → Option ℕ
outage_by timeout t None = None
outage_by timeout t (Some e) = if records_outage e.event e.reply then (if nat_lt t (e.moment + timeout) then Some e.number else None) else None

word_if : (r d : Bool) (timeout t : ℕ) (x : Entry) (y : Option ℕ) (o : Option Entry) → records_outage x.event x.reply ≡ r → y ≡ outage_by timeout t o →
    (if r then (if nat_lt t (x.moment + timeout) then Some x.number else None) else if d then None else y) ≡ outage_by timeout t (or_else (if r || d then Some x else None) o)
word_if true d timeout t x y o is h = sym (if_true (records_outage x.event x.reply) (if nat_lt t (x.moment + timeout) then Some x.number else None) None is)
word_if false true timeout t x y o is h = sym (if_false (records_outage x.event x.reply) (if nat_lt t (x.moment + timeout) then Some x.number else None) None is)
word_if false false timeout t x y o is h = h

outage_by_last : (timeout t : ℕ) (xs : List Entry) → outage_at timeout xs t ≡ outage_by timeout t (last_word xs)
outage_by_last timeout t [] = refl
outage_by_last timeout t (x ∷ xs) =
    word_if (records_outage x.event x.reply) (ends_outage x.event x.reply) timeout t x (outage_at timeout xs t) (last_word xs) refl (outage_by_last timeout t xs)

pub outage_shown : (w p : List Entry) → IsKeptOf w p → (timeout t : ℕ) → outage_at timeout w t ≡ outage_at timeout p t
outage_shown w p k timeout t = outage_by_last timeout t w ∙ (ap (outage_by timeout t) k.ends.word ∙ sym (outage_by_last timeout t p))

-- the request open for a key, sought among what reserves a place
among_reserving : (all : List Entry) (r : ℕ → Bool) → ((n : ℕ) → is_open_request all n ≡ true → r n ≡ true) → (k : Key) (xs : List Entry) →
    open_among all xs k ≡ open_among all (part (λ before (e : Entry). r e.number) xs) k
among_reserving all r f k [] = refl
among_reserving all r f k (x ∷ xs) =
    let rest = among_reserving all r f k xs in
    cases (r x.number)
    (λ h. ap (λ (y : Option ℕ). if asks_for x.event k && is_open_request all x.number then Some x.number else y) rest
    ∙ ap (λ (l : List Entry). open_among all l k) (sym (if_true (r x.number) (x ∷ part (λ before (e : Entry). r e.number) xs) (part (λ before (e : Entry). r e.number) xs) h)))
    (λ h. if_false (asks_for x.event k && is_open_request all x.number) (Some x.number) (open_among all xs k)
    (is_false (asks_for x.event k && is_open_request all x.number) (λ b. not_true (sym h ∙ f x.number (second_holds (asks_for x.event k) (is_open_request all x.number) b))))
    ∙ (rest ∙ ap (λ (l : List Entry). open_among all l k) (sym (if_false (r x.number) (x ∷ part (λ before (e : Entry). r e.number) xs) (part (λ before (e : Entry). r e.number) xs) h))))

among_same : (w p : List Entry) → ((n : ℕ) → is_open_request w n ≡ is_open_request p n) → (k : Key) (xs : List Entry) → open_among w xs k ≡ open_among p xs k
among_same w p f k [] = refl
among_same w p f k (x ∷ xs) =
    ap (λ (b : Bool). if asks_for x.event k && b then Some x.number else open_among w xs k) (f x.number)
    ∙ ap (λ (y : Option ℕ). if asks_for x.event k && is_open_request p x.number then Some x.number else y) (among_same w p f k xs)

open_reserves : (past : List Entry) (n : ℕ) → is_open_request past n ≡ true → reserves past n ≡ true
open_reserves past n h = is_first (is_open_request past n) (is_open_attempt past n) (waits_for past n) h
  where
    is_first : (a b : Bool) (w : Option ℕ) → a ≡ true → ((a || b) || is_some w) ≡ true
    is_first true b w g = refl
    is_first false b w g = absurd (not_true g)

pub open_for_same : (w p : List Entry) → SameOpen w p → (k : Key) → open_for w k ≡ open_for p k
open_for_same w p s k =
    among_reserving w (reserves w) (open_reserves w) k w
    ∙ (ap (λ (l : List Entry). open_among w l k) s.reserved
    ∙ (among_same w p s.requests k (reserving p)
    ∙ sym (among_reserving p (reserves p) (open_reserves p) k p)))

-- a choice of two replies under a test
choice : (b c : Bool) (f g z : Reply) → b ≡ c → (b ≡ true → f ≡ g) → (if b then f else z) ≡ (if c then g else z)
choice true c f g z e h = h refl ∙ sym (if_true c g z (sym e))
choice false c f g z e h = sym (if_false c g z (sym e))

module _ (s : Settings) (w p : List Entry) (number t : ℕ) (k : IsKeptOf w p) where
  newest_reply : (x : Option Standing) (outage running : Option ℕ) → ((a : Standing) → x ≡ Some a → is_void_after w a ≡ is_void_after p a) →
      reply_by_newest s w number t x outage running ≡ reply_by_newest s p number t x outage running
  newest_reply None outage running h = refl
  newest_reply (Some a) outage running h =
      ap (λ (v : Bool). if not (a.marked || v) && nat_lt (t - a.moment) (timeout_of s a) then reply_if_fresh s number t a outage running else reply_unless_fresh number (Some a) outage running)
      (h a refl)

  outage_same : outage_at s.offline_timeout w t ≡ outage_at s.offline_timeout p t
  outage_same = outage_shown w p k s.offline_timeout t

  ask_same : (key : Key) → reply_to_ask s w number t key ≡ reply_to_ask s p number t key
  ask_same key =
      ap (λ (r : Reply). if is_filtered s key then replies.Filtered else r)
      (newest_reply (newest w key) (outage_at s.offline_timeout w t) (open_for w key) (λ a h. k.answers.voided key a h)
      ∙ (ap (λ (x : Option Standing). reply_by_newest s p number t x (outage_at s.offline_timeout w t) (open_for w key)) (k.answers.is_newest key)
      ∙ (ap (λ (o : Option ℕ). reply_by_newest s p number t (newest p key) o (open_for w key)) outage_same
      ∙ ap (λ (o : Option ℕ). reply_by_newest s p number t (newest p key) (outage_at s.offline_timeout p t) o) (open_for_same w p k.opens key))))

  find_same : (f g : ℕ → Bool) → ((i : ℕ) → f i ≡ g i) → (xs : List ℕ) → find f xs ≡ find g xs
  find_same f g h xs = ap (λ (test : ℕ → Bool). find test xs) (λ i x. h x i)

  pub server_same : (n : ℕ) → is_open w n ≡ true → picked_server s w n t ≡ picked_server s p n t
  server_same n o =
      find_same (λ server. not (is_down w n t server)) (λ server. not (is_down p n t server))
      (λ server. ap (λ (b : Bool). not (b || has_fallen_lately w t server)) (k.opens.falls n server o)
      ∙ ap (λ (b : Bool). not (has_fallen_under p n server || b)) (k.ends.lately t server))
      (range_with_len 0 (s.primaries + s.backups))

  key_same : (n : ℕ) → is_open w n ≡ true → key_of w n ≡ key_of p n
  key_same n o = key_kept w p n (k.opens.leads n o)

  as_open : (n : ℕ) → is_open_request w n ≡ true → is_open w n ≡ true
  as_open n o = or_left (is_open_request w n) (is_open_attempt w n) o

  answer_same : (r : ℕ) (own : Option Key) (answered : Answered) → is_open_request w r ≡ true → reply_to_answer w r own answered ≡ reply_to_answer p r own answered
  answer_same r None answered o = refl
  answer_same r (Some own) answered o = ap reply_by_void (k.opens.voids r own answered o)

  in_outage_same : (own : Option Key) → outcome_in_outage w number own ≡ outcome_in_outage p number own
  in_outage_same None = refl
  in_outage_same (Some key) = ap (outage_outcome number) (k.answers.is_newest key)

  closing_same : (n : ℕ) → is_open w n ≡ true → reply_to_closing_outage w number n ≡ reply_to_closing_outage p number n
  closing_same n o =
      choice (is_open_request w n) (is_open_request p n) (replies.Shut (outcome_in_outage w number (key_of w n))) (replies.Shut (outcome_in_outage p number (key_of p n))) replies.Closed
      (k.opens.requests n)
      (λ _. ap replies.Shut (in_outage_same (key_of w n) ∙ ap (outcome_in_outage p number) (key_same n o)))

  to_outage_same : (n : ℕ) (server : Option ℕ) → is_open w n ≡ true → reply_to_outage w number n server ≡ reply_to_outage p number n server
  to_outage_same n None o = closing_same n o
  to_outage_same n (Some server) o = refl

  pub collect_same : (t' : ℕ) (r : Option ℕ) → waits_for w t' ≡ r → reply_to_collect w r ≡ reply_to_collect p r
  collect_same t' None is = refl
  collect_same t' (Some r) is =
      taken (is_open_request w r) (is_open_request p r) (k.opens.requests r) (outcome_of w r) (outcome_of p r) (λ c. k.tickets.outcomes t' r is c)
    where
      taken : (b c : Bool) → b ≡ c → (x y : Outcome) → (b ≡ false → x ≡ y) → (if b then replies.NotYet r else replies.Took x) ≡ (if c then replies.NotYet r else replies.Took y)
      taken true c e x y f = sym (if_true c (replies.NotYet r) (replies.Took y) (sym e))
      taken false c e x y f = ap replies.Took (f refl) ∙ sym (if_false c (replies.NotYet r) (replies.Took y) (sym e))

  usable_same : (user : List ℕ) → usable_login s w user ≡ usable_login s p user
  usable_same user = ap (λ (l : Option Login). if s.cache_credentials then only_hashed l else None) (k.logins.logins user)

  cached_same : (user : List ℕ) → cached_login s w t user ≡ cached_login s p t user
  cached_same user = ap (λ (l : Option Login). if s.cached_auth_timeout == 0 then None else still_cached s t l) (usable_same user)

  login_same : (user : List ℕ) (o : Option ℕ) → reply_to_login s w number t user o ≡ reply_to_login s p number t user o
  login_same user None = ap (reply_by_cached number) (cached_same user)
  login_same user (Some o) = refl

  hash_same : (user : List ℕ) → usable_hash s w user ≡ usable_hash s p user
  hash_same user = ap (λ (l : Option Login). if s.cache_credentials then l else None) (k.logins.hashes user)

  no_limit : (c : ℕ) → (c == 0) ≡ true → is_at_limit s c ≡ false
  no_limit c h = none (not (s.attempts == 0)) (c == 0) (c % s.attempts == 0) h
    where
      none : (a b d : Bool) → b ≡ true → (a && (not b && d)) ≡ false
      none true true d g = refl
      none true false d g = absurd (not_true g)
      none false b d g = refl

  block_same : (c : ℕ) (x y : Option ℕ) → (c ≢ 0 → x ≡ y) → block_of s t c x ≡ block_of s t c y
  block_same c x y h =
      cases (c == 0)
      (λ z. if_false (is_at_limit s c) (block_until s t x) None (no_limit c z) ∙ sym (if_false (is_at_limit s c) (block_until s t y) None (no_limit c z)))
      (λ z. ap (λ (v : Option ℕ). block_of s t c v) (h (λ e. not_true (sym z ∙ is_equal c 0 e))))

  by_hash_same : (c : ℕ) (x y : Option ℕ) (l : Option Login) (named : ℕ) (right : Bool) → (c ≢ 0 → x ≡ y) → verdict_by_hash s t c x l named right ≡ verdict_by_hash s t c y l named right
  by_hash_same c x y None named right h = refl
  by_hash_same c x y (Some l) named right h =
      ap (λ (v : Option Verdict). if is_expired s t l then verdicts.Expired (expiry_of s l) else verdict_unless_blocked v l named right) (block_same c x y h)

  verdict_same : (user : List ℕ) (named : ℕ) (right : Bool) → verdict_of s w t user named right ≡ verdict_of s p t user named right
  verdict_same user named right =
      by_hash_same (wrong_count w user) (last_wrong w user) (last_wrong p user) (usable_hash s w user) named right (k.logins.last_wrongs user)
      ∙ (ap (λ (c : ℕ). verdict_by_hash s t c (last_wrong p user) (usable_hash s w user) named right) (k.logins.wrongs user)
      ∙ ap (λ (l : Option Login). verdict_by_hash s t (wrong_count p user) (last_wrong p user) l named right) (hash_same user))

  try_same : (named : ℕ) (right : Bool) (user : Option (List ℕ)) → reply_to_try s w t named right user ≡ reply_to_try s p t named right user
  try_same named right None = refl
  try_same named right (Some user) = ap (λ (l : Option Login). replies.Tried (verdict_by_login s t l named right)) (usable_same user)

  groups_same : (user : List ℕ) → user_groups w user ≡ user_groups p user
  groups_same user = ap groups_of_user (k.answers.is_newest (keys.GroupsOf user))

  abbrev asker : List ℕ → List ℕ → List (List ℕ) → List (List ℕ) → Asker
  asker u v g h = record { user = u; groups = g; service = v; host = s.hostname; host_groups = h }

  asker_same : (user service : List ℕ) → asker_of s w user service ≡ asker_of s p user service
  asker_same user service =
      ap (λ (g : List (List ℕ)). asker user service g (groups_of_host (newest w keys.Host))) (groups_same user)
      ∙ ap (λ (a : Option Standing). asker user service (user_groups p user) (groups_of_host a)) (k.answers.is_newest keys.Host)

  access_same : (mode : AccessMode) (user service : List ℕ) → access_by mode s w user service ≡ access_by mode s p user service
  access_same Permit user service = refl
  access_same Deny user service = refl
  access_same Simple user service = ap (λ (g : List (List ℕ)). reply_by_lists (simple_allows s.simple user g)) (groups_same user)
  access_same Ipa user service =
      ap (λ (a : Asker). reply_by_rules a (newest w keys.Rules)) (asker_same user service)
      ∙ ap (reply_by_rules (asker_of s p user service)) (k.answers.is_newest keys.Rules)

  -- the reply to an event is the same
  pub reply_same : (event : Event) → reply_to s w number t event ≡ reply_to s p number t event
  reply_same (events.Ask key) = ask_same key
  reply_same (events.Pick n) =
      choice (is_open w n) (is_open p n) (reply_by_pick (picked_server s w n t)) (reply_by_pick (picked_server s p n t)) replies.NoRequest
      (open_both w p k.opens n) (λ o. ap reply_by_pick (server_same n o))
  reply_same (events.Fall n i why) =
      choice (is_open w n) (is_open p n) (if was_picked w n i then replies.Noted else replies.NotPicked) (if was_picked p n i then replies.Noted else replies.NotPicked) replies.NoRequest
      (open_both w p k.opens n) (λ o. ap (λ (b : Bool). if b then replies.Noted else replies.NotPicked) (k.opens.picks n i o))
  reply_same (events.Answer r answered) =
      choice (is_open_request w r) (is_open_request p r) (reply_to_answer w r (key_of w r) answered) (reply_to_answer p r (key_of p r) answered) replies.NoRequest
      (k.opens.requests r) (λ o. answer_same r (key_of w r) answered o ∙ ap (λ (own : Option Key). reply_to_answer p r own answered) (key_same r (as_open r o)))
  reply_same (events.Refuse r refusal) = ap (λ (b : Bool). if b then replies.Closed else replies.NoRequest) (k.opens.requests r)
  reply_same (events.Outage n) =
      choice (is_open w n) (is_open p n) (reply_to_outage w number n (picked_server s w n t)) (reply_to_outage p number n (picked_server s p n t)) replies.NoRequest
      (open_both w p k.opens n) (λ o. to_outage_same n (picked_server s w n t) o ∙ ap (reply_to_outage p number n) (server_same n o))
  reply_same (events.Abandon n) = ap (λ (b : Bool). if b then replies.Closed else replies.NoRequest) (open_both w p k.opens n)
  reply_same (events.Collect ticket) = collect_same ticket (waits_for w ticket) refl ∙ ap (reply_to_collect p) (k.tickets.waiting ticket)
  reply_same (events.Leave ticket) = ap reply_to_leave (k.tickets.waiting ticket)
  reply_same (events.Void what) = refl
  reply_same events.Offline = refl
  reply_same events.Online = refl
  reply_same events.Stop = refl
  reply_same (events.LoginOpen user) = login_same user (outage_at s.offline_timeout w t) ∙ ap (reply_to_login s p number t user) outage_same
  reply_same (events.LoginOnline a result) = ap (λ (b : Bool). if b then replies.Closed else replies.NoRequest) (k.opens.attempts a)
  reply_same (events.LoginLook user) = ap reply_to_look (hash_same user)
  reply_same (events.LoginGuess user named right) = ap replies.Judged (verdict_same user named right)
  reply_same (events.LoginTry a named right) =
      choice (is_open_attempt w a) (is_open_attempt p a) (reply_to_try s w t named right (user_of w a)) (reply_to_try s p t named right (user_of p a)) replies.NoRequest
      (k.opens.attempts a)
      (λ o. try_same named right (user_of w a) ∙ ap (reply_to_try s p t named right) (user_kept w p a (k.opens.leads a (or_right (is_open_request w a) (is_open_attempt w a) o))))
  reply_same (events.Access user service) = access_same s.access user service
  reply_same (events.Kept row) = refl
