-- Laws of every step, in the words of who asks: freshness, one open request for a key, equal outcomes, account checks, guesses.
use Rattle.std.specs.Prelude.{ℕ, Bool, true, false, ◌≡◌, ◌≢◌, ◌<◌, ◌≤◌, ◌+◌, ◌-◌, ◌*◌, ◌%◌, ◌==◌, ◌&&◌, ◌||◌, not, is_some, List, [], ◌∷◌, Option, Some, None}
use Rattle.sd_rules.specs.declared.keys.Key.{Key}
use Rattle.sd_rules.specs.declared.keys.Key.TheVariants as keys
use Rattle.sd_rules.specs.declared.records.Answered.{Answered}
use Rattle.sd_rules.specs.declared.records.Answered.TheVariants.{Found}
use Rattle.sd_rules.specs.declared.records.Record.{Record}
use Rattle.sd_rules.specs.declared.records.Record.TheVariants as records
use Rattle.sd_rules.specs.declared.records.RuleBook.{RuleBook}
use Rattle.sd_rules.specs.declared.replies.By.{By}
use Rattle.sd_rules.specs.declared.replies.By.TheVariants as by
use Rattle.sd_rules.specs.declared.replies.Given.{Given}
use Rattle.sd_rules.specs.declared.replies.NotBy.{NotBy}
use Rattle.sd_rules.specs.declared.replies.NotBy.TheVariants as not_by
use Rattle.sd_rules.specs.declared.settings.AccessMode.TheVariants.{Ipa}
use Rattle.sd_rules.specs.declared.events.Event.{Event}
use Rattle.sd_rules.specs.declared.events.Event.TheVariants.{Access, Answer, Ask, Collect, LoginGuess, Outage}
use Rattle.sd_rules.specs.declared.replies.Entry.{Entry}
use Rattle.sd_rules.specs.declared.replies.Outcome.{Outcome}
use Rattle.sd_rules.specs.declared.replies.Outcome.TheVariants as outcomes
use Rattle.sd_rules.specs.declared.replies.Reply.{Reply}
use Rattle.sd_rules.specs.declared.replies.Reply.TheVariants as replies
use Rattle.sd_rules.specs.declared.replies.Verdict.TheVariants as verdicts
use Rattle.sd_rules.specs.declared.settings.Settings.{Settings}
use Rattle.sd_rules.specs.Keys.{kind_of}
use Rattle.sd_rules.specs.Past.{Standing, newest, is_closed, is_voided, outage_at, key_of}
use Rattle.sd_rules.specs.Requests.{is_open, is_open_request, is_open_attempt, waits_for, outcome_of}
use Rattle.sd_rules.specs.Answers.{timeout_of}
use Rattle.sd_rules.specs.Logins.{wrong_count, last_wrong}
use Rattle.sd_rules.specs.Access.{asker_of}
use Rattle.sd_rules.specs.Steps.{Daemon, moment_of, record_in, event_at, event_named, answer_named_by_outcome, void_since}
use Rattle.sd_forgetting.specs.Orderly.{IsOrderly}
use Rattle.sd_hbac.specs.Grants.{Grants, NoneMatches}
use Rattle.sd_core.specs.Sound.{falls_from, holds_kinds, is_of_kind_of, found_fits, all_name_earlier, moments_rise}

-- an answer to a request: no invalidation that covers it stands after the request's last asking
abbrev pub IsUnvoidedSinceAsking : List Entry → Standing → Type 0
IsUnvoidedSinceAsking past a =
    (request : ℕ) (answered : Answered) → event_at past a.number ≡ Some (Answer request answered) → void_since past request a.own a.answered ≡ None

-- The entry n is the newest answer of the key, and its age is less than its timeout. No invalidation that covers it stands after it,
-- and of an answer to a request not even after the request's last asking. A kept row does not mark it as invalidated.
pub record IsFreshAnswer (s : Settings) (past : List Entry) (t : ℕ) (k : Key) (n : ℕ) : Type 0 where
  pub answer : Standing
  pub is_newest : newest past k ≡ Some answer
  pub named : answer.number ≡ n
  pub young : t - answer.moment < timeout_of s answer
  pub unvoided : is_voided past answer ≡ false
  pub since_asking : IsUnvoidedSinceAsking past answer

-- what the reply to a question names: a fresh answer, or an outage that stands
abbrev pub AskNames : Settings → List Entry → ℕ → Key → Reply → Type 0
AskNames s past t k (replies.Fresh n) = IsFreshAnswer s past t k n
AskNames s past t k (replies.Refresh n request) = IsFreshAnswer s past t k n
AskNames s past t k (replies.Gone n) = IsFreshAnswer s past t k n
AskNames s past t k (replies.Old n o) = outage_at s.offline_timeout past t ≡ Some o
AskNames s past t k (replies.OldGone n o) = outage_at s.offline_timeout past t ≡ Some o
AskNames s past t k (replies.Dark o) = outage_at s.offline_timeout past t ≡ Some o
AskNames s past t k _ = Unit {0}

abbrev pub NamesFresh : Settings → List Entry → ℕ → Event → Reply → Type 0
NamesFresh s past t (Ask k) reply = AskNames s past t k reply
NamesFresh s past t _ reply = Unit {0}

-- the entry o is the outage that closed the request which a ticket waits for
pub record IsClosedByOutage (past : List Entry) (ticket o : ℕ) : Type 0 where
  pub request : ℕ
  pub waits : waits_for past ticket ≡ Some request
  pub closed : event_at past o ≡ Some (Outage request)

-- what an outcome that a ticket takes names: the outage that closed its request
abbrev pub OutcomeNames : List Entry → ℕ → Outcome → Type 0
OutcomeNames past ticket (outcomes.Old n o) = IsClosedByOutage past ticket o
OutcomeNames past ticket (outcomes.OldGone n o) = IsClosedByOutage past ticket o
OutcomeNames past ticket (outcomes.Dark o) = IsClosedByOutage past ticket o
OutcomeNames past ticket _ = Unit {0}

abbrev pub TookNames : List Entry → ℕ → Reply → Type 0
TookNames past ticket (replies.Took outcome) = OutcomeNames past ticket outcome
TookNames past ticket _ = Unit {0}

abbrev pub NamesItsOutage : List Entry → Event → Reply → Type 0
NamesItsOutage past (Collect ticket) reply = TookNames past ticket reply
NamesItsOutage past _ reply = Unit {0}

-- at most one request is open for a key
pub record HasOneOpen (past : List Entry) : Type 0 where
  pub one : (r q : ℕ) (k : Key) → is_open_request past r ≡ true → is_open_request past q ≡ true →
      key_of past r ≡ Some k → key_of past q ≡ Some k → r ≡ q

-- the outcome of what is open no more stays as it is, so all its tickets take the same
pub record KeepsOutcomes (before after : List Entry) : Type 0 where
  pub stays : (r : ℕ) → is_open before r ≡ false → outcome_of after r ≡ outcome_of before r

-- the record of the answer that the outcome of a request names
abbrev pub outcome_record : List Entry → ℕ → Option Record
outcome_record past r = record_in (event_named past (answer_named_by_outcome (outcome_of past r)))

-- A ticket that waits is for a request of a key of its own key's kind while that is open, and once it is closed the answer that its
-- outcome names is of that kind. All numbers named are below the next.
pub record HasFitTickets (next : ℕ) (past : List Entry) : Type 0 where
  pub has_key : (t r : ℕ) → waits_for past t ≡ Some r → (k : Key) × (key_of past t ≡ Some k)
  pub below : (t r : ℕ) → waits_for past t ≡ Some r → r < next
  pub no_attempt : (t r : ℕ) → waits_for past t ≡ Some r → is_open_attempt past r ≡ false
  pub same_kind : (t r : ℕ) (k q : Key) → waits_for past t ≡ Some r → is_open_request past r ≡ true → key_of past t ≡ Some k → key_of past r ≡ Some q →
      kind_of q ≡ kind_of k
  pub named_below : (t r n : ℕ) → waits_for past t ≡ Some r → is_open_request past r ≡ false → answer_named_by_outcome (outcome_of past r) ≡ Some n → n < next
  pub of_kind : (t r : ℕ) (k : Key) → waits_for past t ≡ Some r → is_open_request past r ≡ false → key_of past t ≡ Some k →
      is_of_kind_of k (outcome_record past r) ≡ true

-- Where so many guesses are wrong that they block, the next one that is judged wrong comes only after the delay, and with no delay
-- there is no such one before an entry accepts the user.
pub record IsAfterBlock (s : Settings) (past : List Entry) (t : ℕ) (user : List ℕ) : Type 0 where
  pub delayed : s.attempts ≢ 0 → wrong_count past user ≢ 0 → wrong_count past user % s.attempts ≡ 0 → s.delay_minutes ≢ 0
  pub waited : (wrong : ℕ) → s.attempts ≢ 0 → wrong_count past user ≢ 0 → wrong_count past user % s.attempts ≡ 0 → last_wrong past user ≡ Some wrong →
      wrong + 60 * s.delay_minutes ≤ t

abbrev pub WrongNames : Settings → List Entry → ℕ → List ℕ → Reply → Type 0
WrongNames s past t user (replies.Judged verdicts.Wrong) = IsAfterBlock s past t user
WrongNames s past t user _ = Unit {0}

abbrev pub WaitsForBlock : Settings → List Entry → ℕ → Event → Reply → Type 0
WaitsForBlock s past t (LoginGuess user named right) reply = WrongNames s past t user reply
WaitsForBlock s past t _ reply = Unit {0}

-- the reply names a rule of the newest rules, and that rule grants
pub record IsGrantedByRule (s : Settings) (past : List Entry) (user service : List ℕ) (n place : ℕ) : Type 0 where
  pub by_rules : s.access ≡ Ipa
  pub answer : Standing
  pub book : RuleBook
  pub is_newest : newest past keys.Rules ≡ Some answer
  pub named : answer.number ≡ n
  pub holds : answer.answered ≡ Found (records.Rules book)
  pub grants : Grants book (asker_of s past user service) place

-- the rules decide, and none of the newest rules matches
pub record IsDeniedByRules (s : Settings) (past : List Entry) (user service : List ℕ) : Type 0 where
  pub by_rules : s.access ≡ Ipa
  pub none : (a : Standing) (book : RuleBook) → newest past keys.Rules ≡ Some a → a.answered ≡ Found (records.Rules book) →
      NoneMatches book (asker_of s past user service)

abbrev pub DeniedNames : Settings → List Entry → List ℕ → List ℕ → NotBy → Type 0
DeniedNames s past user service not_by.NoRule = IsDeniedByRules s past user service
DeniedNames s past user service _ = Unit {0}

abbrev pub GrantedNames : Settings → List Entry → List ℕ → List ℕ → By → Type 0
GrantedNames s past user service (by.Rule n place) = IsGrantedByRule s past user service n place
GrantedNames s past user service _ = Unit {0}

abbrev pub AccessNames : Settings → List Entry → List ℕ → List ℕ → Reply → Type 0
AccessNames s past user service (replies.Granted why) = GrantedNames s past user service why
AccessNames s past user service (replies.Denied why) = DeniedNames s past user service why
AccessNames s past user service _ = Unit {0}

abbrev pub GoesByRules : Settings → List Entry → Event → Reply → Type 0
GoesByRules s past (Access user service) reply = AccessNames s past user service reply
GoesByRules s past _ reply = Unit {0}

-- What holds of every step, said of what it gives over the daemon before it.
pub record FollowsLaws (d : Daemon) (now : ℕ) (event : Event) (given : Given) : Type 0 where
  pub fresh : NamesFresh d.settings d.past (moment_of d now) event given.reply
  pub outage : NamesItsOutage d.past event given.reply
  pub by_rules : GoesByRules d.settings d.past event given.reply
  pub after_blocks : WaitsForBlock d.settings d.past (moment_of d now) event given.reply
  pub of_kind : found_fits d.past event given.found ≡ true

-- an answer that closes its request comes with no invalidation that covers it after the request's last asking
abbrev pub is_unvoided_since : List Entry → ℕ → Option Key → Answered → Bool
is_unvoided_since past request None answered = true
is_unvoided_since past request (Some own) answered = not (is_some (void_since past request own answered))

abbrev pub is_asked_since : List Entry → Event → Reply → Bool
is_asked_since past (Answer request answered) reply = not (is_closed reply) || is_unvoided_since past request (key_of past request) answered
is_asked_since past _ reply = true

abbrev pub are_asked_since : List Entry → Bool
are_asked_since [] = true
are_asked_since (e ∷ past) = is_asked_since past e.event e.reply && are_asked_since past

-- an outage that shuts a request names itself
abbrev pub is_outage_of : ℕ → Outcome → Bool
is_outage_of number (outcomes.Old n o) = o == number
is_outage_of number (outcomes.OldGone n o) = o == number
is_outage_of number (outcomes.Dark o) = o == number
is_outage_of number _ = true

abbrev pub shuts_as : ℕ → Reply → Bool
shuts_as number (replies.Shut outcome) = is_outage_of number outcome
shuts_as number _ = true

abbrev pub is_own_outage : ℕ → Event → Reply → Bool
is_own_outage number (Outage n) reply = shuts_as number reply
is_own_outage number _ reply = true

abbrev pub are_own_outages : List Entry → Bool
are_own_outages [] = true
are_own_outages (e ∷ past) = is_own_outage e.number e.event e.reply && are_own_outages past

-- What holds of every journal that the core keeps.
pub record IsKept (d : Daemon) : Type 0 where
  pub numbers : falls_from d.next d.past ≡ true
  pub kinds : holds_kinds d.past ≡ true
  pub asked : are_asked_since d.past ≡ true
  pub outages : are_own_outages d.past ≡ true
  pub names : all_name_earlier d.past ≡ true
  pub moments : moments_rise d.past ≡ true
  pub open_once : HasOneOpen d.past
  pub tickets : HasFitTickets d.next d.past
  pub orderly : IsOrderly d.next d.past
