-- Two pasts that say the same of everything that a later step reads, though their entries differ. Past entries have numbers below
-- `next`, and what is open or waited for has numbers from `from` on.
use Rattle.std.specs.Prelude.{◌≡◌, ◌≢◌, ℕ, true, ◌<◌, ◌≤◌, List, Option, Some, None}
use Rattle.sd_rules.specs.declared.keys.Key.{Key}
use Rattle.sd_rules.specs.declared.records.Answered.{Answered}
use Rattle.sd_rules.specs.declared.replies.Entry.{Entry}
use Rattle.sd_rules.specs.declared.replies.Outcome.{Outcome}
use Rattle.sd_rules.specs.Past.{Standing, newest, is_voided, key_of, outage_at}
use Rattle.sd_rules.specs.Requests.{is_open, is_open_request, is_open_attempt, open_among, waits_for, outcome_of}
use Rattle.sd_rules.specs.Servers.{has_fallen_under, has_fallen_lately, was_picked}
use Rattle.sd_rules.specs.Logins.{Login, user_of, hash_entry, last_online_login, wrong_count, last_wrong}
use Rattle.sd_rules.specs.Steps.{answer_named_by_outcome, event_at, hash_in, record_in, void_since}

-- an entry of a number says the same in both
abbrev pub SameRecord : ℕ → List Entry → List Entry → ℕ → Type 0
SameRecord next p q n = (n < next) × (record_in (event_at p n) ≡ record_in (event_at q n))

abbrev pub SameHash : ℕ → List Entry → List Entry → ℕ → Type 0
SameHash next p q n = (n < next) × (hash_in (event_at p n) ≡ hash_in (event_at q n))

-- one answer, as it stands in both: only how it is known to be invalidated differs
pub record IsSameAnswer (next : ℕ) (p q : List Entry) (a b : Standing) : Type 0 where
  pub number : a.number ≡ b.number
  pub moment : a.moment ≡ b.moment
  pub own : a.own ≡ b.own
  pub answered : a.answered ≡ b.answered
  pub voided : is_voided p a ≡ is_voided q b
  pub held : SameRecord next p q a.number

abbrev pub SameAnswer : ℕ → List Entry → List Entry → Option Standing → Option Standing → Type 0
SameAnswer next p q None None = Unit {0}
SameAnswer next p q (Some a) (Some b) = IsSameAnswer next p q a b
SameAnswer next p q None (Some b) = ⊥
SameAnswer next p q (Some a) None = ⊥

pub record IsSameLogin (next : ℕ) (p q : List Entry) (l m : Login) : Type 0 where
  pub same : l ≡ m
  pub held : SameHash next p q l.number

abbrev pub SameLogin : ℕ → List Entry → List Entry → Option Login → Option Login → Type 0
SameLogin next p q None None = Unit {0}
SameLogin next p q (Some l) (Some m) = IsSameLogin next p q l m
SameLogin next p q None (Some m) = ⊥
SameLogin next p q (Some l) None = ⊥

pub record SameOutcome (next : ℕ) (p q : List Entry) (o r : Outcome) : Type 0 where
  pub same : o ≡ r
  pub held : (n : ℕ) → answer_named_by_outcome o ≡ Some n → SameRecord next p q n

-- the request that is open for a key is sought alike, whatever is open
abbrev pub SeekAlike : ℕ → List Entry → List Entry → Type 0
SeekAlike from p q =
    (all other : List Entry) → ((n : ℕ) → is_open_request all n ≡ is_open_request other n) → ((n : ℕ) → is_open_request all n ≡ true → from ≤ n) →
    (k : Key) → open_among all p k ≡ open_among other q k

pub record Alike (from next : ℕ) (p q : List Entry) : Type 0 where
  pub begins : from ≤ next
  pub request : (n : ℕ) → is_open_request p n ≡ is_open_request q n
  pub attempt : (n : ℕ) → is_open_attempt p n ≡ is_open_attempt q n
  pub open_from : (n : ℕ) → is_open p n ≡ true → from ≤ n
  pub seek : SeekAlike from p q
  pub key : (n : ℕ) → is_open_request p n ≡ true → key_of p n ≡ key_of q n
  pub user : (n : ℕ) → is_open_attempt p n ≡ true → user_of p n ≡ user_of q n
  pub waits : (t : ℕ) → waits_for p t ≡ waits_for q t
  pub waits_from : (t r : ℕ) → waits_for p t ≡ Some r → from ≤ r
  pub outcome : (r : ℕ) → from ≤ r → SameOutcome next p q (outcome_of p r) (outcome_of q r)
  pub answer : (k : Key) → SameAnswer next p q (newest p k) (newest q k)
  pub outage : (timeout t : ℕ) → outage_at timeout p t ≡ outage_at timeout q t
  pub fell_under : (n i : ℕ) → from ≤ n → has_fallen_under p n i ≡ has_fallen_under q n i
  pub fell : (t i : ℕ) → has_fallen_lately p t i ≡ has_fallen_lately q t i
  pub picked : (n i : ℕ) → from ≤ n → was_picked p n i ≡ was_picked q n i
  pub void : (r : ℕ) (own : Key) (answered : Answered) → is_open_request p r ≡ true → void_since p r own answered ≡ void_since q r own answered
  pub hash : (user : List ℕ) → SameLogin next p q (hash_entry p user) (hash_entry q user)
  pub login : (user : List ℕ) → SameLogin next p q (last_online_login p user) (last_online_login q user)
  pub wrongs : (user : List ℕ) → wrong_count p user ≡ wrong_count q user
  pub wrong : (user : List ℕ) → wrong_count p user ≢ 0 → last_wrong p user ≡ last_wrong q user
