-- Searches one after the other over one client, and what each of them says.
use Rattle.std.specs.Prelude.{◌≡◌, ◌≢◌, ℕ, Bool, true, false, not, ◌==◌, ◌+◌, ◌≤◌, ◌⊎◌, List, [], ◌∷◌, ◌++◌, length, Option, Some, None, IfSome}
use Rattle.sd_base.specs.Causes.{Rose}
use Rattle.sd_base.specs.declared.Why.{Why}
use Rattle.sd_base.specs.declared.Why.TheVariants as whys
use Rattle.sd_rules.specs.declared.tasks.Fetched.{Fetched}
use Rattle.sd_rules.specs.declared.tasks.Fetched.TheVariants as fetches
use Rattle.sd_ldap.specs.Values.{SearchValue, MessageValue}
use Rattle.sd_ldap.specs.Spelling.{message_bytes}
use Rattle.sd_dial.specs.Entries.{Behind}
use Rattle.sd_dial.specs.declared.searched.Searched.{Searched}
use Rattle.sd_dial.specs.declared.searched.Searched.TheVariants as searches
use Rattle.sd_client.specs.declared.step.Request.TheVariants as requests
use Rattle.sd_client.specs.Deciding.{decided}
use Rattle.sd_client.specs.Links.{Links}
use Rattle.sd_client.specs.Replying.{IsUnsent, IsSent}
use Rattle.sd_client.specs.Talk.{Talk, search_message, IsSearched, IsUnsearched, failure_by_search}
use Rattle.sd_asking.specs.Settled.{IsSettled, GoesOn}
use Rattle.sd_asking.specs.Searching.{told_search, search_reply_size, IsToldSearch, HasReply, IsSearchedBy}
use Rattle.sd_asking.specs.Searching as told

-- what links of a kind tell
pub record Telling (L : Type 0) : Type 1 where
  pub sent : L → Option (List (List ℕ))
  pub asked : L → Option (List MessageValue)
  pub received : L → Option (List ℕ)
  pub coming : L → Option (List ℕ)
  pub answer : L → List ℕ → List ℕ
  pub behind : L → Option Behind
  pub faults : L → ℕ
  pub refuses : L → Type 0
  pub ends : L → Type 0

-- the same, by what a clause has as L.DirectoryLink
abbrev pub telling : {L : Type 0} → Links L → Telling L
telling links = record {
  sent = links.sent;
  asked = links.asked;
  received = links.received;
  coming = links.coming;
  answer = links.answer;
  behind = links.behind;
  faults = links.faults;
  refuses = links.refuses;
  ends = links.ends;
}

-- a search, and what it came to
pub record Exchange : Type 0 where
  pub search : SearchValue
  pub searched : Searched

-- a search that came to this
abbrev pub searched_as : SearchValue → Searched → Exchange
searched_as search searched = record { search = search; searched = searched }

abbrev pub request_of : {L : Type 0} → Talk L → Exchange → MessageValue
request_of old x = search_message old.next x.search

abbrev pub answer_of : {L : Type 0} → Telling L → Talk L → Exchange → List ℕ
answer_of t old x = t.answer old.link (message_bytes (request_of old x))

-- the link is settled: all that came was read, and nothing is to come
abbrev pub IsQuiet : {L : Type 0} → Telling L → Talk L → Type 0
IsQuiet t talk = IsSettled talk (t.coming talk.link)

-- What a search makes of a client. What was sent is decided by the bytes received, or by the directory behind
-- the link where it tells one.
pub record Went {L : Type 0} (t : Telling L) (old : Talk L) (x : Exchange) (new : Talk L) : Type 0 where
  pub again : IfSome old.failed (λ why. (x.searched ≡ searches.Failed why) × (new ≡ old))
  pub used : (new.next ≡ old.next) ⊎ (new.next ≡ old.next + 1)
  pub unsent : new.next ≡ old.next → IsUnsent (t.sent old.link) (t.sent new.link) (t.asked old.link) (t.asked new.link) (t.received old.link) (t.received new.link) (t.coming old.link) (t.coming new.link) old.received new.received
  pub no_reply : old.failed ≡ None → new.next ≡ old.next → IsUnsearched x.searched (Rose (t.faults old.link) (t.faults new.link) × t.refuses new.link)
  pub asked : new.next ≡ old.next + 1 → IsSent (request_of old x) (answer_of t old x) (t.sent old.link) (t.sent new.link) (t.asked old.link) (t.asked new.link) (t.received old.link) (t.received new.link) (t.coming old.link) (t.coming new.link) old.received new.received
  pub reply : new.next ≡ old.next + 1 → IsSearched x.searched (decided requests.Search old.next old.at new.received) new.at (Rose (t.faults old.link) (t.faults new.link) × t.ends new.link)
  pub fails : old.failed ≡ None → new.failed ≡ failure_by_search x.searched
  pub behind : t.behind new.link ≡ t.behind old.link
  pub later : t.faults old.link ≤ t.faults new.link
  pub answered : IsQuiet t old → new.next ≡ old.next + 1 → IsSearchedBy x.searched (decided requests.Search old.next old.at (old.received ++ answer_of t old x)) new.at (t.coming new.link)
  pub settles : IsQuiet t old → HasReply x.searched → new.at ≡ length old.received + length (answer_of t old x) → length old.received + length (answer_of t old x) ≤ 67108864 → GoesOn old new (t.coming new.link) (length (answer_of t old x))
  pub by_directory : (b : Behind) → t.behind old.link ≡ Some b → IsQuiet t old → IsToldSearch x.searched (told_search b (length old.received) old.next x.search)
  pub goes_on : (b : Behind) → t.behind old.link ≡ Some b → IsQuiet t old → HasReply x.searched → GoesOn old new (t.coming new.link) (search_reply_size b old.next x.search)
  pub ended : (b : Behind) → t.behind old.link ≡ Some b → IsQuiet t old → new.next ≡ old.next + 1 → t.coming new.link ≡ Some [] → x.searched ≡ searches.Failed whys.Link → told_search b (length old.received) old.next x.search ≡ told.failed whys.Link

-- the exchanges lead from one state of a client to another, in order
abbrev pub Goes : {L : Type 0} → Telling L → Talk L → List Exchange → Talk L → Type 0
Goes t before [] after = before ≡ after
Goes {L} t before (x ∷ xs) after = (between : Talk L) × Went t before x between × Goes t between xs after

-- it came to entries, or to code 32, no such object, which counts as none
abbrev pub Gave : Searched → Type 0
Gave (searches.Entries given) = Unit {0}
Gave (searches.Code code) = code ≡ 32
Gave (searches.Failed why) = ⊥
Gave searches.Memory = ⊥

abbrev pub AllGave : List Exchange → Type 0
AllGave [] = Unit {0}
AllGave (x ∷ xs) = Gave x.searched × AllGave xs

-- the last exchange came to this, and those before it to entries
pub record IsLast (searched : Searched) (exchanges : List Exchange) : Type 0 where
  pub before : List Exchange
  pub search : SearchValue
  pub are : exchanges ≡ before ++ record { search = search; searched = searched } ∷ []
  pub gave : AllGave before

-- codes of a busy or unavailable server (RFC 4511 appendix A): another one may answer
abbrev pub IsOfServer : ℕ → Type 0
IsOfServer code = (code ≡ 51) ⊎ (code ≡ 52)

-- a code that is an answer, and neither entries nor none
pub record IsRefusal (code : ℕ) : Type 0 where
  pub some : code ≢ 0
  pub present : code ≢ 32
  pub ready : code ≢ 51
  pub there : code ≢ 52

-- A failure is that of the last exchange, or by its code.
abbrev pub FailedBy : Why → List Exchange → Type 0
FailedBy why exchanges = IsLast (searches.Failed why) exchanges ⊎ ((code : ℕ) × (why ≡ whys.Code code) × IsOfServer code × IsLast (searches.Code code) exchanges)

-- how a lookup ended: by entries alone, or by what the last exchange came to
abbrev pub EndsBy : Fetched → List Exchange → Type 0
EndsBy (fetches.Found found) exchanges = AllGave exchanges
EndsBy fetches.Absent exchanges = AllGave exchanges
EndsBy (fetches.Many count) exchanges = AllGave exchanges
EndsBy (fetches.Refused code) exchanges = IsRefusal code × IsLast (searches.Code code) exchanges
EndsBy (fetches.Failed why) exchanges = FailedBy why exchanges
EndsBy fetches.Memory exchanges = Unit {0}

-- it ends a lookup
abbrev pub is_stop : Searched → Bool
is_stop (searches.Entries given) = false
is_stop (searches.Code code) = not (code == 32)
is_stop (searches.Failed why) = true
is_stop searches.Memory = true
