-- What is found once of a whole journal, and asked of each entry. All are its entries, the newest first.
use Rattle.std.specs.Prelude.{◌≡◌, ℕ, Bool, false, ◌==◌, nat_lt, List, [], ◌∷◌, ◌++◌, reverse, Option, Some, None, if◌then◌else◌}
use Rattle.std.specs.List.{list_any}
use Rattle.sd_rules.specs.declared.replies.Entry.{Entry}
use Rattle.sd_rules.specs.Needed.{last_where, closing_of, answer_of_outcome, last_outage, is_stop}
use Rattle.sd_rules.specs.Requests.{is_open_request, waits_for, outcome_of}
use Rattle.sd_rules.specs.Servers.{is_online}
use Rattle.sd_rules.specs.Steps.{is_asking}
use Rattle.sd_cache.specs.declared.kept.Newest.{Newest}
use Rattle.sd_findings.specs.Briefs.{AreBriefs}
use Rattle.sd_findings.specs.Covers.{HoldVoids, HoldCovered}
use Rattle.sd_findings.specs.Falls.{HoldFalls}
use Rattle.sd_findings.specs.Marks.{MarkNewest}
use Rattle.sd_findings.specs.Users.{HoldUsers}
use Rattle.sd_findings.specs.declared.findings.Findings.{Findings}

-- what is kept as the newest answer of a key is the answer of this number
abbrev pub is_number_kept : ℕ → Option Newest → Bool
is_number_kept n None = false
is_number_kept n (Some a) = a.number == n

abbrev pub listed : Option ℕ → List ℕ
listed None = []
listed (Some n) = n ∷ []

abbrev pub is_among : ℕ → List ℕ → Bool
is_among n numbers = list_any (λ m. m == n) numbers

abbrev pub has_below : ℕ → List ℕ → Bool
has_below n numbers = list_any (λ m. nat_lt m n) numbers

-- the last asking of a request, where it is open
abbrev pub asking_of : List Entry → ℕ → Option ℕ
asking_of all n = if is_open_request all n then last_where (λ (x : Entry). is_asking x n) all else None

-- the last askings of the requests that are open and that a part of the entries opened
abbrev pub askings : List Entry → List Entry → List ℕ
askings all [] = []
askings all (e ∷ past) = askings all past ++ listed (asking_of all e.number)

-- the entry that closed the request for which a ticket waits
abbrev pub closing_for : List Entry → Option ℕ → Option ℕ
closing_for all None = None
closing_for all (Some request) = closing_of all request

-- the answer that its outcome names
abbrev pub answer_for : List Entry → Option ℕ → Option ℕ
answer_for all None = None
answer_for all (Some request) = answer_of_outcome (outcome_of all request)

-- numbers, and behind them what a ticket that waits for a request will look at
abbrev pub with_awaited : List Entry → Option ℕ → List ℕ → List ℕ
with_awaited all request numbers = (numbers ++ listed (closing_for all request)) ++ listed (answer_for all request)

-- what the tickets will look at that wait and that a part of the entries gave
abbrev pub awaited : List Entry → List Entry → List ℕ
awaited all [] = []
awaited all (e ∷ past) = with_awaited all (waits_for all e.number) (awaited all past)

-- what was found is that of a journal, given the oldest first
pub record IsFound (entries : List Entry) (f : Findings) : Type 0 where
  pub newest : MarkNewest entries f.walk.outline.newest.items
  pub lasts : HoldVoids (reverse entries) f.walk.notes.lasts
  pub firsts : HoldCovered (reverse entries) (reverse entries) f.walk.notes.lasts f.firsts
  pub askings : f.walk.notes.askings.items ≡ askings (reverse entries) (reverse entries)
  pub awaited : f.walk.notes.awaited.items ≡ awaited (reverse entries) (reverse entries)
  pub users : HoldUsers (reverse entries) f.walk.outline.users
  pub falls : HoldFalls (reverse entries) f.walk.outline.falls.entries
  pub outage : f.walk.notes.outage ≡ last_outage (reverse entries)
  pub online : f.walk.notes.online ≡ last_where (λ (x : Entry). is_online x.event) (reverse entries)
  pub stop : f.walk.notes.stop ≡ last_where (λ (x : Entry). is_stop x.event) (reverse entries)
  pub briefs : AreBriefs entries f.walk.briefs
