-- The reply to a question: by the newest answer of its key, the outage that stands and the request that is open.
use Rattle.std.specs.Prelude.{ℕ, Bool, true, false, ◌&&◌, ◌==◌, ◌-◌, ◌*◌, ◌/◌, max, not, nat_lt, nat_le, List, Option, Some, None, if◌then◌else◌}
use Rattle.std.specs.List.{list_any}
use Rattle.sd_rules.specs.declared.keys.Key.{Key}
use Rattle.sd_rules.specs.declared.keys.Key.TheVariants as keys
use Rattle.sd_rules.specs.declared.records.Answered.{Answered}
use Rattle.sd_rules.specs.declared.records.Answered.TheVariants.{Found, Absent}
use Rattle.sd_rules.specs.declared.settings.Settings.{Settings}
use Rattle.sd_rules.specs.declared.replies.Entry.{Entry}
use Rattle.sd_rules.specs.declared.replies.Reply.{Reply}
use Rattle.sd_rules.specs.declared.replies.Reply.TheVariants as replies
use Rattle.sd_rules.specs.Keys.{same_name}
use Rattle.sd_rules.specs.Past.{Standing, newest, is_voided, outage_at}
use Rattle.sd_rules.specs.Requests.{open_for}

abbrev pub lists_name : List (List ℕ) → List ℕ → Bool
lists_name names name = list_any (λ n. same_name n name) names

-- a name that is never looked up
abbrev pub is_filtered : Settings → Key → Bool
is_filtered s (keys.User name) = lists_name s.filter_users name
is_filtered s (keys.GroupsOf name) = lists_name s.filter_users name
is_filtered s (keys.Group name) = lists_name s.filter_groups name
is_filtered s _ = false

abbrev pub found_timeout : Settings → Key → ℕ
found_timeout s (keys.User name) = s.user_timeout
found_timeout s (keys.Uid uid) = s.user_timeout
found_timeout s (keys.GroupsOf name) = s.user_timeout
found_timeout s (keys.Group name) = s.group_timeout
found_timeout s (keys.Gid gid) = s.group_timeout
found_timeout s keys.Host = s.hbac_refresh
found_timeout s keys.Rules = s.hbac_refresh

abbrev pub is_found : Answered → Bool
is_found (Found found) = true
is_found Absent = false

-- how many seconds an answer is fresh
abbrev pub timeout_of : Settings → Standing → ℕ
timeout_of s a = if is_found a.answered then found_timeout s a.own else s.negative_timeout

-- an answer is fresh where its age is less than its timeout and it is not voided
abbrev pub is_fresh : Settings → List Entry → ℕ → Standing → Bool
is_fresh s past t a = not (is_voided past a) && nat_lt (t - a.moment) (timeout_of s a)

abbrev pub has_midpoint : Key → Bool
has_midpoint keys.Host = false
has_midpoint keys.Rules = false
has_midpoint _ = true

-- an answer's age is at least its share of the timeout, rounded down, and at least ten seconds
abbrev pub is_past_midpoint : Settings → ℕ → Standing → Bool
is_past_midpoint s t a =
    has_midpoint a.own && (not (s.nowait == 0) && nat_le (max 10 (timeout_of s a * s.nowait / 100)) (t - a.moment))

-- the reply where the outage o stands
abbrev pub reply_in_outage : ℕ → Option Standing → Reply
reply_in_outage o None = replies.Dark o
reply_in_outage o (Some a) = if is_found a.answered then replies.Old a.number o else replies.OldGone a.number o

abbrev pub reply_by_request : ℕ → Option ℕ → Reply
reply_by_request number (Some r) = replies.Join r number
reply_by_request number None = replies.Lead number

abbrev pub reply_unless_fresh : ℕ → Option Standing → Option ℕ → Option ℕ → Reply
reply_unless_fresh number a (Some o) running = reply_in_outage o a
reply_unless_fresh number a None running = reply_by_request number running

-- an answer is renewed where no outage stands and no request is open for its key
abbrev pub is_renewable : Option ℕ → Option ℕ → Bool
is_renewable None None = true
is_renewable _ _ = false

abbrev pub reply_if_fresh : Settings → ℕ → ℕ → Standing → Option ℕ → Option ℕ → Reply
reply_if_fresh s number t a outage running =
    if not (is_found a.answered) then replies.Gone a.number
    else if is_past_midpoint s t a && is_renewable outage running then replies.Refresh a.number number
    else replies.Fresh a.number

abbrev pub reply_by_newest : Settings → List Entry → ℕ → ℕ → Option Standing → Option ℕ → Option ℕ → Reply
reply_by_newest s past number t None outage running = reply_unless_fresh number None outage running
reply_by_newest s past number t (Some a) outage running =
    if is_fresh s past t a then reply_if_fresh s number t a outage running
    else reply_unless_fresh number (Some a) outage running

abbrev pub reply_to_ask : Settings → List Entry → ℕ → ℕ → Key → Reply
reply_to_ask s past number t k =
    if is_filtered s k then replies.Filtered
    else reply_by_newest s past number t (newest past k) (outage_at s.offline_timeout past t) (open_for past k)
