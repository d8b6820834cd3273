-- The texts of replies, as a journal's lines have them.
use Rattle.std.specs.Prelude.{ℕ, ◌++◌, codes, List, []}
use Rattle.sd_rules.specs.declared.events.Refusal.{Refusal}
use Rattle.sd_rules.specs.declared.events.Refusal.TheVariants as refusals
use Rattle.sd_rules.specs.declared.replies.By.{By}
use Rattle.sd_rules.specs.declared.replies.By.TheVariants as by
use Rattle.sd_rules.specs.declared.replies.NotBy.{NotBy}
use Rattle.sd_rules.specs.declared.replies.NotBy.TheVariants as not_by
use Rattle.sd_rules.specs.declared.replies.Outcome.{Outcome}
use Rattle.sd_rules.specs.declared.replies.Outcome.TheVariants as outcomes
use Rattle.sd_rules.specs.declared.replies.Reply.{Reply}
use Rattle.sd_rules.specs.declared.replies.Reply.TheVariants as replies
use Rattle.sd_rules.specs.declared.replies.Verdict.{Verdict}
use Rattle.sd_rules.specs.declared.replies.Verdict.TheVariants as verdicts
use Rattle.sd_wire.specs.Forms.{numbered, numbered_twice}
use Rattle.sd_wire.specs.SaidTexts.{blocked_text}

-- what a request that the directory refused came to
abbrev pub refused_text : Refusal → List ℕ
refused_text (refusals.Code code) = numbered (codes "refused ") code
refused_text (refusals.Many count) = numbered (codes "many ") count

-- what a request came to
abbrev pub outcome_text : Outcome → List ℕ
outcome_text (outcomes.Found n) = numbered (codes "found ") n
outcome_text (outcomes.Absent n) = numbered (codes "absent ") n
outcome_text (outcomes.Refused refusal) = refused_text refusal
outcome_text (outcomes.Old n outage) = numbered_twice (codes "old ") n outage
outcome_text (outcomes.OldGone n outage) = numbered_twice (codes "oldgone ") n outage
outcome_text (outcomes.Dark outage) = numbered (codes "dark ") outage
outcome_text (outcomes.Dropped n) = numbered (codes "dropped ") n

abbrev pub verdict_text : Verdict → List ℕ
verdict_text verdicts.Unknown = codes "unknown"
verdict_text (verdicts.Expired moment) = numbered (codes "expired ") moment
verdict_text (verdicts.Blocked until) = blocked_text until
verdict_text (verdicts.Stale newest) = numbered (codes "stale ") newest
verdict_text verdicts.Accepted = codes "accepted"
verdict_text verdicts.Wrong = codes "wrong"

abbrev pub granted_text : By → List ℕ
granted_text by.Permit = codes "granted permit"
granted_text by.Simple = codes "granted simple"
granted_text (by.Rule n place) = numbered_twice (codes "granted rule ") n place

abbrev pub denied_text : NotBy → List ℕ
denied_text not_by.Deny = codes "denied deny"
denied_text not_by.Simple = codes "denied simple"
denied_text not_by.NoRule = codes "denied norule"

abbrev pub shut_text : Outcome → List ℕ
shut_text outcome = codes "shut " ++ outcome_text outcome

abbrev pub took_text : Outcome → List ℕ
took_text outcome = codes "took " ++ outcome_text outcome

-- replies to the events of logins and account checks
abbrev pub login_reply_text : Reply → List ℕ
login_reply_text (replies.Offline outage) = numbered (codes "offline ") outage
login_reply_text (replies.Bind attempt) = codes "bind"
login_reply_text replies.NoHash = codes "nohash"
login_reply_text (replies.Hash named) = numbered (codes "hash ") named
login_reply_text (replies.Judged verdict) = verdict_text verdict
login_reply_text (replies.Cached attempt named) = numbered (codes "cached ") named
login_reply_text (replies.Tried verdict) = verdict_text verdict
login_reply_text (replies.Granted granter) = granted_text granter
login_reply_text (replies.Denied denier) = denied_text denier
login_reply_text replies.Held = codes "held"
login_reply_text _ = []

-- replies to the events of requests that are open, and of tickets
abbrev pub request_reply_text : Reply → List ℕ
request_reply_text (replies.Server server) = numbered (codes "server ") server
request_reply_text replies.NoServer = codes "noserver"
request_reply_text replies.NoRequest = codes "norequest"
request_reply_text replies.NotPicked = codes "notpicked"
request_reply_text replies.Noted = codes "noted"
request_reply_text (replies.Again void) = numbered (codes "again ") void
request_reply_text replies.Closed = codes "closed"
request_reply_text (replies.Servable server) = numbered (codes "servable ") server
request_reply_text (replies.Shut outcome) = shut_text outcome
request_reply_text replies.NoTicket = codes "noticket"
request_reply_text (replies.NotYet request) = numbered (codes "notyet ") request
request_reply_text (replies.Took outcome) = took_text outcome
request_reply_text reply = login_reply_text reply

-- The text of a reply. A request or an attempt that has the entry's own number is not printed again, nor is a ticket, nor the
-- request that renews an answer.
abbrev pub reply_text : Reply → List ℕ
reply_text replies.Filtered = codes "filtered"
reply_text (replies.Fresh n) = numbered (codes "fresh ") n
reply_text (replies.Refresh n request) = numbered (codes "refresh ") n
reply_text (replies.Gone n) = numbered (codes "gone ") n
reply_text (replies.Old n outage) = numbered_twice (codes "old ") n outage
reply_text (replies.OldGone n outage) = numbered_twice (codes "oldgone ") n outage
reply_text (replies.Dark outage) = numbered (codes "dark ") outage
reply_text (replies.Join request ticket) = numbered (codes "join ") request
reply_text (replies.Lead request) = codes "lead"
reply_text replies.Left = codes "left"
reply_text replies.Done = codes "done"
reply_text reply = request_reply_text reply
