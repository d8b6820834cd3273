-- The reply to a question by what is kept of the newest answer.
use Rattle.std.specs.Prelude.{ℕ, Bool, ◌&&◌, ◌||◌, ◌==◌, ◌-◌, ◌*◌, ◌/◌, max, not, nat_lt, nat_le, Option, Some, None, if◌then◌else◌}
use Rattle.sd_rules.specs.declared.settings.Settings.{Settings}
use Rattle.sd_rules.specs.declared.replies.Reply.{Reply}
use Rattle.sd_rules.specs.declared.replies.Reply.TheVariants as replies
use Rattle.sd_rules.specs.Answers.{is_found, found_timeout, has_midpoint, reply_by_request, is_renewable}
use Rattle.sd_cache.specs.declared.kept.Newest.{Newest}
use Rattle.sd_voids.specs.Bounds.{Bounds}
use Rattle.sd_voids.specs.Voids.{bound_of}

abbrev pub timeout_of : Settings → Newest → ℕ
timeout_of s a = if is_found a.answered then found_timeout s a.own else s.negative_timeout

-- an answer is voided where its number is below a bound, or its kept row says so
abbrev pub is_voided : ℕ → Newest → Bool
is_voided bound a = a.marked || nat_lt a.number bound

-- the number below which what is kept of an answer is voided
abbrev pub bound_for : Bounds → Option Newest → ℕ
bound_for b None = 0
bound_for b (Some a) = bound_of b a.own a.answered

abbrev pub is_fresh : Settings → ℕ → ℕ → Newest → Bool
is_fresh s bound t a = not (is_voided bound a) && nat_lt (t - a.moment) (timeout_of s a)

abbrev pub is_past_midpoint : Settings → ℕ → Newest → Bool
is_past_midpoint s t a =
    has_midpoint a.own && (not (s.nowait == 0) && nat_le (max 10 (timeout_of s a * s.nowait / 100)) (t - a.moment))

abbrev pub reply_in_outage : ℕ → Option Newest → Reply
reply_in_outage o None = replies.Dark o
reply_in_outage o (Some a) = if is_found a.answered then replies.Old a.number o else replies.OldGone a.number o

abbrev pub reply_unless_fresh : ℕ → Option Newest → Option ℕ → Option ℕ → Reply
reply_unless_fresh number a (Some o) running = reply_in_outage o a
reply_unless_fresh number a None running = reply_by_request number running

abbrev pub reply_if_fresh : Settings → ℕ → ℕ → Newest → Option ℕ → Option ℕ → Reply
reply_if_fresh s number t a outage running =
    if not (is_found a.answered) then replies.Gone a.number
    else if is_past_midpoint s t a && is_renewable outage running then replies.Refresh a.number number
    else replies.Fresh a.number

abbrev pub reply_by_newest : Settings → ℕ → ℕ → Option Newest → ℕ → Option ℕ → Option ℕ → Reply
reply_by_newest s number t None bound outage running = reply_unless_fresh number None outage running
reply_by_newest s number t (Some a) bound outage running =
    if is_fresh s bound t a then reply_if_fresh s number t a outage running
    else reply_unless_fresh number (Some a) outage running
