-- A question opens a request, or waits, under the number of its own entry.
use Rattle.std.proofs.Common.{◌≡◌, ℕ, Bool, true, false, ◌&&◌, ◌==◌, cond, not, List, Option, Some, None, refl}
use Rattle.sd_rules.specs.declared.keys.Key.{Key}
use Rattle.sd_rules.specs.declared.events.Event.TheVariants as events
use Rattle.sd_rules.specs.declared.replies.Entry.{Entry}
use Rattle.sd_rules.specs.declared.replies.Reply.{Reply}
use Rattle.sd_rules.specs.declared.replies.Reply.TheVariants as replies
use Rattle.sd_rules.specs.declared.settings.Settings.{Settings}
use Rattle.sd_rules.specs.Answers.{is_filtered, is_fresh, is_found, is_past_midpoint, is_renewable, reply_to_ask, reply_by_newest, reply_if_fresh, reply_unless_fresh, reply_in_outage, reply_by_request}
use Rattle.sd_rules.specs.Past.{Standing, key_of, newest, outage_at}
use Rattle.sd_rules.specs.Requests.{open_for}
use Rattle.sd_rules.specs.Steps.{Daemon, after, next_number}
use Rattle.sd_core.proofs.LawProofs.{pick_law}
use Rattle.sd_core.proofs.Room.{same_number}

abbrev pub Opens : ℕ → Reply → Type 0
Opens number (replies.Lead r) = r ≡ number
Opens number (replies.Refresh n r) = r ≡ number
Opens number (replies.Join r ticket) = ticket ≡ number
Opens number _ = Unit {0}

outage_opens : (number o : ℕ) (a : Option Standing) → Opens number (reply_in_outage o a)
outage_opens number o None = tt
outage_opens number o (Some a) = pick_law (Opens number) (is_found a.answered) (replies.Old a.number o) (replies.OldGone a.number o) (λ _. tt) (λ _. tt)

request_opens : (number : ℕ) (running : Option ℕ) → Opens number (reply_by_request number running)
request_opens number None = refl
request_opens number (Some r) = refl

stale_opens : (number : ℕ) (a : Option Standing) (outage running : Option ℕ) → Opens number (reply_unless_fresh number a outage running)
stale_opens number a (Some o) running = outage_opens number o a
stale_opens number a None running = request_opens number running

renewed_opens : (number : ℕ) (a : Standing) (b : Bool) → Opens number (cond b (replies.Refresh a.number number) (replies.Fresh a.number))
renewed_opens number a true = refl
renewed_opens number a false = tt

fresh_opens : (s : Settings) (number t : ℕ) (a : Standing) (outage running : Option ℕ) → Opens number (reply_if_fresh s number t a outage running)
fresh_opens s number t a outage running =
    let renewing : Reply = cond (is_past_midpoint s t a && is_renewable outage running) (replies.Refresh a.number number) (replies.Fresh a.number) in
    pick_law (Opens number) (not (is_found a.answered)) (replies.Gone a.number) renewing (λ _. tt)
    (λ _. renewed_opens number a (is_past_midpoint s t a && is_renewable outage running))

newest_opens : (s : Settings) (past : List Entry) (number t : ℕ) (a : Option Standing) (outage running : Option ℕ) → Opens number (reply_by_newest s past number t a outage running)
newest_opens s past number t None outage running = stale_opens number None outage running
newest_opens s past number t (Some a) outage running =
    pick_law (Opens number) (is_fresh s past t a) (reply_if_fresh s number t a outage running) (reply_unless_fresh number (Some a) outage running)
    (λ _. fresh_opens s number t a outage running) (λ _. stale_opens number (Some a) outage running)

pub ask_opens : (s : Settings) (past : List Entry) (number t : ℕ) (k : Key) → Opens number (reply_to_ask s past number t k)
ask_opens s past number t k =
    let newer : Reply = reply_by_newest s past number t (newest past k) (outage_at s.offline_timeout past t) (open_for past k) in
    pick_law (Opens number) (is_filtered s k) replies.Filtered newer (λ _. tt)
    (λ _. newest_opens s past number t (newest past k) (outage_at s.offline_timeout past t) (open_for past k))

-- and asks there for its key
own_key : (b : Bool) (x y : Option Key) (k : Key) → b ≡ true → x ≡ Some k → cond b x y ≡ Some k
own_key true x y k b h = h
own_key false x y k b h = cc

pub asked_key : (d : Daemon) (now : ℕ) (key : Key) → key_of (after d now (events.Ask key)).past (next_number d) ≡ Some key
asked_key d now key = own_key (next_number d == next_number d) (Some key) (key_of d.past (next_number d)) key (same_number (next_number d)) refl
