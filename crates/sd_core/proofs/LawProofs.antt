-- The laws of every step, from the reply's definition.
use Rattle.std.proofs.Common.{◌≡◌, ◌≢◌, ℕ, ◌+◌, ◌-◌, ◌*◌, ◌%◌, ◌^◌, ◌≤◌, Bool, true, false, List, [], ◌∷◌, arith, refl, sym, subst, ◌∙◌, min}
use Rattle.std.specs.Prelude.{Option, Some, None, not, nat_lt, ◌==◌, ◌&&◌, if◌then◌else◌}
use Rattle.std.proofs.lemmas.Bool.Decides.{nat_tests}
use Rattle.sd_rules.specs.declared.keys.Key.{Key}
use Rattle.sd_rules.specs.declared.events.Event.{Event}
use Rattle.sd_rules.specs.declared.events.Event.TheVariants as events
use Rattle.sd_rules.specs.declared.replies.Entry.{Entry}
use Rattle.sd_rules.specs.declared.replies.Reply.{Reply}
use Rattle.sd_rules.specs.declared.replies.Reply.TheVariants as replies
use Rattle.sd_rules.specs.declared.replies.Verdict.{Verdict}
use Rattle.sd_rules.specs.declared.replies.Verdict.TheVariants as verdicts
use Rattle.sd_rules.specs.declared.settings.Settings.{Settings}
use Rattle.sd_rules.specs.Past.{Standing, newest, is_voided, outage_at}
use Rattle.sd_rules.specs.Requests.{open_for}
use Rattle.sd_rules.specs.Answers.{is_found, is_fresh, timeout_of, is_filtered, is_past_midpoint, is_renewable, reply_in_outage, reply_by_request, reply_unless_fresh, reply_if_fresh, reply_by_newest, reply_to_ask}
use Rattle.sd_rules.specs.Logins.{Login, accepts, wrongs, wrong_count, last_wrong, is_at_limit, block_until, block_of, verdict_by_guess, verdict_unless_blocked, verdict_by_hash, usable_hash, is_expired, expiry_of}
use Rattle.sd_rules.specs.Steps.{reply_to}
use Rattle.sd_core.specs.Sound.{falls_from}
use Rattle.sd_core.specs.Laws.{are_asked_since, IsUnvoidedSinceAsking, IsFreshAnswer, AskNames, NamesFresh, IsAfterBlock, WrongNames, WaitsForBlock}
use Rattle.sd_core.proofs.Room.{false_is_not_true}
use Rattle.sd_core.proofs.KindLaws.{first_holds, second_holds}
use Rattle.sd_core.proofs.AskedLaws.{unvoided_since_asking}

-- a law of replies holds of a choice where it holds of both, each under its condition
pub pick_law : (L : Reply → Type 0) (b : Bool) (f g : Reply) → (b ≡ true → L f) → (b ≡ false → L g) → L (if b then f else g)
pick_law L true f g h k = h refl
pick_law L false f g h k = k refl

not_true : (b : Bool) → not b ≡ true → b ≡ false
not_true true h = absurd (false_is_not_true h)
not_true false h = refl

-- an answer that nothing voids after it was asked for after the last invalidation that covers it
abbrev HasCleanNewest : List Entry → Key → Type 0
HasCleanNewest past k = (a : Standing) → newest past k ≡ Some a → is_voided past a ≡ false → IsUnvoidedSinceAsking past a

fresh_answer : (s : Settings) (past : List Entry) (t : ℕ) (k : Key) (a : Standing) → HasCleanNewest past k → newest past k ≡ Some a → is_fresh s past t a ≡ true →
    IsFreshAnswer s past t k a.number
fresh_answer s past t k a clean n f =
    let unvoided = not_true (is_voided past a) (first_holds (not (is_voided past a)) (nat_lt (t - a.moment) (timeout_of s a)) f) in
    record {
      answer = a;
      is_newest = n;
      named = refl;
      young =
          let young = second_holds (not (is_voided past a)) (nat_lt (t - a.moment) (timeout_of s a)) f in
          grind (arith, nat_tests, young);
      unvoided = unvoided;
      since_asking = clean a n unvoided;
    }

outage_law : (s : Settings) (past : List Entry) (t : ℕ) (k : Key) (o : ℕ) (x : Option Standing) → outage_at s.offline_timeout past t ≡ Some o → AskNames s past t k (reply_in_outage o x)
outage_law s past t k o None h = h
outage_law s past t k o (Some a) h =
    pick_law (AskNames s past t k) (is_found a.answered) (replies.Old a.number o) (replies.OldGone a.number o) (λ _. h) (λ _. h)

request_law : (s : Settings) (past : List Entry) (number t : ℕ) (k : Key) (running : Option ℕ) → AskNames s past t k (reply_by_request number running)
request_law s past number t k None = tt
request_law s past number t k (Some r) = tt

stale_law : (s : Settings) (past : List Entry) (number t : ℕ) (k : Key) (x : Option Standing) (outage running : Option ℕ) → outage_at s.offline_timeout past t ≡ outage →
    AskNames s past t k (reply_unless_fresh number x outage running)
stale_law s past number t k x None running h = request_law s past number t k running
stale_law s past number t k x (Some o) running h = outage_law s past t k o x h

fresh_law : (s : Settings) (past : List Entry) (number t : ℕ) (k : Key) (a : Standing) (outage running : Option ℕ) → IsFreshAnswer s past t k a.number →
    AskNames s past t k (reply_if_fresh s number t a outage running)
fresh_law s past number t k a outage running h =
    pick_law (AskNames s past t k) (not (is_found a.answered)) (replies.Gone a.number)
    (if is_past_midpoint s t a && is_renewable outage running then replies.Refresh a.number number else replies.Fresh a.number)
    (λ _. h)
    (λ _. pick_law (AskNames s past t k) (is_past_midpoint s t a && is_renewable outage running) (replies.Refresh a.number number) (replies.Fresh a.number) (λ _. h) (λ _. h))

newest_law : (s : Settings) (past : List Entry) (number t : ℕ) (k : Key) (x : Option Standing) (outage running : Option ℕ) → HasCleanNewest past k → newest past k ≡ x → outage_at s.offline_timeout past t ≡ outage →
    AskNames s past t k (reply_by_newest s past number t x outage running)
newest_law s past number t k None outage running clean n h = stale_law s past number t k None outage running h
newest_law s past number t k (Some a) outage running clean n h =
    pick_law (AskNames s past t k) (is_fresh s past t a) (reply_if_fresh s number t a outage running) (reply_unless_fresh number (Some a) outage running)
    (λ f. fresh_law s past number t k a outage running (fresh_answer s past t k a clean n f))
    (λ _. stale_law s past number t k (Some a) outage running h)

ask_law : (s : Settings) (past : List Entry) (number t : ℕ) (k : Key) → HasCleanNewest past k → AskNames s past t k (reply_to_ask s past number t k)
ask_law s past number t k clean =
    pick_law (AskNames s past t k) (is_filtered s k) replies.Filtered
    (reply_by_newest s past number t (newest past k) (outage_at s.offline_timeout past t) (open_for past k)) (λ _. tt)
    (λ _. newest_law s past number t k (newest past k) (outage_at s.offline_timeout past t) (open_for past k) clean refl refl)

pub names_fresh : (s : Settings) (past : List Entry) (next number t : ℕ) (event : Event) → falls_from next past ≡ true → are_asked_since past ≡ true →
    NamesFresh s past t event (reply_to s past number t event)
names_fresh s past next number t (events.Ask k) f h = ask_law s past number t k (λ a. unvoided_since_asking next past k a f h)
names_fresh s past next number t _ f h = tt

-- a law of verdicts holds of a choice where it holds of both, each under its condition
pick_verdict : (L : Verdict → Type 0) (b : Bool) (f g : Verdict) → (b ≡ true → L f) → (b ≡ false → L g) → L (if b then f else g)
pick_verdict L true f g h k = h refl
pick_verdict L false f g h k = k refl

-- what is said of a verdict on a guess of the user
abbrev Waits : Settings → List Entry → ℕ → List ℕ → Verdict → Type 0
Waits s past t user verdict = WrongNames s past t user (replies.Judged verdict)

guess_waits : (s : Settings) (past : List Entry) (t : ℕ) (user : List ℕ) (l : Login) (named : ℕ) (right : Bool) → IsAfterBlock s past t user →
    Waits s past t user (verdict_by_guess l named right)
guess_waits s past t user l named right h =
    pick_verdict (Waits s past t user) (not (l.number == named)) (verdicts.Stale l.number) (if right then verdicts.Accepted else verdicts.Wrong) (λ _. tt)
    (λ _. pick_verdict (Waits s past t user) right verdicts.Accepted verdicts.Wrong (λ _. tt) (λ _. h))

-- where wrong guesses are counted, there is a last one
counted_by : (a : Bool) (w c m : ℕ) (l : Option ℕ) → (c ≢ 0 → l ≢ None) → (if a then 0 else w + c) ≢ 0 → (if w == 0 then l else Some m) ≢ None
counted_by true w c m l f h e = h refl
counted_by false w c m l f h e = at_zero (w == 0) refl e
  where
    at_zero : (z : Bool) → (w == 0) ≡ z → (if z then l else Some m) ≡ None → ⊥
    at_zero true is e = f (λ none. h (grind (arith, nat_tests, is, none))) e
    at_zero false is e = cc

counted_wrong : (past : List Entry) (user : List ℕ) → wrong_count past user ≢ 0 → last_wrong past user ≢ None
counted_wrong [] user h e = h refl
counted_wrong (x ∷ past) user h e =
    counted_by (accepts past user x.event x.reply) (wrongs user x.event x.reply) (wrong_count past user) x.moment (last_wrong past user) (counted_wrong past user) h e

-- guesses that do not block ask for no wait
below_limit : (s : Settings) (past : List Entry) (t : ℕ) (user : List ℕ) → is_at_limit s (wrong_count past user) ≡ false → IsAfterBlock s past t user
below_limit s past t user h = record {
  delayed = λ a w d. absurd (not_at_limit a w d);
  waited = λ wrong a w d l. absurd (not_at_limit a w d);
}
  where
    not_at_limit : s.attempts ≢ 0 → wrong_count past user ≢ 0 → wrong_count past user % s.attempts ≡ 0 → ⊥
    not_at_limit a w d = grind (arith, nat_tests, h, a, w, d)

after_delay : (s : Settings) (past : List Entry) (t : ℕ) (user : List ℕ) (m : ℕ) → last_wrong past user ≡ Some m → (s.delay_minutes == 0) ≡ false →
    nat_lt t (m + 60 * s.delay_minutes) ≡ false → IsAfterBlock s past t user
after_delay s past t user m is z l = record {
  delayed = λ a w d. has_delay;
  waited = λ wrong a w d last. subst (λ n. n + 60 * s.delay_minutes ≤ t) (same_moment m wrong (sym is ∙ last)) over;
}
  where
    has_delay : s.delay_minutes ≢ 0
    has_delay = grind (arith, nat_tests, z)

    over : m + 60 * s.delay_minutes ≤ t
    over = grind (arith, nat_tests, l)

    same_moment : (m n : ℕ) → Some m ≡ Some n → m ≡ n
    same_moment m n e = cc

until_waits : (s : Settings) (past : List Entry) (t : ℕ) (user : List ℕ) (last : Option ℕ) (l : Login) (named : ℕ) (right : Bool) → last_wrong past user ≡ last →
    wrong_count past user ≢ 0 → Waits s past t user (verdict_unless_blocked (block_until s t last) l named right)
until_waits s past t user None l named right is w = absurd (counted_wrong past user w is)
until_waits s past t user (Some m) l named right is w =
    pick_block (s.delay_minutes == 0) (nat_lt t (m + 60 * s.delay_minutes)) (verdicts.Blocked None) (verdicts.Blocked (Some (min (m + 60 * s.delay_minutes) (2 ^ 64 - 1)))) tt tt
    (λ z b. guess_waits s past t user l named right (after_delay s past t user m is z b))
  where
    pick_block : (z b : Bool) (f g : Verdict) → Waits s past t user f → Waits s past t user g →
        (z ≡ false → b ≡ false → Waits s past t user (verdict_by_guess l named right)) →
        Waits s past t user (verdict_unless_blocked (if z then Some f else if b then Some g else None) l named right)
    pick_block true b f g h k r = h
    pick_block false true f g h k r = k
    pick_block false false f g h k r = r refl refl

block_waits : (s : Settings) (past : List Entry) (t : ℕ) (user : List ℕ) (b : Bool) (l : Login) (named : ℕ) (right : Bool) → is_at_limit s (wrong_count past user) ≡ b →
    Waits s past t user (verdict_unless_blocked (if b then block_until s t (last_wrong past user) else None) l named right)
block_waits s past t user true l named right is = until_waits s past t user (last_wrong past user) l named right refl (some_wrong s (wrong_count past user) is)
  where
    some_wrong : (s : Settings) (w : ℕ) → is_at_limit s w ≡ true → w ≢ 0
    some_wrong s w h = grind (arith, nat_tests, h)
block_waits s past t user false l named right is = guess_waits s past t user l named right (below_limit s past t user is)

hash_waits : (s : Settings) (past : List Entry) (t : ℕ) (user : List ℕ) (x : Option Login) (named : ℕ) (right : Bool) →
    Waits s past t user (verdict_by_hash s t (wrong_count past user) (last_wrong past user) x named right)
hash_waits s past t user None named right = tt
hash_waits s past t user (Some l) named right =
    pick_verdict (Waits s past t user) (is_expired s t l) (verdicts.Expired (expiry_of s l))
    (verdict_unless_blocked (block_of s t (wrong_count past user) (last_wrong past user)) l named right) (λ _. tt)
    (λ _. block_waits s past t user (is_at_limit s (wrong_count past user)) l named right refl)

pub waits_for_block : (s : Settings) (past : List Entry) (number t : ℕ) (event : Event) → WaitsForBlock s past t event (reply_to s past number t event)
waits_for_block s past number t (events.LoginGuess user named right) = hash_waits s past t user (usable_hash s past user) named right
waits_for_block s past number t _ = tt
