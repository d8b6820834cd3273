-- Pasts that are alike give the same reply to every event.
use Rattle.std.proofs.Common.{◌≡◌, ◌≢◌, ℕ, ◌+◌, ◌-◌, ◌≤◌, Bool, true, false, List, [], ◌∷◌, arith, refl, ap, ◌∙◌}
use Rattle.std.specs.Prelude.{Option, Some, None, find, not, nat_lt, ◌==◌, ◌&&◌, ◌||◌, if◌then◌else◌}
use Rattle.std.specs.List.{range_with_len}
use Rattle.std.proofs.lemmas.Bool.Decides.{nat_tests}
use Rattle.sd_rules.specs.declared.keys.Key.{Key}
use Rattle.sd_rules.specs.declared.keys.Key.TheVariants as keys
use Rattle.sd_rules.specs.declared.records.Answered.{Answered}
use Rattle.sd_rules.specs.declared.events.Event.{Event}
use Rattle.sd_rules.specs.declared.events.Event.TheVariants as events
use Rattle.sd_rules.specs.declared.replies.Entry.{Entry}
use Rattle.sd_rules.specs.declared.replies.Outcome.{Outcome}
use Rattle.sd_rules.specs.declared.replies.Reply.{Reply}
use Rattle.sd_rules.specs.declared.replies.Reply.TheVariants as replies
use Rattle.sd_rules.specs.declared.replies.Verdict.TheVariants as verdicts
use Rattle.sd_rules.specs.declared.settings.AccessMode.{AccessMode}
use Rattle.sd_rules.specs.declared.settings.AccessMode.TheVariants as modes
use Rattle.sd_rules.specs.declared.settings.Settings.{Settings}
use Rattle.sd_rules.specs.Access.{access_by, asker_of, groups_in_answer, groups_of_host, groups_of_user, host_groups_in_answer, reply_by_book, reply_by_lists, reply_by_rules, simple_allows, user_groups, Asker}
use Rattle.sd_rules.specs.Answers.{is_filtered, reply_by_newest, reply_if_fresh, reply_to_ask, reply_unless_fresh, timeout_of}
use Rattle.sd_rules.specs.Logins.{Login, block_of, block_until, cached_login, expiry_of, is_at_limit, is_expired, verdict_unless_blocked, hash_entry, last_online_login, last_wrong, only_hashed, still_cached, usable_hash, usable_login, user_of, verdict_by_hash, verdict_by_login, verdict_of, wrong_count}
use Rattle.sd_rules.specs.Past.{Standing, is_voided, key_of, newest, outage_at}
use Rattle.sd_rules.specs.Requests.{is_open, is_open_request, is_open_attempt, open_for, outcome_of, waits_for}
use Rattle.sd_rules.specs.Servers.{has_fallen_under, has_fallen_lately, is_down, picked_server, was_picked}
use Rattle.sd_rules.specs.Steps.{outage_outcome, outcome_in_outage, reply_by_cached, reply_by_pick, reply_by_void, reply_to, reply_to_answer, reply_to_closing_outage, reply_to_collect, reply_to_leave, reply_to_login, reply_to_look, reply_to_outage, reply_to_try}
use Rattle.sd_restart.specs.Alike.{Alike, IsSameAnswer, SameAnswer, SameLogin}

-- a choice by equal tests, of what is equal where it is chosen
pub same_choice : {X : Type 0} (b c : Bool) (x y z : X) → b ≡ c → (b ≡ true → x ≡ y) → (if b then x else z) ≡ (if c then y else z)
same_choice true true x y z e f = f refl
same_choice false false x y z e f = refl
same_choice true false x y z e f = cc
same_choice false true x y z e f = cc

pub same_either : (a b c d : Bool) → a ≡ c → b ≡ d → (a || b) ≡ (c || d)
same_either a b c d e f = cc

pub open_request_open : (past : List Entry) (n : ℕ) → is_open_request past n ≡ true → is_open past n ≡ true
open_request_open past n h = either (is_open_request past n) (is_open_attempt past n) h
  where
    either : (a b : Bool) → a ≡ true → (a || b) ≡ true
    either true b h = refl
    either false b h = cc

pub open_attempt_open : (past : List Entry) (n : ℕ) → is_open_attempt past n ≡ true → is_open past n ≡ true
open_attempt_open past n h = either (is_open_request past n) (is_open_attempt past n) h
  where
    either : (a b : Bool) → b ≡ true → (a || b) ≡ true
    either true b h = refl
    either false b h = h

pub same_open : (from next : ℕ) (p q : List Entry) → Alike from next p q → (n : ℕ) → is_open p n ≡ is_open q n
same_open from next p q h n =
    same_either (is_open_request p n) (is_open_attempt p n) (is_open_request q n) (is_open_attempt q n) (h.request n) (h.attempt n)

-- what is read of an answer, and how it is invalidated
by_answer : {X : Type 0} (next : ℕ) (p q : List Entry) (a b : Standing) (f : ℕ → ℕ → Key → Answered → Bool → X) → IsSameAnswer next p q a b →
    f a.number a.moment a.own a.answered (is_voided p a) ≡ f b.number b.moment b.own b.answered (is_voided q b)
by_answer next p q a b f h =
    ap (λ n. f n a.moment a.own a.answered (is_voided p a)) h.number
    ∙ (ap (λ m. f b.number m a.own a.answered (is_voided p a)) h.moment
    ∙ (ap (λ k. f b.number b.moment k a.answered (is_voided p a)) h.own
    ∙ (ap (λ x. f b.number b.moment b.own x (is_voided p a)) h.answered
    ∙ ap (λ v. f b.number b.moment b.own b.answered v) h.voided)))

-- an answer by its parts
abbrev standing : ℕ → ℕ → Key → Answered → Standing
standing n m own answered = record { number = n; moment = m; own = own; answered = answered; marked = false }

-- questions
abbrev fresh_reply : Settings → ℕ → ℕ → Option ℕ → Option ℕ → ℕ → ℕ → Key → Answered → Bool → Reply
fresh_reply s number t outage running n m own answered voided =
    if not voided && nat_lt (t - m) (timeout_of s (standing n m own answered))
    then reply_if_fresh s number t (standing n m own answered) outage running
    else reply_unless_fresh number (Some (standing n m own answered)) outage running

same_newest_reply : (s : Settings) (next number t : ℕ) (p q : List Entry) (a b : Option Standing) (outage running : Option ℕ) → SameAnswer next p q a b →
    reply_by_newest s p number t a outage running ≡ reply_by_newest s q number t b outage running
same_newest_reply s next number t p q None None outage running h = refl
same_newest_reply s next number t p q (Some a) (Some b) outage running h = by_answer next p q a b (fresh_reply s number t outage running) h
same_newest_reply s next number t p q None (Some b) outage running h = absurd h
same_newest_reply s next number t p q (Some a) None outage running h = absurd h

same_ask : (s : Settings) (from next number t : ℕ) (p q : List Entry) (k : Key) → Alike from next p q → reply_to_ask s p number t k ≡ reply_to_ask s q number t k
same_ask s from next number t p q k h =
    let running : open_for p k ≡ open_for q k = h.seek p q h.request (λ n o. h.open_from n (open_request_open p n o)) k in
    ap (λ x. if is_filtered s k then replies.Filtered else x)
    (ap (λ o. reply_by_newest s p number t (newest p k) o (open_for p k)) (h.outage s.offline_timeout t)
    ∙ (ap (λ r. reply_by_newest s p number t (newest p k) (outage_at s.offline_timeout q t) r) running
    ∙ same_newest_reply s next number t p q (newest p k) (newest q k) (outage_at s.offline_timeout q t) (open_for q k) (h.answer k)))

-- servers
same_find : (f g : ℕ → Bool) → ((x : ℕ) → f x ≡ g x) → (xs : List ℕ) → find f xs ≡ find g xs
same_find f g h [] = refl
same_find f g h (x ∷ xs) = ap (λ b. if b then Some x else find f xs) (h x) ∙ ap (λ y. if g x then Some x else y) (same_find f g h xs)

same_picked : (s : Settings) (from next t : ℕ) (p q : List Entry) → Alike from next p q → (n : ℕ) → from ≤ n → picked_server s p n t ≡ picked_server s q n t
same_picked s from next t p q h n le =
    same_find (λ i. not (is_down p n t i)) (λ i. not (is_down q n t i))
    (λ i. ap not (same_either (has_fallen_under p n i) (has_fallen_lately p t i) (has_fallen_under q n i) (has_fallen_lately q t i) (h.fell_under n i le) (h.fell t i)))
    (range_with_len 0 (s.primaries + s.backups))

-- answers
same_void_reply : (from next : ℕ) (p q : List Entry) (r : ℕ) (own : Option Key) (answered : Answered) → Alike from next p q → is_open_request p r ≡ true →
    reply_to_answer p r own answered ≡ reply_to_answer q r own answered
same_void_reply from next p q r None answered h o = refl
same_void_reply from next p q r (Some own) answered h o = ap reply_by_void (h.void r own answered o)

same_answer_reply : (from next : ℕ) (p q : List Entry) (r : ℕ) (answered : Answered) → Alike from next p q → is_open_request p r ≡ true →
    reply_to_answer p r (key_of p r) answered ≡ reply_to_answer q r (key_of q r) answered
same_answer_reply from next p q r answered h o =
    same_void_reply from next p q r (key_of p r) answered h o ∙ ap (λ k. reply_to_answer q r k answered) (h.key r o)

-- outages
abbrev shut_by : ℕ → ℕ → ℕ → Key → Answered → Bool → Outcome
shut_by number n m own answered voided = outage_outcome number (Some (standing n m own answered))

same_outage_outcome : (next number : ℕ) (p q : List Entry) (a b : Option Standing) → SameAnswer next p q a b → outage_outcome number a ≡ outage_outcome number b
same_outage_outcome next number p q None None h = refl
same_outage_outcome next number p q (Some a) (Some b) h = by_answer next p q a b (shut_by number) h
same_outage_outcome next number p q None (Some b) h = absurd h
same_outage_outcome next number p q (Some a) None h = absurd h

same_in_outage : (from next number : ℕ) (p q : List Entry) (k : Option Key) → Alike from next p q → outcome_in_outage p number k ≡ outcome_in_outage q number k
same_in_outage from next number p q None h = refl
same_in_outage from next number p q (Some k) h = same_outage_outcome next number p q (newest p k) (newest q k) (h.answer k)

same_shut : (from next number : ℕ) (p q : List Entry) (n : ℕ) → Alike from next p q → reply_to_closing_outage p number n ≡ reply_to_closing_outage q number n
same_shut from next number p q n h =
    same_choice (is_open_request p n) (is_open_request q n) (replies.Shut (outcome_in_outage p number (key_of p n))) (replies.Shut (outcome_in_outage q number (key_of q n))) replies.Closed
    (h.request n)
    (λ o. ap (λ x. replies.Shut x) (same_in_outage from next number p q (key_of p n) h ∙ ap (λ k. outcome_in_outage q number k) (h.key n o)))

same_to_outage : (from next number : ℕ) (p q : List Entry) (n : ℕ) (server : Option ℕ) → Alike from next p q → reply_to_outage p number n server ≡ reply_to_outage q number n server
same_to_outage from next number p q n None h = same_shut from next number p q n h
same_to_outage from next number p q n (Some server) h = refl

-- tickets
same_took : (from next : ℕ) (p q : List Entry) (r : ℕ) → Alike from next p q → from ≤ r → reply_to_collect p (Some r) ≡ reply_to_collect q (Some r)
same_took from next p q r h le = taken (is_open_request p r) (is_open_request q r) (h.request r) (h.outcome r le).same
  where
    taken : (a b : Bool) → a ≡ b → outcome_of p r ≡ outcome_of q r →
        (if a then replies.NotYet r else replies.Took (outcome_of p r)) ≡ (if b then replies.NotYet r else replies.Took (outcome_of q r))
    taken true true e f = refl
    taken false false e f = ap (λ o. replies.Took o) f
    taken true false e f = cc
    taken false true e f = cc

same_collect_by : (from next : ℕ) (p q : List Entry) (w : Option ℕ) → Alike from next p q → ((r : ℕ) → w ≡ Some r → from ≤ r) →
    reply_to_collect p w ≡ reply_to_collect q w
same_collect_by from next p q None h f = refl
same_collect_by from next p q (Some r) h f = same_took from next p q r h (f r refl)

-- logins
pub same_login : (next : ℕ) (p q : List Entry) (l m : Option Login) → SameLogin next p q l m → l ≡ m
same_login next p q None None h = refl
same_login next p q (Some l) (Some m) h = ap (λ x. Some x) h.same
same_login next p q None (Some m) h = absurd h
same_login next p q (Some l) None h = absurd h

pub same_usable_login : (s : Settings) (from next : ℕ) (p q : List Entry) (user : List ℕ) → Alike from next p q → usable_login s p user ≡ usable_login s q user
same_usable_login s from next p q user h =
    ap (λ l. if s.cache_credentials then only_hashed l else None) (same_login next p q (last_online_login p user) (last_online_login q user) (h.login user))

pub same_usable_hash : (s : Settings) (from next : ℕ) (p q : List Entry) (user : List ℕ) → Alike from next p q → usable_hash s p user ≡ usable_hash s q user
same_usable_hash s from next p q user h =
    ap (λ l. if s.cache_credentials then l else None) (same_login next p q (hash_entry p user) (hash_entry q user) (h.hash user))

same_cached : (s : Settings) (from next t : ℕ) (p q : List Entry) (user : List ℕ) → Alike from next p q → cached_login s p t user ≡ cached_login s q t user
same_cached s from next t p q user h =
    ap (λ l. if s.cached_auth_timeout == 0 then None else still_cached s t l) (same_usable_login s from next p q user h)

same_login_reply : (s : Settings) (from next number t : ℕ) (p q : List Entry) (user : List ℕ) (outage : Option ℕ) → Alike from next p q →
    reply_to_login s p number t user outage ≡ reply_to_login s q number t user outage
same_login_reply s from next number t p q user None h = ap (reply_by_cached number) (same_cached s from next t p q user h)
same_login_reply s from next number t p q user (Some o) h = refl

-- the moment of the last wrong guess counts only where some do
same_block : (s : Settings) (t w : ℕ) (m n : Option ℕ) → (w ≢ 0 → m ≡ n) → block_of s t w m ≡ block_of s t w n
same_block s t w m n f =
    same_choice (is_at_limit s w) (is_at_limit s w) (block_until s t m) (block_until s t n) None refl (λ limit. ap (block_until s t) (f (some_wrong limit)))
  where
    some_wrong : is_at_limit s w ≡ true → w ≢ 0
    some_wrong h = grind (arith, nat_tests, h)

same_by_hash : (s : Settings) (t w : ℕ) (m n : Option ℕ) (l : Option Login) (named : ℕ) (right : Bool) → (w ≢ 0 → m ≡ n) →
    verdict_by_hash s t w m l named right ≡ verdict_by_hash s t w n l named right
same_by_hash s t w m n None named right f = refl
same_by_hash s t w m n (Some l) named right f =
    ap (λ b. if is_expired s t l then verdicts.Expired (expiry_of s l) else verdict_unless_blocked b l named right) (same_block s t w m n f)

same_verdict : (s : Settings) (from next t : ℕ) (p q : List Entry) (user : List ℕ) (named : ℕ) (right : Bool) → Alike from next p q →
    verdict_of s p t user named right ≡ verdict_of s q t user named right
same_verdict s from next t p q user named right h =
    same_by_hash s t (wrong_count p user) (last_wrong p user) (last_wrong q user) (usable_hash s p user) named right (h.wrong user)
    ∙ (ap (λ w. verdict_by_hash s t w (last_wrong q user) (usable_hash s p user) named right) (h.wrongs user)
    ∙ ap (λ l. verdict_by_hash s t (wrong_count q user) (last_wrong q user) l named right) (same_usable_hash s from next p q user h))

same_try : (s : Settings) (from next t : ℕ) (p q : List Entry) (user : Option (List ℕ)) (named : ℕ) (right : Bool) → Alike from next p q →
    reply_to_try s p t named right user ≡ reply_to_try s q t named right user
same_try s from next t p q None named right h = refl
same_try s from next t p q (Some user) named right h =
    ap (λ l. replies.Tried (verdict_by_login s t l named right)) (same_usable_login s from next p q user h)

-- account checks
pub same_groups : (next : ℕ) (p q : List Entry) (a b : Option Standing) → SameAnswer next p q a b → groups_of_user a ≡ groups_of_user b
same_groups next p q None None h = refl
same_groups next p q (Some a) (Some b) h = ap groups_in_answer h.answered
same_groups next p q None (Some b) h = absurd h
same_groups next p q (Some a) None h = absurd h

same_host_groups : (next : ℕ) (p q : List Entry) (a b : Option Standing) → SameAnswer next p q a b → groups_of_host a ≡ groups_of_host b
same_host_groups next p q None None h = refl
same_host_groups next p q (Some a) (Some b) h = ap host_groups_in_answer h.answered
same_host_groups next p q None (Some b) h = absurd h
same_host_groups next p q (Some a) None h = absurd h

same_asker : (s : Settings) (from next : ℕ) (p q : List Entry) (user service : List ℕ) → Alike from next p q → asker_of s p user service ≡ asker_of s q user service
same_asker s from next p q user service h =
    let groups = same_groups next p q (newest p (keys.GroupsOf user)) (newest q (keys.GroupsOf user)) (h.answer (keys.GroupsOf user)) in
    let hosts = same_host_groups next p q (newest p keys.Host) (newest q keys.Host) (h.answer keys.Host) in
    ap (λ (g : List (List ℕ)). let who : Asker = record { user = user; groups = g; service = service; host = s.hostname; host_groups = groups_of_host (newest p keys.Host) } in who) groups
    ∙ ap (λ (g : List (List ℕ)). let who : Asker = record { user = user; groups = user_groups q user; service = service; host = s.hostname; host_groups = g } in who) hosts

same_by_rules : (next : ℕ) (p q : List Entry) (who : Asker) (a b : Option Standing) → SameAnswer next p q a b → reply_by_rules who a ≡ reply_by_rules who b
same_by_rules next p q who None None h = refl
same_by_rules next p q who (Some a) (Some b) h =
    ap (λ n. reply_by_book who n a.answered) h.number ∙ ap (λ x. reply_by_book who b.number x) h.answered
same_by_rules next p q who None (Some b) h = absurd h
same_by_rules next p q who (Some a) None h = absurd h

same_access : (mode : AccessMode) (s : Settings) (from next : ℕ) (p q : List Entry) (user service : List ℕ) → Alike from next p q →
    access_by mode s p user service ≡ access_by mode s q user service
same_access modes.Permit s from next p q user service h = refl
same_access modes.Deny s from next p q user service h = refl
same_access modes.Simple s from next p q user service h =
    ap (λ g. reply_by_lists (simple_allows s.simple user g)) (same_groups next p q (newest p (keys.GroupsOf user)) (newest q (keys.GroupsOf user)) (h.answer (keys.GroupsOf user)))
same_access modes.Ipa s from next p q user service h =
    ap (λ who. reply_by_rules who (newest p keys.Rules)) (same_asker s from next p q user service h)
    ∙ same_by_rules next p q (asker_of s q user service) (newest p keys.Rules) (newest q keys.Rules) (h.answer keys.Rules)

-- pasts that are alike reply alike
pub same_reply : (s : Settings) (from next number t : ℕ) (p q : List Entry) (event : Event) → Alike from next p q → reply_to s p number t event ≡ reply_to s q number t event
same_reply s from next number t p q (events.Ask k) h = same_ask s from next number t p q k h
same_reply s from next number t p q (events.Pick n) h =
    same_choice (is_open p n) (is_open q n) (reply_by_pick (picked_server s p n t)) (reply_by_pick (picked_server s q n t)) replies.NoRequest
    (same_open from next p q h n) (λ o. ap reply_by_pick (same_picked s from next t p q h n (h.open_from n o)))
same_reply s from next number t p q (events.Fall n i why) h =
    same_choice (is_open p n) (is_open q n) (if was_picked p n i then replies.Noted else replies.NotPicked) (if was_picked q n i then replies.Noted else replies.NotPicked) replies.NoRequest
    (same_open from next p q h n) (λ o. ap (λ b. if b then replies.Noted else replies.NotPicked) (h.picked n i (h.open_from n o)))
same_reply s from next number t p q (events.Answer r answered) h =
    same_choice (is_open_request p r) (is_open_request q r) (reply_to_answer p r (key_of p r) answered) (reply_to_answer q r (key_of q r) answered) replies.NoRequest
    (h.request r) (λ o. same_answer_reply from next p q r answered h o)
same_reply s from next number t p q (events.Refuse r refusal) h =
    ap (λ b. if b then replies.Closed else replies.NoRequest) (h.request r)
same_reply s from next number t p q (events.Outage n) h =
    same_choice (is_open p n) (is_open q n) (reply_to_outage p number n (picked_server s p n t)) (reply_to_outage q number n (picked_server s q n t)) replies.NoRequest
    (same_open from next p q h n)
    (λ o. ap (λ x. reply_to_outage p number n x) (same_picked s from next t p q h n (h.open_from n o)) ∙ same_to_outage from next number p q n (picked_server s q n t) h)
same_reply s from next number t p q (events.Abandon n) h =
    ap (λ b. if b then replies.Closed else replies.NoRequest) (same_open from next p q h n)
same_reply s from next number t p q (events.Collect ticket) h =
    same_collect_by from next p q (waits_for p ticket) h (h.waits_from ticket) ∙ ap (λ w. reply_to_collect q w) (h.waits ticket)
same_reply s from next number t p q (events.Leave ticket) h = ap reply_to_leave (h.waits ticket)
same_reply s from next number t p q (events.Void what) h = refl
same_reply s from next number t p q events.Offline h = refl
same_reply s from next number t p q events.Online h = refl
same_reply s from next number t p q events.Stop h = refl
same_reply s from next number t p q (events.LoginOpen user) h =
    ap (λ o. reply_to_login s p number t user o) (h.outage s.offline_timeout t) ∙ same_login_reply s from next number t p q user (outage_at s.offline_timeout q t) h
same_reply s from next number t p q (events.LoginOnline a result) h =
    ap (λ b. if b then replies.Closed else replies.NoRequest) (h.attempt a)
same_reply s from next number t p q (events.LoginLook user) h = ap reply_to_look (same_usable_hash s from next p q user h)
same_reply s from next number t p q (events.LoginGuess user named right) h =
    ap (λ v. replies.Judged v) (same_verdict s from next t p q user named right h)
same_reply s from next number t p q (events.LoginTry a named right) h =
    same_choice (is_open_attempt p a) (is_open_attempt q a) (reply_to_try s p t named right (user_of p a)) (reply_to_try s q t named right (user_of q a)) replies.NoRequest
    (h.attempt a) (λ o. same_try s from next t p q (user_of p a) named right h ∙ ap (λ u. reply_to_try s q t named right u) (h.user a o))
same_reply s from next number t p q (events.Access user service) h = same_access s.access s from next p q user service h
same_reply s from next number t p q (events.Kept row) h = refl
