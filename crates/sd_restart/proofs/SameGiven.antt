-- What a reply names is known alike to pasts that are alike, so a step gives the same over both.
use Rattle.std.proofs.Common.{◌≡◌, ℕ, ◌≤◌, Bool, true, false, List, refl, sym, ap, subst, ◌∙◌}
use Rattle.std.specs.Prelude.{Option, Some, None, not, nat_lt, ◌==◌, ◌&&◌, if◌then◌else◌}
use Rattle.sd_rules.specs.declared.keys.Key.{Key}
use Rattle.sd_rules.specs.declared.keys.Key.TheVariants as keys
use Rattle.sd_rules.specs.declared.records.Answered.{Answered}
use Rattle.sd_rules.specs.declared.records.Answered.TheVariants.{Found, Absent}
use Rattle.sd_rules.specs.declared.records.Record.TheVariants as records
use Rattle.sd_rules.specs.declared.events.Event.{Event}
use Rattle.sd_rules.specs.declared.events.Event.TheVariants as events
use Rattle.sd_rules.specs.declared.replies.By.TheVariants as by
use Rattle.sd_rules.specs.declared.replies.Entry.{Entry}
use Rattle.sd_rules.specs.declared.replies.Given.{Given}
use Rattle.sd_rules.specs.declared.replies.NotBy.TheVariants as not_by
use Rattle.sd_rules.specs.declared.replies.Outcome.{Outcome}
use Rattle.sd_rules.specs.declared.replies.Outcome.TheVariants as outcomes
use Rattle.sd_rules.specs.declared.replies.Reply.{Reply}
use Rattle.sd_rules.specs.declared.replies.Reply.TheVariants as replies
use Rattle.sd_rules.specs.declared.settings.AccessMode.{AccessMode}
use Rattle.sd_rules.specs.declared.settings.AccessMode.TheVariants as modes
use Rattle.sd_rules.specs.declared.settings.Settings.{Settings}
use Rattle.sd_rules.specs.Access.{access_by, asker_of, granting_rule, reply_by_book, reply_by_rule, reply_by_rules, simple_allows, user_groups, Asker}
use Rattle.sd_rules.specs.Answers.{is_filtered, is_found, is_fresh, is_past_midpoint, is_renewable, reply_by_newest, reply_by_request, reply_if_fresh, reply_to_ask, reply_unless_fresh}
use Rattle.sd_rules.specs.Logins.{Login, cached_until, hash_entry, last_online_login, only_hashed, still_cached, user_of}
use Rattle.sd_rules.specs.Past.{Standing, key_of, newest, outage_at}
use Rattle.sd_rules.specs.Requests.{is_open, is_open_request, is_open_attempt, open_for, outcome_of, waits_for}
use Rattle.sd_rules.specs.Servers.{picked_server, was_picked}
use Rattle.sd_rules.specs.Steps.{answer_named, answer_named_by_outcome, event_named, given_by, hash_named, outage_outcome, outcome_in_outage, record_in, record_named, reply_by_cached, reply_by_pick, reply_by_void, reply_to, reply_to_answer, reply_to_collect, reply_to_leave, reply_to_login, reply_to_look, reply_to_outage, reply_to_try, rule_in, rule_named, void_since}
use Rattle.sd_restart.specs.Alike.{Alike, IsSameLogin, SameAnswer, SameHash, SameLogin, SameRecord}

abbrev pub OutcomeHeld : ℕ → List Entry → List Entry → Outcome → Type 0
OutcomeHeld next p q o = (n : ℕ) → answer_named_by_outcome o ≡ Some n → SameRecord next p q n

-- what a reply names says the same in both pasts
abbrev pub NamedAlike : ℕ → List Entry → List Entry → Reply → Type 0
NamedAlike next p q (replies.Fresh n) = SameRecord next p q n
NamedAlike next p q (replies.Refresh n request) = SameRecord next p q n
NamedAlike next p q (replies.Old n o) = SameRecord next p q n
NamedAlike next p q (replies.Shut outcome) = OutcomeHeld next p q outcome
NamedAlike next p q (replies.Took outcome) = OutcomeHeld next p q outcome
NamedAlike next p q (replies.Hash n) = SameHash next p q n
NamedAlike next p q (replies.Cached attempt n) = SameHash next p q n
NamedAlike next p q (replies.Granted (by.Rule n place)) = SameRecord next p q n
NamedAlike next p q _ = Unit {0}

-- a law of replies holds of a choice where it holds of both
pick : (L : Reply → Type 0) (b : Bool) (x y : Reply) → (b ≡ true → L x) → L y → L (if b then x else y)
pick L true x y f g = f refl
pick L false x y f g = g

-- questions
named_request : (next : ℕ) (p q : List Entry) (number : ℕ) (running : Option ℕ) → NamedAlike next p q (reply_by_request number running)
named_request next p q number None = tt
named_request next p q number (Some r) = tt

named_stale : (next : ℕ) (p q : List Entry) (number : ℕ) (a b : Option Standing) (outage running : Option ℕ) → SameAnswer next p q a b →
    NamedAlike next p q (reply_unless_fresh number a outage running)
named_stale next p q number a b None running h = named_request next p q number running
named_stale next p q number None b (Some o) running h = tt
named_stale next p q number (Some a) None (Some o) running h = absurd h
named_stale next p q number (Some a) (Some b) (Some o) running h =
    pick (NamedAlike next p q) (is_found a.answered) (replies.Old a.number o) (replies.OldGone a.number o) (λ _. h.held) tt

named_newest : (s : Settings) (next number t : ℕ) (p q : List Entry) (a b : Option Standing) (outage running : Option ℕ) → SameAnswer next p q a b →
    NamedAlike next p q (reply_by_newest s p number t a outage running)
named_newest s next number t p q None b outage running h = named_stale next p q number None b outage running h
named_newest s next number t p q (Some a) None outage running h = absurd h
named_newest s next number t p q (Some a) (Some b) outage running h =
    pick (NamedAlike next p q) (is_fresh s p t a) (reply_if_fresh s number t a outage running) (reply_unless_fresh number (Some a) outage running)
    (λ _. pick (NamedAlike next p q) (not (is_found a.answered)) (replies.Gone a.number)
    (if is_past_midpoint s t a && is_renewable outage running then replies.Refresh a.number number else replies.Fresh a.number) (λ _. tt)
    (pick (NamedAlike next p q) (is_past_midpoint s t a && is_renewable outage running) (replies.Refresh a.number number) (replies.Fresh a.number) (λ _. h.held) h.held))
    (named_stale next p q number (Some a) (Some b) outage running h)

named_ask : (s : Settings) (from next number t : ℕ) (p q : List Entry) (k : Key) → Alike from next p q → NamedAlike next p q (reply_to_ask s p number t k)
named_ask s from next number t p q k h =
    pick (NamedAlike next p q) (is_filtered s k) replies.Filtered
    (reply_by_newest s p number t (newest p k) (outage_at s.offline_timeout p t) (open_for p k)) (λ _. tt)
    (named_newest s next number t p q (newest p k) (newest q k) (outage_at s.offline_timeout p t) (open_for p k) (h.answer k))

-- servers and answers
named_pick : (next : ℕ) (p q : List Entry) (server : Option ℕ) → NamedAlike next p q (reply_by_pick server)
named_pick next p q None = tt
named_pick next p q (Some server) = tt

named_void : (next : ℕ) (p q : List Entry) (void : Option ℕ) → NamedAlike next p q (reply_by_void void)
named_void next p q None = tt
named_void next p q (Some n) = tt

named_answer : (next : ℕ) (p q : List Entry) (r : ℕ) (own : Option Key) (answered : Answered) → NamedAlike next p q (reply_to_answer p r own answered)
named_answer next p q r None answered = tt
named_answer next p q r (Some own) answered = named_void next p q (void_since p r own answered)

-- outages
some_number : (m n : ℕ) → Some m ≡ Some n → m ≡ n
some_number m n e = cc

held_number : (next : ℕ) (p q : List Entry) (m : ℕ) → SameRecord next p q m → (n : ℕ) → Some m ≡ Some n → SameRecord next p q n
held_number next p q m h n e = subst (SameRecord next p q) (some_number m n e) h

none_held : (next : ℕ) (p q : List Entry) (n : ℕ) → None ≡ Some n → SameRecord next p q n
none_held next p q n e = let clash : ⊥ = cc in absurd clash

held_outage : (next number : ℕ) (p q : List Entry) (a b : Option Standing) → SameAnswer next p q a b → OutcomeHeld next p q (outage_outcome number a)
held_outage next number p q None b h = none_held next p q
held_outage next number p q (Some a) None h = absurd h
held_outage next number p q (Some a) (Some b) h = found_or_gone (is_found a.answered)
  where
    found_or_gone : (f : Bool) → OutcomeHeld next p q (if f then outcomes.Old a.number number else outcomes.OldGone a.number number)
    found_or_gone true = held_number next p q a.number h.held
    found_or_gone false = none_held next p q

held_in_outage : (from next number : ℕ) (p q : List Entry) (k : Option Key) → Alike from next p q → OutcomeHeld next p q (outcome_in_outage p number k)
held_in_outage from next number p q None h = none_held next p q
held_in_outage from next number p q (Some k) h = held_outage next number p q (newest p k) (newest q k) (h.answer k)

named_outage : (from next number : ℕ) (p q : List Entry) (n : ℕ) (server : Option ℕ) → Alike from next p q → NamedAlike next p q (reply_to_outage p number n server)
named_outage from next number p q n (Some server) h = tt
named_outage from next number p q n None h =
    pick (NamedAlike next p q) (is_open_request p n) (replies.Shut (outcome_in_outage p number (key_of p n))) replies.Closed
    (λ _. held_in_outage from next number p q (key_of p n) h) tt

-- tickets
named_collect : (from next : ℕ) (p q : List Entry) (w : Option ℕ) → Alike from next p q → ((r : ℕ) → w ≡ Some r → from ≤ r) → NamedAlike next p q (reply_to_collect p w)
named_collect from next p q None h f = tt
named_collect from next p q (Some r) h f =
    pick (NamedAlike next p q) (is_open_request p r) (replies.NotYet r) (replies.Took (outcome_of p r)) (λ _. tt) ((h.outcome r (f r refl)).held)

named_leave : (next : ℕ) (p q : List Entry) (w : Option ℕ) → NamedAlike next p q (reply_to_leave w)
named_leave next p q None = tt
named_leave next p q (Some r) = tt

-- logins
abbrev CachedHeld : ℕ → List Entry → List Entry → Option ℕ → Type 0
CachedHeld next p q None = Unit {0}
CachedHeld next p q (Some n) = SameHash next p q n

held_if : (next : ℕ) (p q : List Entry) (b : Bool) (x : Option ℕ) → CachedHeld next p q x → CachedHeld next p q (if b then x else None)
held_if next p q true x h = h
held_if next p q false x h = tt

held_unless : (next : ℕ) (p q : List Entry) (b : Bool) (x : Option ℕ) → CachedHeld next p q x → CachedHeld next p q (if b then None else x)
held_unless next p q true x h = tt
held_unless next p q false x h = h

held_still : (s : Settings) (next t : ℕ) (p q : List Entry) (l m : Login) → IsSameLogin next p q l m → (b : Bool) →
    CachedHeld next p q (still_cached s t (if b then Some l else None))
held_still s next t p q l m h true = held_if next p q (nat_lt t (cached_until s l)) (Some l.number) h.held
held_still s next t p q l m h false = tt

held_cached : (s : Settings) (next t : ℕ) (p q : List Entry) (x y : Option Login) → SameLogin next p q x y → (b : Bool) →
    CachedHeld next p q (still_cached s t (if b then only_hashed x else None))
held_cached s next t p q x y h false = tt
held_cached s next t p q None y h true = tt
held_cached s next t p q (Some l) None h true = absurd h
held_cached s next t p q (Some l) (Some m) h true = held_still s next t p q l m h l.hashed

named_cached : (next number : ℕ) (p q : List Entry) (x : Option ℕ) → CachedHeld next p q x → NamedAlike next p q (reply_by_cached number x)
named_cached next number p q None h = tt
named_cached next number p q (Some n) h = h

named_login : (s : Settings) (from next number t : ℕ) (p q : List Entry) (user : List ℕ) (outage : Option ℕ) → Alike from next p q →
    NamedAlike next p q (reply_to_login s p number t user outage)
named_login s from next number t p q user (Some o) h = tt
named_login s from next number t p q user None h =
    named_cached next number p q (if s.cached_auth_timeout == 0 then None else still_cached s t (if s.cache_credentials then only_hashed (last_online_login p user) else None))
    (held_unless next p q (s.cached_auth_timeout == 0) (still_cached s t (if s.cache_credentials then only_hashed (last_online_login p user) else None))
    (held_cached s next t p q (last_online_login p user) (last_online_login q user) (h.login user) s.cache_credentials))

named_look : (next : ℕ) (p q : List Entry) (x y : Option Login) → SameLogin next p q x y → (b : Bool) → NamedAlike next p q (reply_to_look (if b then x else None))
named_look next p q x y h false = tt
named_look next p q None y h true = tt
named_look next p q (Some l) None h true = absurd h
named_look next p q (Some l) (Some m) h true = h.held

named_try : (s : Settings) (next t : ℕ) (p q : List Entry) (named : ℕ) (right : Bool) (user : Option (List ℕ)) → NamedAlike next p q (reply_to_try s p t named right user)
named_try s next t p q named right None = tt
named_try s next t p q named right (Some user) = tt

-- account checks
named_rule : (next : ℕ) (p q : List Entry) (n : ℕ) (place : Option ℕ) → SameRecord next p q n → NamedAlike next p q (reply_by_rule n place)
named_rule next p q n None h = tt
named_rule next p q n (Some place) h = h

named_book : (next : ℕ) (p q : List Entry) (who : Asker) (n : ℕ) (answered : Answered) → SameRecord next p q n → NamedAlike next p q (reply_by_book who n answered)
named_book next p q who n Absent h = tt
named_book next p q who n (Found (records.Rules book)) h = named_rule next p q n (granting_rule book who) h
named_book next p q who n (Found (records.User user)) h = tt
named_book next p q who n (Found (records.Group group)) h = tt
named_book next p q who n (Found (records.Groups groups)) h = tt
named_book next p q who n (Found (records.Host host)) h = tt

named_rules : (next : ℕ) (p q : List Entry) (who : Asker) (a b : Option Standing) → SameAnswer next p q a b → NamedAlike next p q (reply_by_rules who a)
named_rules next p q who None b h = tt
named_rules next p q who (Some a) None h = absurd h
named_rules next p q who (Some a) (Some b) h = named_book next p q who a.number a.answered h.held

named_access : (mode : AccessMode) (s : Settings) (from next : ℕ) (p q : List Entry) (user service : List ℕ) → Alike from next p q →
    NamedAlike next p q (access_by mode s p user service)
named_access modes.Permit s from next p q user service h = tt
named_access modes.Deny s from next p q user service h = tt
named_access modes.Simple s from next p q user service h =
    pick (NamedAlike next p q) (simple_allows s.simple user (user_groups p user)) (replies.Granted by.Simple) (replies.Denied not_by.Simple) (λ _. tt) tt
named_access modes.Ipa s from next p q user service h =
    named_rules next p q (asker_of s p user service) (newest p keys.Rules) (newest q keys.Rules) (h.answer keys.Rules)

pub named_alike : (s : Settings) (from next number t : ℕ) (p q : List Entry) (event : Event) → Alike from next p q → NamedAlike next p q (reply_to s p number t event)
named_alike s from next number t p q (events.Ask k) h = named_ask s from next number t p q k h
named_alike s from next number t p q (events.Pick n) h =
    pick (NamedAlike next p q) (is_open p n) (reply_by_pick (picked_server s p n t)) replies.NoRequest (λ _. named_pick next p q (picked_server s p n t)) tt
named_alike s from next number t p q (events.Fall n i why) h =
    pick (NamedAlike next p q) (is_open p n) (if was_picked p n i then replies.Noted else replies.NotPicked) replies.NoRequest
    (λ _. pick (NamedAlike next p q) (was_picked p n i) replies.Noted replies.NotPicked (λ _. tt) tt) tt
named_alike s from next number t p q (events.Answer r answered) h =
    pick (NamedAlike next p q) (is_open_request p r) (reply_to_answer p r (key_of p r) answered) replies.NoRequest
    (λ _. named_answer next p q r (key_of p r) answered) tt
named_alike s from next number t p q (events.Refuse r refusal) h =
    pick (NamedAlike next p q) (is_open_request p r) replies.Closed replies.NoRequest (λ _. tt) tt
named_alike s from next number t p q (events.Outage n) h =
    pick (NamedAlike next p q) (is_open p n) (reply_to_outage p number n (picked_server s p n t)) replies.NoRequest
    (λ _. named_outage from next number p q n (picked_server s p n t) h) tt
named_alike s from next number t p q (events.Abandon n) h = pick (NamedAlike next p q) (is_open p n) replies.Closed replies.NoRequest (λ _. tt) tt
named_alike s from next number t p q (events.Collect ticket) h = named_collect from next p q (waits_for p ticket) h (h.waits_from ticket)
named_alike s from next number t p q (events.Leave ticket) h = named_leave next p q (waits_for p ticket)
named_alike s from next number t p q (events.Void what) h = tt
named_alike s from next number t p q events.Offline h = tt
named_alike s from next number t p q events.Online h = tt
named_alike s from next number t p q events.Stop h = tt
named_alike s from next number t p q (events.LoginOpen user) h = named_login s from next number t p q user (outage_at s.offline_timeout p t) h
named_alike s from next number t p q (events.LoginOnline a result) h =
    pick (NamedAlike next p q) (is_open_attempt p a) replies.Closed replies.NoRequest (λ _. tt) tt
named_alike s from next number t p q (events.LoginLook user) h =
    named_look next p q (hash_entry p user) (hash_entry q user) (h.hash user) s.cache_credentials
named_alike s from next number t p q (events.LoginGuess user named right) h = tt
named_alike s from next number t p q (events.LoginTry a named right) h =
    pick (NamedAlike next p q) (is_open_attempt p a) (reply_to_try s p t named right (user_of p a)) replies.NoRequest
    (λ _. named_try s next t p q named right (user_of p a)) tt
named_alike s from next number t p q (events.Access user service) h = named_access s.access s from next p q user service h
named_alike s from next number t p q (events.Kept row) h = tt

-- so a step gives the same
same_outcome_record : (next : ℕ) (p q : List Entry) (o : Outcome) → OutcomeHeld next p q o →
    (r : Reply) → answer_named r ≡ answer_named_by_outcome o → record_named p r ≡ record_named q r
same_outcome_record next p q o h r e = by_name (answer_named r) e
  where
    by_name : (x : Option ℕ) → x ≡ answer_named_by_outcome o → record_in (event_named p x) ≡ record_in (event_named q x)
    by_name None e = refl
    by_name (Some n) e = (h n (sym e)).1

same_record : (next : ℕ) (p q : List Entry) (r : Reply) → NamedAlike next p q r → record_named p r ≡ record_named q r
same_record next p q (replies.Fresh n) h = h.1
same_record next p q (replies.Refresh n request) h = h.1
same_record next p q (replies.Old n o) h = h.1
same_record next p q (replies.Shut outcome) h = same_outcome_record next p q outcome h (replies.Shut outcome) refl
same_record next p q (replies.Took outcome) h = same_outcome_record next p q outcome h (replies.Took outcome) refl
same_record next p q _ h = refl

same_hash : (next : ℕ) (p q : List Entry) (r : Reply) → NamedAlike next p q r → hash_named p r ≡ hash_named q r
same_hash next p q (replies.Hash n) h = h.1
same_hash next p q (replies.Cached attempt n) h = h.1
same_hash next p q _ h = refl

same_rule : (next : ℕ) (p q : List Entry) (r : Reply) → NamedAlike next p q r → rule_named p r ≡ rule_named q r
same_rule next p q (replies.Granted (by.Rule n place)) h = ap (λ x. rule_in x place) h.1
same_rule next p q (replies.Granted by.Permit) h = refl
same_rule next p q (replies.Granted by.Simple) h = refl
same_rule next p q _ h = refl

pub same_given : (next number : ℕ) (p q : List Entry) (r : Reply) → NamedAlike next p q r → given_by p number r ≡ given_by q number r
same_given next number p q r h =
    let found = same_record next p q r h in
    let hash = same_hash next p q r h in
    let rule = same_rule next p q r h in
    ap (λ x. let g : Given = record { number = number; reply = r; found = x; hash = hash_named p r; rule = rule_named p r } in g) found
    ∙ (ap (λ x. let g : Given = record { number = number; reply = r; found = record_named q r; hash = x; rule = rule_named p r } in g) hash
    ∙ ap (λ x. let g : Given = record { number = number; reply = r; found = record_named q r; hash = hash_named q r; rule = x } in g) rule)
