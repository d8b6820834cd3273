-- The bound on the moves of tasks that run is never used up: each move takes a place of the journal or ends a client.
use Rattle.std.proofs.Common.{◌≡◌, ◌∙◌, ℕ, zero, suc, Bool, true, false, ◌&&◌, ◌||◌, ◌+◌, ◌-◌, ◌<◌, ◌≤◌, ◌++◌, cond, not, if◌then◌else◌, slice_get, slice_set, length, List, [], ◌∷◌, Option, Some, None, Result, Ok, Err, refl, ap, sym, subst, arith}
use Rattle.sd_rules.specs.declared.events.Event.{Event}
use Rattle.sd_rules.specs.declared.events.Event.TheVariants as events
use Rattle.sd_rules.specs.declared.replies.Entry.{Entry}
use Rattle.sd_rules.specs.declared.replies.Given.{Given}
use Rattle.sd_rules.specs.declared.settings.Settings.{Settings}
use Rattle.sd_rules.specs.Scripts.{awaits_reply, is_saying}
use Rattle.sd_rules.specs.Steps.{Daemon, after, full_count, given, is_full}
use Rattle.sd_world.specs.Clients.{Client, asked, is_end, is_settled, need_of}
use Rattle.sd_world.specs.Tasks.{World, Act, Endless, ◌>>=◌, abandoned, act_of, at_text, client_left_at, client_left_by, client_moved_at, client_moved_by, gone_act, happened, has_ended_at, is_ready, is_ready_at, left_at, left_by, most_moves, move_at, moved, moves_at, next_up, run_from, run_on, ticket_left, with_act}
use Rattle.sd_world.specs.Transcript.{forgot}
use Rattle.sd_world.proofs.MoveLaws.{Bounded, IsMove, bounded_as, bounded_then, moved_bounded, ready_is_open}
use Rattle.sd_world.proofs.RoomLaws.{AreNumbered, entries_within, numbered_after, numbered_forgot, places_few, places_of}

-- ---- what lasts from line to line

-- a client whose last need is to be told something, as one that logs in with an empty password
abbrev pub is_last_word : Client → Bool
is_last_word c = is_saying (need_of c) && is_end (need_of (asked c))

abbrev pub is_poised : Client → Bool
is_poised c = is_settled c || is_last_word c

abbrev pub EachPoised : List Client → Type 0
EachPoised [] = Unit {0}
EachPoised (c ∷ cs) = (is_poised c ≡ true) × EachPoised cs

-- The limit is that of the daemon's settings, the numbers of its journal fall, and each client has ended, needs an event, or is to be
-- told the one thing and then ends.
pub record IsBounded (w : World) : Type 0 where
  pub limit : w.limit ≡ w.daemon.settings.journal_limit
  pub numbered : AreNumbered w.daemon
  pub poised : EachPoised w.clients

abbrev one_unless : Bool → ℕ
one_unless b = if b then 0 else 1

abbrev open_one : Client → ℕ
open_one c = one_unless c.is_over

abbrev pub open_clients : List Client → ℕ
open_clients [] = 0
open_clients (c ∷ cs) = open_one c + open_clients cs

-- the moves that are left: the places of the journal that are free, and the clients that have not ended
abbrev pub moves_left : World → ℕ
moves_left w = (places_of w.daemon - length w.daemon.past) + open_clients w.clients

-- ---- one client among the others

poised_set : (cs : List Client) (place : ℕ) (c : Client) → EachPoised cs → is_poised c ≡ true → EachPoised (slice_set cs place c)
poised_set [] place c h k = tt
poised_set (x ∷ cs) zero c h k = (k, h.1)
poised_set (x ∷ cs) (suc place) c h k = (h.0, poised_set cs place c h.1 k)

poised_at : (cs : List Client) (place : ℕ) (c : Client) → EachPoised cs → slice_get cs place ≡ Some c → is_poised c ≡ true
poised_at [] place c h at = cc
poised_at (x ∷ cs) zero c h at = let same : x ≡ c = cc in subst (λ (y : Client). is_poised y ≡ true) same h.0
poised_at (x ∷ cs) (suc place) c h at = poised_at cs place c h.1 at

pub poised_more : (cs : List Client) (c : Client) → EachPoised cs → is_poised c ≡ true → EachPoised (cs ++ c ∷ [])
poised_more [] c h k = (k, tt)
poised_more (x ∷ cs) c h k = (h.0, poised_more cs c h.1 k)

at_most_one : (b : Bool) → one_unless b ≤ 1
at_most_one true = omega arith
at_most_one false = omega arith

open_at_most : (cs : List Client) → open_clients cs ≤ length cs
open_at_most [] = omega arith
open_at_most (c ∷ cs) = let rest = open_at_most cs in let here = at_most_one c.is_over in omega (arith, rest, here)

one_if_open : (b : Bool) → b ≡ false → one_unless b ≡ 1
one_if_open true h = cc
one_if_open false h = refl

none_if_over : (b : Bool) → b ≡ true → one_unless b ≡ 0
none_if_over true h = refl
none_if_over false h = cc

open_set : (cs : List Client) (place : ℕ) (x c : Client) → slice_get cs place ≡ Some x → x.is_over ≡ false → open_clients (slice_set cs place c) + 1 ≡ open_clients cs + open_one c
open_set [] place x c at h = cc
open_set (y ∷ cs) zero x c at h =
    let same : y ≡ x = cc in
    let one : open_one y ≡ 1 = one_if_open y.is_over (ap (λ (z : Client). z.is_over) same ∙ h) in
    omega (arith, one)
open_set (y ∷ cs) (suc place) x c at h = let rest = open_set cs place x c at h in omega (arith, rest)

-- ---- a move lowers what is left

pub record IsLower (w v : World) : Type 0 where
  pub bounded : IsBounded v
  pub lower : moves_left v < moves_left w

poised_if_settled : (a b : Bool) → a ≡ true → (a || b) ≡ true
poised_if_settled true b h = refl
poised_if_settled false b h = cc

word_by : (o n l : Bool) → o ≡ false → n ≡ false → ((o || n) || l) ≡ true → l ≡ true
word_by true n l f g h = cc
word_by false true l f g h = cc
word_by false false l f g h = h

both_first : (a b : Bool) → (a && b) ≡ true → a ≡ true
both_first true b h = refl
both_first false b h = cc

both_second : (a b : Bool) → (a && b) ≡ true → b ≡ true
both_second true b h = h
both_second false b h = cc

lower_by_entry : (most least old new before now one : ℕ) → least ≤ most → new ≡ old + 1 → new ≤ least → now + 1 ≡ before + one → one ≤ 1 → (least - new) + now < (most - old) + before
lower_by_entry most least old new before now one l f g h i = omega (arith, l, f, g, h, i)

lower_by_end : (most least old new before now one : ℕ) → least ≤ most → new ≡ old → now + 1 ≡ before + one → one ≡ 0 → (least - new) + now < (most - old) + before
lower_by_end most least old new before now one l f h i = omega (arith, l, f, h, i)

move_bounded : (w : World) (place : ℕ) (c : Client) (a : Act) → IsBounded w → IsMove (need_of c) (act_of w c) a → IsBounded (with_act w place a)
move_bounded w place c a bounded m = record {
  limit = bounded.limit ∙ sym (ap (λ (s : Settings). s.journal_limit) m.settings);
  numbered = m.numbered bounded.numbered;
  poised = poised_set w.clients place a.client bounded.poised (poised_if_settled (is_settled a.client) (is_last_word a.client) m.settled);
}

lower_by : (w : World) (place : ℕ) (c : Client) (a : Act) (b : Bool) → awaits_reply (need_of c) ≡ b → slice_get w.clients place ≡ Some c → c.is_over ≡ false → IsBounded w
    → IsMove (need_of c) (act_of w c) a → moves_left (with_act w place a) < moves_left w
lower_by w place c a true is at alive bounded m =
    lower_by_entry (places_of w.daemon) (places_of a.daemon) (length w.daemon.past) (length a.daemon.past) (open_clients w.clients) (open_clients (slice_set w.clients place a.client)) (open_one a.client)
    (m.places bounded.numbered) (m.one is) (entries_within a.daemon) (open_set w.clients place c a.client at alive) (at_most_one a.client.is_over)
lower_by w place c a false is at alive bounded m =
    let word : is_last_word c ≡ true = word_by c.is_over (awaits_reply (need_of c)) (is_last_word c) alive is (poised_at w.clients place c bounded.poised at) in
    let over : a.client.is_over ≡ true = m.last (both_first (is_saying (need_of c)) (is_end (need_of (asked c))) word) (both_second (is_saying (need_of c)) (is_end (need_of (asked c))) word) in
    lower_by_end (places_of w.daemon) (places_of a.daemon) (length w.daemon.past) (length a.daemon.past) (open_clients w.clients) (open_clients (slice_set w.clients place a.client)) (open_one a.client)
    (m.places bounded.numbered) (m.none is) (open_set w.clients place c a.client at alive) (none_if_over a.client.is_over over)

client_lowers : (w : World) (place : ℕ) (o : Option Client) → slice_get w.clients place ≡ o → is_ready_at w.daemon.past o ≡ true → IsBounded w → Bounded (client_moved_by w place o) (IsLower w)
client_lowers w place None at ready bounded = let clash : ⊥ = cc in absurd clash
client_lowers w place (Some c) at ready bounded =
    bounded_then (moved w.site (place + 1) (act_of w c)) (λ a. Ok (with_act w place a)) (IsMove (need_of c) (act_of w c)) (IsLower w) (moved_bounded w.site (place + 1) (act_of w c))
    (λ a m. record {
      bounded = move_bounded w place c a bounded m;
      lower = lower_by w place c a (awaits_reply (need_of c)) refl at (ready_is_open c.is_over _ ready) bounded m;
    })

pub move_lowers : (w : World) (place : ℕ) → is_ready_at w.daemon.past (slice_get w.clients place) ≡ true → IsBounded w → Bounded (client_moved_at w place) (IsLower w)
move_lowers w place ready bounded = client_lowers w place (slice_get w.clients place) refl ready bounded

-- ---- tasks that run

over_not_ready : (past : List Entry) (c : Client) → c.is_over ≡ true → is_ready past c ≡ false
over_not_ready past c h = by_over c.is_over _ h
  where
    by_over : (o w : Bool) → o ≡ true → (not o && w) ≡ false
    by_over true w h = refl
    by_over false w h = cc

none_open_over : (b : Bool) (n : ℕ) → one_unless b + n ≤ 0 → b ≡ true
none_open_over true n h = refl
none_open_over false n h = absurd (omega (arith, h))

none_ready : (past : List Entry) (cs : List Client) (place : ℕ) → open_clients cs ≤ 0 → is_ready_at past (slice_get cs place) ≡ false
none_ready past [] place h = refl
none_ready past (c ∷ cs) zero h = over_not_ready past c (none_open_over c.is_over (open_clients cs) h)
none_ready past (c ∷ cs) (suc place) h = none_ready past cs place (rest_closed (open_one c) (open_clients cs) h)
  where
    rest_closed : (m n : ℕ) → m + n ≤ 0 → n ≤ 0
    rest_closed m n h = omega (arith, h)

spent : (w : World) (b : Bool) → b ≡ false → IsBounded w → Bounded (cond b (Err (Endless w.printed)) (Ok w)) IsBounded
spent w true h bounded = cc
spent w false h bounded = bounded

goes_on : (n : ℕ) (w : World) (last : ℕ) (b : Bool) → is_ready_at w.daemon.past (slice_get w.clients (next_up w last)) ≡ b → IsBounded w
    → ((v : World) → IsLower w v → Bounded (run_on n v (next_up w last)) IsBounded)
    → Bounded (cond b (client_moved_at w (next_up w last) >>= λ v. run_on n v (next_up w last)) (Ok w)) IsBounded
goes_on n w last true is bounded later =
    bounded_then (client_moved_at w (next_up w last)) (λ v. run_on n v (next_up w last)) (IsLower w) IsBounded (move_lowers w (next_up w last) is bounded) later
goes_on n w last false is bounded later = bounded

none_left : (m n : ℕ) → m + n ≤ 0 → n ≤ 0
none_left m n h = omega (arith, h)

one_less : (m k n : ℕ) → m < k → k ≤ suc n → m ≤ n
one_less m k n f g = omega (arith, f, g)

pub run_bounded : (n : ℕ) (w : World) (last : ℕ) → IsBounded w → moves_left w ≤ n → Bounded (run_on n w last) IsBounded
run_bounded zero w last bounded few =
    spent w (is_ready_at w.daemon.past (slice_get w.clients (next_up w last)))
    (none_ready w.daemon.past w.clients (next_up w last) (none_left (places_of w.daemon - length w.daemon.past) (open_clients w.clients) few)) bounded
run_bounded (suc n) w last bounded few =
    goes_on n w last (is_ready_at w.daemon.past (slice_get w.clients (next_up w last))) refl bounded
    (λ v low. run_bounded n v (next_up w last) low.bounded (one_less (moves_left v) (moves_left w) n low.lower few))

enough : (limit most n m k : ℕ) → most ≤ limit + n + n → m ≤ k → (most - n) + m ≤ limit + n + n + k
enough limit most n m k g h = omega (arith, g, h)

places_limited : (w : World) → IsBounded w → places_of w.daemon ≤ w.limit + length w.daemon.past + length w.daemon.past
places_limited w bounded =
    subst (λ (n : ℕ). places_of w.daemon ≤ n + length w.daemon.past + length w.daemon.past) (sym bounded.limit) (places_few w.daemon)

-- the bound is enough
pub runs_bounded : (w : World) (last : ℕ) → IsBounded w → Bounded (run_from w last) IsBounded
runs_bounded w last bounded =
    run_bounded (most_moves w) w last bounded
    (enough w.limit (places_of w.daemon) (length w.daemon.past) (open_clients w.clients) (length w.clients) (places_limited w bounded) (open_at_most w.clients))

-- ---- a client that makes so many moves, and one that leaves

move_at_bounded : (w : World) (place : ℕ) (b : Bool) → is_ready_at w.daemon.past (slice_get w.clients place) ≡ b → IsBounded w → Bounded (cond b (client_moved_at w place) (Ok w)) IsBounded
move_at_bounded w place true is bounded =
    bounded_as (client_moved_at w place) (IsLower w) IsBounded (move_lowers w place is bounded) (λ v low. low.bounded)
move_at_bounded w place false is bounded = bounded

pub moves_bounded : (count : ℕ) (w : World) (place : ℕ) → IsBounded w → Bounded (moves_at count w place) IsBounded
moves_bounded zero w place bounded = bounded
moves_bounded (suc count) w place bounded =
    bounded_then (move_at w place) (λ v. moves_at count v place) IsBounded IsBounded (move_at_bounded w place (is_ready_at w.daemon.past (slice_get w.clients place)) refl bounded)
    (λ v later. moves_bounded count v place later)

-- a daemon after steps whose replies nobody waits for
abbrev Kept : Daemon → Result Daemon ℕ → Type 0
Kept d (Ok e) = (AreNumbered d → AreNumbered e) × (e.settings ≡ d.settings)
Kept d (Err n) = Unit {0}

kept_then : (d : Daemon) (r : Result Daemon ℕ) (f : Daemon → Result Daemon ℕ) → Kept d r → ((e : Daemon) → Kept e (f e)) → Kept d (r >>= f)
kept_then d (Err n) f h g = tt
kept_then d (Ok e) f h g = kept_on d e (f e) h (g e)
  where
    kept_on : (d e : Daemon) (r : Result Daemon ℕ) → Kept d (Ok e) → Kept e r → Kept d r
    kept_on d e (Err n) h k = tt
    kept_on d e (Ok x) h k = (λ falls. k.0 (h.0 falls), k.1 ∙ h.1)

abbrev step_by : Daemon → ℕ → Event → Bool → Result (Daemon × Given) ℕ
step_by d now event full = if full then Err (full_count d) else Ok (after d now event, given d now event)

happened_by : (d : Daemon) (now : ℕ) (event : Event) (full : Bool) → is_full d event ≡ full → Kept d (step_by d now event full >>= λ s. Ok s.0)
happened_by d now event true is = tt
happened_by d now event false is = (numbered_after d now event, refl)

happened_kept : (d : Daemon) (now : ℕ) (event : Event) → Kept d (happened d now event)
happened_kept d now event = happened_by d now event (is_full d event) refl

abandoned_kept : (ns : List ℕ) (d : Daemon) (now : ℕ) → Kept d (abandoned ns d now)
abandoned_kept [] d now = (λ h. h, refl)
abandoned_kept (n ∷ ns) d now = kept_then d (happened d now (events.Abandon n)) (λ e. abandoned ns e now) (happened_kept d now (events.Abandon n)) (λ e. abandoned_kept ns e now)

ticket_kept : (ticket : Option ℕ) (d : Daemon) (now : ℕ) → Kept d (ticket_left ticket d now)
ticket_kept None d now = (λ h. h, refl)
ticket_kept (Some ticket) d now = happened_kept d now (events.Leave ticket)

left_kept : (c : Client) (d : Daemon) (now : ℕ) → Kept d (left_by c d now)
left_kept c d now = kept_then d (abandoned c.leads d now) (λ e. ticket_left c.ticket e now) (abandoned_kept c.leads d now) (λ e. ticket_kept c.ticket e now)

gone_bounded : (w : World) (place : ℕ) (c : Client) (r : Result Daemon ℕ) → Kept w.daemon r → IsBounded w
    → Bounded ((at_text w.printed r >>= λ d. Ok (gone_act (act_of w c) (place + 1) d)) >>= λ a. Ok (with_act w place a)) IsBounded
gone_bounded w place c (Err n) h bounded = tt
gone_bounded w place c (Ok d) h bounded = record {
  limit = bounded.limit ∙ sym (ap (λ (s : Settings). s.journal_limit) h.1);
  numbered = h.0 bounded.numbered;
  poised = poised_set w.clients place _ bounded.poised refl;
}

client_left_bounded : (w : World) (place : ℕ) (o : Option Client) → IsBounded w → Bounded (client_left_by w place o) IsBounded
client_left_bounded w place None bounded = bounded
client_left_bounded w place (Some c) bounded = gone_bounded w place c (left_by c w.daemon w.site.moment) (left_kept c w.daemon w.site.moment) bounded

left_at_by : (w : World) (place : ℕ) (b : Bool) → IsBounded w → Bounded (cond b (Ok w) (client_left_at w place)) IsBounded
left_at_by w place true bounded = bounded
left_at_by w place false bounded = client_left_bounded w place (slice_get w.clients place) bounded

pub left_bounded : (w : World) (place : ℕ) → IsBounded w → Bounded (left_at w place) IsBounded
left_bounded w place bounded = left_at_by w place (has_ended_at (slice_get w.clients place)) bounded

-- ---- an event of nobody

event_by : (w : World) (r : Result Daemon ℕ) → Kept w.daemon r → IsBounded w → Bounded (at_text w.printed r >>= λ d. Ok (record w { daemon = d })) IsBounded
event_by w (Err n) h bounded = tt
event_by w (Ok d) h bounded = record {
  limit = bounded.limit ∙ sym (ap (λ (s : Settings). s.journal_limit) h.1);
  numbered = h.0 bounded.numbered;
  poised = bounded.poised;
}

pub event_bounded : (w : World) (event : Event) → IsBounded w → Bounded (at_text w.printed (happened w.daemon w.site.moment event) >>= λ d. Ok (record w { daemon = d })) IsBounded
event_bounded w event bounded = event_by w (happened w.daemon w.site.moment event) (happened_kept w.daemon w.site.moment event) bounded

-- ---- a forget

pub forgot_bounded : (w : World) → IsBounded w → IsBounded (forgot w)
forgot_bounded w bounded = record { limit = bounded.limit; numbered = numbered_forgot w.daemon bounded.numbered; poised = bounded.poised }
