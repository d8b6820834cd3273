-- What a forget keeps of an orderly journal shows all that the whole does, and is orderly.
use Rattle.std.proofs.Common.{◌≡◌, ℕ, ◌≤◌, ◌+◌, Bool, true, false, List, [], ◌∷◌, length, arith, refl, sym, ap, subst, ◌∙◌, inl, inr}
use Rattle.std.specs.Prelude.{Option, Some, None, not, is_some, ◌⊎◌, ◌&&◌, ◌||◌, if◌then◌else◌}
use Rattle.sd_rules.specs.declared.events.Event.{Event}
use Rattle.sd_rules.specs.declared.events.Event.TheVariants as events
use Rattle.sd_rules.specs.declared.replies.Entry.{Entry}
use Rattle.sd_rules.specs.declared.replies.Reply.{Reply}
use Rattle.sd_rules.specs.Past.{records_outage, ends_outage}
use Rattle.sd_rules.specs.Requests.{closes, is_open, is_open_request, is_open_attempt, reserves, joined, waits_for, outcome_of}
use Rattle.sd_rules.specs.Servers.{is_online}
use Rattle.sd_rules.specs.Steps.{number_after, moment_after}
use Rattle.sd_rules.specs.TextBytes.{bytes_of_event, text_bytes}
use Rattle.sd_rules.specs.Needed.{is_number, answer_of_outcome, is_stop, is_looked_at, is_read_with, read_with, is_needed, needed}
use Rattle.sd_forgetting.specs.Parts.{part, entry_at, last_entry, IsAt}
use Rattle.sd_forgetting.specs.Orderly.{named_by, is_below, leads_or_other, are_leads, names_leads, is_ask, entry_fits, entries_fit, is_answer, holds_answer, is_word, last_word, closed_or_open, head_is_open, IsNewestAnswer, IsOrderly}
use Rattle.sd_forgetting.specs.Kept.{SameOpen, SameAnswers, SameTickets, SameLogins, SameEnds, IsKeptOf}
use Rattle.sd_forgetting.proofs.Tests.{not_true, both, or_left, or_right, either, first_holds, second_holds, cases, clash, if_true, if_false, same_number}
use Rattle.sd_forgetting.proofs.Places.{needed_is_part, part_law, keeps_if, falls_in_part}
use Rattle.sd_forgetting.proofs.Lasts.{number_in, where_is_entry, last_same, last_of_both}
use Rattle.sd_forgetting.proofs.Opens.{requests_same, attempts_same, leads_same}
use Rattle.sd_forgetting.proofs.Answers.{newest_looked, newest_same, answers_same}
use Rattle.sd_forgetting.proofs.Marks.{is_last_by}
use Rattle.sd_forgetting.proofs.Voids.{voided_same, since_same}
use Rattle.sd_forgetting.proofs.Tickets.{tickets_same, joins_same, outcomes_same, named_same}
use Rattle.sd_forgetting.proofs.Logins.{logins_same, online_same, hashes_same, hashed_same}
use Rattle.sd_forgetting.proofs.Guesses.{wrongs_same, last_wrongs_same}
use Rattle.sd_forgetting.proofs.Servers.{moments_in_part, lately_same, falls_same, picks_same}
use Rattle.sd_forgetting.proofs.Reasons.{by_answer, by_void, by_open, by_serving, by_fall, by_online, by_outage, by_waiting, by_served, by_login, by_wrong, by_stop, by_last}
use Rattle.sd_forgetting.proofs.Whys.{outage_number, outage_by_word, read_there, lead_why, join_why, wrong_why}

-- what reserves a place
pub reserving_kept : (keep : List Entry → Entry → Bool) (r : ℕ → Bool) (xs : List Entry) → ((e : Entry) (past : List Entry) → IsAt xs e past → r e.number ≡ true → keep past e ≡ true) →
    part (λ before (e : Entry). r e.number) xs ≡ part (λ before (e : Entry). r e.number) (part keep xs)
reserving_kept keep r [] k = refl
reserving_kept keep r (x ∷ xs) k =
    let rest = reserving_kept keep r xs (λ e past at. k e past (inr at)) in
    keeps_if (part (λ before (e : Entry). r e.number)) (keep xs x) x (part keep xs) (part (λ before (e : Entry). r e.number) (x ∷ xs))
    (λ _. ap (λ (l : List Entry). if r x.number then x ∷ l else l) rest)
    (λ dropped. cases (r x.number)
    (λ h. clash (keep xs x) (k x xs (inl (refl, refl)) h) dropped)
    (λ h. if_false (r x.number) (x ∷ part (λ before (e : Entry). r e.number) xs) (part (λ before (e : Entry). r e.number) xs) h ∙ rest))

pub reserving_same : (r s : ℕ → Bool) → ((n : ℕ) → r n ≡ s n) → (xs : List Entry) → part (λ before (e : Entry). r e.number) xs ≡ part (λ before (e : Entry). s e.number) xs
reserving_same r s h [] = refl
reserving_same r s h (x ∷ xs) =
    ap (λ (b : Bool). if b then x ∷ part (λ before (e : Entry). r e.number) xs else part (λ before (e : Entry). r e.number) xs) (h x.number)
    ∙ ap (λ (l : List Entry). if s x.number then x ∷ l else l) (reserving_same r s h xs)

-- a part is no longer
shorter_part : (keep : List Entry → Entry → Bool) (xs : List Entry) → length (part keep xs) ≤ length xs
shorter_part keep [] = omega arith
shorter_part keep (x ∷ xs) =
    let rest = shorter_part keep xs in
    part_law (λ (l : List Entry). length l ≤ length (x ∷ xs)) (keep xs x) x (part keep xs) (λ _. omega arith) (λ _. omega arith)

less_text : (keep : List Entry → Entry → Bool) (xs : List Entry) → text_bytes (part keep xs) ≤ text_bytes xs
less_text keep [] = omega arith
less_text keep (x ∷ xs) =
    let rest = less_text keep xs in
    part_law (λ (l : List Entry). text_bytes l ≤ bytes_of_event x.event + text_bytes xs) (keep xs x) x (part keep xs)
    (λ _. more_text (bytes_of_event x.event) (text_bytes (part keep xs)) (text_bytes xs) rest)
    (λ _. plus_text (bytes_of_event x.event) (text_bytes (part keep xs)) (text_bytes xs) rest)
  where
    more_text : (a b c : ℕ) → b ≤ c → a + b ≤ a + c
    more_text a b c h = omega arith

    plus_text : (a b c : ℕ) → b ≤ c → b ≤ a + c
    plus_text a b c h = omega arith

-- what entries are about is as well in a part
leads_in_part : (keep : List Entry → Entry → Bool) (n : ℕ) (xs : List Entry) → are_leads n xs ≡ true → are_leads n (part keep xs) ≡ true
leads_in_part keep n [] f = refl
leads_in_part keep n (x ∷ xs) f =
    let rest = leads_in_part keep n xs (second_holds (leads_or_other n x) (are_leads n xs) f) in
    part_law (λ (l : List Entry). are_leads n l ≡ true) (keep xs x) x (part keep xs)
    (λ _. both (leads_or_other n x) (are_leads n (part keep xs)) (first_holds (leads_or_other n x) (are_leads n xs) f) rest)
    (λ _. rest)

names_in_part : (keep : List Entry → Entry → Bool) (o : Option ℕ) (xs : List Entry) → names_leads o xs ≡ true → names_leads o (part keep xs) ≡ true
names_in_part keep None xs f = refl
names_in_part keep (Some n) xs f = leads_in_part keep n xs f

fits_once : (a b c d : Bool) → ((a && b) && d) ≡ true → (b ≡ true → c ≡ true) → ((a && c) && d) ≡ true
fits_once true true c true h f = both c true (f refl) refl
fits_once true true c false h f = absurd (not_true h)
fits_once true false c d h f = absurd (not_true h)
fits_once false b c d h f = absurd (not_true h)

entry_in_part : (keep : List Entry → Entry → Bool) (past : List Entry) (e : Entry) → entry_fits past e ≡ true → entry_fits (part keep past) e ≡ true
entry_in_part keep past e f =
    fits_once (is_below (named_by e.event e.reply) e.number) (names_leads (named_by e.event e.reply) past) (names_leads (named_by e.event e.reply) (part keep past))
    (not (is_some (joined e.reply)) || is_ask e.event) f (names_in_part keep (named_by e.event e.reply) past)

fits_in_part : (keep : List Entry → Entry → Bool) (xs : List Entry) → entries_fit xs ≡ true → entries_fit (part keep xs) ≡ true
fits_in_part keep [] f = refl
fits_in_part keep (x ∷ xs) f =
    let rest = fits_in_part keep xs (second_holds (entry_fits xs x) (entries_fit xs) f) in
    part_law (λ (l : List Entry). entries_fit l ≡ true) (keep xs x) x (part keep xs)
    (λ _. both (entry_fits (part keep xs) x) (entries_fit (part keep xs)) (entry_in_part keep xs x (first_holds (entry_fits xs x) (entries_fit xs) f)) rest)
    (λ _. rest)

-- what ends an outage is an answer, or the operator's word
ends_kind : (event : Event) (reply : Reply) → ends_outage event reply ≡ true → (is_answer event reply ≡ true) ⊎ (is_online event ≡ true)
ends_kind (events.Answer r answered) reply h = inl h
ends_kind events.Online reply h = inr refl
ends_kind _ reply h = absurd (not_true h)

online_ends : (event : Event) (reply : Reply) → is_online event ≡ true → (records_outage event reply || ends_outage event reply) ≡ true
online_ends events.Online reply h = refl
online_ends _ reply h = absurd (not_true h)

-- the last entry is kept
head_kept : (e : Entry) (past : List Entry) → is_needed (e ∷ past) past e ≡ true
head_kept e past = or_left (is_looked_at (e ∷ past) past e) (is_read_with (e ∷ past) e (e ∷ past)) (by_last (e ∷ past) past e (same_number e.number))

head_part : (e : Entry) (past : List Entry) → part (is_needed (e ∷ past)) (e ∷ past) ≡ e ∷ part (is_needed (e ∷ past)) past
head_part e past =
    if_true (is_needed (e ∷ past) past e) (e ∷ part (is_needed (e ∷ past)) past) (part (is_needed (e ∷ past)) past) (head_kept e past)

same_numbers : (all : List Entry) (next : ℕ) → number_after next all ≡ number_after next (part (is_needed all) all)
same_numbers [] next = refl
same_numbers (e ∷ past) next = sym (ap (number_after next) (head_part e past))

same_moments : (all : List Entry) (floor t : ℕ) → moment_after floor all t ≡ moment_after floor (part (is_needed all) all) t
same_moments [] floor t = refl
same_moments (e ∷ past) floor t = sym (ap (λ (l : List Entry). moment_after floor l t) (head_part e past))

module _ (next : ℕ) (all : List Entry) (o : IsOrderly next all) where
  abbrev looked : List Entry → Entry → Bool
  looked past e = is_looked_at all past e

  abbrev keep : List Entry → Entry → Bool
  keep past e = is_needed all past e

  kept_as : (e : Entry) (past : List Entry) → is_looked_at all past e ≡ true → is_needed all past e ≡ true
  kept_as e past h = or_left (is_looked_at all past e) (is_read_with all e all) h

  lead_kept : (other : Entry) (q : List Entry) (r : ℕ) (x : Entry) (p : List Entry) → IsAt all other q → is_looked_at all q other ≡ true → read_with other.event other.reply ≡ Some r →
      IsAt all x p → x.number ≡ r → is_needed all p x ≡ true
  lead_kept other q r x p at look reads there is =
      or_right (is_looked_at all p x) (is_read_with all x all) (read_there all x other q r all at look reads is)

  open_kept : (e : Entry) (past : List Entry) → IsAt all e past → is_open all e.number ≡ true → is_needed all past e ≡ true
  open_kept e past at h = kept_as e past (by_open all past e h)

  waiting_kept : (e : Entry) (past : List Entry) → IsAt all e past → is_some (waits_for all e.number) ≡ true → is_needed all past e ≡ true
  waiting_kept e past at h = kept_as e past (by_waiting all past e h)

  reserved_kept : (e : Entry) (past : List Entry) → IsAt all e past → reserves all e.number ≡ true → is_needed all past e ≡ true
  reserved_kept e past at h = either (is_open all e.number) (is_some (waits_for all e.number)) h (open_kept e past at) (waiting_kept e past at)

  same_requests : (n : ℕ) → is_open_request all n ≡ is_open_request (part (is_needed all) all) n
  same_requests = requests_same all (is_needed all) next o.numbers open_kept (lead_why next all o)

  same_attempts : (n : ℕ) → is_open_attempt all n ≡ is_open_attempt (part (is_needed all) all) n
  same_attempts = attempts_same all (is_needed all) next o.numbers open_kept (lead_why next all o)

  same_waiting : (t : ℕ) → waits_for all t ≡ waits_for (part (is_needed all) all) t
  same_waiting = tickets_same all (is_needed all) waiting_kept (join_why next all o)

  same_reserves : (n : ℕ) → reserves all n ≡ reserves (part (is_needed all) all) n
  same_reserves n =
      ap (λ (b : Bool). (b || is_open_attempt all n) || is_some (waits_for all n)) (same_requests n)
      ∙ (ap (λ (b : Bool). (is_open_request (part (is_needed all) all) n || b) || is_some (waits_for all n)) (same_attempts n)
      ∙ ap (λ (w : Option ℕ). is_open (part (is_needed all) all) n || is_some w) (same_waiting n))

  opens : SameOpen all (part (is_needed all) all)
  opens = record {
    reserved = reserving_kept (is_needed all) (reserves all) all reserved_kept ∙ reserving_same (reserves all) (reserves (part (is_needed all) all)) same_reserves (part (is_needed all) all);
    requests = same_requests;
    attempts = same_attempts;
    leads = leads_same all (is_needed all) next o.numbers open_kept (lead_why next all o);
    falls = λ n i h. falls_same all (is_needed all) (λ e past at s. kept_as e past (by_serving all past e s)) n h i;
    picks = λ n i h. picks_same all (is_needed all) (λ e past at s. kept_as e past (by_serving all past e s)) n h i;
    voids = λ n own answered h. since_same all (is_looked_at all) (is_needed all) next o.numbers (λ e past at s. kept_as e past s) (λ e past at s. by_void all past e s)
        (λ e past at s. by_open all past e s) (λ e past at s. by_serving all past e s) n own answered h;
  }

  answers : SameAnswers all (part (is_needed all) all)
  answers = record {
    is_newest = newest_same all (is_looked_at all) (is_needed all) next o.numbers (λ e past at s. by_answer all past e s) (λ e past at s. kept_as e past s) lead_kept;
    voided = λ k a h. voided_same all (is_looked_at all) (is_needed all) next o.numbers (λ e past at s. kept_as e past s) (λ e past at s. by_void all past e s)
        (λ e past at s. by_answer all past e s) k a h;
    entries = answers_same all (is_looked_at all) (is_needed all) next o.numbers (λ e past at s. by_answer all past e s) (λ e past at s. kept_as e past s) lead_kept;
  }

  tickets : SameTickets all (part (is_needed all) all)
  tickets = record {
    waiting = same_waiting;
    joins = joins_same all (is_needed all) waiting_kept;
    outcomes = λ t r w c. outcomes_same all (is_needed all) waiting_kept (λ e past at s. kept_as e past (by_served all past e s)) t r w;
    named = λ t r n w c h. named_same all (is_needed all) waiting_kept (λ e past at s. kept_as e past (by_served all past e s)) t r w n h;
  }

  logins : SameLogins all (part (is_needed all) all)
  logins = record {
    hashes = hashes_same all (is_looked_at all) (is_needed all) next o.numbers (λ e past at s. by_login all past e s) (λ e past at s. kept_as e past s) lead_kept;
    hashed = hashed_same all (is_looked_at all) (is_needed all) next o.numbers (λ e past at s. by_login all past e s) (λ e past at s. kept_as e past s) lead_kept;
    logins = logins_same all (is_looked_at all) (is_needed all) next o.numbers (λ e past at s. by_login all past e s) (λ e past at s. kept_as e past s) lead_kept;
    online = online_same all (is_looked_at all) (is_needed all) next o.numbers (λ e past at s. by_login all past e s) (λ e past at s. kept_as e past s) lead_kept;
    wrongs = λ user. wrongs_same all (is_needed all) next o.numbers (λ e past at s. kept_as e past (by_wrong all past e s)) user (wrong_why next all o user);
    last_wrongs = λ user. last_wrongs_same all (is_needed all) next o.numbers (λ e past at s. kept_as e past (by_wrong all past e s)) user (wrong_why next all o user);
  }

  word_kept : (e : Entry) (past : List Entry) → IsAt all e past → is_word e ≡ true → last_word all ≡ Some e → is_needed all past e ≡ true
  word_kept e past at h is =
      cases (records_outage e.event e.reply)
      (λ r. kept_as e past (by_outage all past e
      (ap (is_number e.number) (outage_by_word all ∙ (ap outage_number is ∙ if_true (records_outage e.event e.reply) (Some e.number) None r)) ∙ same_number e.number)))
      (λ r. either (records_outage e.event e.reply) (ends_outage e.event e.reply) h (λ s. clash (records_outage e.event e.reply) s r)
      (λ s. elim (ends_kind e.event e.reply s) [
        | inl a ↦ (let n = o.ended e is a in kept_as e past (by_answer all past e (newest_looked all next o.numbers n.own n.answer n.is_newest e past at (sym n.number))))
        | inr l ↦ kept_as e past (by_online all past e
            (is_last_by (λ (x : Entry). is_online x.event) all e l
            (last_of_both (λ (x : Entry). is_online x.event) is_word (λ x. online_ends x.event x.reply) e l all is)))
      ]))

  stop_kept : (e : Entry) (past : List Entry) → IsAt all e past → is_stop e.event ≡ true → last_entry (λ (x : Entry). is_stop x.event) all ≡ Some e → is_needed all past e ≡ true
  stop_kept e past at h is =
      kept_as e past (by_stop all past e (is_last_by (λ (x : Entry). is_stop x.event) all e h (where_is_entry (λ (x : Entry). is_stop x.event) all ∙ ap number_in is)))

  ends : SameEnds all (part (is_needed all) all)
  ends = record {
    lately = λ t i. lately_same all (is_needed all) (λ e past at s. kept_as e past (by_online all past e s)) (λ e past at s. kept_as e past (by_fall all past e s)) t i o.latest o.moments;
    word = last_same (is_needed all) is_word all word_kept;
    stopped =
        ap is_some (where_is_entry (λ (x : Entry). is_stop x.event) all
        ∙ (ap number_in (last_same (is_needed all) (λ (x : Entry). is_stop x.event) all stop_kept)
        ∙ sym (where_is_entry (λ (x : Entry). is_stop x.event) (part (is_needed all) all))));
    number = same_numbers all;
    moment = same_moments all;
  }

  kept_part : IsKeptOf all (part (is_needed all) all)
  kept_part = record {
    opens = opens;
    answers = answers;
    tickets = tickets;
    logins = logins;
    ends = ends;
    shorter = shorter_part (is_needed all) all;
    texts = less_text (is_needed all) all;
  }

  -- what a forget keeps shows what the whole journal shows
  pub needed_kept : IsKeptOf all (needed all)
  needed_kept = subst (IsKeptOf all) (sym (needed_is_part all all)) kept_part

pub open_both : (w p : List Entry) → SameOpen w p → (n : ℕ) → is_open w n ≡ is_open p n
open_both w p s n =
    ap (λ (b : Bool). b || is_open_attempt w n) (s.requests n) ∙ ap (λ (b : Bool). is_open_request p n || b) (s.attempts n)

head_same : (w p : List Entry) (e : Entry) (r : Option ℕ) → SameOpen w p → closed_or_open e w r ≡ closed_or_open e p r
head_same w p e None s = refl
head_same w p e (Some n) s = ap (λ (b : Bool). closes e.event e.reply n || b) (open_both w p s n)

-- what ended the last outage, and what tickets will take, by what is shown alike
pub ended_kept : (w p : List Entry) → IsKeptOf w p → ((e : Entry) → last_word w ≡ Some e → is_answer e.event e.reply ≡ true → IsNewestAnswer w e.number) →
    (e : Entry) → last_word p ≡ Some e → is_answer e.event e.reply ≡ true → IsNewestAnswer p e.number
ended_kept w p k f e is h =
    let n = f e (k.ends.word ∙ is) h in
    record { own = n.own; answer = n.answer; is_newest = sym (k.answers.is_newest n.own) ∙ n.is_newest; number = n.number }

pub named_kept : (w p : List Entry) → IsKeptOf w p →
    ((t r n : ℕ) → waits_for w t ≡ Some r → is_open_request w r ≡ false → answer_of_outcome (outcome_of w r) ≡ Some n → holds_answer (entry_at w n) ≡ true) →
    (t r n : ℕ) → waits_for p t ≡ Some r → is_open_request p r ≡ false → answer_of_outcome (outcome_of p r) ≡ Some n → holds_answer (entry_at p n) ≡ true
named_kept w p k f t r n waits closed names =
    let waits' = k.tickets.waiting t ∙ waits in
    let closed' = k.opens.requests r ∙ closed in
    let names' = ap answer_of_outcome (k.tickets.outcomes t r waits' closed') ∙ names in
    sym (ap holds_answer (k.tickets.named t r n waits' closed' names')) ∙ f t r n waits' closed' names'

head_open_part : (all : List Entry) → SameOpen all (part (is_needed all) all) → head_is_open all ≡ true → head_is_open (part (is_needed all) all) ≡ true
head_open_part [] s h = refl
head_open_part (e ∷ past) s h =
    let same : SameOpen (e ∷ past) (e ∷ part (is_needed (e ∷ past)) past) = subst (SameOpen (e ∷ past)) (head_part e past) s in
    ap head_is_open (head_part e past)
    ∙ (sym (head_same (e ∷ past) (e ∷ part (is_needed (e ∷ past)) past) e (read_with e.event e.reply) same) ∙ h)

-- what a forget keeps is orderly
pub needed_orderly : (next : ℕ) (all : List Entry) → IsOrderly next all → IsOrderly next (needed all)
needed_orderly next all o =
    let k = kept_part next all o in
    subst (IsOrderly next) (sym (needed_is_part all all))
    (record {
      numbers = falls_in_part (is_needed all) next next all o.numbers (omega arith);
      latest = o.latest;
      moments = moments_in_part (is_needed all) o.latest o.latest all o.moments (omega arith);
      fits = fits_in_part (is_needed all) all o.fits;
      head = head_open_part all k.opens o.head;
      ended = ended_kept all (part (is_needed all) all) k o.ended;
      named = named_kept all (part (is_needed all) all) k o.named;
    })
