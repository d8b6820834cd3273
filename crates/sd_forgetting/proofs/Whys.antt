-- Why a leading entry, a question that joined, or a wrong guess is kept by a forget.
use Rattle.std.proofs.Common.{◌≡◌, ℕ, ◌<◌, Bool, true, false, List, [], ◌∷◌, arith, refl, sym, ap, subst, ◌∙◌, inl, inr}
use Rattle.std.specs.Prelude.{Option, Some, None, not, is_some, nat_lt, ◌⊎◌, ◌==◌, ◌&&◌, ◌||◌, if◌then◌else◌}
use Rattle.sd_rules.specs.declared.replies.Entry.{Entry}
use Rattle.sd_rules.specs.Past.{or_else, records_outage, ends_outage}
use Rattle.sd_rules.specs.Requests.{closes, has_opened_request, has_opened_attempt, unclosed, is_open, is_open_request, joined, waits_for, ends_waiting, outcome_of}
use Rattle.sd_rules.specs.Servers.{is_online}
use Rattle.sd_rules.specs.Steps.{asks_again}
use Rattle.sd_rules.specs.Logins.{accepts, wrongs}
use Rattle.sd_rules.specs.Needed.{is_number, last_where, is_newest_of_some, serves_open, last_outage, closing_of, answer_of_outcome, serves_ticket, serves_waiting, is_login_needed, is_since_accepted, is_wrong_needed, user_guessed, is_stop, is_last, is_looked_at, is_answer_to, is_last_again, is_read_for, is_read_with, read_with, is_needed}
use Rattle.sd_forgetting.specs.Parts.{last_entry, IsAt, numbers_fall}
use Rattle.sd_forgetting.specs.Orderly.{is_below, leads_or_other, are_leads, names_leads, named_by, is_ask, is_lead, entry_fits, entries_fit, holds_answer, is_word, last_word, closed_or_open, head_is_open, IsOrderly}
use Rattle.sd_forgetting.proofs.Tests.{not_true, none_is_not, same_some, both, or_left, or_right, either, first_holds, second_holds, cases, is_false, if_true, if_false, same_number, equal_numbers, is_equal, is_less}
use Rattle.sd_forgetting.proofs.Places.{at_is_entry, one_of_number, numbers_below, older_before}
use Rattle.sd_forgetting.proofs.Opens.{Closer, opened_some, unclosed_at, closed_by}
use Rattle.sd_forgetting.proofs.Marks.{last_at}
use Rattle.sd_forgetting.proofs.Tickets.{waiter_at, outcome_from, outcome_is_from}
use Rattle.sd_forgetting.proofs.Guesses.{accepted_counts_none, whose_guess}
use Rattle.sd_forgetting.proofs.Reasons.{looked_why}
use Rattle.sd_forgetting.proofs.Quiet.{is_quiet, quiet_answers, quiet_voids, quiet_falls, quiet_online, quiet_stop, quiet_records, quiet_logs_in, quiet_holds, lead_joins, lead_quiet, lead_serves, lead_closes, lead_guesses, lead_again, ask_quiet, ask_serves, ask_closes, ask_guesses, ask_again, ask_ends, wrong_guess, guess_quiet, guess_serves, guess_closes, guess_leads, guess_asks, guess_again, reader_quiet, reader_leads, reader_asks, reader_guesses, reader_serves, closes_named, reader_named, reader_closes}

-- what an entry of an orderly journal is about
pub fits_at : (xs : List Entry) (e : Entry) (past : List Entry) → entries_fit xs ≡ true → IsAt xs e past → entry_fits past e ≡ true
fits_at [] e past f h = absurd h
fits_at (x ∷ xs) e past f (inl p) =
    ap (λ (z : Entry). entry_fits past z) (sym p.0) ∙ (ap (λ (l : List Entry). entry_fits l x) (sym p.1) ∙ first_holds (entry_fits xs x) (entries_fit xs) f)
fits_at (x ∷ xs) e past f (inr p) = fits_at xs e past (second_holds (entry_fits xs x) (entries_fit xs) f) p

named_below : (o : Option ℕ) (n m : ℕ) → o ≡ Some n → is_below o m ≡ true → n < m
named_below None n m is h = absurd (none_is_not n is)
named_below (Some k) n m is h =
    let low = is_less k m h in
    let same = same_some k n is in
    omega arith

named_leads : (o : Option ℕ) (n : ℕ) (past : List Entry) → o ≡ Some n → names_leads o past ≡ true → are_leads n past ≡ true
named_leads None n past is h = absurd (none_is_not n is)
named_leads (Some k) n past is h = ap (λ (m : ℕ). are_leads m past) (sym (same_some k n is)) ∙ h

-- what an entry is about has a lesser number, and was opened
pub about_below : (past : List Entry) (e : Entry) (n : ℕ) → entry_fits past e ≡ true → named_by e.event e.reply ≡ Some n → n < e.number
about_below past e n f is =
    named_below (named_by e.event e.reply) n e.number is
    (first_holds (is_below (named_by e.event e.reply) e.number) (names_leads (named_by e.event e.reply) past)
    (first_holds (is_below (named_by e.event e.reply) e.number && names_leads (named_by e.event e.reply) past) (not (is_some (joined e.reply)) || is_ask e.event) f))

pub about_leads : (past : List Entry) (e : Entry) (n : ℕ) → entry_fits past e ≡ true → named_by e.event e.reply ≡ Some n → are_leads n past ≡ true
about_leads past e n f is =
    named_leads (named_by e.event e.reply) n past is
    (second_holds (is_below (named_by e.event e.reply) e.number) (names_leads (named_by e.event e.reply) past)
    (first_holds (is_below (named_by e.event e.reply) e.number && names_leads (named_by e.event e.reply) past) (not (is_some (joined e.reply)) || is_ask e.event) f))

asks_if : (j a : Bool) → (not j || a) ≡ true → j ≡ true → a ≡ true
asks_if true a f h = f
asks_if false a f h = absurd (not_true h)

pub joins_by_asking : (past : List Entry) (e : Entry) → entry_fits past e ≡ true → is_some (joined e.reply) ≡ true → is_ask e.event ≡ true
joins_by_asking past e f h =
    asks_if (is_some (joined e.reply)) (is_ask e.event)
    (second_holds (is_below (named_by e.event e.reply) e.number && names_leads (named_by e.event e.reply) past) (not (is_some (joined e.reply)) || is_ask e.event) f) h

lead_if : (s l : Bool) → (not s || l) ≡ true → s ≡ true → l ≡ true
lead_if true l f h = f
lead_if false l f h = absurd (not_true h)

is_not : (b : Bool) → not b ≡ true → b ≡ false
is_not true h = absurd (not_true h)
is_not false h = refl

fits_among : (n : ℕ) (xs : List Entry) (e : Entry) (q : List Entry) → are_leads n xs ≡ true → IsAt xs e q → leads_or_other n e ≡ true
fits_among n [] e q f h = absurd h
fits_among n (x ∷ xs) e q f (inl p) = ap (leads_or_other n) (sym p.0) ∙ first_holds (leads_or_other n x) (are_leads n xs) f
fits_among n (x ∷ xs) e q f (inr p) = fits_among n xs e q (second_holds (leads_or_other n x) (are_leads n xs) f) p

pub lead_among : (n : ℕ) (xs : List Entry) (e : Entry) (q : List Entry) → are_leads n xs ≡ true → IsAt xs e q → e.number ≡ n → is_lead e ≡ true
lead_among n xs e q f h is =
    lead_if (e.number == n) (is_lead e) (first_holds (not (e.number == n) || is_lead e) (not (closes e.event e.reply n)) (fits_among n xs e q f h)) (is_equal e.number n is)

pub unclosed_among : (n : ℕ) (xs : List Entry) (e : Entry) (q : List Entry) → are_leads n xs ≡ true → IsAt xs e q → closes e.event e.reply n ≡ false
unclosed_among n xs e q f h =
    is_not (closes e.event e.reply n) (second_holds (not (e.number == n) || is_lead e) (not (closes e.event e.reply n)) (fits_among n xs e q f h))

-- the last entry that meets a test stands in the journal
pub record EntryAt (test : Entry → Bool) (xs : List Entry) (x : Entry) : Type 0 where
  pub past : List Entry
  pub at : IsAt xs x past
  pub meets : test x ≡ true

entry_by : (test : Entry → Bool) (y : Entry) (ys : List Entry) (x : Entry) (t : Bool) → test y ≡ t → or_else (if t then Some y else None) (last_entry test ys) ≡ Some x →
    (last_entry test ys ≡ Some x → EntryAt test ys x) → EntryAt test (y ∷ ys) x
entry_by test y ys x true is g rest =
    let same = same_some y x g in
    record { past = ys; at = inl (same, refl); meets = ap test (sym same) ∙ is }
entry_by test y ys x false is g rest =
    let r = rest g in
    record { past = r.past; at = inr r.at; meets = r.meets }

pub last_entry_at : (test : Entry → Bool) (xs : List Entry) (x : Entry) → last_entry test xs ≡ Some x → EntryAt test xs x
last_entry_at test [] x h = absurd (none_is_not x h)
last_entry_at test (y ∷ ys) x h = entry_by test y ys x (test y) refl h (last_entry_at test ys x)

-- the last outage, by the last word of one
abbrev pub outage_number : Option Entry → Option ℕ
outage_number None = None
outage_number (Some e) = if records_outage e.event e.reply then Some e.number else None

outage_if : (r d : Bool) (x : Entry) (y : Option ℕ) (o : Option Entry) → records_outage x.event x.reply ≡ r → y ≡ outage_number o →
    (if r then Some x.number else if d then None else y) ≡ outage_number (or_else (if r || d then Some x else None) o)
outage_if true d x y o is h = sym (if_true (records_outage x.event x.reply) (Some x.number) None is)
outage_if false true x y o is h = sym (if_false (records_outage x.event x.reply) (Some x.number) None is)
outage_if false false x y o is h = h

pub outage_by_word : (xs : List Entry) → last_outage xs ≡ outage_number (last_word xs)
outage_by_word [] = refl
outage_by_word (x ∷ xs) =
    outage_if (records_outage x.event x.reply) (ends_outage x.event x.reply) x (last_outage xs) (last_word xs) refl (outage_by_word xs)

-- an entry that a reader is read with
pub record Reader (all : List Entry) (e : Entry) : Type 0 where
  pub other : Entry
  pub past : List Entry
  pub at : IsAt all other past
  pub looked : is_looked_at all past other ≡ true
  pub request : ℕ
  pub reads : read_with other.event other.reply ≡ Some request
  pub same : ((e.number == request) || (is_answer_to other.event request && is_last_again all request e)) ≡ true

reader_by : (all : List Entry) (e other : Entry) (past : List Entry) (o : Option ℕ) → read_with other.event other.reply ≡ o → (xs : List Entry) → IsAt all other past →
    (is_looked_at all past other && is_read_for all e other.event o) ≡ true → Reader all e
reader_by all e other past None is xs at h =
    absurd (not_true (second_holds (is_looked_at all past other) false h))
reader_by all e other past (Some r) is xs at h = record {
  other = other;
  past = past;
  at = at;
  looked = first_holds (is_looked_at all past other) (is_read_for all e other.event (Some r)) h;
  request = r;
  reads = is;
  same = second_holds (is_looked_at all past other) (is_read_for all e other.event (Some r)) h;
}

pub reader_of : (all : List Entry) (e : Entry) (xs : List Entry) → ((x : Entry) (q : List Entry) → IsAt xs x q → IsAt all x q) → is_read_with all e xs ≡ true → Reader all e
reader_of all e [] within h = absurd (not_true h)
reader_of all e (x ∷ xs) within h =
    either (is_looked_at all xs x && is_read_for all e x.event (read_with x.event x.reply)) (is_read_with all e xs) h
    (reader_by all e x xs (read_with x.event x.reply) refl xs (within x xs (inl (refl, refl))))
    (reader_of all e xs (λ y q at. within y q (inr at)))

-- and an entry that a reader is read with is kept
pub read_there : (all : List Entry) (e other : Entry) (past : List Entry) (r : ℕ) (xs : List Entry) → IsAt xs other past → is_looked_at all past other ≡ true → read_with other.event other.reply ≡ Some r →
    e.number ≡ r → is_read_with all e xs ≡ true
read_there all e other past r [] at look reads is = absurd at
read_there all e other past r (x ∷ xs) (inl p) look reads is =
    or_left (is_looked_at all xs x && is_read_for all e x.event (read_with x.event x.reply)) (is_read_with all e xs)
    (both (is_looked_at all xs x) (is_read_for all e x.event (read_with x.event x.reply))
    (ap (λ (l : List Entry). is_looked_at all l x) p.1 ∙ (ap (is_looked_at all past) p.0 ∙ look))
    (ap (is_read_for all e x.event) (ap (λ (z : Entry). read_with z.event z.reply) p.0 ∙ reads)
    ∙ or_left (e.number == r) (is_answer_to x.event r && is_last_again all r e) (is_equal e.number r is)))
read_there all e other past r (x ∷ xs) (inr p) look reads is =
    or_right (is_looked_at all xs x && is_read_for all e x.event (read_with x.event x.reply)) (is_read_with all e xs) (read_there all e other past r xs p look reads is)

-- a ticket that looks at an entry
pub record Looker (all : List Entry) (n : ℕ) : Type 0 where
  pub ticket : ℕ
  pub request : ℕ
  pub waits : waits_for all ticket ≡ Some request
  pub looks : (is_number n (closing_of all request) || is_number n (answer_of_outcome (outcome_of all request))) ≡ true

looker_by : (all : List Entry) (n t : ℕ) (w : Option ℕ) → waits_for all t ≡ w → serves_ticket all n w ≡ true → Looker all n
looker_by all n t None is h = absurd (not_true h)
looker_by all n t (Some r) is h = record { ticket = t; request = r; waits = is; looks = h }

looker_of : (all : List Entry) (n : ℕ) (xs : List Entry) → serves_waiting all n xs ≡ true → Looker all n
looker_of all n [] h = absurd (not_true h)
looker_of all n (x ∷ xs) h =
    either (serves_ticket all n (waits_for all x.number)) (serves_waiting all n xs) h
    (looker_by all n x.number (waits_for all x.number) refl) (looker_of all n xs)

numbered : (n : ℕ) (o : Option ℕ) → is_number n o ≡ true → o ≡ Some n
numbered n None h = absurd (not_true h)
numbered n (Some m) h = ap (λ (k : ℕ). Some k) (equal_numbers m n h)

head_of : (all : List Entry) (e : Entry) (past : List Entry) (b : ℕ) → numbers_fall b all ≡ true → IsAt all e past → is_last all e ≡ true → all ≡ e ∷ past
head_of [] e past b f at h = absurd at
head_of (x ∷ xs) e past b f (inl p) h = ap (λ (z : Entry). z ∷ xs) p.0 ∙ ap (λ (l : List Entry). e ∷ l) p.1
head_of (x ∷ xs) e past b f (inr p) h =
    let low = numbers_below x.number xs e past (second_holds (nat_lt x.number b) (numbers_fall x.number xs) f) p in
    let same = equal_numbers x.number e.number h in
    absurd (omega arith)

outcome_none : (n r : ℕ) → answer_of_outcome (outcome_from r None) ≡ Some n → ⊥
outcome_none n r h = none_is_not n h

module _ (next : ℕ) (all : List Entry) (o : IsOrderly next all) where
  same_entry : (e : Entry) (past : List Entry) (x : Entry) (q : List Entry) → IsAt all e past → IsAt all x q → e.number ≡ x.number → e ≡ x
  same_entry e past x q at there is = (one_of_number next all e past x q o.numbers at there is).0

  -- what is open was opened
  open_is_lead : (e : Entry) (past : List Entry) → IsAt all e past → is_open all e.number ≡ true → is_lead e ≡ true
  open_is_lead e past at h =
      let v = opened_some (unclosed all e.number) h in
      let u = unclosed_at all e.number v.0 v.1 in
      let same = same_entry e past v.0 u.past at u.at (sym u.number) in
      ap is_lead same ∙ (sym (ap (λ (x : Option Entry). has_opened_request x || has_opened_attempt x) v.1) ∙ h)

  waiting_joined : (e : Entry) (past : List Entry) → IsAt all e past → is_some (waits_for all e.number) ≡ true → is_some (joined e.reply) ≡ true
  waiting_joined e past at h = by (waits_for all e.number) refl h
    where
      by : (w : Option ℕ) → waits_for all e.number ≡ w → is_some w ≡ true → is_some (joined e.reply) ≡ true
      by None is g = absurd (not_true g)
      by (Some r) is g =
          (let w = waiter_at all e.number r is in
          ap (λ (z : Entry). is_some (joined z.reply)) (same_entry e past w.entry w.past at w.at (sym w.number)) ∙ ap is_some w.joins)

  -- a request whose outcome names an answer is closed
  named_closed : (r n : ℕ) → answer_of_outcome (outcome_of all r) ≡ Some n → is_open_request all r ≡ false
  named_closed r n h = by (last_entry (λ (x : Entry). closes x.event x.reply r) all) refl
    where
      by : (c : Option Entry) → last_entry (λ (x : Entry). closes x.event x.reply r) all ≡ c → is_open_request all r ≡ false
      by None is =
          absurd (outcome_none n r (sym (ap answer_of_outcome (outcome_is_from r all ∙ ap (outcome_from r) is)) ∙ h))
      by (Some x) is =
          (let l = last_entry_at (λ (y : Entry). closes y.event y.reply r) all x is in
          ap has_opened_request (closed_by next r all x l.past o.numbers l.at l.meets
          (about_below l.past x r (fits_at all x l.past o.fits l.at) (closes_named x.event x.reply r l.meets))))

  -- what a quiet entry that closes nothing is looked at for
  pub quiet_why : (P : Type 0) (e : Entry) (past : List Entry) → IsAt all e past → is_quiet e.event e.reply ≡ true → ((n : ℕ) → closes e.event e.reply n ≡ true → P) → is_looked_at all past e ≡ true
      → (is_open all e.number ≡ true → P) → (serves_open all e e.event ≡ true → P) → (is_some (waits_for all e.number) ≡ true → P)
      → (is_wrong_needed all e (user_guessed e.event) ≡ true → P) → (is_last all e ≡ true → P) → P
  quiet_why P e past at quiet closing h opened serving waiting wrong last =
      looked_why all past e h
      (λ g. absurd (not_true (sym (ap (is_newest_of_some all) (quiet_answers past e e.event quiet)) ∙ g)))
      (λ g. absurd (not_true (sym (quiet_voids all past e e.event e.reply quiet) ∙ g)))
      opened
      serving
      (λ g. absurd (not_true (sym (quiet_falls all e e.event e.reply quiet) ∙ g)))
      (λ g. absurd (not_true (sym (quiet_online e.event e.reply quiet) ∙ first_holds (is_online e.event) (is_number e.number (last_where (λ (x : Entry). is_online x.event) all)) g)))
      (λ g. absurd (not_outage g))
      waiting
      served
      (λ g. absurd (not_true (sym (ap (is_login_needed all e.number) (quiet_logs_in past e.event e.reply quiet)) ∙ g)))
      wrong
      (λ g. absurd (not_true (sym (quiet_stop e.event e.reply quiet) ∙ first_holds (is_stop e.event) (is_number e.number (last_where (λ (x : Entry). is_stop x.event) all)) g)))
      last
    where
      by_word : (w : Option Entry) → last_word all ≡ w → outage_number w ≡ Some e.number → ⊥
      by_word None is g = none_is_not e.number g
      by_word (Some x) is g =
          (let l = last_entry_at is_word all x is in
          cases (records_outage x.event x.reply)
          (λ r. let number = same_some x.number e.number (sym (if_true (records_outage x.event x.reply) (Some x.number) None r) ∙ g) in
          not_true (sym (quiet_records e.event e.reply quiet) ∙ (ap (λ (z : Entry). records_outage z.event z.reply) (same_entry e past x l.past at l.at (sym number)) ∙ r)))
          (λ r. none_is_not e.number (sym (if_false (records_outage x.event x.reply) (Some x.number) None r) ∙ g)))

      not_outage : is_number e.number (last_outage all) ≡ true → ⊥
      not_outage g = by_word (last_word all) refl (sym (outage_by_word all) ∙ numbered e.number (last_outage all) g)

      served : serves_waiting all e.number all ≡ true → P
      served g =
          let k = looker_of all e.number all g in
          either (is_number e.number (closing_of all k.request)) (is_number e.number (answer_of_outcome (outcome_of all k.request))) k.looks
          (λ c. let l = last_at (λ (x : Entry). closes x.event x.reply k.request) all e.number (numbered e.number (closing_of all k.request) c) in
          closing k.request (ap (λ (z : Entry). closes z.event z.reply k.request) (same_entry e past l.entry l.past at l.at (sym l.number)) ∙ l.meets))
          (λ a. let n = numbered e.number (answer_of_outcome (outcome_of all k.request)) a in
          let holds = o.named k.ticket k.request e.number k.waits (named_closed k.request e.number n) n in
          absurd (not_true (sym (quiet_holds e.event e.reply quiet) ∙ (sym (ap holds_answer (at_is_entry next all e past o.numbers at)) ∙ holds))))

  -- a reader of a quiet entry that asks for nothing again names a leading entry of a lesser number
  reader_number : (e : Entry) → ((n : ℕ) → asks_again e.event e.reply n ≡ false) → (r : Reader all e) → e.number ≡ r.request
  reader_number e again r =
      either (e.number == r.request) (is_answer_to r.other.event r.request && is_last_again all r.request e) r.same
      (equal_numbers e.number r.request)
      (λ h. absurd (not_true (sym (again r.request)
      ∙ first_holds (asks_again e.event e.reply r.request) (is_number e.number (last_where (λ (x : Entry). asks_again x.event x.reply r.request) all))
      (second_holds (is_answer_to r.other.event r.request) (is_last_again all r.request e) h))))

  reader_fits : (e : Entry) (r : Reader all e) → entry_fits r.past r.other ≡ true
  reader_fits e r = fits_at all r.other r.past o.fits r.at

  reader_about : (e : Entry) (r : Reader all e) → named_by r.other.event r.other.reply ≡ Some r.request
  reader_about e r = reader_named r.other.event r.other.reply r.request r.reads

  reader_is_later : (e : Entry) → ((n : ℕ) → asks_again e.event e.reply n ≡ false) → (r : Reader all e) → e.number < r.other.number
  reader_is_later e again r =
      subst (λ (n : ℕ). n < r.other.number) (sym (reader_number e again r)) (about_below r.past r.other r.request (reader_fits e r) (reader_about e r))

  pub read_is_lead : (e : Entry) (past : List Entry) → IsAt all e past → ((n : ℕ) → asks_again e.event e.reply n ≡ false) → Reader all e → is_lead e ≡ true
  read_is_lead e past at again r =
      lead_among r.request r.past e past (about_leads r.past r.other r.request (reader_fits e r) (reader_about e r))
      (older_before next all r.other r.past e past o.numbers r.at at (reader_is_later e again r))
      (reader_number e again r)

  -- what a reader is looked at for: its request is open where it does not close it
  reader_open : (e : Entry) (r : Reader all e) → closes r.other.event r.other.reply r.request ≡ false → is_open all r.request ≡ true
  reader_open e r c =
      quiet_why (is_open all r.request ≡ true) r.other r.past r.at (reader_quiet r.other.event r.other.reply r.request r.reads c)
      (λ n h. absurd (not_true (sym c ∙ reader_closes r.other.event r.other.reply r.request n r.reads h)))
      r.looked
      (λ h. absurd (not_true (sym (reader_leads r.other.event r.other.reply r.request r.reads) ∙ open_is_lead r.other r.past r.at h)))
      (λ h. reader_serves all r.other r.other.event r.other.reply r.request r.reads h)
      (λ h. absurd (not_true (sym (reader_asks r.other.event r.other.reply r.request r.reads)
      ∙ joins_by_asking r.past r.other (reader_fits e r) (waiting_joined r.other r.past r.at h))))
      (λ h. absurd (not_true (sym (ap (is_wrong_needed all r.other) (reader_guesses r.other.event r.other.reply r.request r.reads)) ∙ h)))
      (λ h. by_head (head_of all r.other r.past next o.numbers r.at h))
    where
      by_head : all ≡ r.other ∷ r.past → is_open all r.request ≡ true
      by_head is =
          let whole = sym (ap head_is_open is) ∙ o.head in
          let either_way : (closes r.other.event r.other.reply r.request || is_open (r.other ∷ r.past) r.request) ≡ true =
          sym (ap (closed_or_open r.other (r.other ∷ r.past)) r.reads) ∙ whole in
          either (closes r.other.event r.other.reply r.request) (is_open (r.other ∷ r.past) r.request) either_way
          (λ h. absurd (not_true (sym c ∙ h)))
          (λ h. ap (λ (l : List Entry). is_open l r.request) is ∙ h)

  -- a leading entry at the end is open
  head_opens : (e : Entry) (past : List Entry) → is_lead e ≡ true → is_open (e ∷ past) e.number ≡ true
  head_opens e past lead =
      ap (λ (x : Option Entry). has_opened_request x || has_opened_attempt x)
      (if_false (closes e.event e.reply e.number) None (if e.number == e.number then Some e else unclosed past e.number) (lead_closes e.event e.reply e.number lead)
      ∙ if_true (e.number == e.number) (Some e) (unclosed past e.number) (same_number e.number))
      ∙ lead

  -- a leading entry that is kept is open, or what closed it is kept
  pub lead_why : (e : Entry) (past : List Entry) → IsAt all e past → is_needed all past e ≡ true → is_lead e ≡ true → (is_open all e.number ≡ true) ⊎ Closer all (is_needed all) e.number
  lead_why e past at kept lead =
      either (is_looked_at all past e) (is_read_with all e all) kept
      (λ look. inl (quiet_why (is_open all e.number ≡ true) e past at (lead_quiet e.event e.reply lead)
      (λ n h. absurd (not_true (sym (lead_closes e.event e.reply n lead) ∙ h)))
      look
      (λ h. h)
      (λ h. absurd (not_true (sym (lead_serves all e e.event e.reply lead) ∙ h)))
      (λ h. absurd (not_true (sym (ap is_some (lead_joins e.event e.reply lead)) ∙ waiting_joined e past at h)))
      (λ h. absurd (not_true (sym (ap (is_wrong_needed all e) (lead_guesses e.event e.reply lead)) ∙ h)))
      (λ h. let is = head_of all e past next o.numbers at h in ap (λ (l : List Entry). is_open l e.number) is ∙ head_opens e past lead)))
      (λ read. let r = reader_of all e all (λ x q i. i) read in
      let number = reader_number e (λ n. lead_again e.event e.reply n lead) r in
      cases (closes r.other.event r.other.reply r.request)
      (λ c. inr (record {
        entry = r.other;
        past = r.past;
        at = r.at;
        kept = or_left (is_looked_at all r.past r.other) (is_read_with all r.other all) r.looked;
        closing = ap (closes r.other.event r.other.reply) number ∙ c;
        above = reader_is_later e (λ n. lead_again e.event e.reply n lead) r;
      }))
      (λ c. inl (ap (is_open all) number ∙ reader_open e r c)))

  -- a question that joined and is kept waits
  pub join_why : (e : Entry) (past : List Entry) → IsAt all e past → is_needed all past e ≡ true → is_some (joined e.reply) ≡ true → is_some (waits_for all e.number) ≡ true
  join_why e past at kept joins =
      let asks = joins_by_asking past e (fits_at all e past o.fits at) joins in
      let no_lead : is_lead e ≡ true → is_some (waits_for all e.number) ≡ true =
      (λ lead. absurd (not_true (sym (ap is_some (lead_joins e.event e.reply lead)) ∙ joins))) in
      either (is_looked_at all past e) (is_read_with all e all) kept
      (λ look. quiet_why (is_some (waits_for all e.number) ≡ true) e past at (ask_quiet e.event e.reply asks)
      (λ n h. absurd (not_true (sym (ask_closes e.event e.reply n asks) ∙ h)))
      look
      (λ h. no_lead (open_is_lead e past at h))
      (λ h. absurd (not_true (sym (ask_serves all e e.event asks) ∙ h)))
      (λ h. h)
      (λ h. absurd (not_true (sym (ap (is_wrong_needed all e) (ask_guesses e.event asks)) ∙ h)))
      (λ h. let is = head_of all e past next o.numbers at h in
      ap (λ (l : List Entry). is_some (waits_for l e.number)) is
      ∙ (ap is_some (if_false (ends_waiting e.event e.reply e.number) None (if e.number == e.number then joined e.reply else waits_for past e.number) (ask_ends e.event e.reply e.number asks)
      ∙ if_true (e.number == e.number) (joined e.reply) (waits_for past e.number) (same_number e.number)) ∙ joins)))
      (λ read. let r = reader_of all e all (λ x q i. i) read in
      no_lead (read_is_lead e past at (λ n. ask_again e.event e.reply n asks) r))

  -- a wrong guess that is kept counts
  pub wrong_why : (user : List ℕ) (e : Entry) (past : List Entry) → IsAt all e past → is_needed all past e ≡ true → (wrongs user e.event e.reply == 0) ≡ false →
      is_since_accepted all user e.number ≡ true
  wrong_why user e past at kept counts =
      let guess = wrong_guess user e.event e.reply counts in
      let no_lead : is_lead e ≡ true → is_since_accepted all user e.number ≡ true =
      (λ lead. absurd (not_true (sym (guess_leads e.event e.reply guess) ∙ lead))) in
      either (is_looked_at all past e) (is_read_with all e all) kept
      (λ look. quiet_why (is_since_accepted all user e.number ≡ true) e past at (guess_quiet e.event e.reply guess)
      (λ n h. absurd (not_true (sym (guess_closes e.event e.reply n guess) ∙ h)))
      look
      (λ h. no_lead (open_is_lead e past at h))
      (λ h. absurd (not_true (sym (guess_serves all e e.event guess) ∙ h)))
      (λ h. absurd (not_true (sym (guess_asks e.event guess) ∙ joins_by_asking past e (fits_at all e past o.fits at) (waiting_joined e past at h))))
      (λ h. second_holds (not (wrongs user e.event e.reply == 0)) (is_since_accepted all user e.number)
      (sym (ap (is_wrong_needed all e) (whose_guess user e.event e.reply counts)) ∙ h))
      (λ h. let is = head_of all e past next o.numbers at h in
      ap (λ (l : List Entry). is_since_accepted l user e.number) is
      ∙ (if_false (accepts past user e.event e.reply) false ((e.number == e.number) || is_since_accepted past user e.number)
      (is_false (accepts past user e.event e.reply)
      (λ a. not_true (sym counts ∙ is_equal (wrongs user e.event e.reply) 0 (accepted_counts_none past user e.event e.reply a))))
      ∙ or_left (e.number == e.number) (is_since_accepted past user e.number) (same_number e.number))))
      (λ read. let r = reader_of all e all (λ x q i. i) read in
      no_lead (read_is_lead e past at (λ n. guess_again e.event e.reply n guess) r))
