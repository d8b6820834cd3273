-- A forget keeps what holds of a kept journal.
use Rattle.std.proofs.Common.{◌≡◌, ℕ, ◌<◌, ◌≤◌, ◌+◌, ◌-◌, ◌*◌, ◌^◌, Bool, true, false, List, [], ◌∷◌, arith, refl, sym, ap, subst, ◌∙◌, inl, inr}
use Rattle.std.specs.Prelude.{Option, Some, None, not, is_some, nat_lt, nat_le, Result, Ok, Err, OnOk, OnErr, ◌⊎◌, ◌&&◌, ◌||◌, if◌then◌else◌}
use Rattle.std.proofs.lemmas.Bool.Decides.{nat_tests}
use Rattle.sd_rules.specs.declared.keys.Key.{Key}
use Rattle.sd_rules.specs.declared.records.Answered.{Answered}
use Rattle.sd_rules.specs.declared.events.Event.{Event}
use Rattle.sd_rules.specs.declared.events.Event.TheVariants as events
use Rattle.sd_rules.specs.declared.replies.Entry.{Entry}
use Rattle.sd_rules.specs.declared.replies.Outcome.{Outcome}
use Rattle.sd_rules.specs.Past.{is_closed, key_of, answer_in}
use Rattle.sd_rules.specs.Requests.{is_open_request, is_open_attempt, waits_for, outcome_of, reserved_places}
use Rattle.sd_rules.specs.Needed.{needed, is_needed}
use Rattle.sd_rules.specs.Reaching.{Reaches, Forget, after_forget}
use Rattle.sd_rules.specs.Steps.{Daemon, void_since, record_in, event_named, answer_named_by_outcome}
use Rattle.sd_rules.specs.TextBytes.{text_bytes}
use Rattle.sd_forgetting.specs.Parts.{part, IsAt, numbers_fall, moments_fall}
use Rattle.sd_forgetting.specs.Orderly.{IsOrderly}
use Rattle.sd_forgetting.specs.Kept.{IsKeptOf, Keeps}
use Rattle.sd_forgetting.proofs.Answers.{answer_or_none}
use Rattle.sd_forgetting.proofs.Asked.{asked_kept}
use Rattle.sd_forgetting.proofs.Daemons.{places_same}
use Rattle.sd_forgetting.proofs.Whole.{kept_itself}
use Rattle.sd_forgetting.proofs.Forgets.{needed_kept, needed_orderly}
use Rattle.sd_forgetting.proofs.Places.{needed_is_part, part_law, key_kept, key_or_none, numbers_before}
use Rattle.sd_forgetting.proofs.Shown.{event_same, named_is_answer}
use Rattle.sd_rules.proofs.ReachingLaws.{reaches_self}
use Rattle.sd_core.specs.Sound.{falls_from, holds_row, row_holders, closed_by, is_closing_of, is_closed_among, closes_first, closes_once, named_by, names_earlier, all_name_earlier, last_moment, moments_rise, IsSound, holds_kind, holds_kinds, is_of_kind_of}
use Rattle.sd_core.specs.Laws.{HasOneOpen, HasFitTickets, IsKept, outcome_record, is_unvoided_since, is_asked_since, are_asked_since, is_own_outage, are_own_outages}
use Rattle.sd_core.proofs.Room.{false_is_not_true}
use Rattle.sd_core.proofs.KindLaws.{first_holds, second_holds, both_hold}

-- numbers and moments, as a part of an orderly journal has them
pub same_falls : (n : ℕ) (xs : List Entry) → falls_from n xs ≡ numbers_fall n xs
same_falls n [] = refl
same_falls n (x ∷ xs) = ap (λ (b : Bool). nat_lt x.number n && b) (same_falls x.number xs)

less_or_same : (m n : ℕ) → nat_le m n ≡ true → m ≤ n
less_or_same m n h = grind (arith, nat_tests, h)

less_or_equal : (m n : ℕ) → m ≤ n → nat_le m n ≡ true
less_or_equal m n h = grind (arith, nat_tests)

last_within : (m : ℕ) (xs : List Entry) → moments_fall m xs ≡ true → last_moment xs ≤ m
last_within m [] h = omega arith
last_within m (x ∷ xs) h = less_or_same x.moment m (first_holds (nat_le x.moment m) (moments_fall x.moment xs) h)

pub rises_if_falls : (m : ℕ) (xs : List Entry) → moments_fall m xs ≡ true → moments_rise xs ≡ true
rises_if_falls m [] h = refl
rises_if_falls m (x ∷ xs) h =
    let rest = second_holds (nat_le x.moment m) (moments_fall x.moment xs) h in
    both_hold (nat_le (last_moment xs) x.moment) (moments_rise xs) (less_or_equal (last_moment xs) x.moment (last_within x.moment xs rest)) (rises_if_falls x.moment xs rest)

pub falls_if_rises : (m : ℕ) (xs : List Entry) → moments_rise xs ≡ true → last_moment xs ≤ m → moments_fall m xs ≡ true
falls_if_rises m [] h l = refl
falls_if_rises m (x ∷ xs) h l =
    let low = less_or_same (last_moment xs) x.moment (first_holds (nat_le (last_moment xs) x.moment) (moments_rise xs) h) in
    both_hold (nat_le x.moment m) (moments_fall x.moment xs) (less_or_equal x.moment m l) (falls_if_rises x.moment xs (second_holds (nat_le (last_moment xs) x.moment) (moments_rise xs) h) low)

-- what holds of each entry alone holds of a part
outages_in_part : (keep : List Entry → Entry → Bool) (xs : List Entry) → are_own_outages xs ≡ true → are_own_outages (part keep xs) ≡ true
outages_in_part keep [] h = refl
outages_in_part keep (x ∷ xs) h =
    let rest = outages_in_part keep xs (second_holds (is_own_outage x.number x.event x.reply) (are_own_outages xs) h) in
    part_law (λ (l : List Entry). are_own_outages l ≡ true) (keep xs x) x (part keep xs)
    (λ _. both_hold (is_own_outage x.number x.event x.reply) (are_own_outages (part keep xs)) (first_holds (is_own_outage x.number x.event x.reply) (are_own_outages xs) h) rest)
    (λ _. rest)

names_in_part : (keep : List Entry → Entry → Bool) (xs : List Entry) → all_name_earlier xs ≡ true → all_name_earlier (part keep xs) ≡ true
names_in_part keep [] h = refl
names_in_part keep (x ∷ xs) h =
    let rest = names_in_part keep xs (second_holds (names_earlier x.number (named_by x.event) x.reply) (all_name_earlier xs) h) in
    part_law (λ (l : List Entry). all_name_earlier l ≡ true) (keep xs x) x (part keep xs)
    (λ _. both_hold (names_earlier x.number (named_by x.event) x.reply) (all_name_earlier (part keep xs)) (first_holds (names_earlier x.number (named_by x.event) x.reply) (all_name_earlier xs) h) rest)
    (λ _. rest)

fewer : (a b c : ℕ) → b ≤ c → a + b ≤ a + c
fewer a b c h = omega arith

no_more : (a b c : ℕ) → b ≤ c → b ≤ a + c
no_more a b c h = omega arith

fewer_holders : (keep : List Entry → Entry → Bool) (xs : List Entry) → row_holders (part keep xs) ≤ row_holders xs
fewer_holders keep [] = omega arith
fewer_holders keep (x ∷ xs) =
    let rest = fewer_holders keep xs in
    part_law (λ (l : List Entry). row_holders l ≤ row_holders (x ∷ xs)) (keep xs x) x (part keep xs)
    (λ _. fewer (if holds_row x.event then 1 else 0) (row_holders (part keep xs)) (row_holders xs) rest)
    (λ _. no_more (if holds_row x.event then 1 else 0) (row_holders (part keep xs)) (row_holders xs) rest)

neither_there : (a b c : Bool) → (a || b) ≡ false → (b ≡ false → c ≡ false) → (a || c) ≡ false
neither_there true b c h f = h
neither_there false b c h f = f h

only_rest : (a b : Bool) → (a || b) ≡ false → b ≡ false
only_rest true b h = absurd (false_is_not_true (sym h))
only_rest false b h = h

none_closed : (keep : List Entry → Entry → Bool) (n : ℕ) (xs : List Entry) → is_closed_among xs n ≡ false → is_closed_among (part keep xs) n ≡ false
none_closed keep n [] h = refl
none_closed keep n (x ∷ xs) h =
    let rest = none_closed keep n xs (only_rest (is_closing_of (closed_by x.event x.reply) n) (is_closed_among xs n) h) in
    part_law (λ (l : List Entry). is_closed_among l n ≡ false) (keep xs x) x (part keep xs)
    (λ _. neither_there (is_closing_of (closed_by x.event x.reply) n) (is_closed_among xs n) (is_closed_among (part keep xs) n) h (λ _. rest))
    (λ _. rest)

is_not : (b : Bool) → not b ≡ true → b ≡ false
is_not true h = absurd (false_is_not_true h)
is_not false h = refl

first_in_part : (keep : List Entry → Entry → Bool) (number : ℕ) (o : Option ℕ) (xs : List Entry) → closes_first xs number o ≡ true → closes_first (part keep xs) number o ≡ true
first_in_part keep number None xs h = refl
first_in_part keep number (Some n) xs h =
    both_hold (nat_lt n number) (not (is_closed_among (part keep xs) n)) (first_holds (nat_lt n number) (not (is_closed_among xs n)) h)
    (ap not (none_closed keep n xs (is_not (is_closed_among xs n) (second_holds (nat_lt n number) (not (is_closed_among xs n)) h))))

closings_in_part : (keep : List Entry → Entry → Bool) (xs : List Entry) → closes_once xs ≡ true → closes_once (part keep xs) ≡ true
closings_in_part keep [] h = refl
closings_in_part keep (x ∷ xs) h =
    let rest = closings_in_part keep xs (second_holds (closes_first xs x.number (closed_by x.event x.reply)) (closes_once xs) h) in
    part_law (λ (l : List Entry). closes_once l ≡ true) (keep xs x) x (part keep xs)
    (λ _. both_hold (closes_first (part keep xs) x.number (closed_by x.event x.reply)) (closes_once (part keep xs))
    (first_in_part keep x.number (closed_by x.event x.reply) xs (first_holds (closes_first xs x.number (closed_by x.event x.reply)) (closes_once xs) h)) rest)
    (λ _. rest)

-- answers
kinds_in_part : (keep : List Entry → Entry → Bool) (b : ℕ) (xs : List Entry) → numbers_fall b xs ≡ true → holds_kinds xs ≡ true → holds_kinds (part keep xs) ≡ true
kinds_in_part keep b [] f h = refl
kinds_in_part keep b (x ∷ xs) f h =
    let falls = second_holds (nat_lt x.number b) (numbers_fall x.number xs) f in
    let rest = kinds_in_part keep x.number xs falls (second_holds (holds_kind (answer_in xs x)) (holds_kinds xs) h) in
    part_law (λ (l : List Entry). holds_kinds l ≡ true) (keep xs x) x (part keep xs)
    (λ _. both_hold (holds_kind (answer_in (part keep xs) x)) (holds_kinds (part keep xs))
    (elim (answer_or_none (part keep xs) xs x x.event (key_or_none keep x.number xs falls)) [
      | inl s ↦ ap holds_kind s ∙ first_holds (holds_kind (answer_in xs x)) (holds_kinds xs) h
      | inr s ↦ ap holds_kind s
    ])
    rest)
    (λ _. rest)

unvoided_by : (p q : List Entry) (r : ℕ) (x y : Option Key) (answered : Answered) → (x ≡ y) ⊎ (x ≡ None) → is_unvoided_since q r y answered ≡ true →
    ((own : Key) → void_since q r own answered ≡ None → void_since p r own answered ≡ None) → is_unvoided_since p r x answered ≡ true
unvoided_by p q r x y answered (inr none) h f = ap (λ (o : Option Key). is_unvoided_since p r o answered) none
unvoided_by p q r x None answered (inl same) h f = ap (λ (o : Option Key). is_unvoided_since p r o answered) same
unvoided_by p q r x (Some own) answered (inl same) h f =
    ap (λ (o : Option Key). is_unvoided_since p r o answered) same ∙ unless (void_since q r own answered) (void_since p r own answered) h (f own)
  where
    unless : (a b : Option ℕ) → not (is_some a) ≡ true → (a ≡ None → b ≡ None) → not (is_some b) ≡ true
    unless None b g k = ap (λ (o : Option ℕ). not (is_some o)) (k refl)
    unless (Some n) b g k = absurd (false_is_not_true g)

or_closed : (c x y : Bool) → (not c || x) ≡ true → (c ≡ true → x ≡ true → y ≡ true) → (not c || y) ≡ true
or_closed true x y h f = f refl h
or_closed false x y h f = refl

asked_here : (next : ℕ) (all : List Entry) (o : IsOrderly next all) (e : Entry) (past : List Entry) → IsAt all e past → is_needed all past e ≡ true → (event : Event) → e.event ≡ event →
    is_asked_since past event e.reply ≡ true → is_asked_since (part (is_needed all) past) event e.reply ≡ true
asked_here next all o e past at kept (events.Answer r answered) is h =
    or_closed (is_closed e.reply) (is_unvoided_since past r (key_of past r) answered) (is_unvoided_since (part (is_needed all) past) r (key_of (part (is_needed all) past) r) answered) h
    (λ c u. unvoided_by (part (is_needed all) past) past r (key_of (part (is_needed all) past) r) (key_of past r) answered
    (key_or_none (is_needed all) e.number past (numbers_before next all e past o.numbers at) r) u
    (asked_kept next all o e past at kept r answered is c))
asked_here next all o e past at kept _ is h = refl

asked_in_part : (next : ℕ) (all : List Entry) (o : IsOrderly next all) (xs : List Entry) → ((e : Entry) (past : List Entry) → IsAt xs e past → IsAt all e past) → are_asked_since xs ≡ true →
    are_asked_since (part (is_needed all) xs) ≡ true
asked_in_part next all o [] within h = refl
asked_in_part next all o (x ∷ xs) within h =
    let rest = asked_in_part next all o xs (λ e past at. within e past (inr at)) (second_holds (is_asked_since xs x.event x.reply) (are_asked_since xs) h) in
    part_law (λ (l : List Entry). are_asked_since l ≡ true) (is_needed all xs x) x (part (is_needed all) xs)
    (λ k. both_hold (is_asked_since (part (is_needed all) xs) x.event x.reply) (are_asked_since (part (is_needed all) xs))
    (asked_here next all o x xs (within x xs (inl (refl, refl))) k x.event refl (first_holds (is_asked_since xs x.event x.reply) (are_asked_since xs) h)) rest)
    (λ _. rest)

-- open requests and tickets, by what is shown alike
module _ (next : ℕ) (w p : List Entry) (k : IsKeptOf w p) where
  key_same : (r : ℕ) → is_open_request w r ≡ true → key_of w r ≡ key_of p r
  key_same r o = key_kept w p r (k.opens.leads r (open_either (is_open_request w r) (is_open_attempt w r) o))
    where
      open_either : (a b : Bool) → a ≡ true → (a || b) ≡ true
      open_either true b h = refl
      open_either false b h = absurd (false_is_not_true h)

  one_kept : HasOneOpen w → HasOneOpen p
  one_kept one = record {
    one = λ r q key fr fq kr kq.
        let wr = k.opens.requests r ∙ fr in
        let wq = k.opens.requests q ∙ fq in
        one.one r q key wr wq (key_same r wr ∙ kr) (key_same q wq ∙ kq);
  }

  record_same : (t r : ℕ) → waits_for w t ≡ Some r → is_open_request w r ≡ false → outcome_record w r ≡ outcome_record p r
  record_same t r waits closed =
      by_name (answer_named_by_outcome (outcome_of w r)) refl
      ∙ ap (λ (o : Outcome). record_in (event_named p (answer_named_by_outcome o))) (k.tickets.outcomes t r waits closed)
    where
      by_name : (n : Option ℕ) → answer_named_by_outcome (outcome_of w r) ≡ n → record_in (event_named w (answer_named_by_outcome (outcome_of w r))) ≡ record_in (event_named p (answer_named_by_outcome (outcome_of w r)))
      by_name None is =
          ap (λ (o : Option ℕ). record_in (event_named w o)) is ∙ sym (ap (λ (o : Option ℕ). record_in (event_named p o)) is)
      by_name (Some n) is =
          ap (λ (o : Option ℕ). record_in (event_named w o)) is
          ∙ (ap record_in (event_same w p n (k.tickets.named t r n waits closed (named_is_answer (outcome_of w r) n is)))
          ∙ sym (ap (λ (o : Option ℕ). record_in (event_named p o)) is))

  tickets_kept : HasFitTickets next w → HasFitTickets next p
  tickets_kept fit = record {
    has_key = λ t r h.
        let waits = k.tickets.waiting t ∙ h in
        let own = fit.has_key t r waits in
        (own.0, sym (key_kept w p t (k.tickets.joins t r waits)) ∙ own.1);
    below = λ t r h. fit.below t r (k.tickets.waiting t ∙ h);
    no_attempt = λ t r h. sym (k.opens.attempts r) ∙ fit.no_attempt t r (k.tickets.waiting t ∙ h);
    same_kind = λ t r own q h o kt kr.
        let waits = k.tickets.waiting t ∙ h in
        let open_there = k.opens.requests r ∙ o in
        fit.same_kind t r own q waits open_there (key_kept w p t (k.tickets.joins t r waits) ∙ kt) (key_same r open_there ∙ kr);
    named_below = λ t r n h c g.
        let waits = k.tickets.waiting t ∙ h in
        let closed = k.opens.requests r ∙ c in
        fit.named_below t r n waits closed (ap answer_named_by_outcome (k.tickets.outcomes t r waits closed) ∙ g);
    of_kind = λ t r own h c kt.
        let waits = k.tickets.waiting t ∙ h in
        let closed = k.opens.requests r ∙ c in
        ap (is_of_kind_of own) (sym (record_same t r waits closed)) ∙ fit.of_kind t r own waits closed (key_kept w p t (k.tickets.joins t r waits) ∙ kt);
  }

-- a forget keeps the journal as steps keep it
pub kept_forgotten : (d : Daemon) → IsKept d → IsKept (after_forget d)
kept_forgotten d kept =
    let all = d.past in
    let is = sym (needed_is_part all all) in
    let orderly = needed_orderly d.next all kept.orderly in
    let shown = needed_kept d.next all kept.orderly in
    record {
      numbers = same_falls d.next (needed all) ∙ orderly.numbers;
      kinds = subst (λ (es : List Entry). holds_kinds es ≡ true) is (kinds_in_part (is_needed all) d.next all kept.orderly.numbers kept.kinds);
      asked = subst (λ (es : List Entry). are_asked_since es ≡ true) is (asked_in_part d.next all kept.orderly all (λ e past at. at) kept.asked);
      outages = subst (λ (es : List Entry). are_own_outages es ≡ true) is (outages_in_part (is_needed all) all kept.outages);
      names = subst (λ (es : List Entry). all_name_earlier es ≡ true) is (names_in_part (is_needed all) all kept.names);
      moments = rises_if_falls orderly.latest (needed all) orderly.moments;
      open_once = one_kept d.next all (needed all) shown kept.open_once;
      tickets = tickets_kept d.next all (needed all) shown kept.tickets;
      orderly = orderly;
    }

at_most : (a b c : ℕ) → a ≡ b → c + b ≤ 2 ^ 64 - 1 → c + a ≤ 2 ^ 64 - 1
at_most a b c e h = omega arith

below_too : (a b c : ℕ) → a ≤ b → b < c → a < c
below_too a b c h g = omega arith

within_too : (a b c : ℕ) → a ≤ b → b ≤ c → a ≤ c
within_too a b c h g = omega arith

pub sound_forgotten : (d : Daemon) → IsKept d → IsSound d → IsSound (after_forget d)
sound_forgotten d kept sound =
    let all = d.past in
    let is = sym (needed_is_part all all) in
    let shown = needed_kept d.next all kept.orderly in
    record {
      servers = sound.servers;
      numbers = same_falls d.next (needed all) ∙ (needed_orderly d.next all kept.orderly).numbers;
      room = at_most (reserved_places (needed all)) (reserved_places all) d.next (sym (places_same all (needed all) shown)) sound.room;
      texts = within_too (text_bytes (needed all)) (text_bytes all) (512 * 1024 * 1024) shown.texts sound.texts;
      rows = below_too (row_holders (needed all)) (row_holders all) (2 ^ 32 - 1) (subst (λ (es : List Entry). row_holders es ≤ row_holders all) is (fewer_holders (is_needed all) all)) sound.rows;
      wrongs = record { fewer = λ user. subst (λ (n : ℕ). n < d.next) (shown.logins.wrongs user) (sound.wrongs.fewer user) };
      closings = subst (λ (es : List Entry). closes_once es ≡ true) is (closings_in_part (is_needed all) all sound.closings);
    }

-- it is one of the moves by which a journal reaches another
pub forget_reaches : (d : Daemon) → Reaches d (after_forget d)
forget_reaches d = record { moves = Forget ∷ []; can = refl; reached = refl }

-- where the entries that are needed take the place of all
-- whether entries were forgotten or not
pub kept_if_forgotten : {X M : Type 0} (d e : Daemon) (r : Result X M) → OnOk r (e ≡ after_forget d) → OnErr r (e ≡ d) → IsKept d → IsKept e
kept_if_forgotten d e (Ok x) made same kept = subst IsKept (sym made) (kept_forgotten d kept)
kept_if_forgotten d e (Err m) made same kept = subst IsKept (sym same) kept

pub shown_if_forgotten : {X M : Type 0} (d e : Daemon) (r : Result X M) → OnOk r (e ≡ after_forget d) → OnErr r (e ≡ d) → IsKept d → Keeps d e
shown_if_forgotten d e (Ok x) made same kept =
    subst (Keeps d) (sym made) (record { settings = refl; next = refl; floor = refl; past = needed_kept d.next d.past kept.orderly })
shown_if_forgotten d e (Err m) made same kept =
    subst (Keeps d) (sym same) (record { settings = refl; next = refl; floor = refl; past = kept_itself d.past })

pub reached_if_forgotten : {X M : Type 0} (d e : Daemon) (r : Result X M) → OnOk r (e ≡ after_forget d) → OnErr r (e ≡ d) → Reaches d e
reached_if_forgotten d e (Ok x) made same = subst (Reaches d) (sym made) (forget_reaches d)
reached_if_forgotten d e (Err m) made same = subst (Reaches d) (sym same) (reaches_self d)
