-- A daemon and one that keeps of it what later events can look at answer alike.
use Rattle.std.proofs.Common.{◌≡◌, ℕ, ◌≤◌, ◌+◌, ◌*◌, ◌^◌, ◌-◌, Bool, true, false, List, [], ◌∷◌, length, arith, refl, sym, ap, ◌∙◌}
use Rattle.std.specs.Prelude.{Option, not, is_some, nat_lt, ◌&&◌, ◌||◌, if◌then◌else◌}
use Rattle.std.proofs.lemmas.Bool.Decides.{nat_tests}
use Rattle.sd_rules.specs.declared.keys.Key.{Key}
use Rattle.sd_rules.specs.declared.events.Event.{Event}
use Rattle.sd_rules.specs.declared.events.Event.TheVariants as events
use Rattle.sd_rules.specs.declared.replies.Entry.{Entry}
use Rattle.sd_rules.specs.declared.replies.Reply.{Reply}
use Rattle.sd_rules.specs.Past.{key_of}
use Rattle.sd_rules.specs.Requests.{is_open_request, is_open_attempt, waits_for, is_took, reserves, reserved_among, reserved_places}
use Rattle.sd_rules.specs.Steps.{Daemon, next_number, moment_of, reply_to, reply_to_collect, entry_made, recorded, after, given_by, given, gives_back, lacks_places, lacks_text, lacks_numbers, is_full, answers_kind, is_steppable}
use Rattle.sd_rules.specs.TextBytes.{bytes_of_event, text_bytes}
use Rattle.sd_forgetting.specs.Parts.{part}
use Rattle.sd_forgetting.specs.Orderly.{IsOrderly}
use Rattle.sd_forgetting.specs.Kept.{IsKeptOf}
use Rattle.sd_forgetting.proofs.Tests.{not_true, or_left}
use Rattle.sd_forgetting.proofs.Places.{key_kept}
use Rattle.sd_forgetting.proofs.Forgets.{open_both}
use Rattle.sd_forgetting.proofs.Replies.{reply_same, collect_same}
use Rattle.sd_forgetting.proofs.Shown.{reply_shows, given_same}
use Rattle.sd_forgetting.proofs.Made.{made_over, falls_above, next_above}
use Rattle.sd_forgetting.proofs.Steps.{kept_after}

-- a daemon with other entries
abbrev pub over : Daemon → List Entry → Daemon
over d p = record d { past = p }

abbrev make_entry : ℕ → ℕ → Event → Reply → Entry
make_entry n m event reply = record { number = n; moment = m; event = event; reply = reply }

count_if : (b : Bool) (n : ℕ) (l : List Entry) (x : Entry) → n ≡ length l → (if b then 1 else 0) + n ≡ length (if b then x ∷ l else l)
count_if true n l x h = omega arith
count_if false n l x h = omega arith

count_reserving : (all xs : List Entry) → reserved_among all xs ≡ length (part (λ before (e : Entry). reserves all e.number) xs)
count_reserving all [] = refl
count_reserving all (x ∷ xs) =
    count_if (reserves all x.number) (reserved_among all xs) (part (λ before (e : Entry). reserves all e.number) xs) x (count_reserving all xs)

pub places_same : (w p : List Entry) → IsKeptOf w p → reserved_places w ≡ reserved_places p
places_same w p k = count_reserving w w ∙ (ap (λ (l : List Entry). length l) k.opens.reserved ∙ sym (count_reserving p p))

less_places : (limit a b r s : ℕ) → a ≤ b → r ≡ s → nat_lt limit (a + s + 2) ≡ true → nat_lt limit (b + r + 2) ≡ true
less_places limit a b r s h e g = grind (arith, nat_tests)

less_texts : (limit a b c : ℕ) → a ≤ b → nat_lt limit (a + c) ≡ true → nat_lt limit (b + c) ≡ true
less_texts limit a b c h g = grind (arith, nat_tests)

less_numbers : (limit m n r s : ℕ) → n ≡ m → r ≡ s → nat_lt limit (m + s + 2) ≡ true → nat_lt limit (n + r + 2) ≡ true
less_numbers limit m n r s h e g = grind (arith, nat_tests)

full_by : (g a b c x y z : Bool) → (a ≡ true → x ≡ true) → (b ≡ true → y ≡ true) → (c ≡ true → z ≡ true) → (not g && (a || (b || c))) ≡ true → (not g && (x || (y || z))) ≡ true
full_by true a b c x y z f1 f2 f3 h = absurd (not_true h)
full_by false true b c x y z f1 f2 f3 h = or_left x (y || z) (f1 refl)
full_by false false true c true y z f1 f2 f3 h = refl
full_by false false true c false y z f1 f2 f3 h = or_left y z (f2 refl)
full_by false false false true true y z f1 f2 f3 h = refl
full_by false false false true false true z f1 f2 f3 h = refl
full_by false false false true false false z f1 f2 f3 h = f3 refl
full_by false false false false x y z f1 f2 f3 h = absurd (not_true h)

steppable_if : (b : Bool) (x y : Bool) → (b ≡ true → x ≡ y) → (not b || x) ≡ (not b || y)
steppable_if true x y h = h refl
steppable_if false x y h = refl

module _ (d : Daemon) (p : List Entry) (k : IsKeptOf d.past p) where
  number_over : next_number d ≡ next_number (over d p)
  number_over = k.ends.number d.next

  moment_over : (now : ℕ) → moment_of d now ≡ moment_of (over d p) now
  moment_over now = k.ends.moment d.floor now

  reply_over : (now : ℕ) (event : Event) →
      reply_to d.settings d.past (next_number d) (moment_of d now) event ≡ reply_to d.settings p (next_number (over d p)) (moment_of (over d p) now) event
  reply_over now event =
      reply_same d.settings d.past p (next_number d) (moment_of d now) k event
      ∙ (ap (λ (n : ℕ). reply_to d.settings p n (moment_of d now) event) number_over
      ∙ ap (λ (t : ℕ). reply_to d.settings p (next_number (over d p)) t event) (moment_over now))

  -- the entry that a step makes is the same
  pub entry_over : (now : ℕ) (event : Event) → entry_made d now event ≡ entry_made (over d p) now event
  entry_over now event =
      ap (λ (n : ℕ). make_entry n (moment_of d now) event (reply_to d.settings d.past (next_number d) (moment_of d now) event)) number_over
      ∙ (ap (λ (m : ℕ). make_entry (next_number (over d p)) m event (reply_to d.settings d.past (next_number d) (moment_of d now) event)) (moment_over now)
      ∙ ap (make_entry (next_number (over d p)) (moment_of (over d p) now) event) (reply_over now event))

  -- so is what it gives
  pub given_over : (now : ℕ) (event : Event) → given d now event ≡ given (over d p) now event
  given_over now event =
      given_same d.past p (next_number d) (entry_made d now event).reply (reply_shows d.settings d.past p (next_number d) (moment_of d now) k event)
      ∙ (ap (λ (n : ℕ). given_by p n (entry_made d now event).reply) number_over
      ∙ ap (given_by p (next_number (over d p))) (reply_over now event))

  pub after_over : (now : ℕ) (event : Event) → after (over d p) now event ≡ over (after d now event) (entry_made d now event ∷ p)
  after_over now event = ap (λ (e : Entry). recorded (over d p) e) (sym (entry_over now event))

  pub steppable_over : (event : Event) → is_steppable d.past event ≡ is_steppable p event
  steppable_over (events.Answer r answered) =
      steppable_if (is_open_request d.past r) (answers_kind (key_of d.past r) answered) (answers_kind (key_of p r) answered)
      (λ o. ap (λ (own : Option Key). answers_kind own answered) (key_kept d.past p r (k.opens.leads r (or_left (is_open_request d.past r) (is_open_attempt d.past r) o))))
      ∙ ap (λ (b : Bool). not b || answers_kind (key_of p r) answered) (k.opens.requests r)
  steppable_over (events.Kept row) = refl
  steppable_over _ = refl

  back_over : (event : Event) → gives_back d.past event ≡ gives_back p event
  back_over (events.Abandon n) = open_both d.past p k.opens n
  back_over (events.Leave ticket) = ap is_some (k.tickets.waiting ticket)
  back_over (events.Collect ticket) =
      ap is_took (collect_same d.settings d.past p d.next d.floor k ticket (waits_for d.past ticket) refl ∙ ap (reply_to_collect p) (k.tickets.waiting ticket))
  back_over _ = refl

  -- and it is full only where the whole is
  pub full_over : (event : Event) → is_full (over d p) event ≡ true → is_full d event ≡ true
  full_over event h =
      full_by (gives_back d.past event) (lacks_places (over d p)) (lacks_text (over d p) event) (lacks_numbers (over d p)) (lacks_places d) (lacks_text d event) (lacks_numbers d)
      (less_places d.settings.journal_limit (length p) (length d.past) (reserved_places d.past) (reserved_places p) k.shorter (places_same d.past p k))
      (less_texts (512 * 1024 * 1024) (text_bytes p) (text_bytes d.past) (bytes_of_event event) k.texts)
      (less_numbers (2 ^ 64 - 1) (next_number (over d p)) (next_number d) (reserved_places d.past) (reserved_places p) number_over (places_same d.past p k))
      (ap (λ (b : Bool). not b && (lacks_places (over d p) || (lacks_text (over d p) event || lacks_numbers (over d p)))) (back_over event) ∙ h)

  -- a step keeps it so
  pub kept_over : (now : ℕ) (event : Event) → is_steppable d.past event ≡ true → IsOrderly d.next d.past → IsOrderly d.next p →
      IsKeptOf (entry_made d now event ∷ d.past) (entry_made d now event ∷ p)
  kept_over now event h o q =
      kept_after d.past p (entry_made d now event) k (made_over d now event h o.numbers)
      (falls_above d.next (next_number d) p q.numbers (next_above d.next d.past)) o.fits q.fits
