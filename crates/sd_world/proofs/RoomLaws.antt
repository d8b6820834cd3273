-- A step that is not refused as full takes no more places than the limit of the journal, or than were taken before.
use Rattle.std.proofs.Common.{◌≡◌, ℕ, ◌+◌, ◌≤◌, Bool, true, false, ◌&&◌, ◌||◌, not, cond, if◌then◌else◌, max, nat_lt, length, List, [], ◌∷◌, refl, sym, subst, arith}
use Rattle.std.proofs.lemmas.Bool.Decides.{nat_tests}
use Rattle.sd_rules.specs.declared.events.Event.{Event}
use Rattle.sd_rules.specs.declared.replies.Entry.{Entry}
use Rattle.sd_rules.specs.Requests.{reserved_among, reserves}
use Rattle.sd_rules.specs.Needed.{is_needed, needed_among}
use Rattle.sd_rules.specs.Reaching.{after_forget}
use Rattle.sd_rules.specs.Steps.{Daemon, next_number, moment_of, entry_made, after, gives_back, is_full, full_count, lacks_places, lacks_text, lacks_numbers}
use Rattle.sd_core.specs.Sound.{falls_from}
use Rattle.sd_core.proofs.Room.{next_is_above, one_more}
use Rattle.sd_core.proofs.Stepped.{step_back}

-- the numbers of the journal fall
abbrev pub AreNumbered : Daemon → Type 0
AreNumbered d = falls_from d.next d.past ≡ true

-- the places of the journal: those within its limit, or those that are taken where these are more
abbrev pub places_of : Daemon → ℕ
places_of d = max d.settings.journal_limit (full_count d)

-- ---- the places after a step

numbered : (d : Daemon) → AreNumbered d → falls_from (next_number d) d.past ≡ true
numbered d falls = subst (λ (n : ℕ). falls_from n d.past ≡ true) (sym (next_is_above d.next d.past falls)) falls

fewer_places : (limit old new : ℕ) → new ≤ old → max limit new ≤ max limit old
fewer_places limit old new h = omega (arith, h)

within_places : (limit old new : ℕ) → new ≤ limit → max limit new ≤ max limit old
within_places limit old new h = omega (arith, h)

places_by : (d : Daemon) (now : ℕ) (event : Event) (g p rest : Bool) → gives_back d.past event ≡ g → lacks_places d ≡ p → (not g && (p || rest)) ≡ false → AreNumbered d
    → places_of (after d now event) ≤ places_of d
places_by d now event true p rest back lacks h falls =
    let less = step_back d.settings d.past (next_number d) (moment_of d now) event (numbered d falls) back in
    fewer_places d.settings.journal_limit (full_count d) (full_count (after d now event)) (omega (arith, less))
places_by d now event false true rest back lacks h falls = let clash : ⊥ = cc in absurd clash
places_by d now event false false rest back lacks h falls =
    let more = one_more (entry_made d now event) d.past (numbered d falls) in
    within_places d.settings.journal_limit (full_count d) (full_count (after d now event)) (grind (arith, nat_tests, more, lacks))

both_true : (a b : Bool) → a ≡ true → b ≡ true → (a && b) ≡ true
both_true a b f g = cc

pub numbered_after : (d : Daemon) (now : ℕ) (event : Event) → AreNumbered d → AreNumbered (after d now event)
numbered_after d now event falls =
    both_true (nat_lt (next_number d) (next_number d + 1)) (falls_from (next_number d) d.past) (grind (arith, nat_tests)) (numbered d falls)

pub places_after : (d : Daemon) (now : ℕ) (event : Event) → is_full d event ≡ false → AreNumbered d → places_of (after d now event) ≤ places_of d
places_after d now event fits falls = places_by d now event (gives_back d.past event) (lacks_places d) (lacks_text d event || lacks_numbers d) refl refl fits falls

-- ---- how many places those are

pub entries_within : (d : Daemon) → length d.past ≤ places_of d
entries_within d = omega arith

at_most_one : (b : Bool) → (if b then 1 else 0) ≤ 1
at_most_one true = omega arith
at_most_one false = omega arith

reserved_few : (all past : List Entry) → reserved_among all past ≤ length past
reserved_few all [] = omega arith
reserved_few all (e ∷ past) = let rest = reserved_few all past in let here = at_most_one (reserves all e.number) in omega (arith, rest, here)

pub places_few : (d : Daemon) → places_of d ≤ d.settings.journal_limit + length d.past + length d.past
places_few d = let few = reserved_few d.past d.past in omega (arith, few)

-- ---- a forget

falls_more : (m n : ℕ) (past : List Entry) → m ≤ n → falls_from m past ≡ true → falls_from n past ≡ true
falls_more m n [] less falls = refl
falls_more m n (e ∷ past) less falls = grind (arith, nat_tests, less, falls)

falls_among : (all past : List Entry) (n : ℕ) → falls_from n past ≡ true → falls_from n (needed_among all past) ≡ true
falls_among all [] n falls = refl
falls_among all (e ∷ past) n falls =
    by_kept (is_needed all past e) (first_true (nat_lt e.number n) (falls_from e.number past) falls) (falls_among all past e.number (second_true (nat_lt e.number n) (falls_from e.number past) falls))
  where
    first_true : (a b : Bool) → (a && b) ≡ true → a ≡ true
    first_true true b h = refl
    first_true false b h = cc

    second_true : (a b : Bool) → (a && b) ≡ true → b ≡ true
    second_true true b h = h
    second_true false b h = cc

    below : (m n : ℕ) → nat_lt m n ≡ true → m ≤ n
    below m n h = grind (arith, nat_tests, h)

    by_kept : (b : Bool) → nat_lt e.number n ≡ true → falls_from e.number (needed_among all past) ≡ true → falls_from n (cond b (e ∷ needed_among all past) (needed_among all past)) ≡ true
    by_kept true less rest = both_true (nat_lt e.number n) (falls_from e.number (needed_among all past)) less rest
    by_kept false less rest = falls_more e.number n (needed_among all past) (below e.number n less) rest

pub numbered_forgot : (d : Daemon) → AreNumbered d → AreNumbered (after_forget d)
numbered_forgot d falls = falls_among d.past d.past d.next falls
