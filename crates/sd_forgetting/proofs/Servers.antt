-- The falls, the picks and the word that the directory can be reached are the same in a part that keeps the last of them.
use Rattle.std.proofs.Common.{◌≡◌, ℕ, ◌≤◌, ◌+◌, Bool, true, false, List, [], ◌∷◌, arith, refl, sym, ap, ◌∙◌, inl, inr}
use Rattle.std.specs.Prelude.{Option, Some, None, nat_lt, nat_le, ◌⊎◌, ◌==◌, ◌&&◌, ◌||◌, if◌then◌else◌}
use Rattle.std.proofs.lemmas.Bool.Decides.{nat_tests}
use Rattle.sd_rules.specs.declared.events.Event.{Event}
use Rattle.sd_rules.specs.declared.events.Event.TheVariants as events
use Rattle.sd_rules.specs.declared.events.Row.TheVariants as rows
use Rattle.sd_rules.specs.declared.replies.Entry.{Entry}
use Rattle.sd_rules.specs.Past.{or_else}
use Rattle.sd_rules.specs.Requests.{is_open}
use Rattle.sd_rules.specs.Servers.{is_noted, falls_under, has_fallen_under, is_fall_of, is_online, has_fallen_lately, is_pick_of, is_server, was_picked}
use Rattle.sd_rules.specs.Needed.{last_where, is_number, serves_open, is_last_pick, last_fall, is_fall_needed, is_last_online}
use Rattle.sd_forgetting.specs.Parts.{part, last_entry, IsAt, moments_fall}
use Rattle.sd_forgetting.proofs.Tests.{not_true, both, first_holds, second_holds, cases, clash, is_false, if_true, if_false, or_false, same_number, equal_numbers}
use Rattle.sd_forgetting.proofs.Places.{part_law, keeps_if}
use Rattle.sd_forgetting.proofs.Lasts.{number_in, where_is_entry, last_same}
use Rattle.sd_forgetting.proofs.Marks.{is_last_by}

-- the falls under an open request
under_serves : (all : List Entry) (e : Entry) (event : Event) (n i : ℕ) → is_open all n ≡ true → falls_under event e.reply n i ≡ true → serves_open all e event ≡ true
under_serves all e (events.Fall r server why) n i o h =
    let same = equal_numbers r n (first_holds (r == n) ((server == i) && is_noted e.reply) h) in
    both (is_open all r) (is_noted e.reply) (ap (is_open all) same ∙ o)
    (second_holds (server == i) (is_noted e.reply) (second_holds (r == n) ((server == i) && is_noted e.reply) h))
under_serves all e _ n i o h = absurd (not_true h)

pub under_same : (keep : List Entry → Entry → Bool) (n i : ℕ) (xs : List Entry) → ((e : Entry) (past : List Entry) → IsAt xs e past → falls_under e.event e.reply n i ≡ true → keep past e ≡ true) →
    has_fallen_under xs n i ≡ has_fallen_under (part keep xs) n i
under_same keep n i [] k = refl
under_same keep n i (x ∷ xs) k =
    let rest = under_same keep n i xs (λ e past at. k e past (inr at)) in
    keeps_if (λ (l : List Entry). has_fallen_under l n i) (keep xs x) x (part keep xs) (has_fallen_under (x ∷ xs) n i)
    (λ _. ap (λ (b : Bool). falls_under x.event x.reply n i || b) rest)
    (λ dropped. or_false (falls_under x.event x.reply n i) (has_fallen_under xs n i)
    (is_false (falls_under x.event x.reply n i) (λ h. not_true (sym dropped ∙ k x xs (inl (refl, refl)) h))) ∙ rest)

-- a fall that is late for the last moment is late for all before it
late_before : (t m n : ℕ) → n ≤ m → nat_lt t (m + 30) ≡ false → nat_lt t (n + 30) ≡ false
late_before t m n h g = grind (arith, nat_tests)

at_most : (m n : ℕ) → nat_le m n ≡ true → m ≤ n
at_most m n h = grind (arith, nat_tests)

none_lately : (c f : Bool) (r : Bool) (l : Bool) → f ≡ false → l ≡ false → (if c then false else (r && f) || l) ≡ false
none_lately true f r l g h = refl
none_lately false true r l g h = absurd (not_true (sym g))
none_lately false false true l g h = h
none_lately false false false l g h = h

old_falls : (t i m : ℕ) (xs : List Entry) → moments_fall m xs ≡ true → nat_lt t (m + 30) ≡ false → has_fallen_lately xs t i ≡ false
old_falls t i m [] f h = refl
old_falls t i m (x ∷ xs) f h =
    let low = at_most x.moment m (first_holds (nat_le x.moment m) (moments_fall x.moment xs) f) in
    let late = late_before t m x.moment low h in
    none_lately (is_online x.event) (nat_lt t (x.moment + 30)) (is_fall_of x.event x.reply i) (has_fallen_lately xs t i) late
    (old_falls t i x.moment xs (second_holds (nat_le x.moment m) (moments_fall x.moment xs) f) late)

at_or_below : (k m n : ℕ) → k ≤ m → m ≤ n → nat_le k n ≡ true
at_or_below k m n g h = grind (arith, nat_tests)

pub moments_in_part : (keep : List Entry → Entry → Bool) (m n : ℕ) (xs : List Entry) → moments_fall m xs ≡ true → m ≤ n → moments_fall n (part keep xs) ≡ true
moments_in_part keep m n [] f h = refl
moments_in_part keep m n (x ∷ xs) f h =
    let low = at_most x.moment m (first_holds (nat_le x.moment m) (moments_fall x.moment xs) f) in
    let rest = second_holds (nat_le x.moment m) (moments_fall x.moment xs) f in
    let deep : x.moment ≤ n = omega arith in
    part_law (λ (l : List Entry). moments_fall n l ≡ true) (keep xs x) x (part keep xs)
    (λ _. both (nat_le x.moment n) (moments_fall x.moment (part keep xs)) (at_or_below x.moment m n low h) (moments_in_part keep x.moment x.moment xs rest (omega arith)))
    (λ _. moments_in_part keep x.moment n xs rest deep)

fall_if : (server i n : ℕ) (all : List Entry) → (server == i) ≡ true → last_fall all i ≡ Some n → is_number n (last_fall all server) ≡ true
fall_if server i n all same is =
    ap (λ (s : ℕ). is_number n (last_fall all s)) (equal_numbers server i same) ∙ (ap (is_number n) is ∙ same_number n)

fall_needed : (all : List Entry) (e : Entry) (event : Event) (i : ℕ) → is_fall_of event e.reply i ≡ true → last_fall all i ≡ Some e.number → is_fall_needed all e event ≡ true
fall_needed all e (events.Fall r server why) i h is = fall_if server i e.number all (first_holds (server == i) (is_noted e.reply) h) is
fall_needed all e (events.Kept (rows.Fall n m server)) i h is = fall_if server i e.number all h is
fall_needed all e _ i h is = absurd (not_true h)

online_here : (c : Bool) (x y : Bool) → c ≡ true → (if c then false else x) ≡ (if c then false else y)
online_here true x y h = refl
online_here false x y h = absurd (not_true h)

both_late : (c r l x y : Bool) → c ≡ false → (r && l ≡ true) ⊎ (x ≡ y) → (if c then false else (r && l) || x) ≡ (if c then false else (r && l) || y)
both_late true r l x y n h = refl
both_late false true true x y n h = refl
both_late false true false x y n (inl h) = absurd (not_true h)
both_late false true false x y n (inr h) = h
both_late false false l x y n (inl h) = absurd (not_true h)
both_late false false l x y n (inr h) = h

skip : (c r l x : Bool) → c ≡ false → r ≡ false → (if c then false else (r && l) || x) ≡ x
skip true r l x f g = absurd (not_true (sym f))
skip false true l x f g = absurd (not_true (sym g))
skip false false l x f g = refl

module _
    (all : List Entry) (keep : List Entry → Entry → Bool)
    (online_kept : (e : Entry) (past : List Entry) → IsAt all e past → is_last_online all e ≡ true → keep past e ≡ true)
    (fall_kept : (e : Entry) (past : List Entry) → IsAt all e past → is_fall_needed all e e.event ≡ true → keep past e ≡ true) (t i : ℕ) where
  lately_while : (m : ℕ) (xs : List Entry) → moments_fall m xs ≡ true → ((e : Entry) (past : List Entry) → IsAt xs e past → IsAt all e past) →
      last_where (λ (x : Entry). is_online x.event) all ≡ last_where (λ (x : Entry). is_online x.event) xs → last_fall all i ≡ last_fall xs i →
      has_fallen_lately xs t i ≡ has_fallen_lately (part keep xs) t i
  lately_while m [] f within on fell = refl
  lately_while m (x ∷ xs) f within on fell =
      let rest = second_holds (nat_le x.moment m) (moments_fall x.moment xs) f in
      let at = within x xs (inl (refl, refl)) in
      cases (is_online x.event)
      (λ c. let k = online_kept x xs at (is_last_by (λ (y : Entry). is_online y.event) all x c
      (on ∙ if_true (is_online x.event) (Some x.number) (last_where (λ (y : Entry). is_online y.event) xs) c)) in
      keeps_if (λ (l : List Entry). has_fallen_lately l t i) (keep xs x) x (part keep xs) (has_fallen_lately (x ∷ xs) t i)
      (λ _. online_here (is_online x.event) ((is_fall_of x.event x.reply i && nat_lt t (x.moment + 30)) || has_fallen_lately xs t i)
      ((is_fall_of x.event x.reply i && nat_lt t (x.moment + 30)) || has_fallen_lately (part keep xs) t i) c)
      (λ dropped. clash (keep xs x) k dropped))
      (λ c. cases (is_fall_of x.event x.reply i)
      (λ r. let k = fall_kept x xs at (fall_needed all x x.event i r
      (fell ∙ (if_false (is_online x.event) None (if is_fall_of x.event x.reply i then Some x.number else last_fall xs i) c
      ∙ if_true (is_fall_of x.event x.reply i) (Some x.number) (last_fall xs i) r))) in
      keeps_if (λ (l : List Entry). has_fallen_lately l t i) (keep xs x) x (part keep xs) (has_fallen_lately (x ∷ xs) t i)
      (λ _. both_late (is_online x.event) (is_fall_of x.event x.reply i) (nat_lt t (x.moment + 30)) (has_fallen_lately xs t i) (has_fallen_lately (part keep xs) t i) c
      (cases (nat_lt t (x.moment + 30))
      (λ soon. inl (both (is_fall_of x.event x.reply i) (nat_lt t (x.moment + 30)) r soon))
      (λ late. inr (old_falls t i x.moment xs rest late ∙ sym (old_falls t i x.moment (part keep xs) (moments_in_part keep x.moment x.moment xs rest (omega arith)) late)))))
      (λ dropped. clash (keep xs x) k dropped))
      (λ r. let below = lately_while x.moment xs rest (λ e past h. within e past (inr h))
      (on ∙ if_false (is_online x.event) (Some x.number) (last_where (λ (y : Entry). is_online y.event) xs) c)
      (fell ∙ (if_false (is_online x.event) None (if is_fall_of x.event x.reply i then Some x.number else last_fall xs i) c
      ∙ if_false (is_fall_of x.event x.reply i) (Some x.number) (last_fall xs i) r)) in
      keeps_if (λ (l : List Entry). has_fallen_lately l t i) (keep xs x) x (part keep xs) (has_fallen_lately (x ∷ xs) t i)
      (λ _. both_late (is_online x.event) (is_fall_of x.event x.reply i) (nat_lt t (x.moment + 30)) (has_fallen_lately xs t i) (has_fallen_lately (part keep xs) t i) c (inr below))
      (λ _. skip (is_online x.event) (is_fall_of x.event x.reply i) (nat_lt t (x.moment + 30)) (has_fallen_lately xs t i) c r ∙ below)))

  pub lately_same : (m : ℕ) → moments_fall m all ≡ true → has_fallen_lately all t i ≡ has_fallen_lately (part keep all) t i
  lately_same m f = lately_while m all f (λ e past at. at) refl refl

-- the last pick of an open request
abbrev pub picked_in : ℕ → Option Entry → Bool
picked_in i None = false
picked_in i (Some e) = is_server e.reply i

pick_if : (c : Bool) (i : ℕ) (x : Entry) (y : Bool) (o : Option Entry) → y ≡ picked_in i o → (if c then is_server x.reply i else y) ≡ picked_in i (or_else (if c then Some x else None) o)
pick_if true i x y o h = refl
pick_if false i x y o h = h

picked_is_last : (n i : ℕ) (xs : List Entry) → was_picked xs n i ≡ picked_in i (last_entry (λ (e : Entry). is_pick_of e.event n) xs)
picked_is_last n i [] = refl
picked_is_last n i (x ∷ xs) = pick_if (is_pick_of x.event n) i x (was_picked xs n i) (last_entry (λ (e : Entry). is_pick_of e.event n) xs) (picked_is_last n i xs)

pick_serves : (all : List Entry) (e : Entry) (event : Event) (n : ℕ) → is_open all n ≡ true → is_pick_of event n ≡ true → is_last_pick all n e ≡ true → serves_open all e event ≡ true
pick_serves all e (events.Pick r) n o h l =
    let same = equal_numbers r n h in
    both (is_open all r) (is_last_pick all r e) (ap (is_open all) same ∙ o) (ap (λ (m : ℕ). is_last_pick all m e) same ∙ l)
pick_serves all e _ n o h l = absurd (not_true h)

module _
    (all : List Entry) (keep : List Entry → Entry → Bool)
    (serving_kept : (e : Entry) (past : List Entry) → IsAt all e past → serves_open all e e.event ≡ true → keep past e ≡ true) (n : ℕ) (o : is_open all n ≡ true) where
  pub falls_same : (i : ℕ) → has_fallen_under all n i ≡ has_fallen_under (part keep all) n i
  falls_same i = under_same keep n i all (λ e past at h. serving_kept e past at (under_serves all e e.event n i o h))

  pub picks_same : (i : ℕ) → was_picked all n i ≡ was_picked (part keep all) n i
  picks_same i =
      picked_is_last n i all
      ∙ (ap (picked_in i) (last_same keep (λ (e : Entry). is_pick_of e.event n) all
      (λ e past at h is. serving_kept e past at (pick_serves all e e.event n o h
      (is_last_by (λ (x : Entry). is_pick_of x.event n) all e h (where_is_entry (λ (x : Entry). is_pick_of x.event n) all ∙ ap number_in is)))))
      ∙ sym (picked_is_last n i (part keep all)))
