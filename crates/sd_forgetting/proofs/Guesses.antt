-- The wrong guesses that count are the same in a part that keeps them and none that count no more.
use Rattle.std.proofs.Common.{◌≡◌, ℕ, ◌<◌, ◌+◌, Bool, true, false, List, [], ◌∷◌, arith, refl, sym, ap, subst, ◌∙◌, inl, inr}
use Rattle.std.specs.Prelude.{Option, Some, None, not, nat_lt, ◌≢◌, ◌⊎◌, ◌==◌, ◌&&◌, ◌||◌, if◌then◌else◌}
use Rattle.sd_rules.specs.declared.events.Event.{Event}
use Rattle.sd_rules.specs.declared.events.Event.TheVariants as events
use Rattle.sd_rules.specs.declared.events.Row.TheVariants as rows
use Rattle.sd_rules.specs.declared.replies.Entry.{Entry}
use Rattle.sd_rules.specs.declared.replies.Reply.{Reply}
use Rattle.sd_rules.specs.declared.replies.Reply.TheVariants as replies
use Rattle.sd_rules.specs.declared.replies.Verdict.TheVariants as verdicts
use Rattle.sd_rules.specs.Keys.{same_name}
use Rattle.sd_rules.specs.Past.{is_closed}
use Rattle.sd_rules.specs.Requests.{is_try_accepted}
use Rattle.sd_rules.specs.Logins.{user_of, is_name, is_attempt_of, is_right, is_accepted, is_wrong, accepts, wrongs, wrong_count, last_wrong}
use Rattle.sd_rules.specs.Needed.{is_since_accepted, is_wrong_needed, user_guessed, is_tried, read_with}
use Rattle.sd_forgetting.specs.Parts.{part, IsAt, numbers_fall}
use Rattle.sd_forgetting.proofs.Tests.{not_true, both, or_left, or_false, first_holds, second_holds, cases, clash, is_false, if_true, if_false, same_number, is_less, differ_above, equal_numbers}
use Rattle.sd_forgetting.proofs.Places.{part_law, keeps_if, user_or_none, numbers_below}
use Rattle.sd_rules.proofs.SameKeys.{name_is}

attempt_too : (x y : Option (List ℕ)) (user : List ℕ) → (x ≡ y) ⊎ (x ≡ None) → is_name x user ≡ true → is_name y user ≡ true
attempt_too x y user (inl e) h = sym (ap (λ (o : Option (List ℕ)). is_name o user) e) ∙ h
attempt_too x y user (inr e) h = absurd (not_true (sym (ap (λ (o : Option (List ℕ)). is_name o user) e) ∙ h))

-- what accepts over the part accepts over the whole
accepts_too : (p q : List Entry) (user : List ℕ) (event : Event) (reply : Reply) → ((a : ℕ) → (user_of p a ≡ user_of q a) ⊎ (user_of p a ≡ None)) →
    accepts p user event reply ≡ true → accepts q user event reply ≡ true
accepts_too p q user (events.LoginOnline a result) reply f h =
    let rest = second_holds (is_right result) (is_closed reply && is_attempt_of p a user) h in
    both (is_right result) (is_closed reply && is_attempt_of q a user) (first_holds (is_right result) (is_closed reply && is_attempt_of p a user) h)
    (both (is_closed reply) (is_attempt_of q a user) (first_holds (is_closed reply) (is_attempt_of p a user) rest)
    (attempt_too (user_of p a) (user_of q a) user (f a) (second_holds (is_closed reply) (is_attempt_of p a user) rest)))
accepts_too p q user (events.LoginTry a named right) reply f h =
    both (is_try_accepted reply) (is_attempt_of q a user) (first_holds (is_try_accepted reply) (is_attempt_of p a user) h)
    (attempt_too (user_of p a) (user_of q a) user (f a) (second_holds (is_try_accepted reply) (is_attempt_of p a user) h))
accepts_too p q user (events.LoginGuess u named right) reply f h = h
accepts_too p q user _ reply f h = absurd (not_true h)

attempt_read : (c d : Bool) (a : ℕ) (x y : Option (List ℕ)) (user : List ℕ) → (d ≡ true → c ≡ true) → ((n : ℕ) → (if c then Some a else None) ≡ Some n → n ≡ a → x ≡ y) →
    (d && is_name x user) ≡ (d && is_name y user)
attempt_read true true a x y user h f = ap (λ (o : Option (List ℕ)). is_name o user) (f a refl refl)
attempt_read false true a x y user h f = absurd (not_true (h refl))
attempt_read c false a x y user h f = refl

accepted_is_tried : (reply : Reply) → is_try_accepted reply ≡ true → is_tried reply ≡ true
accepted_is_tried (replies.Tried v) h = refl
accepted_is_tried _ h = absurd (not_true h)

-- an entry accepts alike over two pasts that hold its leading entry alike
pub accepts_kept : (p q : List Entry) (user : List ℕ) (event : Event) (reply : Reply) → ((a : ℕ) → read_with event reply ≡ Some a → user_of p a ≡ user_of q a) →
    accepts p user event reply ≡ accepts q user event reply
accepts_kept p q user (events.LoginOnline a result) reply f =
    ap (λ (b : Bool). is_right result && b)
    (attempt_read (is_closed reply) (is_closed reply) a (user_of p a) (user_of q a) user (λ h. h) (λ n h is. subst (λ m. user_of p m ≡ user_of q m) is (f n h)))
accepts_kept p q user (events.LoginTry a named right) reply f =
    attempt_read (is_tried reply) (is_try_accepted reply) a (user_of p a) (user_of q a) user (accepted_is_tried reply) (λ n h is. subst (λ m. user_of p m ≡ user_of q m) is (f n h))
accepts_kept p q user (events.LoginGuess u named right) reply f = refl
accepts_kept p q user _ reply f = refl

-- what accepts is no wrong guess
not_wrong : (reply : Reply) → is_accepted reply ≡ true → is_wrong reply ≡ false
not_wrong (replies.Judged verdicts.Accepted) h = refl
not_wrong (replies.Judged verdicts.Wrong) h = absurd (not_true h)
not_wrong (replies.Judged _) h = absurd (not_true h)
not_wrong _ h = absurd (not_true h)

counts_none : (b c : Bool) → b ≡ false → ◌≡◌ {A = ℕ} (if b && c then 1 else 0) 0
counts_none true c h = absurd (not_true (sym h))
counts_none false c h = refl

pub accepted_counts_none : (past : List Entry) (user : List ℕ) (event : Event) (reply : Reply) → accepts past user event reply ≡ true → wrongs user event reply ≡ 0
accepted_counts_none past user (events.LoginOnline a result) reply h = refl
accepted_counts_none past user (events.LoginTry a named right) reply h = refl
accepted_counts_none past user (events.LoginGuess u named right) reply h =
    counts_none (is_wrong reply) (same_name u user) (not_wrong reply (first_holds (is_accepted reply) (same_name u user) h))
accepted_counts_none past user _ reply h = absurd (not_true h)

-- for whom a guess counts
guess_if : (u user : List ℕ) (c : Bool) (n : ℕ) (s : Bool) → same_name u user ≡ s → ((if c && s then n else 0) == 0) ≡ false → Some u ≡ Some user
guess_if u user c n true is h = ap (λ (x : List ℕ). Some x) (name_is u user is)
guess_if u user true n false is h = absurd (not_true (sym h))
guess_if u user false n false is h = absurd (not_true (sym h))

pub whose_guess : (user : List ℕ) (event : Event) (reply : Reply) → (wrongs user event reply == 0) ≡ false → user_guessed event ≡ Some user
whose_guess user (events.LoginGuess u named right) reply h = guess_if u user (is_wrong reply) 1 (same_name u user) refl h
whose_guess user (events.Kept (rows.Wrong n m u count)) reply h = guess_if u user true count (same_name u user) refl h
whose_guess user _ reply h = absurd (not_true (sym h))

zero_plus : (n : ℕ) → 0 + n ≡ n
zero_plus n = omega arith

no_count : (x : ℕ) → (x == 0) ≡ true → x ≡ 0
no_count x h = equal_numbers x 0 h

module _
    (all : List Entry) (keep : List Entry → Entry → Bool) (b : ℕ) (falls : numbers_fall b all ≡ true)
    (wrong_kept : (e : Entry) (past : List Entry) → IsAt all e past → is_wrong_needed all e (user_guessed e.event) ≡ true → keep past e ≡ true)
    (user : List ℕ)
    (why : (e : Entry) (past : List Entry) → IsAt all e past → keep past e ≡ true → (wrongs user e.event e.reply == 0) ≡ false → is_since_accepted all user e.number ≡ true) where
  -- the entries of lesser numbers stand after the last accepting one of the whole as they do in what is left
  abbrev Since : ℕ → List Entry → Type 0
  Since c xs = (n : ℕ) → n < c → is_since_accepted all user n ≡ is_since_accepted xs user n

  since_rest : (c : ℕ) (x : Entry) (xs : List Entry) → x.number < c → accepts xs user x.event x.reply ≡ false → Since c (x ∷ xs) → Since x.number xs
  since_rest c x xs low refused since n h =
      let deep : n < c = omega arith in
      since n deep
      ∙ (if_false (accepts xs user x.event x.reply) false ((x.number == n) || is_since_accepted xs user n) refused
      ∙ or_false (x.number == n) (is_since_accepted xs user n) (differ_above x.number n h))

  wrong_is_kept : (c : ℕ) (x : Entry) (xs : List Entry) → IsAt all x xs → x.number < c → accepts xs user x.event x.reply ≡ false → Since c (x ∷ xs) → (wrongs user x.event x.reply == 0) ≡ false → keep xs x ≡ true
  wrong_is_kept c x xs at low refused since h =
      let stands : is_since_accepted all user x.number ≡ true = since x.number low
      ∙ (if_false (accepts xs user x.event x.reply) false ((x.number == x.number) || is_since_accepted xs user x.number) refused
      ∙ or_left (x.number == x.number) (is_since_accepted xs user x.number) (same_number x.number)) in
      wrong_kept x xs at (ap (is_wrong_needed all x) (whose_guess user x.event x.reply h)
      ∙ both (not (wrongs user x.event x.reply == 0)) (is_since_accepted all user x.number) (ap not h) stands)

  -- where nothing of what is left counts
  none_count : (xs : List Entry) → ((e : Entry) (past : List Entry) → IsAt xs e past → keep past e ≡ true → wrongs user e.event e.reply ≡ 0) → wrong_count (part keep xs) user ≡ 0
  none_count [] f = refl
  none_count (x ∷ xs) f =
      let rest = none_count xs (λ e past at. f e past (inr at)) in
      part_law (λ (l : List Entry). wrong_count l user ≡ 0) (keep xs x) x (part keep xs)
      (λ k. zero_if (accepts (part keep xs) user x.event x.reply) (wrongs user x.event x.reply) (wrong_count (part keep xs) user) (f x xs (inl (refl, refl)) k) rest)
      (λ _. rest)
    where
      zero_if : (c : Bool) (m n : ℕ) → m ≡ 0 → n ≡ 0 → (if c then 0 else m + n) ≡ 0
      zero_if true m n g h = refl
      zero_if false m n g h = omega arith

  count_if : (c : Bool) (m n : ℕ) → c ≡ true → (if c then 0 else m + n) ≡ 0
  count_if true m n h = refl
  count_if false m n h = absurd (not_true h)

  count_else : (c : Bool) (m n : ℕ) → c ≡ false → (if c then 0 else m + n) ≡ m + n
  count_else true m n h = absurd (not_true (sym h))
  count_else false m n h = refl

  zero_or : (c : Bool) (m n : ℕ) → m ≡ 0 → n ≡ 0 → (if c then 0 else m + n) ≡ 0
  zero_or true m n g h = refl
  zero_or false m n g h = omega arith

  not_accepting : (x : Entry) (xs : List Entry) (c : ℕ) → numbers_fall c xs ≡ true → accepts xs user x.event x.reply ≡ false → accepts (part keep xs) user x.event x.reply ≡ false
  not_accepting x xs c f refused =
      is_false (accepts (part keep xs) user x.event x.reply)
      (λ so. not_true (sym refused ∙ accepts_too (part keep xs) xs user x.event x.reply (user_or_none keep c xs f) so))

  -- behind the last accepting entry nothing that counted is kept
  behind : (c : ℕ) (x : Entry) (xs : List Entry) → numbers_fall x.number xs ≡ true → x.number < c → ((e : Entry) (past : List Entry) → IsAt xs e past → IsAt all e past) → accepts xs user x.event x.reply ≡ true → Since c (x ∷ xs) →
      (e : Entry) (past : List Entry) → IsAt xs e past → keep past e ≡ true → wrongs user e.event e.reply ≡ 0
  behind c x xs f low within accepted since e past at k =
      cases (wrongs user e.event e.reply == 0)
      (λ none. no_count (wrongs user e.event e.reply) none)
      (λ some. let below = numbers_below x.number xs e past f at in
      let deep : e.number < c = omega arith in
      let stands = why e past (within e past at) k some in
      clash (is_since_accepted all user e.number) stands
      (since e.number deep ∙ if_true (accepts xs user x.event x.reply) false ((x.number == e.number) || is_since_accepted xs user e.number) accepted))

  count_same : (c : ℕ) (xs : List Entry) → numbers_fall c xs ≡ true → ((e : Entry) (past : List Entry) → IsAt xs e past → IsAt all e past) → Since c xs →
      wrong_count xs user ≡ wrong_count (part keep xs) user
  count_same c [] f within since = refl
  count_same c (x ∷ xs) f within since =
      let low = is_less x.number c (first_holds (nat_lt x.number c) (numbers_fall x.number xs) f) in
      let rest = second_holds (nat_lt x.number c) (numbers_fall x.number xs) f in
      cases (accepts xs user x.event x.reply)
      (λ yes. let none = none_count xs (behind c x xs rest low (λ e past at. within e past (inr at)) yes since) in
      count_if (accepts xs user x.event x.reply) (wrongs user x.event x.reply) (wrong_count xs user) yes
      ∙ sym (part_law (λ (l : List Entry). wrong_count l user ≡ 0) (keep xs x) x (part keep xs)
      (λ _. zero_or (accepts (part keep xs) user x.event x.reply) (wrongs user x.event x.reply) (wrong_count (part keep xs) user)
      (accepted_counts_none xs user x.event x.reply yes) none)
      (λ _. none)))
      (λ no. let below = count_same x.number xs rest (λ e past at. within e past (inr at)) (since_rest c x xs low no since) in
      count_else (accepts xs user x.event x.reply) (wrongs user x.event x.reply) (wrong_count xs user) no
      ∙ keeps_if (λ (l : List Entry). wrong_count l user) (keep xs x) x (part keep xs) (wrongs user x.event x.reply + wrong_count xs user)
      (λ _. ap (λ (n : ℕ). wrongs user x.event x.reply + n) below
      ∙ sym (count_else (accepts (part keep xs) user x.event x.reply) (wrongs user x.event x.reply) (wrong_count (part keep xs) user) (not_accepting x xs x.number rest no)))
      (λ dropped. cases (wrongs user x.event x.reply == 0)
      (λ none. let zero_here = no_count (wrongs user x.event x.reply) none in ap (λ (n : ℕ). n + wrong_count xs user) zero_here ∙ (zero_plus (wrong_count xs user) ∙ below))
      (λ some. clash (keep xs x) (wrong_is_kept c x xs (within x xs (inl (refl, refl))) low no since some) dropped)))

  pub wrongs_same : wrong_count all user ≡ wrong_count (part keep all) user
  wrongs_same = count_same b all falls (λ e past at. at) (λ n h. refl)

  last_if : (z : Bool) (m : ℕ) (x y : Option ℕ) → (z ≡ true → x ≡ y) → (if z then x else Some m) ≡ (if z then y else Some m)
  last_if true m x y f = f refl
  last_if false m x y f = refl

  last_same_while : (c : ℕ) (xs : List Entry) → numbers_fall c xs ≡ true → ((e : Entry) (past : List Entry) → IsAt xs e past → IsAt all e past) → Since c xs →
      wrong_count xs user ≢ 0 → last_wrong xs user ≡ last_wrong (part keep xs) user
  last_same_while c [] f within since some = refl
  last_same_while c (x ∷ xs) f within since some =
      let low = is_less x.number c (first_holds (nat_lt x.number c) (numbers_fall x.number xs) f) in
      let rest = second_holds (nat_lt x.number c) (numbers_fall x.number xs) f in
      cases (accepts xs user x.event x.reply)
      (λ yes. absurd (some (count_if (accepts xs user x.event x.reply) (wrongs user x.event x.reply) (wrong_count xs user) yes)))
      (λ no. let below : (wrongs user x.event x.reply == 0) ≡ true → last_wrong xs user ≡ last_wrong (part keep xs) user =
      (λ none. last_same_while x.number xs rest (λ e past at. within e past (inr at)) (since_rest c x xs low no since)
      (λ h. let zero_here = no_count (wrongs user x.event x.reply) none in
      some (count_else (accepts xs user x.event x.reply) (wrongs user x.event x.reply) (wrong_count xs user) no ∙ (ap (λ (n : ℕ). n + wrong_count xs user) zero_here ∙ (zero_plus (wrong_count xs user) ∙ h))))) in
      keeps_if (λ (l : List Entry). last_wrong l user) (keep xs x) x (part keep xs) (last_wrong (x ∷ xs) user)
      (λ _. last_if (wrongs user x.event x.reply == 0) x.moment (last_wrong xs user) (last_wrong (part keep xs) user) below)
      (λ dropped. cases (wrongs user x.event x.reply == 0)
      (λ none. if_true (wrongs user x.event x.reply == 0) (last_wrong xs user) (Some x.moment) none ∙ below none)
      (λ h. clash (keep xs x) (wrong_is_kept c x xs (within x xs (inl (refl, refl))) low no since h) dropped)))

  pub last_wrongs_same : wrong_count all user ≢ 0 → last_wrong all user ≡ last_wrong (part keep all) user
  last_wrongs_same some = last_same_while b all falls (λ e past at. at) (λ n h. refl) some
