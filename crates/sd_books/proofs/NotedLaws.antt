-- Marks say of each user what the entries say, after each entry and after a forget.
use Rattle.std.proofs.Common.{◌≡◌, ◌≢◌, ℕ, ◌+◌, ◌==◌, ◌<◌, ◌^◌, Bool, true, false, cond, List, [], ◌∷◌, ◌++◌, length, reverse, take, drop, get_or, arith, refl, sym, ap, subst, ◌∙◌, add_comm}
use Rattle.std.specs.Prelude.{Option, Some, None, ◌&&◌, if◌then◌else◌, Result, Ok, Err, OnOk, OnErr}
use Rattle.std.specs.Option.{option_map}
use Rattle.std.proofs.lemmas.Bool.Decides.{nat_tests}
use Rattle.std.proofs.lemmas.List.{reverse-append, take_more, take-append-drop}
use Rattle.sd_rules.specs.declared.events.Event.{Event}
use Rattle.sd_rules.specs.declared.events.Event.TheVariants as events
use Rattle.sd_rules.specs.declared.events.LoginResult.{LoginResult}
use Rattle.sd_rules.specs.declared.events.LoginResult.TheVariants as results
use Rattle.sd_rules.specs.declared.events.Row.{Row}
use Rattle.sd_rules.specs.declared.events.Row.TheVariants as rows
use Rattle.sd_rules.specs.declared.replies.Entry.{Entry}
use Rattle.sd_rules.specs.declared.replies.Reply.{Reply}
use Rattle.sd_rules.specs.declared.replies.Reply.TheVariants as replies
use Rattle.sd_rules.specs.declared.replies.Verdict.TheVariants as verdicts
use Rattle.sd_rules.specs.Keys.{same_name}
use Rattle.sd_rules.specs.Logins as logins
use Rattle.sd_rules.specs.Needed.{needed}
use Rattle.sd_rules.specs.Past.{is_closed}
use Rattle.sd_rules.specs.Requests.{is_try_accepted}
use Rattle.sd_keeping.specs.Counts.{HasCounts}
use Rattle.sd_forgetting.specs.Kept.{SameLogins}
use Rattle.sd_forgetting.specs.Orderly.{IsOrderly}
use Rattle.sd_forgetting.proofs.Answers.{name_is, name_same}
use Rattle.sd_forgetting.proofs.Forgets.{needed_kept}
use Rattle.sd_creds.specs.declared.marks.Mark.{Mark}
use Rattle.sd_creds.specs.Marks.{Sets, mark_of, with_wrong}
use Rattle.sd_rules.specs.Limits as seen
use Rattle.sd_books.specs.declared.notes.LoginWord.{LoginWord}
use Rattle.sd_books.specs.declared.notes.LoginWord.TheVariants as words
use Rattle.sd_books.specs.Noted.{user_of_row, user_concerned, word_of_login, word_of_guess, word_of_row, word_of, user_by_word, user_told, note_of, login_told, accept_told, wrongs_told, with_word, mark_with, SaysOf, SayOfUsers, HasCount, Keeps, HadCounts}
use Rattle.sd_forgetting.proofs.Tests.{not_true}

-- what an entry tells of a user's logins
record Tells (past : List Entry) (user : List ℕ) (event : Event) (reply : Reply) (word : LoginWord) : Type 0 where
  login : logins.login_by past user event reply ≡ login_told word
  accept : logins.accepts past user event reply ≡ accept_told word
  wrongs : logins.wrongs user event reply ≡ wrongs_told word

name_in : (o : Option (List ℕ)) (user : List ℕ) → o ≡ Some user → logins.is_name o user ≡ true
name_in o user is = ap (λ (x : Option (List ℕ)). logins.is_name x user) is ∙ name_same user

-- of the user whom it concerns
login_online : (c a : Bool) (r : LoginResult) → a ≡ true → (if c && a then logins.hash_carried r else None) ≡ login_told (if c then word_of_login (logins.hash_carried r) else words.Nothing)
login_online true true (results.Right (Some h)) f = refl
login_online true true (results.Right None) f = refl
login_online true true results.Wrong f = refl
login_online true true (results.Refused n) f = refl
login_online true false r f = absurd (not_true f)
login_online false a r f = refl

accept_online : (c a : Bool) (r : LoginResult) → a ≡ true → (logins.is_right r && (c && a)) ≡ accept_told (if c then word_of_login (logins.hash_carried r) else words.Nothing)
accept_online true true (results.Right (Some h)) f = refl
accept_online true true (results.Right None) f = refl
accept_online true true results.Wrong f = refl
accept_online true true (results.Refused n) f = refl
accept_online true false r f = absurd (not_true f)
accept_online false a (results.Right h) f = refl
accept_online false a results.Wrong f = refl
accept_online false a (results.Refused n) f = refl

wrongs_online : (c : Bool) (r : LoginResult) → 0 ≡ wrongs_told (if c then word_of_login (logins.hash_carried r) else words.Nothing)
wrongs_online true (results.Right (Some h)) = refl
wrongs_online true (results.Right None) = refl
wrongs_online true results.Wrong = refl
wrongs_online true (results.Refused n) = refl
wrongs_online false r = refl

login_tried : (b : Bool) → None ≡ login_told (if b then words.Acceptance else words.Nothing)
login_tried true = refl
login_tried false = refl

accept_tried : (b a : Bool) → a ≡ true → (b && a) ≡ accept_told (if b then words.Acceptance else words.Nothing)
accept_tried true a f = f
accept_tried false a f = refl

wrongs_tried : (b : Bool) → 0 ≡ wrongs_told (if b then words.Acceptance else words.Nothing)
wrongs_tried true = refl
wrongs_tried false = refl

login_guessed : (reply : Reply) → None ≡ login_told (word_of_guess reply)
login_guessed (replies.Judged verdicts.Accepted) = refl
login_guessed (replies.Judged verdicts.Wrong) = refl
login_guessed _ = refl

accept_guessed : (reply : Reply) (b : Bool) → b ≡ true → (logins.is_accepted reply && b) ≡ accept_told (word_of_guess reply)
accept_guessed (replies.Judged verdicts.Accepted) b f = f
accept_guessed (replies.Judged verdicts.Wrong) b f = refl
accept_guessed _ b f = refl

wrongs_guessed : (reply : Reply) (b : Bool) → b ≡ true → (if logins.is_wrong reply && b then 1 else 0) ≡ wrongs_told (word_of_guess reply)
wrongs_guessed (replies.Judged verdicts.Accepted) b f = refl
wrongs_guessed (replies.Judged verdicts.Wrong) true f = refl
wrongs_guessed (replies.Judged verdicts.Wrong) false f = absurd (not_true f)
wrongs_guessed _ b f = refl

first_of : {X : Type 0} (b : Bool) (x y : X) → b ≡ true → (if b then x else y) ≡ x
first_of true x y f = refl
first_of false x y f = absurd (not_true f)

second_of : {X : Type 0} (b : Bool) (x y : X) → b ≡ false → (if b then x else y) ≡ y
second_of true x y f = absurd (not_true (sym f))
second_of false x y f = refl

kept_tells : (past : List Entry) (user : List ℕ) (row : Row) (reply : Reply) → user_of_row row ≡ Some user → Tells past user (events.Kept row) reply (word_of_row row)
kept_tells past user (rows.Hash n m u hash) reply is = record {
  login = first_of (same_name u user) (Some true) None (name_in (Some u) user is);
  accept = refl;
  wrongs = refl;
}
kept_tells past user (rows.Online n m u) reply is = record {
  login = first_of (same_name u user) (Some false) None (name_in (Some u) user is);
  accept = refl;
  wrongs = refl;
}
kept_tells past user (rows.Wrong n m u count) reply is = record {
  login = refl;
  accept = refl;
  wrongs = first_of (same_name u user) count 0 (name_in (Some u) user is);
}
kept_tells past user _ reply is = let e : ⊥ = cc in absurd e

tells : (past : List Entry) (user : List ℕ) (event : Event) (reply : Reply) → user_concerned past event ≡ Some user → Tells past user event reply (word_of event reply)
tells past user (events.LoginOnline attempt r) reply is =
    let own = name_in (logins.user_of past attempt) user is in
    record {
      login = login_online (is_closed reply) (logins.is_attempt_of past attempt user) r own;
      accept = accept_online (is_closed reply) (logins.is_attempt_of past attempt user) r own;
      wrongs = wrongs_online (is_closed reply) r;
    }
tells past user (events.LoginTry attempt named right) reply is = record {
  login = login_tried (is_try_accepted reply);
  accept = accept_tried (is_try_accepted reply) (logins.is_attempt_of past attempt user) (name_in (logins.user_of past attempt) user is);
  wrongs = wrongs_tried (is_try_accepted reply);
}
tells past user (events.LoginGuess u named right) reply is =
    let own = name_in (Some u) user is in
    record {
      login = login_guessed reply;
      accept = accept_guessed reply (same_name u user) own;
      wrongs = wrongs_guessed reply (same_name u user) own;
    }
tells past user (events.Kept row) reply is = kept_tells past user row reply is
tells past user _ reply is = let e : ⊥ = cc in absurd e

-- of any other
never_both : (c a : Bool) → a ≡ false → (c && a) ≡ false
never_both true a f = f
never_both false a f = refl

kept_untold : (past : List Entry) (user : List ℕ) (row : Row) (reply : Reply) → logins.is_name (user_of_row row) user ≡ false → Tells past user (events.Kept row) reply words.Nothing
kept_untold past user (rows.Hash n m u hash) reply is =
    record { login = second_of (same_name u user) (Some true) None is; accept = refl; wrongs = refl }
kept_untold past user (rows.Online n m u) reply is =
    record { login = second_of (same_name u user) (Some false) None is; accept = refl; wrongs = refl }
kept_untold past user (rows.Wrong n m u count) reply is =
    record { login = refl; accept = refl; wrongs = second_of (same_name u user) count 0 is }
kept_untold past user _ reply is = record { login = refl; accept = refl; wrongs = refl }

untold : (past : List Entry) (user : List ℕ) (event : Event) (reply : Reply) → logins.is_name (user_concerned past event) user ≡ false → Tells past user event reply words.Nothing
untold past user (events.LoginOnline attempt r) reply is =
    let not_own = never_both (is_closed reply) (logins.is_attempt_of past attempt user) is in
    record {
      login = second_of (is_closed reply && logins.is_attempt_of past attempt user) (logins.hash_carried r) None not_own;
      accept = never_both (logins.is_right r) (is_closed reply && logins.is_attempt_of past attempt user) not_own;
      wrongs = refl;
    }
untold past user (events.LoginTry attempt named right) reply is = record {
  login = refl;
  accept = never_both (is_try_accepted reply) (logins.is_attempt_of past attempt user) is;
  wrongs = refl;
}
untold past user (events.LoginGuess u named right) reply is = record {
  login = refl;
  accept = never_both (logins.is_accepted reply) (same_name u user) is;
  wrongs = second_of (logins.is_wrong reply && same_name u user) 1 0 (never_both (logins.is_wrong reply) (same_name u user) is);
}
untold past user (events.Kept row) reply is = kept_untold past user row reply is
untold past user _ reply is = record { login = refl; accept = refl; wrongs = refl }

-- of an entry that tells of nobody
named_is : (o : Option (List ℕ)) (user : List ℕ) → logins.is_name o user ≡ true → o ≡ Some user
named_is None user h = absurd (not_true h)
named_is (Some name) user h = ap (λ (n : List ℕ). Some n) (name_is name user h)

nothing_by_none : (w : LoginWord) (o : Option (List ℕ)) (user : List ℕ) → o ≡ Some user → user_by_word w o ≡ None → w ≡ words.Nothing
nothing_by_none words.Nothing o user is h = refl
nothing_by_none (words.Login hashed) o user is h = cc
nothing_by_none (words.KeptLogin hashed) o user is h = cc
nothing_by_none words.Acceptance o user is h = cc
nothing_by_none (words.WrongGuesses count) o user is h = cc

nothing_by : (past : List Entry) (e : Entry) (user : List ℕ) (b : Bool) → logins.is_name (user_concerned past e.event) user ≡ b → user_told past e ≡ None → Tells past user e.event e.reply words.Nothing
nothing_by past e user true named h =
    let own = named_is (user_concerned past e.event) user named in
    subst (λ (w : LoginWord). Tells past user e.event e.reply w) (nothing_by_none (word_of e.event e.reply) (user_concerned past e.event) user own h) (tells past user e.event e.reply own)
nothing_by past e user false named h = untold past user e.event e.reply named

concerned_by : (w : LoginWord) (o : Option (List ℕ)) (user : List ℕ) → user_by_word w o ≡ Some user → o ≡ Some user
concerned_by words.Nothing o user h = cc
concerned_by (words.Login hashed) o user h = h
concerned_by (words.KeptLogin hashed) o user h = h
concerned_by words.Acceptance o user h = h
concerned_by (words.WrongGuesses count) o user h = h

concerned : (past : List Entry) (e : Entry) (user : List ℕ) → user_told past e ≡ Some user → user_concerned past e.event ≡ Some user
concerned past e user h = concerned_by (word_of e.event e.reply) (user_concerned past e.event) user h

nothing_more : (n : ℕ) → 0 + n ≡ n
nothing_more n = omega arith

-- the mark of a user after an entry that tells a word of the user
module _ (past : List Entry) (e : Entry) (user : List ℕ) (m : Mark) (s : SaysOf past user m) where
  hash_by : (w : LoginWord) → Tells past user e.event e.reply w → logins.hash_entry (e ∷ past) user ≡ logins.or_earlier (logins.only_hashed (logins.login_in e (login_told w))) (option_map seen.login m.hash)
  hash_by w t =
      ap (λ (b : Option Bool). logins.or_earlier (logins.only_hashed (logins.login_in e b)) (logins.hash_entry past user)) t.login
      ∙ ap (λ (o : Option logins.Login). logins.or_earlier (logins.only_hashed (logins.login_in e (login_told w))) o) s.hash

  login_by : (w : LoginWord) → Tells past user e.event e.reply w → logins.last_online_login (e ∷ past) user ≡ logins.or_earlier (logins.login_in e (login_told w)) (option_map seen.login m.login)
  login_by w t =
      ap (λ (b : Option Bool). logins.or_earlier (logins.login_in e b) (logins.last_online_login past user)) t.login
      ∙ ap (λ (o : Option logins.Login). logins.or_earlier (logins.login_in e (login_told w)) o) s.login

  count_by : (w : LoginWord) → Tells past user e.event e.reply w → logins.wrong_count (e ∷ past) user ≡ cond (accept_told w) 0 (wrongs_told w + m.wrong_count)
  count_by w t =
      ap (λ (b : Bool). cond b 0 (logins.wrongs user e.event e.reply + logins.wrong_count past user)) t.accept
      ∙ (ap (λ (n : ℕ). cond (accept_told w) 0 (n + logins.wrong_count past user)) t.wrongs
      ∙ ap (λ (n : ℕ). cond (accept_told w) 0 (wrongs_told w + n)) s.wrong_count)

  last_by : (w : LoginWord) → Tells past user e.event e.reply w → logins.last_wrong (e ∷ past) user ≡ cond (wrongs_told w == 0) (logins.last_wrong past user) (Some e.moment)
  last_by w t = ap (λ (n : ℕ). cond (n == 0) (logins.last_wrong past user) (Some e.moment)) t.wrongs

  -- where no more wrong guesses count, the last stays
  last_still : (w : LoginWord) → Tells past user e.event e.reply w → logins.wrong_count (e ∷ past) user ≡ m.wrong_count → wrongs_told w ≡ 0 →
      logins.wrong_count (e ∷ past) user ≢ 0 → logins.last_wrong (e ∷ past) user ≡ m.last_wrong
  last_still w t same none some =
      last_by w t
      ∙ (ap (λ (n : ℕ). cond (n == 0) (logins.last_wrong past user) (Some e.moment)) none
      ∙ s.last_wrong (λ z. some (same ∙ (sym s.wrong_count ∙ z))))

  own_login : (w : LoginWord) (hashed : Bool) → Tells past user e.event e.reply w → login_told w ≡ Some hashed → logins.last_online_login (e ∷ past) user ≡ Some (record { number = e.number; moment = e.moment; hashed = hashed })
  own_login w hashed t is =
      login_by w t ∙ ap (λ (b : Option Bool). logins.or_earlier (logins.login_in e b) (option_map seen.login m.login)) is

  says_wrongs : (count : ℕ) (b : Bool) → (count == 0) ≡ b → Tells past user e.event e.reply (words.WrongGuesses count) →
      SaysOf (e ∷ past) user (if b then m else with_wrong e.moment count m)
  says_wrongs count true none t =
      let zero_count : count ≡ 0 = grind (arith, nat_tests, none) in
      let same : logins.wrong_count (e ∷ past) user ≡ m.wrong_count = omega (arith, count_by (words.WrongGuesses count) t, zero_count) in
      record {
        hash = hash_by (words.WrongGuesses count) t;
        login = login_by (words.WrongGuesses count) t;
        wrong_count = same;
        last_wrong = last_still (words.WrongGuesses count) t same zero_count;
      }
  says_wrongs count false some t = record {
    hash = hash_by (words.WrongGuesses count) t;
    login = login_by (words.WrongGuesses count) t;
    wrong_count = count_by (words.WrongGuesses count) t ∙ add_comm count m.wrong_count;
    last_wrong = λ h. last_by (words.WrongGuesses count) t ∙ ap (λ (b : Bool). cond b (logins.last_wrong past user) (Some e.moment)) some;
  }

  says_word : (w : LoginWord) → Tells past user e.event e.reply w → SaysOf (e ∷ past) user (with_word (note_of e) w m)
  says_word (words.Login true) t = record {
    hash = hash_by (words.Login true) t;
    login = login_by (words.Login true) t;
    wrong_count = count_by (words.Login true) t;
    last_wrong = λ h. absurd (h (count_by (words.Login true) t));
  }
  says_word (words.Login false) t = record {
    hash = hash_by (words.Login false) t;
    login = login_by (words.Login false) t;
    wrong_count = count_by (words.Login false) t;
    last_wrong = λ h. absurd (h (count_by (words.Login false) t));
  }
  says_word (words.KeptLogin true) t = record {
    hash = hash_by (words.KeptLogin true) t;
    login = login_by (words.KeptLogin true) t;
    wrong_count = count_by (words.KeptLogin true) t ∙ nothing_more m.wrong_count;
    last_wrong = last_still (words.KeptLogin true) t (count_by (words.KeptLogin true) t ∙ nothing_more m.wrong_count) refl;
  }
  says_word (words.KeptLogin false) t = record {
    hash = hash_by (words.KeptLogin false) t;
    login = login_by (words.KeptLogin false) t;
    wrong_count = count_by (words.KeptLogin false) t ∙ nothing_more m.wrong_count;
    last_wrong = last_still (words.KeptLogin false) t (count_by (words.KeptLogin false) t ∙ nothing_more m.wrong_count) refl;
  }
  says_word words.Acceptance t = record {
    hash = hash_by words.Acceptance t;
    login = login_by words.Acceptance t;
    wrong_count = count_by words.Acceptance t;
    last_wrong = λ h. absurd (h (count_by words.Acceptance t));
  }
  says_word (words.WrongGuesses count) t = says_wrongs count (count == 0) refl t
  says_word words.Nothing t = record {
    hash = hash_by words.Nothing t;
    login = login_by words.Nothing t;
    wrong_count = count_by words.Nothing t ∙ nothing_more m.wrong_count;
    last_wrong = last_still words.Nothing t (count_by words.Nothing t ∙ nothing_more m.wrong_count) refl;
  }

-- whoever else has a name has another
not_named : (u other : List ℕ) → same_name u other ≡ false → other ≢ u
not_named u other is same =
    let named : same_name u other ≡ true = subst (λ (x : List ℕ). same_name u x ≡ true) (sym same) (name_same u) in
    not_true (sym is ∙ named)

said_after : (old new : List (List ℕ × Mark)) (past : List Entry) (e : Entry) (u other : List ℕ) (b : Bool) → same_name u other ≡ b → SayOfUsers old past → user_concerned past e.event ≡ Some u →
    Sets old new u (mark_with (note_of e) (mark_of old u)) → SaysOf (e ∷ past) other (mark_of new other)
said_after old new past e u other true is say own sets =
    let same = name_is u other is in
    let here = subst (λ (m : Mark). SaysOf (e ∷ past) u m) (sym sets.changed) (says_word past e u (mark_of old u) (say.each u) (word_of e.event e.reply) (tells past u e.event e.reply own)) in
    subst (λ (x : List ℕ). SaysOf (e ∷ past) x (mark_of new x)) same here
said_after old new past e u other false is say own sets =
    let none : logins.is_name (user_concerned past e.event) other ≡ false = ap (λ (o : Option (List ℕ)). logins.is_name o other) own ∙ is in
    let here = says_word past e other (mark_of old other) (say.each other) words.Nothing (untold past other e.event e.reply none) in
    subst (λ (m : Mark). SaysOf (e ∷ past) other m) (sym (sets.others other (not_named u other is))) here

-- marks that keep the note of an entry
pub say_after : (old new : List (List ℕ × Mark)) (past : List Entry) (e : Entry) (o : Option (List ℕ)) → SayOfUsers old past → o ≡ user_told past e →
    Keeps old new o (note_of e) → SayOfUsers new (e ∷ past)
say_after old new past e None say is keeps = record {
  each = λ other.
      let none = nothing_by past e other (logins.is_name (user_concerned past e.event) other) refl (sym is) in
      subst (λ (ms : List (List ℕ × Mark)). SaysOf (e ∷ past) other (mark_of ms other)) (sym keeps)
      (says_word past e other (mark_of old other) (say.each other) words.Nothing none);
}
say_after old new past e (Some u) say is keeps = record {
  each = λ other. said_after old new past e u other (same_name u other) refl say (concerned past e u (sym is)) keeps;
}

-- entries that show the same logins
pub say_kept : (past kept : List Entry) (marks : List (List ℕ × Mark)) → SameLogins past kept → SayOfUsers marks past → SayOfUsers marks kept
say_kept past kept marks same say = record {
  each = λ user.
      let own = say.each user in
      record {
        hash = sym (same.hashes user) ∙ own.hash;
        login = sym (same.logins user) ∙ own.login;
        wrong_count = sym (same.wrongs user) ∙ own.wrong_count;
        last_wrong = λ h.
            let some : logins.wrong_count past user ≢ 0 = λ z. h (sym (same.wrongs user) ∙ z) in
            sym (same.last_wrongs user some) ∙ own.last_wrong some;
      };
}

-- whether a forget was done or refused
pub say_if_forgotten : {A B : Type 0} (r : Result A B) (old new : List Entry) (marks : List (List ℕ × Mark)) → OnOk r (new ≡ needed old) → OnErr r (new ≡ old) →
    SameLogins old (needed old) → SayOfUsers marks old → SayOfUsers marks new
say_if_forgotten (Ok x) old new marks kept unchanged same say =
    subst (λ (es : List Entry). SayOfUsers marks es) (sym kept) (say_kept old (needed old) marks same say)
say_if_forgotten (Err x) old new marks kept unchanged same say =
    subst (λ (es : List Entry). SayOfUsers marks es) (sym unchanged) say

-- a mark that counts no wrong guess may have any moment of the last
uncounted : (past : List Entry) (user : List ℕ) (moment : ℕ) (m : Mark) → m.wrong_count ≡ 0 → SaysOf past user m → SaysOf past user (with_wrong moment 0 m)
uncounted past user moment m none own = record {
  hash = own.hash;
  login = own.login;
  wrong_count = omega (arith, own.wrong_count);
  last_wrong = λ h. absurd (h (own.wrong_count ∙ none));
}

said_then : (old new : List (List ℕ × Mark)) (past : List Entry) (u other : List ℕ) (moment : ℕ) (b : Bool) → same_name u other ≡ b → (mark_of old u).wrong_count ≡ 0 →
    Sets old new u (with_wrong moment 0 (mark_of old u)) → SayOfUsers old past → SaysOf past other (mark_of new other)
said_then old new past u other moment true is none sets say =
    subst (λ (x : List ℕ). SaysOf past x (mark_of new x)) (name_is u other is)
    (subst (λ (m : Mark). SaysOf past u m) (sym sets.changed) (uncounted past u moment (mark_of old u) none (say.each u)))
said_then old new past u other moment false is none sets say =
    subst (λ (m : Mark). SaysOf past other m) (sym (sets.others other (not_named u other is))) (say.each other)

pub say_then : (old new : List (List ℕ × Mark)) (u : List ℕ) (moment : ℕ) → (mark_of old u).wrong_count ≡ 0 → Sets old new u (with_wrong moment 0 (mark_of old u)) →
    (past : List Entry) → SayOfUsers old past → SayOfUsers new past
say_then old new u moment none sets past say = record {
  each = λ other. said_then old new past u other moment (same_name u other) refl none sets say;
}

-- the wrong guesses of the user whom an entry concerns fit, where those of all fit before and after it
fits_by : (w : LoginWord) (before after : ℕ) → after ≡ cond (accept_told w) 0 (wrongs_told w + before) → before < 2 ^ 64 → after < 2 ^ 64 → before + wrongs_told w < 2 ^ 64
fits_by (words.WrongGuesses count) before after is b a = omega (arith, is, a)
fits_by (words.Login hashed) before after is b a = omega (arith, b)
fits_by (words.KeptLogin hashed) before after is b a = omega (arith, b)
fits_by words.Acceptance before after is b a = omega (arith, b)
fits_by words.Nothing before after is b a = omega (arith, b)

pub has_count : (marks : List (List ℕ × Mark)) (past : List Entry) (e : Entry) (o : Option (List ℕ)) → SayOfUsers marks past → o ≡ user_told past e →
    HasCounts past → HasCounts (e ∷ past) → HasCount marks o (note_of e)
has_count marks past e None say is before after = tt
has_count marks past e (Some u) say is before after =
    let own = say.each u in
    let counted = count_by past e u (mark_of marks u) own (word_of e.event e.reply) (tells past u e.event e.reply (concerned past e u (sym is))) in
    let fits : (mark_of marks u).wrong_count < 2 ^ 64 = subst (λ (n : ℕ). n < 2 ^ 64) own.wrong_count (before.fits u) in
    fits_by (word_of e.event e.reply) (mark_of marks u).wrong_count (logins.wrong_count (e ∷ past) u) counted fits (after.fits u)

-- counts of a part of the entries, the older ones
had_counts_before : (newer older : List Entry) → HadCounts (newer ++ older) → HadCounts older
had_counts_before [] older h = h
had_counts_before (e ∷ newer) older h = had_counts_before newer older h.1

has_counts_now : (past : List Entry) → HadCounts past → HasCounts past
has_counts_now [] h = h
has_counts_now (e ∷ past) h = h.0

-- the entries up to a place, the newest first
pub more_at : (es : List Entry) (i : ℕ) (e : Entry) → i < length es → e ≡ get_or es i e → reverse (take (i + 1) es) ≡ e ∷ reverse (take i es)
more_at es i e lt at =
    ap (λ (l : List Entry). reverse l) (take_more es i e lt)
    ∙ (reverse-append (take i es) (get_or es i e ∷ [])
    ∙ ap (λ (x : Entry). x ∷ reverse (take i es)) (sym at))

-- and those around it
split_at : (es : List Entry) (i : ℕ) (e : Entry) → i < length es → e ≡ get_or es i e → reverse es ≡ reverse (drop (i + 1) es) ++ e ∷ reverse (take i es)
split_at es i e lt at =
    let newer : List Entry = reverse (drop (i + 1) es) in
    ap (λ (l : List Entry). reverse l) (sym (take-append-drop (i + 1) es))
    ∙ (reverse-append (take (i + 1) es) (drop (i + 1) es)
    ∙ ap (λ (l : List Entry). newer ++ l) (more_at es i e lt at))

-- the counts before and after the entry at a place
pub counts_at : (es : List Entry) (i : ℕ) (e : Entry) → i < length es → e ≡ get_or es i e → HadCounts (reverse es) →
    HasCounts (reverse (take i es)) × HasCounts (e ∷ reverse (take i es))
counts_at es i e lt at had =
    let here = had_counts_before (reverse (drop (i + 1) es)) (e ∷ reverse (take i es)) (subst HadCounts (split_at es i e lt at) had) in
    (has_counts_now (reverse (take i es)) here.1, here.0)
