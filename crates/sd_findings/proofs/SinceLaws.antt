-- Whether an entry stands after the last that accepted a user is told by their numbers.
use Rattle.std.proofs.Common.{◌≡◌, ℕ, ◌+◌, ◌<◌, Bool, true, false, cond, ◌&&◌, ◌||◌, not, ◌==◌, List, [], ◌∷◌, ◌++◌, reverse, length, get_or, drop, take, Option, Some, refl, sym, ◌∙◌, ap, arith}
use Rattle.std.proofs.lemmas.Bool.Decides.{nat_tests}
use Rattle.std.proofs.lemmas.List.{reverse-append, take_more, take-append-drop}
use Rattle.sd_rules.specs.declared.replies.Entry.{Entry}
use Rattle.sd_rules.specs.Logins.{accepts}
use Rattle.sd_rules.specs.Needed.{is_since_accepted}
use Rattle.sd_voids.specs.Entries.{numbers_fall, falls}
use Rattle.sd_voids.proofs.FallLaws.{above, head_below, tail_falls, fall_further, falls_from_some, same_self, tests_less, tests_not_less, not_same_above}
use Rattle.sd_findings.specs.Users.{last_accepting, is_after, StandsIn}

-- all that accepted before an entry have lesser numbers
after_all_step : (b : Bool) (m n : ℕ) (earlier : Option ℕ) → m < n → is_after n earlier ≡ true → is_after n (cond b (Some m) earlier) ≡ true
after_all_step true m n earlier lt h = tests_less m n lt
after_all_step false m n earlier lt h = h

after_all : (past : List Entry) (n : ℕ) (user : List ℕ) → numbers_fall n past ≡ true → is_after n (last_accepting past user) ≡ true
after_all [] n user h = refl
after_all (e ∷ past) n user h =
    let lt : e.number < n = head_below n e past h in
    after_all_step (accepts past user e.event e.reply) e.number n (last_accepting past user) lt
    (after_all past n user (fall_further e.number n past (tail_falls n e past h) (omega arith)))

own_step : (b same rest : Bool) (n : ℕ) (earlier : Option ℕ) → same ≡ true → is_after n earlier ≡ true → cond b false (same || rest) ≡ is_after n (cond b (Some n) earlier)
own_step true same rest n earlier is h = sym (tests_not_less n n (omega arith))
own_step false true rest n earlier is h = sym h
own_step false false rest n earlier is h = cc

newer_step : (b same rest : Bool) (m n : ℕ) (earlier : Option ℕ) → same ≡ false → n < m → rest ≡ is_after n earlier → cond b false (same || rest) ≡ is_after n (cond b (Some m) earlier)
newer_step true same rest m n earlier is lt h = sym (tests_not_less m n (omega arith))
newer_step false true rest m n earlier is lt h = cc
newer_step false false rest m n earlier is lt h = h

since_at : (xs : List Entry) (e : Entry) (past : List Entry) (n : ℕ) (user : List ℕ) → numbers_fall n (xs ++ e ∷ past) ≡ true
    → is_since_accepted (xs ++ e ∷ past) user e.number ≡ is_after e.number (last_accepting (xs ++ e ∷ past) user)
since_at [] e past n user h =
    own_step (accepts past user e.event e.reply) (e.number == e.number) (is_since_accepted past user e.number) e.number (last_accepting past user)
    (same_self e.number) (after_all past e.number user (tail_falls n e past h))
since_at (x ∷ xs) e past n user h =
    let rest : numbers_fall x.number (xs ++ e ∷ past) ≡ true = tail_falls n x (xs ++ e ∷ past) h in
    let lt : e.number < x.number = above xs e past x.number rest in
    newer_step (accepts (xs ++ e ∷ past) user x.event x.reply) (x.number == e.number) (is_since_accepted (xs ++ e ∷ past) user e.number) x.number e.number
    (last_accepting (xs ++ e ∷ past) user) (not_same_above x.number e.number lt) lt (since_at xs e past x.number user rest)

pub since_is : (all : List Entry) (e : Entry) (user : List ℕ) → falls all ≡ true → StandsIn all e
    → is_since_accepted all user e.number ≡ is_after e.number (last_accepting all user)
since_is all e user h stands =
    let whole : List Entry = stands.newer ++ e ∷ stands.past in
    let some : (n : ℕ) × (numbers_fall n whole ≡ true) = falls_from_some whole (ap falls (sym stands.split) ∙ h) in
    ap (λ (l : List Entry). is_since_accepted l user e.number) stands.split
    ∙ since_at stands.newer e stands.past some.0 user some.1
    ∙ ap (λ (l : List Entry). is_after e.number (last_accepting l user)) (sym stands.split)

-- the entry at a place stands among all
pub stands_at : (es : List Entry) (i : ℕ) (e : Entry) → i < length es → e ≡ get_or es i e → StandsIn (reverse es) e
stands_at es i e lt at =
    let newer : List Entry = reverse (drop (i + 1) es) in
    let more : reverse (take (i + 1) es) ≡ e ∷ reverse (take i es) =
    ap (λ (l : List Entry). reverse l) (take_more es i e lt)
    ∙ reverse-append (take i es) (get_or es i e ∷ [])
    ∙ ap (λ (x : Entry). x ∷ reverse (take i es)) (sym at) in
    record {
      newer = newer;
      past = reverse (take i es);
      split =
          ap (λ (l : List Entry). reverse l) (sym (take-append-drop (i + 1) es))
          ∙ reverse-append (take (i + 1) es) (drop (i + 1) es)
          ∙ ap (λ (l : List Entry). newer ++ l) more;
    }

-- guesses of which there are some count where they stand after it
pub counted : (count : ℕ) (since : Bool) → (count ≡ 0 → ⊥) → since ≡ (not (count == 0) && since)
counted count since some = ap (λ (b : Bool). not b && since) (sym (not_none count some))
  where
    not_none : (n : ℕ) → (n ≡ 0 → ⊥) → (n == 0) ≡ false
    not_none n h = grind (arith, nat_tests)
