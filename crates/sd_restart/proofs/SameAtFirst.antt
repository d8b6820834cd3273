-- The journal that kept rows open and the journal after a restart that keeps all its entries are alike.
use Rattle.std.proofs.Common.{◌≡◌, ℕ, ◌<◌, ◌≤◌, Bool, true, false, List, [], ◌∷◌, map, arith, refl, sym, ap, subst, ◌∙◌}
use Rattle.std.specs.Prelude.{Option, Some, None, cond, nat_lt, ◌==◌, ◌&&◌, ◌||◌, if◌then◌else◌}
use Rattle.std.proofs.lemmas.Bool.Decides.{nat_tests}
use Rattle.sd_rules.specs.declared.keys.Key.{Key}
use Rattle.sd_rules.specs.declared.events.Row.{Row}
use Rattle.sd_rules.specs.declared.replies.Entry.{Entry}
use Rattle.sd_rules.specs.declared.replies.Outcome.{Outcome}
use Rattle.sd_rules.specs.declared.replies.Outcome.TheVariants as outcomes
use Rattle.sd_rules.specs.KeptRows.{ends_with_daemon, kept_entry, opens, row_number, rows_among, settled, settled_past}
use Rattle.sd_rules.specs.Logins.{Login, hash_entry, last_online_login}
use Rattle.sd_rules.specs.Past.{Standing, is_void_after, newest, outage_at}
use Rattle.sd_rules.specs.Requests.{asks_for, has_opened_attempt, has_opened_request, is_open, is_open_attempt, is_open_request, open_among, outcome_of, unclosed, waits_for}
use Rattle.sd_rules.specs.Servers.{has_fallen_under, was_picked}
use Rattle.sd_rules.specs.Steps.{answer_named_by_outcome, event_at, hash_in, record_in, record_in_answer}
use Rattle.sd_core.specs.Sound.{all_name_earlier, falls_from, moments_rise}
use Rattle.sd_core.proofs.KindLaws.{Below, Stood, second_holds, newest_below, newest_stood}
use Rattle.sd_core.proofs.Room.{neither}
use Rattle.sd_restart.specs.Alike.{Alike, IsSameAnswer, SameAnswer, SameLogin, SameOutcome}
use Rattle.sd_restart.proofs.KeptCounts.{kept_fell, kept_last_wrong, kept_wrongs}
use Rattle.sd_restart.proofs.KeptLogins.{KeepsLogin, hash_below, kept_falls, kept_hash, kept_last_login, login_below}
use Rattle.sd_restart.proofs.KeptReads.{IsKeptAnswer, KeptAnswer, kept_newest, kept_of, kept_void, true_not_false}
use Rattle.sd_restart.proofs.Settled.{pick_past, settled_hash_at, settled_no_attempt, settled_no_outage, settled_no_request, settled_no_wait, settled_number, settled_outcome, settled_record}
use Rattle.sd_restart.proofs.SettledReads.{settled_fell, settled_hash, settled_login, settled_newest, settled_picked, settled_under, settled_voided, settled_wrong, settled_wrongs}

none_some : {X : Type 0} (n : ℕ) → None ≡ Some n → X
none_some n e = let clash : ⊥ = cc in absurd clash

-- no entry of a row opens anything, lets anybody wait, closes anything or is an outage
row_request : (b : Bool) (row : Row) (y : Option Entry) → has_opened_request y ≡ false → has_opened_request (cond b (Some (kept_entry row)) y) ≡ false
row_request true row y h = refl
row_request false row y h = h

kept_no_request : (rs : List Row) (n : ℕ) → is_open_request (map kept_entry rs) n ≡ false
kept_no_request [] n = refl
kept_no_request (row ∷ rs) n = row_request (row_number row == n) row (unclosed (map kept_entry rs) n) (kept_no_request rs n)

row_attempt : (b : Bool) (row : Row) (y : Option Entry) → has_opened_attempt y ≡ false → has_opened_attempt (cond b (Some (kept_entry row)) y) ≡ false
row_attempt true row y h = refl
row_attempt false row y h = h

kept_no_attempt : (rs : List Row) (n : ℕ) → is_open_attempt (map kept_entry rs) n ≡ false
kept_no_attempt [] n = refl
kept_no_attempt (row ∷ rs) n = row_attempt (row_number row == n) row (unclosed (map kept_entry rs) n) (kept_no_attempt rs n)

row_wait : (b : Bool) (y : Option ℕ) → y ≡ None → (if b then None else y) ≡ None
row_wait true y h = refl
row_wait false y h = h

kept_no_wait : (rs : List Row) (t : ℕ) → waits_for (map kept_entry rs) t ≡ None
kept_no_wait [] t = refl
kept_no_wait (row ∷ rs) t = row_wait (row_number row == t) (waits_for (map kept_entry rs) t) (kept_no_wait rs t)

kept_no_seek : (all : List Entry) (rs : List Row) (k : Key) → open_among all (map kept_entry rs) k ≡ None
kept_no_seek all [] k = refl
kept_no_seek all (row ∷ rs) k = kept_no_seek all rs k

kept_outcome : (rs : List Row) (r : ℕ) → outcome_of (map kept_entry rs) r ≡ outcomes.Dropped r
kept_outcome [] r = refl
kept_outcome (row ∷ rs) r = kept_outcome rs r

kept_no_outage : (rs : List Row) (timeout t : ℕ) → outage_at timeout (map kept_entry rs) t ≡ None
kept_no_outage [] timeout t = refl
kept_no_outage (row ∷ rs) timeout t = kept_no_outage rs timeout t

kept_no_fall : (rs : List Row) (n i : ℕ) → has_fallen_under (map kept_entry rs) n i ≡ false
kept_no_fall [] n i = refl
kept_no_fall (row ∷ rs) n i = kept_no_fall rs n i

kept_no_pick : (rs : List Row) (n i : ℕ) → was_picked (map kept_entry rs) n i ≡ false
kept_no_pick [] n i = refl
kept_no_pick (row ∷ rs) n i = kept_no_pick rs n i

-- no entry that is left asks for a key that is open later
unsought : (a o : Bool) (n : ℕ) (x : Option ℕ) → o ≡ false → x ≡ None → (if a && o then Some n else x) ≡ None
unsought true true n x f g = true_not_false f
unsought true false n x f g = g
unsought false o n x f g = g

closed_below : (o : Bool) (from n : ℕ) → (o ≡ true → from ≤ n) → n < from → o ≡ false
closed_below true from n f below =
    let le = f refl in
    absurd (omega (arith, le, below))
closed_below false from n f below = refl

settled_no_seek : (all : List Entry) (from next : ℕ) (past : List Entry) (k : Key) → ((n : ℕ) → is_open_request all n ≡ true → from ≤ n) → falls_from next past ≡ true → next ≤ from →
    open_among all (settled_past past) k ≡ None
settled_no_seek all from next [] k h f le = refl
settled_no_seek all from next (e ∷ past) k h f le =
    let below : e.number < next = grind (arith, nat_tests, f) in
    let later = settled_no_seek all from e.number past k h (second_holds (nat_lt e.number next) (falls_from e.number past) f) (omega (arith, below, le)) in
    pick_past (λ xs. open_among all xs k ≡ None) (ends_with_daemon e.event) (settled_past past) (settled e ∷ settled_past past) (λ _. later)
    (λ _. unsought (asks_for (settled e).event k) (is_open_request all (settled e).number) (settled e).number (open_among all (settled_past past) k)
    (ap (λ n. is_open_request all n) (settled_number (opens e.reply) e) ∙ closed_below (is_open_request all e.number) from e.number (h e.number) (omega (arith, below, le))) later)

-- answers
marked_alone : (m v : Bool) → v ≡ false → (m || v) ≡ m
marked_alone true v h = refl
marked_alone false v h = h

stood_at : (past : List Entry) (k : Key) (x : Option Standing) (a : Standing) → x ≡ Some a → Stood past x → record_in (event_at past a.number) ≡ record_in_answer a.answered
stood_at past k x a is h = let here : Stood past (Some a) = subst (Stood past) is h in here

below_at : (n : ℕ) (x : Option Standing) (a : Standing) → x ≡ Some a → Below n x → a.number < n
below_at n x a is h = let here : Below n (Some a) = subst (Below n) is h in here

one_answer : (next : ℕ) (p : List Entry) (k : Key) (b a : Standing) → falls_from next p ≡ true → newest (kept_of p p) k ≡ Some b → newest p k ≡ Some a → IsKeptAnswer p b a →
    IsSameAnswer next (kept_of p p) (settled_past p) b a
one_answer next p k b a f in_rows in_past kept = record {
  number = kept.number;
  moment = kept.moment;
  own = kept.own;
  answered = kept.answered;
  voided =
      marked_alone b.marked (is_void_after (kept_of p p) b) (kept_void (rows_among p p) b)
      ∙ (kept.marked ∙ sym (settled_voided next p k a f in_past));
  held = (
    subst (λ n. n < next) (sym kept.number) (below_at next (newest p k) a in_past (newest_below next p k f)),
    stood_at (kept_of p p) k (newest (kept_of p p) k) b in_rows (newest_stood next (kept_of p p) k (kept_falls next p p f))
        ∙ (ap (λ x. record_in_answer x) kept.answered
        ∙ (sym (stood_at p k (newest p k) a in_past (newest_stood next p k f))
        ∙ (sym (settled_record next p a.number f)
        ∙ ap (λ n. record_in (event_at (settled_past p) n)) (sym kept.number)))),
  );
}

answers_by : (next : ℕ) (p : List Entry) (k : Key) (b a : Option Standing) → falls_from next p ≡ true → newest (kept_of p p) k ≡ b → newest p k ≡ a → KeptAnswer p b a →
    SameAnswer next (kept_of p p) (settled_past p) b a
answers_by next p k None None f x y h = tt
answers_by next p k (Some b) (Some a) f x y h = one_answer next p k b a f x y h
answers_by next p k None (Some a) f x y h = absurd h
answers_by next p k (Some b) None f x y h = absurd h

answers_alike : (next : ℕ) (p : List Entry) (k : Key) → falls_from next p ≡ true → SameAnswer next (kept_of p p) (settled_past p) (newest (kept_of p p) k) (newest (settled_past p) k)
answers_alike next p k f =
    subst (λ a. SameAnswer next (kept_of p p) (settled_past p) (newest (kept_of p p) k) a) (sym (settled_newest next p k f))
    (answers_by next p k (newest (kept_of p p) k) (newest p k) f refl refl (kept_newest p p k refl))

-- logins
logins_by : (next : ℕ) (p : List Entry) (x : Option Login) → ((l : Login) → x ≡ Some l → l.number < next) →
    ((l : Login) → x ≡ Some l → hash_in (event_at (kept_of p p) l.number) ≡ hash_in (event_at (settled_past p) l.number)) →
    SameLogin next (kept_of p p) (settled_past p) x x
logins_by next p None below held = tt
logins_by next p (Some l) below held = record { same = refl; held = (below l refl, held l refl) }

login_both : (next : ℕ) (p : List Entry) (kept here later : Option Login) → falls_from next p ≡ true → KeepsLogin p p kept here → later ≡ here → ((l : Login) → here ≡ Some l → l.number < next) →
    SameLogin next (kept_of p p) (settled_past p) kept later
login_both next p kept here later f keeps is below =
    subst (λ x. SameLogin next (kept_of p p) (settled_past p) x later) (sym keeps.same)
    (subst (λ x. SameLogin next (kept_of p p) (settled_past p) here x) (sym is)
    (logins_by next p here below (λ l at. keeps.held l at ∙ sym (settled_hash_at next p l.number f))))

-- outcomes
outcome_both : (next : ℕ) (p q : List Entry) (o s : Outcome) (r : ℕ) → o ≡ outcomes.Dropped r → s ≡ outcomes.Dropped r → SameOutcome next p q o s
outcome_both next p q o s r f g = record {
  same = f ∙ sym g;
  held = λ n is. none_some n (sym (ap answer_named_by_outcome f) ∙ is);
}

not_both : {X : Type 0} (b : Bool) → b ≡ false → b ≡ true → X
not_both b f g = true_not_false (sym g ∙ f)

pub alike_at_first : (next : ℕ) (p : List Entry) → falls_from next p ≡ true → all_name_earlier p ≡ true → moments_rise p ≡ true → Alike next next (kept_of p p) (settled_past p)
alike_at_first next p f names rises = record {
  begins = omega arith;
  request = λ n. kept_no_request (rows_among p p) n ∙ sym (settled_no_request p n);
  attempt = λ n. kept_no_attempt (rows_among p p) n ∙ sym (settled_no_attempt p n);
  open_from = λ n o.
      not_both (is_open (kept_of p p) n)
      (neither (is_open_request (kept_of p p) n) (is_open_attempt (kept_of p p) n) (kept_no_request (rows_among p p) n) (kept_no_attempt (rows_among p p) n)) o;
  seek = λ all other same begins k.
      kept_no_seek all (rows_among p p) k
      ∙ sym (settled_no_seek other next next p k (λ n o. begins n (same n ∙ o)) f (omega arith));
  key = λ n o. not_both (is_open_request (kept_of p p) n) (kept_no_request (rows_among p p) n) o;
  user = λ n o. not_both (is_open_attempt (kept_of p p) n) (kept_no_attempt (rows_among p p) n) o;
  waits = λ t. kept_no_wait (rows_among p p) t ∙ sym (settled_no_wait p t);
  waits_from = λ t r w. none_some r (sym (kept_no_wait (rows_among p p) t) ∙ w);
  outcome = λ r le. outcome_both next (kept_of p p) (settled_past p) (outcome_of (kept_of p p) r) (outcome_of (settled_past p) r) r
      (kept_outcome (rows_among p p) r) (settled_outcome next p r f names le);
  answer = λ k. answers_alike next p k f;
  outage = λ timeout t. kept_no_outage (rows_among p p) timeout t ∙ sym (settled_no_outage p timeout t);
  fell_under = λ n i le. kept_no_fall (rows_among p p) n i ∙ sym (settled_under next p n i f names le);
  fell = λ t i. kept_fell next p p t i f rises refl ∙ sym (settled_fell p t i);
  picked = λ n i le. kept_no_pick (rows_among p p) n i ∙ sym (settled_picked next p n i f names le);
  void = λ r own answered o. not_both (is_open_request (kept_of p p) r) (kept_no_request (rows_among p p) r) o;
  hash = λ user.
      login_both next p (hash_entry (kept_of p p) user) (hash_entry p user) (hash_entry (settled_past p) user) f (kept_hash next p p user f refl) (settled_hash next p user f)
      (λ l is. hash_below next p user l f is);
  login = λ user.
      login_both next p (last_online_login (kept_of p p) user) (last_online_login p user) (last_online_login (settled_past p) user) f (kept_last_login next next p p user f f refl)
      (settled_login next p user f) (λ l is. login_below next p user l f is);
  wrongs = λ user. kept_wrongs next p user f ∙ sym (settled_wrongs next p user f);
  wrong = λ user counted.
      kept_last_wrong p user (λ none. counted (kept_wrongs next p user f ∙ none)) ∙ sym (settled_wrong p user);
}
