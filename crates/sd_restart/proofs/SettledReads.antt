-- What answers, invalidations, logins, guesses and falls say after such a restart is what they said before it.
use Rattle.std.proofs.Common.{◌≡◌, ℕ, ◌+◌, ◌<◌, ◌≤◌, Bool, true, false, List, [], ◌∷◌, arith, refl, sym, ap, subst, ◌∙◌}
use Rattle.std.specs.Prelude.{Option, Some, None, nat_lt, ◌==◌, ◌&&◌, ◌||◌, if◌then◌else◌}
use Rattle.std.proofs.lemmas.Bool.Decides.{nat_tests}
use Rattle.sd_rules.specs.declared.keys.Key.{Key}
use Rattle.sd_rules.specs.declared.records.Answered.{Answered}
use Rattle.sd_rules.specs.declared.events.Event.{Event}
use Rattle.sd_rules.specs.declared.events.Event.TheVariants as events
use Rattle.sd_rules.specs.declared.events.Row.{Row}
use Rattle.sd_rules.specs.declared.events.Row.TheVariants as rows
use Rattle.sd_rules.specs.declared.replies.Entry.{Entry}
use Rattle.sd_rules.specs.declared.replies.Reply.{Reply}
use Rattle.sd_rules.specs.declared.replies.Reply.TheVariants as replies
use Rattle.sd_rules.specs.Keys.{same_name, speaks_of}
use Rattle.sd_rules.specs.KeptRows.{ends_with_daemon, opens, settled, settled_past}
use Rattle.sd_rules.specs.Logins.{Login, accepts, hash_carried, hash_entry, is_accepted, is_attempt_of, is_name, is_right, is_wrong, last_online_login, last_wrong, login_by, login_in, only_hashed, or_earlier, user_of, wrong_count, wrongs}
use Rattle.sd_rules.specs.Past.{Standing, answer_by, answer_in, answer_under, is_closed, is_void_after, is_voided, key_of, newest, or_else, spoken, voids}
use Rattle.sd_rules.specs.Requests.{is_try_accepted}
use Rattle.sd_rules.specs.Servers.{falls_under, has_fallen_lately, has_fallen_under, is_fall_of, is_noted, is_online, is_pick_of, is_server, was_picked}
use Rattle.sd_core.specs.Sound.{falls_from, all_name_earlier, named_by, names_earlier}
use Rattle.sd_core.proofs.KindLaws.{first_holds, second_holds, newest_below}
use Rattle.sd_restart.proofs.Settled.{and_false, opens_closed, opens_noted, pick_past, refused, settled_as, settled_event, settled_key, settled_moment, settled_number, settled_user, true_not_false}

opens_accepted : (reply : Reply) → opens reply ≡ true → is_accepted reply ≡ false
opens_accepted (replies.Lead r) h = refl
opens_accepted (replies.Refresh n r) h = refl
opens_accepted (replies.Bind a) h = refl
opens_accepted (replies.Cached a n) h = refl
opens_accepted (replies.Join r t) h = refl
opens_accepted _ h = true_not_false (sym h)

opens_tried : (reply : Reply) → opens reply ≡ true → is_try_accepted reply ≡ false
opens_tried (replies.Lead r) h = refl
opens_tried (replies.Refresh n r) h = refl
opens_tried (replies.Bind a) h = refl
opens_tried (replies.Cached a n) h = refl
opens_tried (replies.Join r t) h = refl
opens_tried _ h = true_not_false (sym h)

opens_wrong : (reply : Reply) → opens reply ≡ true → is_wrong reply ≡ false
opens_wrong (replies.Lead r) h = refl
opens_wrong (replies.Refresh n r) h = refl
opens_wrong (replies.Bind a) h = refl
opens_wrong (replies.Cached a n) h = refl
opens_wrong (replies.Join r t) h = refl
opens_wrong _ h = true_not_false (sym h)

-- falls
left_out_online : (event : Event) → ends_with_daemon event ≡ true → is_online event ≡ false
left_out_online events.Online h = true_not_false (sym h)
left_out_online _ h = refl

left_out_fall : (event : Event) (reply : Reply) (i : ℕ) → ends_with_daemon event ≡ true → is_fall_of event reply i ≡ false
left_out_fall (events.Fall r j why) reply i h = true_not_false (sym h)
left_out_fall (events.Kept row) reply i h = true_not_false (sym h)
left_out_fall _ reply i h = refl

both_with : (a b c : Bool) → b ≡ c → (a && b) ≡ (a && c)
both_with a b c e = ap (λ x. a && x) e

done_fall : (event : Event) (reply : Reply) (i : ℕ) → opens reply ≡ true → is_fall_of event replies.Done i ≡ is_fall_of event reply i
done_fall (events.Fall r j why) reply i h = both_with (j == i) false (is_noted reply) (sym (opens_noted reply h))
done_fall (events.Kept row) reply i h = kept_fall row
  where
    kept_fall : (row : Row) → is_fall_of (events.Kept row) replies.Done i ≡ is_fall_of (events.Kept row) reply i
    kept_fall (rows.Fall n m j) = refl
    kept_fall _ = refl
done_fall _ reply i h = refl

settled_fall : (b : Bool) (e : Entry) (i : ℕ) → opens e.reply ≡ b → is_fall_of (settled_as b e).event (settled_as b e).reply i ≡ is_fall_of e.event e.reply i
settled_fall true e i h = done_fall e.event e.reply i h
settled_fall false e i h = refl

fell_left_out : (o f l r s : Bool) → o ≡ false → f ≡ false → r ≡ s → r ≡ (if o then false else (f && l) || s)
fell_left_out true f l r s x y z = true_not_false x
fell_left_out false true l r s x y z = true_not_false y
fell_left_out false false l r s x y z = z

fell_kept : (o p f g r s : Bool) (t m n : ℕ) → o ≡ p → f ≡ g → m ≡ n → r ≡ s →
    (if o then false else (f && nat_lt t (m + 30)) || r) ≡ (if p then false else (g && nat_lt t (n + 30)) || s)
fell_kept o p f g r s t m n w x y z =
    ap (λ b. if b then false else (f && nat_lt t (m + 30)) || r) w
    ∙ (ap (λ b. if p then false else (b && nat_lt t (m + 30)) || r) x
    ∙ (ap (λ k. if p then false else (g && nat_lt t (k + 30)) || r) y
    ∙ ap (λ b. if p then false else (g && nat_lt t (n + 30)) || b) z))

pub settled_fell : (past : List Entry) (t i : ℕ) → has_fallen_lately (settled_past past) t i ≡ has_fallen_lately past t i
settled_fell [] t i = refl
settled_fell (e ∷ past) t i =
    pick_past (λ xs. has_fallen_lately xs t i ≡ has_fallen_lately (e ∷ past) t i) (ends_with_daemon e.event) (settled_past past) (settled e ∷ settled_past past)
    (λ ends. fell_left_out (is_online e.event) (is_fall_of e.event e.reply i) (nat_lt t (e.moment + 30)) (has_fallen_lately (settled_past past) t i) (has_fallen_lately past t i)
    (left_out_online e.event ends) (left_out_fall e.event e.reply i ends) (settled_fell past t i))
    (λ _. fell_kept (is_online (settled e).event) (is_online e.event) (is_fall_of (settled e).event (settled e).reply i) (is_fall_of e.event e.reply i)
    (has_fallen_lately (settled_past past) t i) (has_fallen_lately past t i) t (settled e).moment e.moment
    (ap is_online (settled_event (opens e.reply) e)) (settled_fall (opens e.reply) e i refl) (settled_moment (opens e.reply) e) (settled_fell past t i))

-- falls and picks under numbers from a bound on
under_none : (e : Entry) (n i : ℕ) (event : Event) → e.number ≤ n → names_earlier e.number (named_by event) e.reply ≡ true → falls_under event e.reply n i ≡ false
under_none e n i (events.Fall r j why) le h = refused (r == n) r e.number n e.reply (λ reply. (j == i) && is_noted reply) (and_false (j == i)) h le refl
under_none e n i _ le h = refl

done_under : (event : Event) (n i : ℕ) → falls_under event replies.Done n i ≡ false
done_under (events.Fall r j why) n i = both_with (r == n) ((j == i) && false) false (and_false (j == i)) ∙ and_false (r == n)
done_under _ n i = refl

settled_under_none : (b : Bool) (e : Entry) (n i : ℕ) → e.number ≤ n → names_earlier e.number (named_by e.event) e.reply ≡ true →
    falls_under (settled_as b e).event (settled_as b e).reply n i ≡ false
settled_under_none true e n i le h = done_under e.event n i
settled_under_none false e n i le h = under_none e n i e.event le h

neither_of : (a b : Bool) → a ≡ false → b ≡ false → (a || b) ≡ false
neither_of a b f g = cc

pub settled_under : (next : ℕ) (past : List Entry) (n i : ℕ) → falls_from next past ≡ true → all_name_earlier past ≡ true → next ≤ n →
    has_fallen_under (settled_past past) n i ≡ false
settled_under next [] n i f h le = refl
settled_under next (e ∷ past) n i f h le =
    let below : e.number < next = grind (arith, nat_tests, f) in
    let rest = second_holds (nat_lt e.number next) (falls_from e.number past) f in
    let here = first_holds (names_earlier e.number (named_by e.event) e.reply) (all_name_earlier past) h in
    let others = second_holds (names_earlier e.number (named_by e.event) e.reply) (all_name_earlier past) h in
    let later = settled_under e.number past n i rest others (omega (arith, below, le)) in
    pick_past (λ xs. has_fallen_under xs n i ≡ false) (ends_with_daemon e.event) (settled_past past) (settled e ∷ settled_past past) (λ _. later)
    (λ _. neither_of (falls_under (settled e).event (settled e).reply n i) (has_fallen_under (settled_past past) n i)
    (settled_under_none (opens e.reply) e n i (omega (arith, below, le)) here) later)

pick_none : (e : Entry) (n i : ℕ) (event : Event) → e.number ≤ n → names_earlier e.number (named_by event) e.reply ≡ true → (is_pick_of event n && is_server e.reply i) ≡ false
pick_none e n i (events.Pick r) le h = refused (r == n) r e.number n e.reply (λ reply. is_server reply i) refl h le refl
pick_none e n i _ le h = refl

settled_pick_none : (b : Bool) (e : Entry) (n i : ℕ) → e.number ≤ n → names_earlier e.number (named_by e.event) e.reply ≡ true →
    (is_pick_of (settled_as b e).event n && is_server (settled_as b e).reply i) ≡ false
settled_pick_none true e n i le h = and_false (is_pick_of e.event n)
settled_pick_none false e n i le h = pick_none e n i e.event le h

not_picked : (b s r : Bool) → (b && s) ≡ false → r ≡ false → (if b then s else r) ≡ false
not_picked true s r f g = f
not_picked false s r f g = g

pub settled_picked : (next : ℕ) (past : List Entry) (n i : ℕ) → falls_from next past ≡ true → all_name_earlier past ≡ true → next ≤ n →
    was_picked (settled_past past) n i ≡ false
settled_picked next [] n i f h le = refl
settled_picked next (e ∷ past) n i f h le =
    let below : e.number < next = grind (arith, nat_tests, f) in
    let rest = second_holds (nat_lt e.number next) (falls_from e.number past) f in
    let here = first_holds (names_earlier e.number (named_by e.event) e.reply) (all_name_earlier past) h in
    let others = second_holds (names_earlier e.number (named_by e.event) e.reply) (all_name_earlier past) h in
    let later = settled_picked e.number past n i rest others (omega (arith, below, le)) in
    pick_past (λ xs. was_picked xs n i ≡ false) (ends_with_daemon e.event) (settled_past past) (settled e ∷ settled_past past) (λ _. later)
    (λ _. not_picked (is_pick_of (settled e).event n) (is_server (settled e).reply i) (was_picked (settled_past past) n i)
    (settled_pick_none (opens e.reply) e n i (omega (arith, below, le)) here) later)

-- guesses
left_out_accepts : (past : List Entry) (user : List ℕ) (event : Event) (reply : Reply) → ends_with_daemon event ≡ true → accepts past user event reply ≡ false
left_out_accepts past user (events.LoginOnline a result) reply h = true_not_false (sym h)
left_out_accepts past user (events.LoginGuess u named right) reply h = true_not_false (sym h)
left_out_accepts past user (events.LoginTry a named right) reply h = true_not_false (sym h)
left_out_accepts past user _ reply h = refl

left_out_wrongs : (user : List ℕ) (event : Event) (reply : Reply) → ends_with_daemon event ≡ true → wrongs user event reply ≡ 0
left_out_wrongs user (events.LoginGuess u named right) reply h = true_not_false (sym h)
left_out_wrongs user (events.Kept row) reply h = true_not_false (sym h)
left_out_wrongs user _ reply h = refl

none_closed : (r c a : Bool) → c ≡ false → (r && (c && a)) ≡ false
none_closed r true a h = true_not_false h
none_closed r false a h = and_false r

none_first : (c a : Bool) → c ≡ false → (c && a) ≡ false
none_first true a h = true_not_false h
none_first false a h = refl

opens_accepts_none : (past : List Entry) (user : List ℕ) (event : Event) (reply : Reply) → is_closed reply ≡ false → is_accepted reply ≡ false → is_try_accepted reply ≡ false →
    accepts past user event reply ≡ false
opens_accepts_none past user (events.LoginOnline a result) reply c d t = none_closed (is_right result) (is_closed reply) (is_attempt_of past a user) c
opens_accepts_none past user (events.LoginGuess u named right) reply c d t = none_first (is_accepted reply) (same_name u user) d
opens_accepts_none past user (events.LoginTry a named right) reply c d t = none_first (is_try_accepted reply) (is_attempt_of past a user) t
opens_accepts_none past user _ reply c d t = refl

same_accepts : (p q : List Entry) (user : List ℕ) (event : Event) (reply : Reply) → ((a : ℕ) → user_of p a ≡ user_of q a) → accepts p user event reply ≡ accepts q user event reply
same_accepts p q user (events.LoginOnline a result) reply h = ap (λ u. is_right result && (is_closed reply && is_name u user)) (h a)
same_accepts p q user (events.LoginTry a named right) reply h = ap (λ u. is_try_accepted reply && is_name u user) (h a)
same_accepts p q user (events.LoginGuess u named right) reply h = refl
same_accepts p q user _ reply h = refl

settled_accepts : (b : Bool) (e : Entry) (p q : List Entry) (user : List ℕ) → opens e.reply ≡ b → ((a : ℕ) → user_of p a ≡ user_of q a) →
    accepts p user (settled_as b e).event (settled_as b e).reply ≡ accepts q user e.event e.reply
settled_accepts true e p q user h f =
    opens_accepts_none p user e.event replies.Done refl refl refl
    ∙ sym (opens_accepts_none q user e.event e.reply (opens_closed e.reply h) (opens_accepted e.reply h) (opens_tried e.reply h))
settled_accepts false e p q user h f = same_accepts p q user e.event e.reply f

done_wrongs : (user : List ℕ) (event : Event) (reply : Reply) → is_wrong reply ≡ false → wrongs user event replies.Done ≡ wrongs user event reply
done_wrongs user (events.LoginGuess u named right) reply h = ap (λ w. if w && same_name u user then 1 else 0) (sym h)
done_wrongs user (events.Kept row) reply h = kept_wrongs row
  where
    kept_wrongs : (row : Row) → wrongs user (events.Kept row) replies.Done ≡ wrongs user (events.Kept row) reply
    kept_wrongs (rows.Wrong n m u count) = refl
    kept_wrongs _ = refl
done_wrongs user _ reply h = refl

settled_wrongs_in : (b : Bool) (e : Entry) (user : List ℕ) → opens e.reply ≡ b → wrongs user (settled_as b e).event (settled_as b e).reply ≡ wrongs user e.event e.reply
settled_wrongs_in true e user h = done_wrongs user e.event e.reply (opens_wrong e.reply h)
settled_wrongs_in false e user h = refl

count_left_out : (a : Bool) (w m n : ℕ) → a ≡ false → w ≡ 0 → m ≡ n → m ≡ (if a then 0 else w + n)
count_left_out true w m n f g h = true_not_false f
count_left_out false w m n f g h = omega (arith, g, h)

count_kept : (a b : Bool) (v w m n : ℕ) → a ≡ b → v ≡ w → m ≡ n → (if a then 0 else v + m) ≡ (if b then 0 else w + n)
count_kept a b v w m n f g h =
    ap (λ x. if x then 0 else v + m) f ∙ (ap (λ x. if b then 0 else x + m) g ∙ ap (λ x. if b then 0 else w + x) h)

pub settled_wrongs : (next : ℕ) (past : List Entry) (user : List ℕ) → falls_from next past ≡ true → wrong_count (settled_past past) user ≡ wrong_count past user
settled_wrongs next [] user f = refl
settled_wrongs next (e ∷ past) user f =
    let rest = second_holds (nat_lt e.number next) (falls_from e.number past) f in
    pick_past (λ xs. wrong_count xs user ≡ wrong_count (e ∷ past) user) (ends_with_daemon e.event) (settled_past past) (settled e ∷ settled_past past)
    (λ ends. count_left_out (accepts past user e.event e.reply) (wrongs user e.event e.reply) (wrong_count (settled_past past) user) (wrong_count past user)
    (left_out_accepts past user e.event e.reply ends) (left_out_wrongs user e.event e.reply ends) (settled_wrongs e.number past user rest))
    (λ _. count_kept (accepts (settled_past past) user (settled e).event (settled e).reply) (accepts past user e.event e.reply)
    (wrongs user (settled e).event (settled e).reply) (wrongs user e.event e.reply) (wrong_count (settled_past past) user) (wrong_count past user)
    (settled_accepts (opens e.reply) e (settled_past past) past user refl (λ a. settled_user e.number past a rest)) (settled_wrongs_in (opens e.reply) e user refl)
    (settled_wrongs e.number past user rest))

last_left_out : (w m : ℕ) (x y : Option ℕ) → w ≡ 0 → x ≡ y → x ≡ (if w == 0 then y else Some m)
last_left_out w m x y f g = at_zero (w == 0) (grind (arith, nat_tests, f))
  where
    at_zero : (z : Bool) → z ≡ true → x ≡ (if z then y else Some m)
    at_zero true h = g
    at_zero false h = true_not_false (sym h)

last_kept : (v w m n : ℕ) (x y : Option ℕ) → v ≡ w → m ≡ n → x ≡ y → (if v == 0 then x else Some m) ≡ (if w == 0 then y else Some n)
last_kept v w m n x y f g h =
    ap (λ k. if k == 0 then x else Some m) f ∙ (ap (λ k. if w == 0 then x else Some k) g ∙ ap (λ z. if w == 0 then z else Some n) h)

pub settled_wrong : (past : List Entry) (user : List ℕ) → last_wrong (settled_past past) user ≡ last_wrong past user
settled_wrong [] user = refl
settled_wrong (e ∷ past) user =
    pick_past (λ xs. last_wrong xs user ≡ last_wrong (e ∷ past) user) (ends_with_daemon e.event) (settled_past past) (settled e ∷ settled_past past)
    (λ ends. last_left_out (wrongs user e.event e.reply) e.moment (last_wrong (settled_past past) user) (last_wrong past user) (left_out_wrongs user e.event e.reply ends)
    (settled_wrong past user))
    (λ _. last_kept (wrongs user (settled e).event (settled e).reply) (wrongs user e.event e.reply) (settled e).moment e.moment (last_wrong (settled_past past) user) (last_wrong past user)
    (settled_wrongs_in (opens e.reply) e user refl) (settled_moment (opens e.reply) e) (settled_wrong past user))

-- logins
left_out_login : (past : List Entry) (user : List ℕ) (event : Event) (reply : Reply) → ends_with_daemon event ≡ true → login_by past user event reply ≡ None
left_out_login past user (events.LoginOnline a result) reply h = true_not_false (sym h)
left_out_login past user (events.Kept row) reply h = true_not_false (sym h)
left_out_login past user _ reply h = refl

unclosed_login : (past : List Entry) (user : List ℕ) (event : Event) (reply other : Reply) → is_closed reply ≡ false → is_closed other ≡ false →
    login_by past user event reply ≡ login_by past user event other
unclosed_login past user (events.LoginOnline a result) reply other c d =
    ap (λ b. if b && is_attempt_of past a user then hash_carried result else None) (c ∙ sym d)
unclosed_login past user (events.Kept row) reply other c d = refl
unclosed_login past user _ reply other c d = refl

same_login_by : (p q : List Entry) (user : List ℕ) (event : Event) (reply : Reply) → ((a : ℕ) → user_of p a ≡ user_of q a) → login_by p user event reply ≡ login_by q user event reply
same_login_by p q user (events.LoginOnline a result) reply h = ap (λ u. if is_closed reply && is_name u user then hash_carried result else None) (h a)
same_login_by p q user (events.Kept row) reply h = refl
same_login_by p q user _ reply h = refl

settled_login_by : (b : Bool) (e : Entry) (p q : List Entry) (user : List ℕ) → opens e.reply ≡ b → ((a : ℕ) → user_of p a ≡ user_of q a) →
    login_by p user (settled_as b e).event (settled_as b e).reply ≡ login_by q user e.event e.reply
settled_login_by true e p q user h f = unclosed_login p user e.event replies.Done e.reply refl (opens_closed e.reply h) ∙ same_login_by p q user e.event e.reply f
settled_login_by false e p q user h f = same_login_by p q user e.event e.reply f

settled_login_in : (b : Bool) (e : Entry) (hashed : Option Bool) → login_in (settled_as b e) hashed ≡ login_in e hashed
settled_login_in true e None = refl
settled_login_in true e (Some hashed) = refl
settled_login_in false e hashed = refl

login_left_out : (e : Entry) (hashed : Option Bool) (x y : Option Login) → hashed ≡ None → x ≡ y → x ≡ or_earlier (login_in e hashed) y
login_left_out e None x y f g = g
login_left_out e (Some b) x y f g = let clash : ⊥ = cc in absurd clash

hash_left_out : (e : Entry) (hashed : Option Bool) (x y : Option Login) → hashed ≡ None → x ≡ y → x ≡ or_earlier (only_hashed (login_in e hashed)) y
hash_left_out e None x y f g = g
hash_left_out e (Some b) x y f g = let clash : ⊥ = cc in absurd clash

pub settled_login : (next : ℕ) (past : List Entry) (user : List ℕ) → falls_from next past ≡ true → last_online_login (settled_past past) user ≡ last_online_login past user
settled_login next [] user f = refl
settled_login next (e ∷ past) user f =
    let rest = second_holds (nat_lt e.number next) (falls_from e.number past) f in
    pick_past (λ xs. last_online_login xs user ≡ last_online_login (e ∷ past) user) (ends_with_daemon e.event) (settled_past past) (settled e ∷ settled_past past)
    (λ ends. login_left_out e (login_by past user e.event e.reply) (last_online_login (settled_past past) user) (last_online_login past user)
    (left_out_login past user e.event e.reply ends) (settled_login e.number past user rest))
    (λ _. ap (λ h. or_earlier (login_in (settled e) h) (last_online_login (settled_past past) user)) (settled_login_by (opens e.reply) e (settled_past past) past user refl (λ a. settled_user e.number past a rest))
    ∙ (ap (λ l. or_earlier l (last_online_login (settled_past past) user)) (settled_login_in (opens e.reply) e (login_by past user e.event e.reply))
    ∙ ap (λ l. or_earlier (login_in e (login_by past user e.event e.reply)) l) (settled_login e.number past user rest)))

pub settled_hash : (next : ℕ) (past : List Entry) (user : List ℕ) → falls_from next past ≡ true → hash_entry (settled_past past) user ≡ hash_entry past user
settled_hash next [] user f = refl
settled_hash next (e ∷ past) user f =
    let rest = second_holds (nat_lt e.number next) (falls_from e.number past) f in
    pick_past (λ xs. hash_entry xs user ≡ hash_entry (e ∷ past) user) (ends_with_daemon e.event) (settled_past past) (settled e ∷ settled_past past)
    (λ ends. hash_left_out e (login_by past user e.event e.reply) (hash_entry (settled_past past) user) (hash_entry past user)
    (left_out_login past user e.event e.reply ends) (settled_hash e.number past user rest))
    (λ _. ap (λ h. or_earlier (only_hashed (login_in (settled e) h)) (hash_entry (settled_past past) user)) (settled_login_by (opens e.reply) e (settled_past past) past user refl (λ a. settled_user e.number past a rest))
    ∙ (ap (λ l. or_earlier (only_hashed l) (hash_entry (settled_past past) user)) (settled_login_in (opens e.reply) e (login_by past user e.event e.reply))
    ∙ ap (λ l. or_earlier (only_hashed (login_in e (login_by past user e.event e.reply))) l) (settled_hash e.number past user rest)))

-- answers
left_out_answer : (past : List Entry) (e : Entry) (event : Event) → ends_with_daemon event ≡ true → answer_by past e event ≡ None
left_out_answer past e (events.Answer r answered) h = true_not_false (sym h)
left_out_answer past e (events.Kept row) h = true_not_false (sym h)
left_out_answer past e _ h = refl

settled_under_key : (b : Bool) (e : Entry) (answered : Answered) (own : Option Key) → answer_under (settled_as b e) answered own ≡ answer_under e answered own
settled_under_key true e answered None = refl
settled_under_key true e answered (Some own) = refl
settled_under_key false e answered own = refl

unclosed_answer : (c d : Bool) (x y : Option Standing) → c ≡ false → d ≡ false → (if c then x else None) ≡ (if d then y else None)
unclosed_answer true d x y f g = true_not_false f
unclosed_answer false true x y f g = true_not_false g
unclosed_answer false false x y f g = refl

settled_answer_by : (b : Bool) (e : Entry) (p q : List Entry) (event : Event) → opens e.reply ≡ b → ((r : ℕ) → key_of p r ≡ key_of q r) →
    answer_by p (settled_as b e) event ≡ answer_by q e event
settled_answer_by true e p q (events.Answer r answered) h f =
    unclosed_answer false (is_closed e.reply) (answer_under (settled_as true e) answered (key_of p r)) (answer_under e answered (key_of q r)) refl (opens_closed e.reply h)
settled_answer_by true e p q (events.Kept row) h f = kept_answer row
  where
    kept_answer : (row : Row) → answer_by p (settled_as true e) (events.Kept row) ≡ answer_by q e (events.Kept row)
    kept_answer (rows.Answer n m own answered marked) = refl
    kept_answer _ = refl
settled_answer_by true e p q _ h f = refl
settled_answer_by false e p q (events.Answer r answered) h f = ap (λ k. if is_closed e.reply then answer_under e answered k else None) (f r)
settled_answer_by false e p q (events.Kept row) h f = kept_answer row
  where
    kept_answer : (row : Row) → answer_by p e (events.Kept row) ≡ answer_by q e (events.Kept row)
    kept_answer (rows.Answer n m own answered marked) = refl
    kept_answer _ = refl
settled_answer_by false e p q _ h f = refl

settled_answer_in : (b : Bool) (e : Entry) (p q : List Entry) → opens e.reply ≡ b → ((r : ℕ) → key_of p r ≡ key_of q r) → answer_in p (settled_as b e) ≡ answer_in q e
settled_answer_in b e p q h f = ap (λ event. answer_by p (settled_as b e) event) (settled_event b e) ∙ settled_answer_by b e p q e.event h f

answer_left_out : (k : Key) (a x y : Option Standing) → a ≡ None → x ≡ y → x ≡ or_else (spoken k a) y
answer_left_out k None x y f g = g
answer_left_out k (Some a) x y f g = let clash : ⊥ = cc in absurd clash

pub settled_newest : (next : ℕ) (past : List Entry) (k : Key) → falls_from next past ≡ true → newest (settled_past past) k ≡ newest past k
settled_newest next [] k f = refl
settled_newest next (e ∷ past) k f =
    let rest = second_holds (nat_lt e.number next) (falls_from e.number past) f in
    pick_past (λ xs. newest xs k ≡ newest (e ∷ past) k) (ends_with_daemon e.event) (settled_past past) (settled e ∷ settled_past past)
    (λ ends. answer_left_out k (answer_in past e) (newest (settled_past past) k) (newest past k) (left_out_answer past e e.event ends) (settled_newest e.number past k rest))
    (λ _. ap (λ a. or_else (spoken k a) (newest (settled_past past) k)) (settled_answer_in (opens e.reply) e (settled_past past) past refl (λ r. settled_key e.number past r rest))
    ∙ ap (λ a. or_else (spoken k (answer_in past e)) a) (settled_newest e.number past k rest))

-- invalidations of the newest answer
left_out_void : (event : Event) (own : Key) (answered : Answered) → ends_with_daemon event ≡ true → voids event own answered ≡ false
left_out_void (events.Void what) own answered h = true_not_false (sym h)
left_out_void _ own answered h = refl

abbrev VoidSame : List Entry → Option Standing → Type 0
VoidSame past None = Unit {0}
VoidSame past (Some a) = is_void_after (settled_past past) a ≡ is_void_after past a

-- whose number is below a bound
abbrev IsBelow : ℕ → Option Standing → Type 0
IsBelow n None = Unit {0}
IsBelow n (Some a) = a.number < n

abbrev pub HasNumber : ℕ → Option Standing → Type 0
HasNumber n None = Unit {0}
HasNumber n (Some a) = a.number ≡ n

stops_here : (b v : Bool) → b ≡ true → (if b then false else v) ≡ false
stops_here true v h = refl
stops_here false v h = true_not_false (sym h)

goes_on : (b v w : Bool) → b ≡ false → v ≡ w → v ≡ (if b then false else w)
goes_on true v w f g = true_not_false f
goes_on false v w f g = g

-- of an answer that the entry holds
void_here : (e : Entry) (past : List Entry) (a : Standing) → a.number ≡ e.number → ends_with_daemon e.event ≡ false → is_void_after (settled_past (e ∷ past)) a ≡ is_void_after (e ∷ past) a
void_here e past a is stays =
    let kept : settled_past (e ∷ past) ≡ settled e ∷ settled_past past = ap (λ b. if b then settled_past past else settled e ∷ settled_past past) stays in
    let same : (e.number == a.number) ≡ true = grind (arith, nat_tests, is) in
    let own : ((settled e).number == a.number) ≡ true = ap (λ n. n == a.number) (settled_number (opens e.reply) e) ∙ same in
    ap (λ xs. is_void_after xs a) kept
    ∙ (stops_here ((settled e).number == a.number) (voids (settled e).event a.own a.answered || is_void_after (settled_past past) a) own
    ∙ sym (stops_here (e.number == a.number) (voids e.event a.own a.answered || is_void_after past a) same))

neither_void : (v w : Bool) → v ≡ false → w ≡ (v || w)
neither_void true w h = true_not_false h
neither_void false w h = refl

-- of an earlier answer
void_later : (e : Entry) (past : List Entry) (a : Standing) → a.number < e.number → is_void_after (settled_past past) a ≡ is_void_after past a →
    is_void_after (settled_past (e ∷ past)) a ≡ is_void_after (e ∷ past) a
void_later e past a below h =
    let other : (e.number == a.number) ≡ false = grind (arith, nat_tests, below) in
    let own : ((settled e).number == a.number) ≡ false = ap (λ n. n == a.number) (settled_number (opens e.reply) e) ∙ other in
    pick_past (λ xs. is_void_after xs a ≡ is_void_after (e ∷ past) a) (ends_with_daemon e.event) (settled_past past) (settled e ∷ settled_past past)
    (λ ends. goes_on (e.number == a.number) (is_void_after (settled_past past) a) (voids e.event a.own a.answered || is_void_after past a) other
    (h ∙ neither_void (voids e.event a.own a.answered) (is_void_after past a) (left_out_void e.event a.own a.answered ends)))
    (λ _. sym (goes_on ((settled e).number == a.number) (is_void_after (e ∷ past) a) (voids (settled e).event a.own a.answered || is_void_after (settled_past past) a) own
    (sym (goes_on (e.number == a.number) (voids (settled e).event a.own a.answered || is_void_after (settled_past past) a) (voids e.event a.own a.answered || is_void_after past a) other
    (ap (λ event. voids event a.own a.answered || is_void_after (settled_past past) a) (settled_event (opens e.reply) e)
    ∙ ap (λ v. voids e.event a.own a.answered || v) h)))))

void_later_of : (e : Entry) (past : List Entry) (a : Option Standing) → IsBelow e.number a → VoidSame past a → VoidSame (e ∷ past) a
void_later_of e past None below h = tt
void_later_of e past (Some a) below h = void_later e past a below h

void_spoken : (k : Key) (past : List Entry) (a : Option Standing) → VoidSame past a → VoidSame past (spoken k a)
void_spoken k past None h = tt
void_spoken k past (Some a) h = spoken_or_none (speaks_of a.own a.answered k)
  where
    spoken_or_none : (b : Bool) → VoidSame past (if b then Some a else None)
    spoken_or_none true = h
    spoken_or_none false = tt

void_else : (past : List Entry) (a b : Option Standing) → VoidSame past a → VoidSame past b → VoidSame past (or_else a b)
void_else past None b f g = g
void_else past (Some a) b f g = f

void_own : (e : Entry) (past : List Entry) (a : Option Standing) → HasNumber e.number a → (ends_with_daemon e.event ≡ true → a ≡ None) → VoidSame (e ∷ past) a
void_own e past None is f = tt
void_own e past (Some a) is f = void_here e past a is (stays (ends_with_daemon e.event) f)
  where
    stays : (b : Bool) → (b ≡ true → Some a ≡ None) → b ≡ false
    stays true f = let clash : Some a ≡ None = f refl in cc
    stays false f = refl

under_has : (e : Entry) (answered : Answered) (own : Option Key) → HasNumber e.number (answer_under e answered own)
under_has e answered None = tt
under_has e answered (Some own) = refl

has_if : (n : ℕ) (b : Bool) (x : Option Standing) → HasNumber n x → HasNumber n (if b then x else None)
has_if n true x h = h
has_if n false x h = tt

pub answer_has : (p : List Entry) (e : Entry) (event : Event) → HasNumber e.number (answer_by p e event)
answer_has p e (events.Answer r answered) = has_if e.number (is_closed e.reply) (answer_under e answered (key_of p r)) (under_has e answered (key_of p r))
answer_has p e (events.Kept row) = row_has row
  where
    row_has : (row : Row) → HasNumber e.number (answer_by p e (events.Kept row))
    row_has (rows.Answer n m own answered marked) = refl
    row_has _ = tt
answer_has p e _ = tt

newest_void : (next : ℕ) (past : List Entry) (k : Key) → falls_from next past ≡ true → VoidSame past (newest past k)
newest_void next [] k f = tt
newest_void next (e ∷ past) k f =
    let rest = second_holds (nat_lt e.number next) (falls_from e.number past) f in
    void_else (e ∷ past) (spoken k (answer_in past e)) (newest past k)
    (void_spoken k (e ∷ past) (answer_in past e) (void_own e past (answer_in past e) (answer_has past e e.event) (λ ends. left_out_answer past e e.event ends)))
    (void_later_of e past (newest past k) (newest_below e.number past k rest) (newest_void e.number past k rest))

pub settled_voided : (next : ℕ) (past : List Entry) (k : Key) (a : Standing) → falls_from next past ≡ true → newest past k ≡ Some a →
    is_voided (settled_past past) a ≡ is_voided past a
settled_voided next past k a f is =
    let same : VoidSame past (Some a) = subst (VoidSame past) is (newest_void next past k f) in
    ap (λ v. a.marked || v) same
