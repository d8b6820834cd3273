-- The bounds stay those of the journal's invalidations, and tell whether an answer is voided.
use Rattle.std.proofs.Common.{◌≡◌, ℕ, ◌<◌, ◌≤◌, max, nat_lt, Bool, true, false, cond, ◌||◌, ◌==◌, List, [], ◌∷◌, Option, None, Some, refl, sym, ◌∙◌, ap, arith}
use Rattle.sd_rules.specs.declared.keys.Key.{Key}
use Rattle.sd_rules.specs.declared.keys.Key.TheVariants.{User, Uid, Group, Gid, GroupsOf, Host, Rules}
use Rattle.sd_rules.specs.declared.keys.What.{What}
use Rattle.sd_rules.specs.declared.records.Answered.{Answered}
use Rattle.sd_rules.specs.declared.records.Answered.TheVariants.{Found, Absent}
use Rattle.sd_rules.specs.declared.records.Record.TheVariants as records
use Rattle.sd_rules.specs.declared.events.Event.{Event}
use Rattle.sd_rules.specs.declared.events.Event.TheVariants.{Answer, Void, Kept}
use Rattle.sd_rules.specs.declared.events.Row.TheVariants as rows
use Rattle.sd_rules.specs.declared.replies.Entry.{Entry}
use Rattle.sd_rules.specs.Keys.{speaks_of, covers}
use Rattle.sd_rules.specs.Past.{Standing, is_closed, key_of, answer_under, answer_by, answer_in, spoken, or_else, newest, voids, is_void_after}
use Rattle.sd_voids.specs.Bounds.{Bounds}
use Rattle.sd_voids.specs.Entries.{numbers_fall}
use Rattle.sd_voids.specs.Voids.{last_void, by_kind, by_key, by_found, bound_of, no_bounds, Sets, HoldsVoids}
use Rattle.sd_voids.proofs.FallLaws.{head_below, tail_falls, tests_less, tests_not_less, not_same_above, same_self}
use Rattle.sd_voids.proofs.BoundLaws.{bound_after}

either_at_most : (b : Bool) (x y n : ℕ) → x ≤ n → y ≤ n → cond b x y ≤ n
either_at_most true x y n h k = h
either_at_most false x y n h k = k

-- the last invalidation of all is before the next entry
pub last_void_before : (past : List Entry) (n : ℕ) (own : Key) (answered : Answered) → numbers_fall n past ≡ true → last_void past own answered ≤ n
last_void_before [] n own answered h = omega arith
last_void_before (e ∷ past) n own answered h =
    let lt : e.number < n = head_below n e past h in
    let rest : last_void past own answered ≤ e.number = last_void_before past e.number own answered (tail_falls n e past h) in
    either_at_most (voids e.event own answered) e.number (last_void past own answered) n (omega arith) (omega arith)

-- an entry that voids nothing
pub holds_voids_other : (past : List Entry) (e : Entry) (b : Bounds) → ((own : Key) (answered : Answered) → voids e.event own answered ≡ false)
    → HoldsVoids past b → HoldsVoids (e ∷ past) b
holds_voids_other past e b none holds = record {
  each = λ own answered. holds.each own answered ∙ ap (λ (v : Bool). cond v e.number (last_void past own answered)) (sym (none own answered));
}

-- an invalidation
pub holds_voids_after : (past : List Entry) (e : Entry) (what : What) (b c : Bounds) → e.event ≡ Void what → numbers_fall e.number past ≡ true
    → Sets what e.number b c → HoldsVoids past b → HoldsVoids (e ∷ past) c
holds_voids_after past e what b c is falls sets holds = record {
  each = λ own answered.
      let same : bound_of b own answered ≡ last_void past own answered = holds.each own answered in
      let before : last_void past own answered ≤ e.number = last_void_before past e.number own answered falls in
      let small : bound_of b own answered ≤ e.number = omega arith in
      bound_after e.number b what c own answered sets small
      ∙ ap (λ (x : ℕ). cond (covers what own answered) e.number x) same
      ∙ ap (λ (v : Event). cond (voids v own answered) e.number (last_void past own answered)) (sym is);
}

-- a journal of no entries
kind_none : (own : Key) → by_kind no_bounds own ≡ 0
kind_none (User name) = refl
kind_none (Uid uid) = refl
kind_none (Group name) = refl
kind_none (Gid gid) = refl
kind_none (GroupsOf name) = refl
kind_none Host = refl
kind_none Rules = refl

key_none : (own : Key) → by_key no_bounds own ≡ 0
key_none (User name) = refl
key_none (Uid uid) = refl
key_none (Group name) = refl
key_none (Gid gid) = refl
key_none (GroupsOf name) = refl
key_none Host = refl
key_none Rules = refl

found_none : (answered : Answered) → by_found no_bounds answered ≡ 0
found_none Absent = refl
found_none (Found (records.User user)) = refl
found_none (Found (records.Group group)) = refl
found_none (Found (records.Groups groups)) = refl
found_none (Found (records.Host host)) = refl
found_none (Found (records.Rules book)) = refl

three_none : (a b c : ℕ) → a ≡ 0 → b ≡ 0 → c ≡ 0 → max 0 (max a (max b c)) ≡ 0
three_none a b c h k l = omega arith

none_of : (own : Key) (answered : Answered) → bound_of no_bounds own answered ≡ 0
none_of own answered = three_none (by_kind no_bounds own) (by_key no_bounds own) (by_found no_bounds answered) (kind_none own) (key_none own) (found_none answered)

pub holds_no_voids : HoldsVoids [] no_bounds
holds_no_voids = record { each = λ own answered. none_of own answered }

under_number : (e : Entry) (answered : Answered) (own : Option Key) (a : Standing) → answer_under e answered own ≡ Some a → a.number ≡ e.number
under_number e answered None a h = cc
under_number e answered (Some own) a h = cc

closed_number : (closed : Bool) (o : Option Standing) (a : Standing) (n : ℕ) → cond closed o None ≡ Some a → (o ≡ Some a → a.number ≡ n) → a.number ≡ n
closed_number true o a n h f = f h
closed_number false o a n h f = cc

-- an answer has the number of its entry
pub answer_number : (past : List Entry) (e : Entry) (event : Event) (a : Standing) → answer_by past e event ≡ Some a → a.number ≡ e.number
answer_number past e (Answer request answered) a h =
    closed_number (is_closed e.reply) (answer_under e answered (key_of past request)) a e.number h (under_number e answered (key_of past request) a)
answer_number past e (Kept (rows.Answer n m own answered marked)) a h = cc
answer_number past e _ a h = cc

-- and its entry voids nothing
pub answer_voids_none : (past : List Entry) (e : Entry) (event : Event) (a : Standing) (own : Key) (answered : Answered) → answer_by past e event ≡ Some a
    → voids event own answered ≡ false
answer_voids_none past e (Void what) a own answered h = cc
answer_voids_none past e _ a own answered h = refl

spoken_by : (speaks : Bool) (b a : Standing) → cond speaks (Some b) None ≡ Some a → Some b ≡ Some a
spoken_by true b a h = h
spoken_by false b a h = cc

spoken_is : (k : Key) (o : Option Standing) (a : Standing) → spoken k o ≡ Some a → o ≡ Some a
spoken_is k None a h = cc
spoken_is k (Some b) a h = spoken_by (speaks_of b.own b.answered k) b a h

-- the newest answer of a key stands before the next entry
newest_step : (o : Option Standing) (n : Option Standing) (a : Standing) (m : ℕ) → or_else o n ≡ Some a → (o ≡ Some a → a.number < m) → (n ≡ Some a → a.number < m) → a.number < m
newest_step None n a m h f g = g h
newest_step (Some b) n a m h f g = f h

pub newest_before : (past : List Entry) (n : ℕ) (k : Key) (a : Standing) → numbers_fall n past ≡ true → newest past k ≡ Some a → a.number < n
newest_before [] n k a falls h = cc
newest_before (e ∷ past) n k a falls h =
    let lt : e.number < n = head_below n e past falls in
    newest_step (spoken k (answer_in past e)) (newest past k) a n h
    (λ here. let same : a.number ≡ e.number = answer_number past e e.event a (spoken_is k (answer_in past e) a here) in omega arith)
    (λ there. let before : a.number < e.number = newest_before past e.number k a (tail_falls n e past falls) there in omega arith)

pub voided_here : (e : Entry) (a : Standing) (v w : Bool) (l : ℕ) → a.number ≡ e.number → v ≡ false → l ≤ e.number
    → cond (e.number == a.number) false (v || w) ≡ nat_lt a.number (cond v e.number l)
voided_here e a v w l same none before =
    let eq : (e.number == a.number) ≡ true = ap (λ (x : ℕ). e.number == x) same ∙ same_self e.number in
    let le : l ≤ a.number = omega arith in
    ap (λ (b : Bool). cond b false (v || w)) eq
    ∙ sym (tests_not_less a.number l le)
    ∙ ap (λ (b : Bool). nat_lt a.number (cond b e.number l)) (sym none)

voided_later : (v w : Bool) (n m l : ℕ) → n < m → w ≡ nat_lt n l → (v || w) ≡ nat_lt n (cond v m l)
voided_later true w n m l lt h = sym (tests_less n m lt)
voided_later false w n m l lt h = h

pub voided_there : (e : Entry) (a : Standing) (v w : Bool) (l : ℕ) → a.number < e.number → w ≡ nat_lt a.number l
    → cond (e.number == a.number) false (v || w) ≡ nat_lt a.number (cond v e.number l)
voided_there e a v w l lt h =
    ap (λ (b : Bool). cond b false (v || w)) (not_same_above e.number a.number lt) ∙ voided_later v w a.number e.number l lt h

voided_step : (o n : Option Standing) (a : Standing) (x y : Bool) → or_else o n ≡ Some a → (o ≡ Some a → x ≡ y) → (n ≡ Some a → x ≡ y) → x ≡ y
voided_step None n a x y h f g = g h
voided_step (Some b) n a x y h f g = f h

-- whether the newest answer of a key is voided is a comparison of numbers
pub voided_by_number : (past : List Entry) (n : ℕ) (k : Key) (a : Standing) → numbers_fall n past ≡ true → newest past k ≡ Some a
    → is_void_after past a ≡ nat_lt a.number (last_void past a.own a.answered)
voided_by_number [] n k a falls h = cc
voided_by_number (e ∷ past) n k a falls h =
    let rest : numbers_fall e.number past ≡ true = tail_falls n e past falls in
    let v : Bool = voids e.event a.own a.answered in
    let w : Bool = is_void_after past a in
    let l : ℕ = last_void past a.own a.answered in
    voided_step (spoken k (answer_in past e)) (newest past k) a (is_void_after (e ∷ past) a) (nat_lt a.number (last_void (e ∷ past) a.own a.answered)) h
    (λ here.
    let is : answer_in past e ≡ Some a = spoken_is k (answer_in past e) a here in
    voided_here e a v w l (answer_number past e e.event a is) (answer_voids_none past e e.event a a.own a.answered is) (last_void_before past e.number a.own a.answered rest))
    (λ there. voided_there e a v w l (newest_before past e.number k a rest there) (voided_by_number past e.number k a rest there))
