-- Invalidations that cover the newest answers, or stand after the asking of an open request, are seen alike in a part that keeps them.
use Rattle.std.proofs.Common.{◌≡◌, ℕ, ◌<◌, Bool, true, false, List, [], ◌∷◌, refl, sym, ap, subst, ◌∙◌, inl, inr}
use Rattle.std.specs.Prelude.{Option, Some, None, ◌==◌, ◌&&◌, ◌||◌, if◌then◌else◌}
use Rattle.sd_rules.specs.declared.keys.Key.{Key}
use Rattle.sd_rules.specs.declared.keys.What.{What}
use Rattle.sd_rules.specs.declared.records.Answered.{Answered}
use Rattle.sd_rules.specs.declared.events.Event.{Event}
use Rattle.sd_rules.specs.declared.events.Event.TheVariants as events
use Rattle.sd_rules.specs.declared.replies.Entry.{Entry}
use Rattle.sd_rules.specs.declared.replies.Reply.{Reply}
use Rattle.sd_rules.specs.Keys.{covers}
use Rattle.sd_rules.specs.Past.{Standing, or_else, voids, newest, answer_by, answer_in, is_void_after}
use Rattle.sd_rules.specs.Requests.{opens_request, has_opened_request, is_open, is_open_request, is_open_attempt, unclosed}
use Rattle.sd_rules.specs.Steps.{asks_again, is_asking, is_again, void_since}
use Rattle.sd_rules.specs.Needed.{last_where, is_newest_answer, is_last_void, is_covered, covers_newest, is_asked_by, is_asked_before, is_after_asking, is_void_needed, serves_open, is_last_again}
use Rattle.sd_forgetting.specs.Parts.{part, IsAt, numbers_fall}
use Rattle.sd_forgetting.proofs.Tests.{not_true, none_is_not, both, or_left, or_right, either, first_holds, equal_numbers, is_equal, less}
use Rattle.sd_forgetting.proofs.Places.{older_before, one_of_number, was_kept}
use Rattle.sd_forgetting.proofs.Opens.{request_some, unclosed_at}
use Rattle.sd_forgetting.proofs.Answers.{newest_at, newest_looked}
use Rattle.sd_forgetting.proofs.Marks.{Mark, mark_by, mark_in, mark_of, covers_marked, number_marked, last_at, last_some, last_marked, is_last_by, stop_below, marks_same}

-- an answer is no invalidation
answer_no_void : (past : List Entry) (e : Entry) (event : Event) (a : Standing) (own : Key) (answered : Answered) → answer_by past e event ≡ Some a → voids event own answered ≡ false
answer_no_void past e (events.Answer r given) a own answered h = refl
answer_no_void past e (events.Kept row) a own answered h = refl
answer_no_void past e _ a own answered h = absurd (none_is_not a h)

after_by : (same v : Bool) (n : ℕ) (f : Bool) (o : Option Mark) → (same ≡ true → v ≡ false) → f ≡ covers_marked o → (if same then false else v || f) ≡ covers_marked (or_else (mark_by v same n) o)
after_by true true n f o h g = sym (h refl)
after_by true false n f o h g = refl
after_by false true n f o h g = refl
after_by false false n f o h g = g

after_is_mark : (a : Standing) (xs : List Entry) → ((e : Entry) (past : List Entry) → IsAt xs e past → e.number ≡ a.number → voids e.event a.own a.answered ≡ false) →
    is_void_after xs a ≡ covers_marked (mark_of a.own a.answered (λ (e : Entry). e.number == a.number) xs)
after_is_mark a [] f = refl
after_is_mark a (x ∷ xs) f =
    after_by (x.number == a.number) (voids x.event a.own a.answered) x.number (is_void_after xs a)
    (mark_of a.own a.answered (λ (e : Entry). e.number == a.number) xs)
    (λ is. f x xs (inl (refl, refl)) (equal_numbers x.number a.number is))
    (after_is_mark a xs (λ e past at. f e past (inr at)))

since_by : (v s : Bool) (n : ℕ) (y : Option ℕ) (o : Option Mark) → y ≡ number_marked o → (if v then Some n else if s then None else y) ≡ number_marked (or_else (mark_by v s n) o)
since_by true s n y o g = refl
since_by false true n y o g = refl
since_by false false n y o g = g

since_is_mark : (r : ℕ) (own : Key) (answered : Answered) (xs : List Entry) → void_since xs r own answered ≡ number_marked (mark_of own answered (λ (e : Entry). is_asking e r) xs)
since_is_mark r own answered [] = refl
since_is_mark r own answered (x ∷ xs) =
    since_by (voids x.event own answered) (is_asking x r) x.number (void_since xs r own answered) (mark_of own answered (λ (e : Entry). is_asking e r) xs)
    (since_is_mark r own answered xs)

covers_there : (all : List Entry) (what : What) (xs : List Entry) (y : Entry) (q : List Entry) → IsAt xs y q → is_newest_answer all q y ≡ true → is_covered what (answer_in q y) ≡ true → covers_newest all what xs ≡ true
covers_there all what [] y q at n c = absurd at
covers_there all what (x ∷ xs) y q (inl p) n c =
    or_left (is_newest_answer all xs x && is_covered what (answer_in xs x)) (covers_newest all what xs)
    (both (is_newest_answer all xs x) (is_covered what (answer_in xs x))
    (ap (λ (l : List Entry). is_newest_answer all l x) p.1 ∙ (ap (is_newest_answer all q) p.0 ∙ n))
    (ap (λ (l : List Entry). is_covered what (answer_in l x)) p.1 ∙ (ap (λ (z : Entry). is_covered what (answer_in q z)) p.0 ∙ c)))
covers_there all what (x ∷ xs) y q (inr p) n c =
    or_right (is_newest_answer all xs x && is_covered what (answer_in xs x)) (covers_newest all what xs) (covers_there all what xs y q p n c)

asking_there : (all : List Entry) (n : ℕ) (xs : List Entry) (y : Entry) (q : List Entry) → IsAt xs y q → is_open_request all y.number ≡ true → is_asked_before all y.number n ≡ true → is_after_asking all n xs ≡ true
asking_there all n [] y q at o a = absurd at
asking_there all n (x ∷ xs) y q (inl p) o a =
    or_left (is_open_request all x.number && is_asked_before all x.number n) (is_after_asking all n xs)
    (both (is_open_request all x.number) (is_asked_before all x.number n)
    (ap (λ (z : Entry). is_open_request all z.number) p.0 ∙ o) (ap (λ (z : Entry). is_asked_before all z.number n) p.0 ∙ a))
asking_there all n (x ∷ xs) y q (inr p) o a =
    or_right (is_open_request all x.number && is_asked_before all x.number n) (is_after_asking all n xs) (asking_there all n xs y q p o a)

void_needed : (all past : List Entry) (e : Entry) (what : What) (event : Event) → event ≡ events.Void what → is_last_void all what e ≡ true →
    (covers_newest all what past || is_after_asking all e.number all) ≡ true → is_void_needed all past e event ≡ true
void_needed all past e what event is l c =
    ap (is_void_needed all past e) is ∙ both (is_last_void all what e) (covers_newest all what past || is_after_asking all e.number all) l c

again_no_void : (event : Event) (reply : Reply) (r : ℕ) (own : Key) (answered : Answered) → asks_again event reply r ≡ true → voids event own answered ≡ false
again_no_void (events.Answer q given) reply r own answered h = refl
again_no_void _ reply r own answered h = absurd (not_true h)

opened_no_void : (event : Event) (reply : Reply) (own : Key) (answered : Answered) → opens_request event reply ≡ true → voids event own answered ≡ false
opened_no_void (events.Ask k) reply own answered h = refl
opened_no_void _ reply own answered h = absurd (not_true h)

again_serves : (all : List Entry) (e : Entry) (event : Event) (reply : Reply) (r : ℕ) → asks_again event reply r ≡ true → is_open all r ≡ true → is_last_again all r e ≡ true → serves_open all e event ≡ true
again_serves all e (events.Answer q given) reply r h o l =
    let same = equal_numbers q r (first_holds (q == r) (is_again reply) h) in
    both (is_open all q) (is_last_again all q e) (ap (is_open all) same ∙ o) (ap (λ (n : ℕ). is_last_again all n e) same ∙ l)
again_serves all e _ reply r h o l = absurd (not_true h)

module _
    (all : List Entry) (looked keep : List Entry → Entry → Bool) (b : ℕ) (falls : numbers_fall b all ≡ true)
    (looked_kept : (e : Entry) (past : List Entry) → IsAt all e past → looked past e ≡ true → keep past e ≡ true)
    (void_looked : (e : Entry) (past : List Entry) → IsAt all e past → is_void_needed all past e e.event ≡ true → looked past e ≡ true) where
  module _ (answer_looked : (e : Entry) (past : List Entry) → IsAt all e past → is_newest_answer all past e ≡ true → looked past e ≡ true) (k : Key) (a : Standing) (is : newest all k ≡ Some a) where
    no_void : (e : Entry) (past : List Entry) → IsAt all e past → e.number ≡ a.number → voids e.event a.own a.answered ≡ false
    no_void e past at same =
        let n = newest_at all k a is in
        let one = one_of_number b all e past n.entry n.past falls at n.at (same ∙ n.number) in
        ap (λ (z : Entry). voids z.event a.own a.answered) one.0 ∙ answer_no_void n.past n.entry n.entry.event a a.own a.answered n.answer

    void_kept : (e : Entry) (past : List Entry) (what : What) → IsAt all e past → e.event ≡ events.Void what → covers what a.own a.answered ≡ true →
        mark_of a.own a.answered (λ (x : Entry). x.number == a.number) all ≡ Some (record { number = e.number; covering = true }) → is_last_void all what e ≡ true → keep past e ≡ true
    void_kept e past what at ev c h l =
        let n = newest_at all k a is in
        let below = stop_below a.own a.answered (λ (x : Entry). x.number == a.number) b n.entry n.past (record { number = e.number; covering = true }) all falls n.at
        (is_equal n.entry.number a.number (sym n.number)) (no_void n.entry n.past n.at (sym n.number)) refl h in
        let there = older_before b all e past n.entry n.past falls at n.at below in
        looked_kept e past at (void_looked e past at
        (void_needed all past e what e.event ev l
        (or_left (covers_newest all what past) (is_after_asking all e.number all)
        (covers_there all what past n.entry n.past there
        (newest_looked all b falls k a is n.entry n.past n.at (sym n.number))
        (ap (is_covered what) n.answer ∙ c)))))

    stop_kept : (e : Entry) (past : List Entry) → IsAt all e past → (e.number == a.number) ≡ true → keep past e ≡ true
    stop_kept e past at s = looked_kept e past at (answer_looked e past at (newest_looked all b falls k a is e past at (equal_numbers e.number a.number s)))

    no_void_part : (e : Entry) (past : List Entry) → IsAt (part keep all) e past → e.number ≡ a.number → voids e.event a.own a.answered ≡ false
    no_void_part e past at same = let w = was_kept keep all e past at in no_void e w.past w.at same

    -- the newest answer of a key is voided in the part where it is voided in the whole
    pub voided_same : is_void_after all a ≡ is_void_after (part keep all) a
    voided_same =
        after_is_mark a all no_void
        ∙ (ap covers_marked (marks_same a.own a.answered (λ (x : Entry). x.number == a.number) all keep b falls (λ e past at s h. stop_kept e past at s) void_kept)
        ∙ sym (after_is_mark a (part keep all) no_void_part))

  module _
      (open_looked : (e : Entry) (past : List Entry) → IsAt all e past → is_open all e.number ≡ true → looked past e ≡ true)
      (serving_looked : (e : Entry) (past : List Entry) → IsAt all e past → serves_open all e e.event ≡ true → looked past e ≡ true)
      (r : ℕ) (own : Key) (answered : Answered) (o : is_open_request all r ≡ true) where
    open_either : is_open all r ≡ true
    open_either = or_left (is_open_request all r) (is_open_attempt all r) o

    lead_no_void : (e : Entry) (past : List Entry) → IsAt all e past → e.number ≡ r → voids e.event own answered ≡ false
    lead_no_void e past at same =
        let v = request_some (unclosed all r) o in
        let u = unclosed_at all r v.0 v.1 in
        let one = one_of_number b all e past v.0 u.past falls at u.at (same ∙ sym u.number) in
        let opened : opens_request v.0.event v.0.reply ≡ true = sym (ap has_opened_request v.1) ∙ o in
        ap (λ (z : Entry). voids z.event own answered) one.0 ∙ opened_no_void v.0.event v.0.reply own answered opened

    asking_no_void : (e : Entry) (past : List Entry) → IsAt all e past → is_asking e r ≡ true → voids e.event own answered ≡ false
    asking_no_void e past at h =
        either (e.number == r) (asks_again e.event e.reply r) h
        (λ is. lead_no_void e past at (equal_numbers e.number r is))
        (λ g. again_no_void e.event e.reply r own answered g)

    asked_by : (n : ℕ) (m : Option ℕ) → last_where (λ (x : Entry). is_asking x r) all ≡ m →
        mark_of own answered (λ (x : Entry). is_asking x r) all ≡ Some (record { number = n; covering = true }) → is_asked_by m n ≡ true
    asked_by n None is h =
        let v = request_some (unclosed all r) o in
        let u = unclosed_at all r v.0 v.1 in
        absurd (last_some (λ (x : Entry). is_asking x r) all v.0 u.past u.at (or_left (v.0.number == r) (asks_again v.0.event v.0.reply r) (is_equal v.0.number r u.number)) is)
    asked_by n (Some m) is h =
        let l = last_at (λ (x : Entry). is_asking x r) all m is in
        let below = stop_below own answered (λ (x : Entry). is_asking x r) b l.entry l.past (record { number = n; covering = true }) all falls l.at l.meets
        (asking_no_void l.entry l.past l.at l.meets) refl h in
        less m n (subst (λ (k : ℕ). k < n) l.number below)

    since_kept : (e : Entry) (past : List Entry) (what : What) → IsAt all e past → e.event ≡ events.Void what → covers what own answered ≡ true →
        mark_of own answered (λ (x : Entry). is_asking x r) all ≡ Some (record { number = e.number; covering = true }) → is_last_void all what e ≡ true → keep past e ≡ true
    since_kept e past what at ev c h l =
        let v = request_some (unclosed all r) o in
        let u = unclosed_at all r v.0 v.1 in
        let there = asking_there all e.number all v.0 u.past u.at (ap (is_open_request all) u.number ∙ o)
        (ap (λ (n : ℕ). is_asked_before all n e.number) u.number ∙ asked_by e.number (last_where (λ (x : Entry). is_asking x r) all) refl h) in
        looked_kept e past at (void_looked e past at
        (void_needed all past e what e.event ev l (or_right (covers_newest all what past) (is_after_asking all e.number all) there)))

    asking_kept : (e : Entry) (past : List Entry) → IsAt all e past → is_asking e r ≡ true →
        mark_of own answered (λ (x : Entry). is_asking x r) all ≡ Some (record { number = e.number; covering = false }) → keep past e ≡ true
    asking_kept e past at h is =
        looked_kept e past at
        (either (e.number == r) (asks_again e.event e.reply r) h
        (λ same. open_looked e past at (ap (is_open all) (equal_numbers e.number r same) ∙ open_either))
        (λ again. serving_looked e past at
        (again_serves all e e.event e.reply r again open_either
        (is_last_by (λ (x : Entry). asks_again x.event x.reply r) all e again
        (last_marked own answered (λ (x : Entry). is_asking x r) (λ (x : Entry). asks_again x.event x.reply r)
        (λ x t. (
          record { number = x.number; covering = false },
          again_marks x t,
        ))
        b e past (record { number = e.number; covering = false }) all falls at again refl is)))))
      where
        again_marks : (x : Entry) → asks_again x.event x.reply r ≡ true → mark_in own answered (λ (y : Entry). is_asking y r) x ≡ Some (record { number = x.number; covering = false })
        again_marks x t =
            ap (λ (v : Bool). mark_by v (is_asking x r) x.number) (again_no_void x.event x.reply r own answered t)
            ∙ ap (λ (s : Bool). mark_by false s x.number) (or_right (x.number == r) (asks_again x.event x.reply r) t)

    -- an answer to an open request is asked for again in the part where it is in the whole
    pub since_same : void_since all r own answered ≡ void_since (part keep all) r own answered
    since_same =
        since_is_mark r own answered all
        ∙ (ap number_marked (marks_same own answered (λ (x : Entry). is_asking x r) all keep b falls asking_kept since_kept)
        ∙ sym (since_is_mark r own answered (part keep all)))
