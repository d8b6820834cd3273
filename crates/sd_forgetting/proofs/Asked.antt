-- An answer that is kept comes with its request's last asking, so no invalidation after that is seen in the part where none is in the whole.
use Rattle.std.proofs.Common.{◌≡◌, ℕ, Bool, true, false, List, [], ◌∷◌, refl, sym, ap, ◌∙◌, inl, inr}
use Rattle.std.specs.Prelude.{Option, Some, None, ◌==◌, ◌&&◌, ◌||◌, if◌then◌else◌}
use Rattle.sd_rules.specs.declared.keys.Key.{Key}
use Rattle.sd_rules.specs.declared.records.Answered.{Answered}
use Rattle.sd_rules.specs.declared.events.Event.{Event}
use Rattle.sd_rules.specs.declared.events.Event.TheVariants as events
use Rattle.sd_rules.specs.declared.replies.Entry.{Entry}
use Rattle.sd_rules.specs.declared.replies.Reply.{Reply}
use Rattle.sd_rules.specs.declared.replies.Reply.TheVariants as replies
use Rattle.sd_rules.specs.Past.{or_else, is_closed, voids}
use Rattle.sd_rules.specs.Requests.{closes}
use Rattle.sd_rules.specs.Steps.{is_again, asks_again, is_asking, void_since}
use Rattle.sd_rules.specs.Needed.{last_where, is_looked_at, is_answer_to, is_last_again, is_read_for, is_read_with, read_with, is_needed}
use Rattle.sd_forgetting.specs.Parts.{part, last_entry, IsAt}
use Rattle.sd_forgetting.specs.Orderly.{IsOrderly}
use Rattle.sd_forgetting.proofs.Tests.{not_true, none_is_not, both, or_left, or_right, either, first_holds, second_holds, cases, clash, is_false, if_true, if_false, equal_numbers, same_number}
use Rattle.sd_forgetting.proofs.Places.{part_law}
use Rattle.sd_forgetting.proofs.Lasts.{last_of_both}
use Rattle.sd_forgetting.proofs.Marks.{is_last_by}
use Rattle.sd_forgetting.proofs.Quiet.{reader_leads, reader_named}
use Rattle.sd_forgetting.proofs.Whys.{fits_at, about_leads, unclosed_among, reader_of, read_is_lead}

-- what is read with an entry that is looked at
reads_there : (all : List Entry) (e other : Entry) (past xs : List Entry) → IsAt xs other past → is_looked_at all past other ≡ true →
    is_read_for all e other.event (read_with other.event other.reply) ≡ true → is_read_with all e xs ≡ true
reads_there all e other past [] at look reads = absurd at
reads_there all e other past (x ∷ xs) (inl p) look reads =
    or_left (is_looked_at all xs x && is_read_for all e x.event (read_with x.event x.reply)) (is_read_with all e xs)
    (both (is_looked_at all xs x) (is_read_for all e x.event (read_with x.event x.reply))
    (ap (λ (l : List Entry). is_looked_at all l x) p.1 ∙ (ap (is_looked_at all past) p.0 ∙ look))
    (ap (λ (z : Entry). is_read_for all e z.event (read_with z.event z.reply)) p.0 ∙ reads))
reads_there all e other past (x ∷ xs) (inr p) look reads =
    or_right (is_looked_at all xs x && is_read_for all e x.event (read_with x.event x.reply)) (is_read_with all e xs) (reads_there all e other past xs p look reads)

-- a test that nothing newer meets
skip_newer : (test : Entry → Bool) (e : Entry) (past xs : List Entry) → IsAt xs e past → test e ≡ false → ((y : Entry) (q : List Entry) → IsAt xs y q → IsAt q e past → test y ≡ false) →
    last_where test xs ≡ last_where test past
skip_newer test e past [] at t f = absurd at
skip_newer test e past (x ∷ xs) (inl p) t f =
    if_false (test x) (Some x.number) (last_where test xs) (ap test p.0 ∙ t) ∙ ap (last_where test) p.1
skip_newer test e past (x ∷ xs) (inr p) t f =
    if_false (test x) (Some x.number) (last_where test xs) (f x xs (inl (refl, refl)) p)
    ∙ skip_newer test e past xs p t (λ y q at. f y q (inr at))

since_none : (r : ℕ) (own : Key) (answered : Answered) (v s : Bool) (n : ℕ) (y : Option ℕ) → (if v then Some n else if s then None else y) ≡ None → (v ≡ false) × (s ≡ false → y ≡ None)
since_none r own answered true s n y h = absurd (none_is_not n (sym h))
since_none r own answered false true n y h = (refl, λ e. absurd (not_true (sym e)))
since_none r own answered false false n y h = (refl, λ _. h)

since_part : (v s : Bool) (n : ℕ) (y : Option ℕ) → v ≡ false → (s ≡ false → y ≡ None) → (if v then Some n else if s then None else y) ≡ None
since_part true s n y f g = absurd (not_true (sym f))
since_part false true n y f g = refl
since_part false false n y f g = g refl

none_in_part : (keep : List Entry → Entry → Bool) (r : ℕ) (own : Key) (answered : Answered) (xs : List Entry) →
    ((x : Entry) (q : List Entry) → IsAt xs x q → is_asking x r ≡ true → last_entry (λ (z : Entry). is_asking z r) xs ≡ Some x → keep q x ≡ true) →
    void_since xs r own answered ≡ None → void_since (part keep xs) r own answered ≡ None
none_in_part keep r own answered [] k h = refl
none_in_part keep r own answered (x ∷ xs) k h =
    let n = since_none r own answered (voids x.event own answered) (is_asking x r) x.number (void_since xs r own answered) h in
    cases (is_asking x r)
    (λ a. let kept = k x xs (inl (refl, refl)) a (ap (λ (o : Option Entry). or_else o (last_entry (λ (z : Entry). is_asking z r) xs)) (if_true (is_asking x r) (Some x) None a)) in
    part_law (λ (l : List Entry). void_since l r own answered ≡ None) (keep xs x) x (part keep xs)
    (λ _. since_part (voids x.event own answered) (is_asking x r) x.number (void_since (part keep xs) r own answered) n.0 (λ b. clash (is_asking x r) a b))
    (λ dropped. clash (keep xs x) kept dropped))
    (λ a. let rest = none_in_part keep r own answered xs
    (λ y q at asks is. k y q (inr at) asks
    (ap (λ (o : Option Entry). or_else o (last_entry (λ (z : Entry). is_asking z r) xs)) (if_false (is_asking x r) (Some x) None a) ∙ is)) (n.1 a) in
    part_law (λ (l : List Entry). void_since l r own answered ≡ None) (keep xs x) x (part keep xs)
    (λ _. since_part (voids x.event own answered) (is_asking x r) x.number (void_since (part keep xs) r own answered) n.0 (λ _. rest))
    (λ _. rest))

closed_once : (reply : Reply) → is_closed reply ≡ true → is_again reply ≡ false
closed_once replies.Closed h = refl
closed_once _ h = absurd (not_true h)

again_reads : (event : Event) (reply : Reply) (r : ℕ) → asks_again event reply r ≡ true → read_with event reply ≡ Some r
again_reads (events.Answer q answered) reply r h =
    if_true (is_closed reply || is_again reply) (Some q) None (or_right (is_closed reply) (is_again reply) (second_holds (q == r) (is_again reply) h))
    ∙ ap (λ (n : ℕ). Some n) (equal_numbers q r (first_holds (q == r) (is_again reply) h))
again_reads _ reply r h = absurd (not_true h)

module _ (next : ℕ) (all : List Entry) (o : IsOrderly next all) (e : Entry) (past : List Entry) (at : IsAt all e past) (kept : is_needed all past e ≡ true)
    (r : ℕ) (answered : Answered) (is : e.event ≡ events.Answer r answered) (closed : is_closed e.reply ≡ true) where
  reads : read_with e.event e.reply ≡ Some r
  reads = ap (λ (ev : Event). read_with ev e.reply) is ∙ if_true (is_closed e.reply || is_again e.reply) (Some r) None (or_left (is_closed e.reply) (is_again e.reply) closed)

  closes_it : closes e.event e.reply r ≡ true
  closes_it = ap (λ (ev : Event). closes ev e.reply r) is ∙ both (r == r) (is_closed e.reply) (same_number r) closed

  no_again : (n : ℕ) → asks_again e.event e.reply n ≡ false
  no_again n = ap (λ (ev : Event). asks_again ev e.reply n) is ∙ never (r == n) (is_again e.reply) (closed_once e.reply closed)
    where
      never : (a b : Bool) → b ≡ false → (a && b) ≡ false
      never true b h = h
      never false b h = refl

  looked : is_looked_at all past e ≡ true
  looked =
      either (is_looked_at all past e) (is_read_with all e all) kept (λ h. h)
      (λ h. let lead = read_is_lead next all o e past at no_again (reader_of all e all (λ x q i. i) h) in
      absurd (not_true (sym (reader_leads e.event e.reply r reads) ∙ lead)))

  none_again : (y : Entry) (q : List Entry) → IsAt all y q → IsAt q e past → asks_again y.event y.reply r ≡ false
  none_again y q there older =
      is_false (asks_again y.event y.reply r)
      (λ a. let leads = about_leads q y r (fits_at all y q o.fits there) (reader_named y.event y.reply r (again_reads y.event y.reply r a)) in
      not_true (sym (unclosed_among r q e past leads older) ∙ closes_it))

  answers_it : is_answer_to e.event r ≡ true
  answers_it = ap (λ (ev : Event). is_answer_to ev r) is ∙ same_number r

  asking_kept : (x : Entry) (q : List Entry) → IsAt past x q → is_asking x r ≡ true → last_entry (λ (z : Entry). is_asking z r) past ≡ Some x → is_needed all q x ≡ true
  asking_kept x q there asks last =
      or_right (is_looked_at all q x) (is_read_with all x all)
      (reads_there all x e past all at looked
      (ap (is_read_for all x e.event) reads
      ∙ either (x.number == r) (asks_again x.event x.reply r) asks
      (λ same. or_left (x.number == r) (is_answer_to e.event r && is_last_again all r x) same)
      (λ again. or_right (x.number == r) (is_answer_to e.event r && is_last_again all r x)
      (both (is_answer_to e.event r) (is_last_again all r x) answers_it
      (is_last_by (λ (z : Entry). asks_again z.event z.reply r) all x again
      (skip_newer (λ (z : Entry). asks_again z.event z.reply r) e past all at (no_again r) none_again
      ∙ last_of_both (λ (z : Entry). asks_again z.event z.reply r) (λ (z : Entry). is_asking z r)
      (λ z h. or_right (z.number == r) (asks_again z.event z.reply r) h) x again past last))))))

  -- where nothing covers the answer since its asking, nothing does in the part
  pub asked_kept : (own : Key) → void_since past r own answered ≡ None → void_since (part (is_needed all) past) r own answered ≡ None
  asked_kept own h = none_in_part (is_needed all) r own answered past asking_kept h
