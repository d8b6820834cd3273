-- What stays of a journal in all that it reaches: the key of a request, as long as its entry is there, and that numbers rise.
use Rattle.std.proofs.Common.{◌≡◌, ℕ, ◌+◌, ◌≤◌, ◌<◌, Bool, true, false, nat_lt, List, [], ◌∷◌, arith, refl, sym, ap, subst, ◌∙◌}
use Rattle.std.specs.Prelude.{Option, Some, None, cond, not, ◌&&◌, ◌||◌, ◌==◌, length, if◌then◌else◌}
use Rattle.std.proofs.lemmas.Grind.{common_steps}
use Rattle.std.proofs.lemmas.Bool.Decides.{nat_tests}
use Rattle.sd_rules.specs.declared.keys.Key.{Key}
use Rattle.sd_rules.specs.declared.records.Answered.{Answered}
use Rattle.sd_rules.specs.declared.records.Answered.TheVariants.{Found, Absent}
use Rattle.sd_rules.specs.declared.events.Event.{Event}
use Rattle.sd_rules.specs.declared.events.Event.TheVariants.{Answer, Kept}
use Rattle.sd_rules.specs.declared.replies.Entry.{Entry}
use Rattle.sd_rules.specs.Keys.{is_answer_of_kind}
use Rattle.sd_rules.specs.Needed.{is_needed, needed_among}
use Rattle.sd_rules.specs.Past.{key_of, key_asked}
use Rattle.sd_rules.specs.Reaching.{Move, Append, Forget, Reaches, after_forget, after_moves}
use Rattle.sd_rules.specs.Requests.{is_open_request}
use Rattle.sd_rules.specs.Steps.{Daemon, number_after, next_number, entry_made, after, answers_kind, is_steppable}
use Rattle.sd_core.specs.Sound.{falls_from}
use Rattle.sd_core.proofs.Room.{next_is_above}
use Rattle.sd_core.proofs.KindLaws.{both_hold}
use Rattle.sd_desk.specs.Speaking.{OrNone, Speaks}
use Rattle.sd_desk.specs.Steps.{MayStep, AnswersKind}

second : (a b : Bool) → a && b ≡ true → b ≡ true
second true b h = h
second false b h = let clash : ⊥ = cc in absurd clash

with_rest : (a b c : Bool) → a && b ≡ true → (b ≡ true → c ≡ true) → a && c ≡ true
with_rest true b c h f = f h
with_rest false b c h f = h

rises_from : (m n : ℕ) (past : List Entry) → m ≤ n → falls_from m past ≡ true → falls_from n past ≡ true
rises_from m n [] le h = refl
rises_from m n (e ∷ past) le h = grind (arith, nat_tests, common_steps, h)

kept_falls : (b : Bool) (e : Entry) (past others : List Entry) (n : ℕ) → falls_from n (e ∷ past) ≡ true →
    (falls_from e.number past ≡ true → falls_from e.number others ≡ true) → falls_from n (if b then e ∷ others else others) ≡ true
kept_falls true e past others n h f = with_rest (nat_lt e.number n) (falls_from e.number past) (falls_from e.number others) h f
kept_falls false e past others n h f =
    rises_from e.number n others (grind (arith, nat_tests, h)) (f (second (nat_lt e.number n) (falls_from e.number past) h))

needed_falls : (all past : List Entry) (n : ℕ) → falls_from n past ≡ true → falls_from n (needed_among all past) ≡ true
needed_falls all [] n h = refl
needed_falls all (e ∷ past) n h = kept_falls (is_needed all past e) e past (needed_among all past) n h (λ below. needed_falls all past e.number below)

passed_by : (b : Bool) (x y : Option Key) → b ≡ false → y ≡ None → cond b x y ≡ None
passed_by true x y f h = cc
passed_by false x y f h = h

none_above : (past : List Entry) (n r : ℕ) → falls_from n past ≡ true → n ≤ r → key_of past r ≡ None
none_above [] n r h le = refl
none_above (e ∷ past) n r h le =
    passed_by (e.number == r) (key_asked e.event) (key_of past r) (grind (arith, nat_tests, h))
    (none_above past e.number r (second (nat_lt e.number n) (falls_from e.number past) h) (grind (arith, nat_tests, h)))

found_below : (b : Bool) (x y : Option Key) (k : Key) (m r n : ℕ) → (m == r) ≡ b → cond b x y ≡ Some k → (y ≡ Some k → r < m) → m < n → r < n
found_below true x y k m r n test is f lt = grind (arith, nat_tests, test)
found_below false x y k m r n test is f lt = let below = f is in omega arith

asked_below : (past : List Entry) (n r : ℕ) (k : Key) → falls_from n past ≡ true → key_of past r ≡ Some k → r < n
asked_below [] n r k h is = let clash : ⊥ = cc in absurd clash
asked_below (e ∷ past) n r k h is =
    found_below (e.number == r) (key_asked e.event) (key_of past r) k e.number r n refl is
    (λ later. asked_below past e.number r k (second (nat_lt e.number n) (falls_from e.number past) h) later)
    (grind (arith, nat_tests, h))

stays : (b : Bool) (x y z : Option Key) (k : Key) → OrNone k (cond b x y) → (OrNone k y → OrNone k z) → OrNone k (cond b x z)
stays true x y z k o f = o
stays false x y z k o f = f o

goes : (b : Bool) (x y z : Option Key) (k : Key) → OrNone k (cond b x y) → (b ≡ true → z ≡ None) → (OrNone k y → OrNone k z) → OrNone k z
goes true x y z k o none f = subst (OrNone k) (sym (none refl)) tt
goes false x y z k o none f = f o

kept_key : (b : Bool) (e : Entry) (past others : List Entry) (r : ℕ) (k : Key) → OrNone k (key_of (e ∷ past) r) → ((e.number == r) ≡ true → key_of others r ≡ None) →
    (OrNone k (key_of past r) → OrNone k (key_of others r)) → OrNone k (key_of (if b then e ∷ others else others) r)
kept_key true e past others r k o none f = stays (e.number == r) (key_asked e.event) (key_of past r) (key_of others r) k o f
kept_key false e past others r k o none f = goes (e.number == r) (key_asked e.event) (key_of past r) (key_of others r) k o none f

needed_key : (all past : List Entry) (n r : ℕ) (k : Key) → falls_from n past ≡ true → OrNone k (key_of past r) → OrNone k (key_of (needed_among all past) r)
needed_key all [] n r k h o = o
needed_key all (e ∷ past) n r k h o =
    let below = second (nat_lt e.number n) (falls_from e.number past) h in
    kept_key (is_needed all past e) e past (needed_among all past) r k o
    (λ same. none_above (needed_among all past) e.number r (needed_falls all past e.number below) (grind (arith, nat_tests, same)))
    (λ p. needed_key all past e.number r k below p)

passed : (b : Bool) (x y : Option Key) (k : Key) → b ≡ false → OrNone k y → OrNone k (cond b x y)
passed true x y k f o = let clash : ⊥ = cc in absurd clash
passed false x y k f o = o

pub speaks_after : (r : ℕ) (k : Key) (d : Daemon) (now : ℕ) (event : Event) → Speaks r k d → Speaks r k (after d now event)
speaks_after r k d now event s =
    let same : next_number d ≡ d.next = next_is_above d.next d.past s.numbers in
    let below = s.below in record {
      numbers = both_hold (nat_lt (next_number d) (next_number d + 1)) (falls_from (next_number d) d.past) (grind (arith, nat_tests))
          (subst (λ n. falls_from n d.past ≡ true) (sym same) s.numbers);
      below = omega arith;
      asked = passed (next_number d == r) (key_asked event) (key_of d.past r) k (grind (arith, nat_tests, same, below)) s.asked;
    }

speaks_forgot : (r : ℕ) (k : Key) (d : Daemon) → Speaks r k d → Speaks r k (after_forget d)
speaks_forgot r k d s = record {
  numbers = needed_falls d.past d.past d.next s.numbers;
  below = s.below;
  asked = needed_key d.past d.past d.next r k s.numbers s.asked;
}

speaks_moved : (r : ℕ) (k : Key) (moves : List Move) (d : Daemon) → Speaks r k d → Speaks r k (after_moves d moves)
speaks_moved r k [] d s = s
speaks_moved r k (Append now event ∷ moves) d s = speaks_moved r k moves (after d now event) (speaks_after r k d now event s)
speaks_moved r k (Forget ∷ moves) d s = speaks_moved r k moves (after_forget d) (speaks_forgot r k d s)

or_true : (a b : Bool) → b ≡ true → a || b ≡ true
or_true true b h = refl
or_true false b h = h

fits_kind : (o : Option Key) (k : Key) (answered : Answered) → OrNone k o → is_answer_of_kind answered k ≡ true → answers_kind o answered ≡ true
fits_kind None k answered o h = refl
fits_kind (Some q) k answered same h = ap (λ (a : Key). is_answer_of_kind answered a) same ∙ h

absent_fits : (o : Option Key) → answers_kind o Absent ≡ true
absent_fits None = refl
absent_fits (Some k) = refl

-- what a journal says of a request, each that it reaches says too
pub speaks_reached : (r : ℕ) (k : Key) (f g : Daemon) → Speaks r k f → Reaches f g → Speaks r k g
speaks_reached r k f g s to = subst (Speaks r k) to.reached (speaks_moved r k to.moves f s)

-- so does one in which the request's entry stands
pub asked_speaks : (r : ℕ) (k : Key) (d : Daemon) → falls_from d.next d.past ≡ true → key_of d.past r ≡ Some k → Speaks r k d
asked_speaks r k d numbers is = record { numbers = numbers; below = asked_below d.past d.next r k numbers is; asked = subst (OrNone k) (sym is) refl }

kind_fits : (f g : Daemon) (r : ℕ) (answered : Answered) → AnswersKind f r answered → Reaches f g → answers_kind (key_of g.past r) answered ≡ true
kind_fits f g r answered h to =
    let s = speaks_reached r h.key f g h.speaks to in
    fits_kind (key_of g.past r) h.key answered s.asked h.of_kind

-- what may be stepped by whoever knows a journal may be stepped in each that it reaches
pub may_step : (f g : Daemon) (event : Event) → MayStep f event → Reaches f g → is_steppable g.past event ≡ true
may_step f g (Kept row) may to = absurd may
may_step f g (Answer r (Found found)) may to =
    or_true (not (is_open_request g.past r)) (answers_kind (key_of g.past r) (Found found)) (kind_fits f g r (Found found) may to)
may_step f g (Answer r Absent) may to =
    or_true (not (is_open_request g.past r)) (answers_kind (key_of g.past r) Absent) (absent_fits (key_of g.past r))
may_step f g _ may to = refl

-- Along moves the next number does not fall, and where it stays the journal does not grow.
pub record IsLater (f g : Daemon) : Type 0 where
  pub next : f.next ≤ g.next
  pub no_longer : g.next ≡ f.next → length g.past ≤ length f.past

kept_no_longer : (b : Bool) (e : Entry) (past others : List Entry) → length others ≤ length past → length (if b then e ∷ others else others) ≤ length (e ∷ past)
kept_no_longer true e past others h = grind (arith, common_steps, h)
kept_no_longer false e past others h = grind (arith, common_steps, h)

needed_no_longer : (all past : List Entry) → length (needed_among all past) ≤ length past
needed_no_longer all [] = omega arith
needed_no_longer all (e ∷ past) = kept_no_longer (is_needed all past e) e past (needed_among all past) (needed_no_longer all past)

not_below : (next : ℕ) (past : List Entry) → next ≤ number_after next past
not_below next [] = omega arith
not_below next (e ∷ past) = omega arith

later_moved : (moves : List Move) (d : Daemon) → IsLater d (after_moves d moves)
later_moved [] d = record { next = omega arith; no_longer = λ same. omega arith }
later_moved (Append now event ∷ moves) d =
    let rest = later_moved moves (after d now event) in
    let up = rest.next in
    let above = not_below d.next d.past in
    record { next = omega arith; no_longer = λ same. absurd (omega arith) }
later_moved (Forget ∷ moves) d =
    let rest = later_moved moves (after_forget d) in
    let shorter = needed_no_longer d.past d.past in
    record { next = rest.next; no_longer = λ same. let h = rest.no_longer same in omega arith }

pub reaches_later : (f g : Daemon) → Reaches f g → IsLater f g
reaches_later f g to = subst (IsLater f) to.reached (later_moved to.moves f)
