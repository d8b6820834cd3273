-- The last entry that covers an answer or stops the search for one that does.
use Rattle.std.proofs.Common.{◌≡◌, ℕ, ◌<◌, Bool, true, false, List, [], ◌∷◌, arith, refl, sym, ap, ◌∙◌, inl, inr}
use Rattle.std.specs.Prelude.{Option, Some, None, nat_lt}
use Rattle.sd_rules.specs.declared.keys.Key.{Key}
use Rattle.sd_rules.specs.declared.keys.What.{What}
use Rattle.sd_rules.specs.declared.keys.What.TheVariants as whats
use Rattle.sd_rules.specs.declared.records.Answered.{Answered}
use Rattle.sd_rules.specs.declared.events.Event.{Event}
use Rattle.sd_rules.specs.declared.events.Event.TheVariants as events
use Rattle.sd_rules.specs.declared.replies.Entry.{Entry}
use Rattle.sd_rules.specs.Keys.{covers}
use Rattle.sd_rules.specs.Past.{or_else, voids}
use Rattle.sd_rules.specs.Needed.{last_where, is_last_where, is_number, same_what, is_void_of, is_last_void}
use Rattle.sd_forgetting.specs.Parts.{part, IsAt, numbers_fall}
use Rattle.sd_forgetting.proofs.Tests.{not_true, none_is_not, same_some, both, second_holds, cases, clash, if_true, if_false, same_number}
use Rattle.sd_forgetting.proofs.Places.{numbers_below}
use Rattle.sd_rules.proofs.SameKeys.{name_is, name_same}
use Rattle.sd_forgetting.proofs.Firsts.{first_kept}

-- where the last entry that meets a test stands
pub record LastAt (test : Entry → Bool) (xs : List Entry) (n : ℕ) : Type 0 where
  pub entry : Entry
  pub past : List Entry
  pub at : IsAt xs entry past
  pub number : entry.number ≡ n
  pub meets : test entry ≡ true

pub last_at : (test : Entry → Bool) (xs : List Entry) (n : ℕ) → last_where test xs ≡ Some n → LastAt test xs n
last_at test [] n h = absurd (none_is_not n h)
last_at test (x ∷ xs) n h =
    cases (test x)
    (λ t. record { entry = x; past = xs; at = inl (refl, refl); number = same_some x.number n (sym (if_true (test x) (Some x.number) (last_where test xs) t) ∙ h); meets = t })
    (λ t. let l = last_at test xs n (sym (if_false (test x) (Some x.number) (last_where test xs) t) ∙ h) in
    record { entry = l.entry; past = l.past; at = inr l.at; number = l.number; meets = l.meets })

pub last_some : (test : Entry → Bool) (xs : List Entry) (y : Entry) (p : List Entry) → IsAt xs y p → test y ≡ true → last_where test xs ≡ None → ⊥
last_some test [] y p at t h = at
last_some test (x ∷ xs) y p (inl q) t h =
    none_is_not x.number (sym h ∙ if_true (test x) (Some x.number) (last_where test xs) (ap test q.0 ∙ t))
last_some test (x ∷ xs) y p (inr q) t h =
    cases (test x)
    (λ i. none_is_not x.number (sym h ∙ if_true (test x) (Some x.number) (last_where test xs) i))
    (λ i. last_some test xs y p q t (sym (if_false (test x) (Some x.number) (last_where test xs) i) ∙ h))

pub is_last_by : (test : Entry → Bool) (all : List Entry) (e : Entry) → test e ≡ true → last_where test all ≡ Some e.number → is_last_where test all e ≡ true
is_last_by test all e t h = both (test e) (is_number e.number (last_where test all)) t (ap (is_number e.number) h ∙ same_number e.number)

-- what an invalidation is
pub what_is : (event : Event) (own : Key) (answered : Answered) → voids event own answered ≡ true → (what : What) × ((event ≡ events.Void what) × (covers what own answered ≡ true))
what_is (events.Void what) own answered h = (what, (refl, h))
what_is _ own answered h = absurd (not_true h)

pub same_what_itself : (w : What) → same_what w w ≡ true
same_what_itself whats.All = refl
same_what_itself whats.Users = refl
same_what_itself whats.Groups = refl
same_what_itself (whats.User a) = name_same a
same_what_itself (whats.Group a) = name_same a

same_what_is : (v w : What) → same_what v w ≡ true → v ≡ w
same_what_is whats.All whats.All h = refl
same_what_is whats.Users whats.Users h = refl
same_what_is whats.Groups whats.Groups h = refl
same_what_is (whats.User a) (whats.User b) h = ap whats.User (name_is a b h)
same_what_is (whats.Group a) (whats.Group b) h = ap whats.Group (name_is a b h)
same_what_is _ _ h = cc

void_of_covers : (what : What) (event : Event) (own : Key) (answered : Answered) → is_void_of what event ≡ true → covers what own answered ≡ true → voids event own answered ≡ true
void_of_covers what (events.Void other) own answered h c = ap (λ (w : What). covers w own answered) (same_what_is other what h) ∙ c
void_of_covers what _ own answered h c = absurd (not_true h)

-- a mark: an entry that covers, or one that stops
pub record Mark : Type 0 where
  pub number : ℕ
  pub covering : Bool

abbrev pub mark_by : Bool → Bool → ℕ → Option Mark
mark_by true stops n = Some (record { number = n; covering = true })
mark_by false true n = Some (record { number = n; covering = false })
mark_by false false n = None

mark_number : (v s : Bool) (n : ℕ) (m : Mark) → mark_by v s n ≡ Some m → m.number ≡ n
mark_number true s n m h = ap (λ (x : Mark). x.number) (sym (same_some (record { number = n; covering = true }) m h))
mark_number false true n m h = ap (λ (x : Mark). x.number) (sym (same_some (record { number = n; covering = false }) m h))
mark_number false false n m h = absurd (none_is_not m h)

abbrev pub covers_marked : Option Mark → Bool
covers_marked None = false
covers_marked (Some m) = m.covering

abbrev pub number_if : Bool → ℕ → Option ℕ
number_if true n = Some n
number_if false n = None

abbrev pub number_marked : Option Mark → Option ℕ
number_marked None = None
number_marked (Some m) = number_if m.covering m.number

module _ (own : Key) (answered : Answered) (stop : Entry → Bool) where
  abbrev pub mark_in : Entry → Option Mark
  mark_in e = mark_by (voids e.event own answered) (stop e) e.number

  abbrev pub mark_of : List Entry → Option Mark
  mark_of [] = None
  mark_of (e ∷ past) = or_else (mark_in e) (mark_of past)

  marked_is : (x : Entry) (v s : Bool) → voids x.event own answered ≡ v → stop x ≡ s → mark_in x ≡ mark_by v s x.number
  marked_is x v s f g = ap (λ (c : Bool). mark_by c (stop x) x.number) f ∙ ap (λ (c : Bool). mark_by v c x.number) g

  -- an entry that meets a test, which all marked before it fail, is the last that does
  one_last : (test : Entry → Bool) (x : Entry) (xs : List Entry) (y : Entry) (m o : Option Mark) → mark_in x ≡ o → or_else o (mark_of xs) ≡ m →
      ((n : Mark) → o ≡ Some n → n.number ≡ x.number) → y.number < x.number → ((k : Mark) → m ≡ Some k → k.number ≡ y.number) → (mark_of xs ≡ m → last_where test xs ≡ Some y.number) → last_where test xs ≡ Some y.number
  one_last test x xs y m None is h named low other rest = rest h
  one_last test x xs y m (Some n) is h named low other rest =
      let one = named n refl in
      let two = other n (sym h) in
      absurd (omega arith)

  pub last_marked : (test : Entry → Bool) → ((x : Entry) → test x ≡ true → (m : Mark) × (mark_in x ≡ Some m)) → (b : ℕ) (y : Entry) (p : List Entry) (m : Mark) (xs : List Entry) → numbers_fall b xs ≡ true →
      IsAt xs y p → test y ≡ true → m.number ≡ y.number → mark_of xs ≡ Some m → last_where test xs ≡ Some y.number
  last_marked test marks b y p m [] f at t is h = absurd at
  last_marked test marks b y p m (x ∷ xs) f (inl q) t is h =
      if_true (test x) (Some x.number) (last_where test xs) (ap test q.0 ∙ t) ∙ ap (λ (z : Entry). Some z.number) q.0
  last_marked test marks b y p m (x ∷ xs) f (inr q) t is h =
      let low = second_holds (nat_lt x.number b) (numbers_fall x.number xs) f in
      let below = numbers_below x.number xs y p low q in
      cases (test x)
      (λ i. let k = marks x i in
      let same : k.0 ≡ m = same_some k.0 m (sym (ap (λ (o : Option Mark). or_else o (mark_of xs)) k.1) ∙ h) in
      let one = mark_number (voids x.event own answered) (stop x) x.number k.0 k.1 in
      let two = ap (λ (z : Mark). z.number) same in
      absurd (omega arith))
      (λ i. if_false (test x) (Some x.number) (last_where test xs) i
      ∙ one_last test x xs y (Some m) (mark_in x) refl h (λ n g. mark_number (voids x.event own answered) (stop x) x.number n g) below
      (λ k g. ap (λ (z : Mark). z.number) (sym (same_some m k g)) ∙ is)
      (last_marked test marks b' y p m xs low q t is))
    where
      b' : ℕ
      b' = x.number

  -- what stops the search stands before the entry that covers
  stop_by : (x : Entry) (xs : List Entry) (y : Entry) (m : Mark) (o : Option Mark) → mark_in x ≡ o → or_else o (mark_of xs) ≡ Some m → y.number < x.number → (mark_of xs ≡ Some m → y.number < m.number) → y.number < m.number
  stop_by x xs y m None is h low rest = rest h
  stop_by x xs y m (Some n) is h low rest =
      let one = mark_number (voids x.event own answered) (stop x) x.number n is in
      let two = ap (λ (z : Mark). z.number) (same_some n m h) in
      omega arith

  pub stop_below : (b : ℕ) (y : Entry) (p : List Entry) (m : Mark) (xs : List Entry) → numbers_fall b xs ≡ true → IsAt xs y p → stop y ≡ true → voids y.event own answered ≡ false →
      m.covering ≡ true → mark_of xs ≡ Some m → y.number < m.number
  stop_below b y p m [] f at s v c h = absurd at
  stop_below b y p m (x ∷ xs) f (inl q) s v c h =
      let here : mark_in x ≡ Some (record { number = y.number; covering = false }) = ap mark_in q.0 ∙ marked_is y false true v s in
      let same : record { number = y.number; covering = false } ≡ m = same_some (record { number = y.number; covering = false }) m (sym (ap (λ (o : Option Mark). or_else o (mark_of xs)) here) ∙ h) in
      clash m.covering c (ap (λ (z : Mark). z.covering) (sym same))
  stop_below b y p m (x ∷ xs) f (inr q) s v c h =
      let low = second_holds (nat_lt x.number b) (numbers_fall x.number xs) f in
      stop_by x xs y m (mark_in x) refl h (numbers_below x.number xs y p low q) (stop_below x.number y p m xs low q s v c)

  module _
      (all : List Entry) (keep : List Entry → Entry → Bool) (b : ℕ) (falls : numbers_fall b all ≡ true)
      (stop_kept : (e : Entry) (past : List Entry) → IsAt all e past → stop e ≡ true → mark_of all ≡ Some (record { number = e.number; covering = false }) → keep past e ≡ true)
      (void_kept : (e : Entry) (past : List Entry) (what : What) → IsAt all e past → e.event ≡ events.Void what → covers what own answered ≡ true →
      mark_of all ≡ Some (record { number = e.number; covering = true }) → is_last_void all what e ≡ true → keep past e ≡ true) where
    kept_void : (e : Entry) (past : List Entry) → IsAt all e past → voids e.event own answered ≡ true → mark_of all ≡ Some (record { number = e.number; covering = true }) → keep past e ≡ true
    kept_void e past at v h =
        let w = what_is e.event own answered v in
        let tests : is_void_of w.0 e.event ≡ true = ap (is_void_of w.0) w.1.0 ∙ same_what_itself w.0 in
        void_kept e past w.0 at w.1.0 w.1.1 h
        (is_last_by (λ (x : Entry). is_void_of w.0 x.event) all e tests
        (last_marked (λ (x : Entry). is_void_of w.0 x.event)
        (λ x t. (
          record { number = x.number; covering = true },
          marked_is x true (stop x) (void_of_covers w.0 x.event own answered t w.1.1) refl,
        ))
        b e past (record { number = e.number; covering = true }) all falls at tests refl h))

    here_by : (e : Entry) (past : List Entry) (m : Mark) (v s : Bool) → voids e.event own answered ≡ v → stop e ≡ s → IsAt all e past → mark_by v s e.number ≡ Some m → mark_of all ≡ Some m → keep past e ≡ true
    here_by e past m true s f g at is h = kept_void e past at f (h ∙ sym is)
    here_by e past m false true f g at is h = stop_kept e past at g (h ∙ sym is)
    here_by e past m false false f g at is h = absurd (none_is_not m is)

    pub marks_same : mark_of all ≡ mark_of (part keep all)
    marks_same =
        first_kept keep mark_of (λ (past : List Entry) (e : Entry). mark_in e) (λ e past. refl) all
        (λ e past at h. h)
        (λ e past m at is h. (here_by e past m (voids e.event own answered) (stop e) refl refl at is h, is))
        all (λ e past at. at) refl
