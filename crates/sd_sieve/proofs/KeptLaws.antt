-- The entries that a forget keeps, one entry of the journal after another.
use Rattle.std.proofs.Common.{◌≡◌, ℕ, ◌+◌, ◌-◌, ◌^◌, ◌<◌, ◌≤◌, min, Bool, true, false, cond, nat_lt, List, [], ◌∷◌, ◌++◌, reverse, length, get_or, take, refl, sym, ◌∙◌, ap, arith}
use Rattle.std.proofs.lemmas.List.{reverse-append, take_more, length_push}
use Rattle.sd_rules.specs.declared.replies.Entry.{Entry}
use Rattle.sd_rules.specs.Needed.{is_needed, needed_among, forgotten_among}
use Rattle.sd_rules.specs.TextBytes.{bytes_of_event, text_bytes}
use Rattle.sd_voids.specs.Entries.{falls, numbers_fall}
use Rattle.sd_voids.proofs.FallLaws.{head_below, tail_falls, fall_further, both_of_two, tests_less}
use Rattle.sd_voids.proofs.Halves.{numbers_before}
use Rattle.sd_findings.specs.Marks.{marks, MarkNeeded}
use Rattle.sd_sieve.specs.Sifting.{SiftsAt}
use Rattle.sd_findings.proofs.MarkLaws.{needed_at}

-- their numbers fall, too
fall_or_not : (b : Bool) (n : ℕ) (e : Entry) (kept : List Entry) → nat_lt e.number n ≡ true → numbers_fall e.number kept ≡ true → numbers_fall n kept ≡ true
    → numbers_fall n (cond b (e ∷ kept) kept) ≡ true
fall_or_not true n e kept less near far = both_of_two (nat_lt e.number n) (numbers_fall e.number kept) less near
fall_or_not false n e kept less near far = far

needed_fall : (all : List Entry) (n : ℕ) (past : List Entry) → numbers_fall n past ≡ true → numbers_fall n (needed_among all past) ≡ true
needed_fall all n [] h = refl
needed_fall all n (e ∷ past) h =
    let lt : e.number < n = head_below n e past h in
    let near : numbers_fall e.number (needed_among all past) ≡ true = needed_fall all e.number past (tail_falls n e past h) in
    fall_or_not (is_needed all past e) n e (needed_among all past) (tests_less e.number n lt) near
    (fall_further e.number n (needed_among all past) near (omega arith))

pub kept_below : (es : List Entry) (i : ℕ) (e : Entry) → falls (reverse es) ≡ true → i < length es → e ≡ get_or es i e
    → numbers_fall e.number (needed_among (reverse es) (reverse (take i es))) ≡ true
kept_below es i e h lt at = needed_fall (reverse es) e.number (reverse (take i es)) (numbers_before es i e h lt at)

-- one entry more
one_more : (es : List Entry) (i : ℕ) (e : Entry) → i < length es → e ≡ get_or es i e → reverse (take (i + 1) es) ≡ e ∷ reverse (take i es)
one_more es i e lt at =
    ap (λ (xs : List Entry). reverse xs) (take_more es i e lt ∙ ap (λ (x : Entry). take i es ++ x ∷ []) (sym at)) ∙ reverse-append (take i es) (e ∷ [])

pub needed_more : (es : List Entry) (i : ℕ) (e : Entry) (b : Bool) → i < length es → e ≡ get_or es i e → b ≡ is_needed (reverse es) (reverse (take i es)) e
    → needed_among (reverse es) (reverse (take (i + 1) es)) ≡ cond b (e ∷ needed_among (reverse es) (reverse (take i es))) (needed_among (reverse es) (reverse (take i es)))
needed_more es i e b lt at is =
    ap (λ (xs : List Entry). needed_among (reverse es) xs) (one_more es i e lt at)
    ∙ ap (λ (c : Bool). cond c (e ∷ needed_among (reverse es) (reverse (take i es))) (needed_among (reverse es) (reverse (take i es)))) (sym is)

pub marks_more : (es : List Entry) (i : ℕ) (e : Entry) (b : Bool) (ms longer : List Bool) → i < length es → e ≡ get_or es i e → b ≡ is_needed (reverse es) (reverse (take i es)) e
    → reverse ms ≡ marks (is_needed (reverse es)) (reverse (take i es)) → longer ≡ ms ++ b ∷ []
    → reverse longer ≡ marks (is_needed (reverse es)) (reverse (take (i + 1) es))
marks_more es i e b ms longer lt at is so put =
    ap (λ (xs : List Bool). reverse xs) put
    ∙ reverse-append ms (b ∷ [])
    ∙ ap (λ (xs : List Bool). b ∷ xs) so
    ∙ ap (λ (c : Bool). c ∷ marks (is_needed (reverse es)) (reverse (take i es))) is
    ∙ sym (ap (λ (xs : List Entry). marks (is_needed (reverse es)) xs) (one_more es i e lt at))

-- the entries before a place are sifted, those that are handed back stand first, and those from the place on stand where they stood
pub record IsSifted (whole left front : List Entry) (count place : ℕ) : Type 0 where
  pub long : length left ≡ length whole
  pub rest : (j : ℕ) (d : Entry) → place ≤ j → get_or left j d ≡ get_or whole j d
  pub kept : reverse front ≡ needed_among (reverse whole) (reverse (take place whole))
  pub dropped : reverse (take count left) ≡ forgotten_among (reverse whole) (reverse (take place whole))
  pub many : length front + count ≡ place

pub none_sifted : (whole kept : List Entry) → kept ≡ [] → IsSifted whole whole kept 0 0
none_sifted whole kept none = record {
  long = refl;
  rest = λ j d h. refl;
  kept = ap (λ (xs : List Entry). reverse xs) none;
  dropped = refl;
  many = omega (arith, ap (λ (xs : List Entry). length xs) none);
}

put_kept : (b : Bool) (xs ys : List Entry) (e : Entry) → reverse xs ≡ ys → reverse (cond b (xs ++ e ∷ []) xs) ≡ cond b (e ∷ ys) ys
put_kept true xs ys e h = reverse-append xs (e ∷ []) ∙ ap (λ (zs : List Entry). e ∷ zs) h
put_kept false xs ys e h = h

put_dropped : (b : Bool) (xs ys : List Entry) (e : Entry) → reverse xs ≡ ys → reverse (cond b xs (xs ++ e ∷ [])) ≡ cond b ys (e ∷ ys)
put_dropped true xs ys e h = h
put_dropped false xs ys e h = reverse-append xs (e ∷ []) ∙ ap (λ (zs : List Entry). e ∷ zs) h

put_many : (b : Bool) (xs : List Entry) (e : Entry) (count i : ℕ) → length xs + count ≡ i → length (cond b (xs ++ e ∷ []) xs) + cond b count (count + 1) ≡ i + 1
put_many true xs e count i h = let more = length_push xs e in omega (arith, more)
put_many false xs e count i h = omega (arith, h)

pub sifted_more : (whole left new kept longer : List Entry) (ms : List Bool) (count further i : ℕ) (e : Entry) (b d : Bool) → MarkNeeded whole ms → i < length whole
    → IsSifted whole left kept count i → e ≡ get_or whole i e → b ≡ get_or ms i d → SiftsAt b i count further kept longer left new
    → IsSifted whole new longer further (i + 1)
sifted_more whole left new kept longer ms count further i e b d marks lt s at mark more_is =
    let is : is_needed (reverse whole) (reverse (take i whole)) e ≡ b = sym (mark ∙ needed_at whole ms i e d marks lt at) in
    let more = one_more whole i e lt at in
    let many : length kept + count ≡ i = s.many in
    let same : get_or left i e ≡ e = s.rest i e (omega arith) ∙ sym at in
    let ys : List Entry = needed_among (reverse whole) (reverse (take i whole)) in
    let zs : List Entry = forgotten_among (reverse whole) (reverse (take i whole)) in
    let put : longer ≡ cond b (kept ++ e ∷ []) kept = more_is.kept e ∙ ap (λ (x : Entry). cond b (kept ++ x ∷ []) kept) same in
    record {
      long = more_is.long ∙ s.long;
      rest = λ j d h. more_is.behind j d (omega (arith, h)) ∙ s.rest j d (omega (arith, h));
      kept =
          ap (λ (xs : List Entry). reverse xs) put
          ∙ put_kept b kept ys e s.kept
          ∙ ap (λ (c : Bool). cond c (e ∷ ys) ys) (sym is)
          ∙ sym (ap (λ (xs : List Entry). needed_among (reverse whole) xs) more);
      dropped =
          ap (λ (xs : List Entry). reverse xs) (more_is.front e)
          ∙ ap (λ (x : Entry). reverse (cond b (take count left) (take count left ++ x ∷ []))) same
          ∙ put_dropped b (take count left) zs e s.dropped
          ∙ ap (λ (c : Bool). cond c zs (e ∷ zs)) (sym is)
          ∙ sym (ap (λ (xs : List Entry). forgotten_among (reverse whole) xs) more);
      many =
          ap (λ (xs : List Entry). length xs + further) put
          ∙ ap (λ (n : ℕ). length (cond b (kept ++ e ∷ []) kept) + n) more_is.many
          ∙ put_many b kept e count i many;
    }

-- how much text is handed back, with one entry more
texts_by : (b : Bool) (total n grown : ℕ) (e : Entry) (zs : List Entry) → n ≡ cond b 0 (min (bytes_of_event e.event) (2 ^ 64 - 1)) → grown ≡ min (total + n) (2 ^ 64 - 1)
    → total ≡ min (text_bytes zs) (2 ^ 64 - 1) → grown ≡ min (text_bytes (cond b zs (e ∷ zs))) (2 ^ 64 - 1)
texts_by true total n grown e zs is sum so = omega (arith, is, sum, so)
texts_by false total n grown e zs is sum so = omega (arith, is, sum, so)

pub texts_more : (whole : List Entry) (ms : List Bool) (i : ℕ) (e : Entry) (b d : Bool) (total n grown : ℕ) → MarkNeeded whole ms → i < length whole → e ≡ get_or whole i e
    → b ≡ get_or ms i d → n ≡ cond b 0 (min (bytes_of_event e.event) (2 ^ 64 - 1)) → grown ≡ min (total + n) (2 ^ 64 - 1)
    → total ≡ min (text_bytes (forgotten_among (reverse whole) (reverse (take i whole)))) (2 ^ 64 - 1)
    → grown ≡ min (text_bytes (forgotten_among (reverse whole) (reverse (take (i + 1) whole)))) (2 ^ 64 - 1)
texts_more whole ms i e b d total n grown marks lt at mark bytes sum so =
    let is : is_needed (reverse whole) (reverse (take i whole)) e ≡ b = sym (mark ∙ needed_at whole ms i e d marks lt at) in
    let zs : List Entry = forgotten_among (reverse whole) (reverse (take i whole)) in
    texts_by b total n grown e zs bytes sum so
    ∙ ap (λ (c : Bool). min (text_bytes (cond c zs (e ∷ zs))) (2 ^ 64 - 1)) (sym is)
    ∙ sym (ap (λ (xs : List Entry). min (text_bytes (forgotten_among (reverse whole) xs)) (2 ^ 64 - 1)) (one_more whole i e lt at))
