-- What is written is read again: filters.
use Rattle.std.proofs.Common.{◌≡◌, ℕ, zero, suc, ◌+◌, ◌-◌, ◌^◌, ◌<◌, ◌≤◌, true, false, eqb, List, [], ◌∷◌, ◌++◌, length, Option, Some, None, Result, Ok, refl, sym, ap, ◌∙◌, arith, append_assoc}
use Rattle.std.proofs.lemmas.Bool.{ne_eqb, eq-eqb}
use Rattle.std.proofs.lemmas.List.{append-nil, length-append}
use Rattle.sd_ber.specs.Octets.{element, length_octets}
use Rattle.sd_ber.specs.Reading.{Reading, Opened, reading_of}
use Rattle.sd_ber.proofs.Lengths.{spelled}
use Rattle.sd_ber.proofs.Elements.{element_again}
use Rattle.sd_ldap.specs.Filters.{FilterValue, FilterValues, both, either, negated, equal, substrings, at_least, at_most, present, unsupported, no_filters, with_filter, filters_of}
use Rattle.sd_ldap.specs.Monad.{◌>>=◌, ended, each, all_of}
use Rattle.sd_ldap.specs.Parts.{text_in}
use Rattle.sd_ldap.specs.FilterReading.{pair_in, begins_with, optional_in, run_in, first_piece, later_pieces, last_piece, pieces_in, has_part, substrings_in, comparison_of, compared, filter_of, filter_in}
use Rattle.sd_ldap.specs.Spelling.{text_bytes, inside, texts_bytes, optional_bytes, pieces_bytes, pair_bytes, filter_bytes, filters_bytes}
use Rattle.sd_ldap.specs.Sound.{levels_of, most_levels, HasParts, AllHaveParts}
use Rattle.sd_ldap.proofs.Levels.{some_levels}
use Rattle.sd_ldap.proofs.Again.{Single, inside_longer, text_longer, PartAgain, part_again, expected_again, expected_last, Again, at_last, text_again}

pub pair_again : (at : ℕ) (name value : List ℕ) → length (pair_bytes name value) < 2 ^ 32 → pair_in (reading_of at (pair_bytes name value)) ≡ Ok (name, value)
unfolding pair_in
pair_again at name value small =
    let l = length-append (text_bytes 4 name) (text_bytes 4 value) in
    let a = text_again 4 at name (text_bytes 4 value) (λ z. omega arith) (omega (arith, l)) in
    let b = text_again 4 a.place value [] (λ z. omega arith) (omega (arith, l)) in
    rw (a.read, at_last (text_in 4) a.place (text_bytes 4 value) value b) refl

-- ---- the parts of a value

-- a text that is there, whatever follows
record SomeAgain (tag at : ℕ) (text more : List ℕ) : Type 0 where
  place : ℕ
  read : optional_in tag (reading_of at (text_bytes tag text ++ more)) ≡ (Some text, reading_of place more)

some_read : (tag at : ℕ) (text more : List ℕ) → Single tag → length text < 2 ^ 32 → optional_in tag (reading_of at (text_bytes tag text ++ more)) ≡ (Some text, reading_of (at + (1 + length (length_octets (length text))) + length text) more)
unfolding optional_in text_bytes
some_read tag at text more single small =
    rw (eq-eqb tag tag refl, element_again at tag (element tag text) text more (record { one_octet = single; octets = length_octets (length text); spelled = spelled (length text) small; parts = refl })) refl

some_again : (tag at : ℕ) (text more : List ℕ) → Single tag → length (text_bytes tag text) < 2 ^ 32 → SomeAgain tag at text more
some_again tag at text more single small =
    record { place = at + (1 + length (length_octets (length text))) + length text; read = some_read tag at text more single (omega (arith, text_longer tag text)) }

none_read : (tag at : ℕ) (more : List ℕ) → begins_with tag more ≡ false → optional_in tag (reading_of at more) ≡ (None, reading_of at more)
unfolding optional_in
none_read tag at more other = rw other refl

record OptionalAgain (tag at : ℕ) (text : Option (List ℕ)) (more : List ℕ) : Type 0 where
  place : ℕ
  read : optional_in tag (reading_of at (optional_bytes tag text ++ more)) ≡ (text, reading_of place more)

optional_again : (tag at : ℕ) (text : Option (List ℕ)) (more : List ℕ) → Single tag → length (optional_bytes tag text) < 2 ^ 32 → begins_with tag more ≡ false → OptionalAgain tag at text more
optional_again tag at None more single small other = record { place = at; read = none_read tag at more other }
optional_again tag at (Some text) more single small other = let a = some_again tag at text more single small in record { place = a.place; read = a.read }

optional_last : (tag at : ℕ) (text : Option (List ℕ)) (o : OptionalAgain tag at text []) → optional_in tag (reading_of at (optional_bytes tag text)) ≡ (text, reading_of o.place [])
optional_last tag at text o = ap (λ (bytes : List ℕ). optional_in tag (reading_of at bytes)) (sym (append-nil (optional_bytes tag text))) ∙ o.read

record RunAgain (tag n at : ℕ) (texts : List (List ℕ)) (more : List ℕ) : Type 0 where
  place : ℕ
  read : run_in tag n (reading_of at (texts_bytes tag texts ++ more)) ≡ (texts, reading_of place more)

run_none : (tag n at : ℕ) (more : List ℕ) → begins_with tag more ≡ false → run_in tag n (reading_of at more) ≡ ([], reading_of at more)
unfolding run_in optional_in
run_none tag zero at more other = refl
run_none tag (suc n) at more other = rw other refl

run_more : (tag n at : ℕ) (text rest : List ℕ) (texts : List (List ℕ)) (place after : ℕ) (more : List ℕ) → optional_in tag (reading_of at (text_bytes tag text ++ rest)) ≡ (Some text, reading_of place rest) → run_in tag n (reading_of place rest) ≡ (texts, reading_of after more)
    → run_in tag (suc n) (reading_of at (text_bytes tag text ++ rest)) ≡ (text ∷ texts, reading_of after more)
unfolding run_in
run_more tag n at text rest texts place after more first others = rw (first, others) refl

run_again : (tag : ℕ) (texts : List (List ℕ)) (n at : ℕ) (more : List ℕ) → Single tag → length texts ≤ n → length (texts_bytes tag texts) < 2 ^ 32 → begins_with tag more ≡ false → RunAgain tag n at texts more
run_again tag [] n at more single le small other = record { place = at; read = run_none tag n at more other }
run_again tag (text ∷ texts) zero at more single le small other = absurd (omega arith)
run_again tag (text ∷ texts) (suc n) at more single le small other =
    let l = length-append (text_bytes tag text) (texts_bytes tag texts) in
    let regrouped : (text_bytes tag text ++ texts_bytes tag texts) ++ more ≡ text_bytes tag text ++ (texts_bytes tag texts ++ more) = append_assoc (text_bytes tag text) (texts_bytes tag texts) more in
    let first = some_again tag at text (texts_bytes tag texts ++ more) single (omega (arith, l)) in
    let others = run_again tag texts n first.place more single (omega arith) (omega (arith, l)) other in
    record {
      place = others.place;
      read = ap (λ (bytes : List ℕ). run_in tag (suc n) (reading_of at bytes)) regrouped ∙ run_more tag n at text (texts_bytes tag texts ++ more) texts first.place others.place more first.read others.read;
    }

count_texts : (tag : ℕ) (texts : List (List ℕ)) → length texts ≤ length (texts_bytes tag texts)
count_texts tag [] = omega arith
count_texts tag (text ∷ texts) = omega (arith, length-append (text_bytes tag text) (texts_bytes tag texts), text_longer tag text, count_texts tag texts)

not_first : (any : List (List ℕ)) (last : Option (List ℕ)) → begins_with 128 (texts_bytes 129 any ++ optional_bytes 130 last) ≡ false
unfolding text_bytes
not_first [] None = refl
not_first [] (Some text) = refl
not_first (text ∷ any) last = refl

not_any : (last : Option (List ℕ)) → begins_with 129 (optional_bytes 130 last) ≡ false
unfolding text_bytes
not_any None = refl
not_any (Some text) = refl

pub pieces_again : (at : ℕ) (initial : Option (List ℕ)) (any : List (List ℕ)) (last : Option (List ℕ)) → length (pieces_bytes initial any last) < 2 ^ 32 → pieces_in (reading_of at (pieces_bytes initial any last)) ≡ Ok (record { initial = initial; any = any; last = last })
unfolding pieces_in
pieces_again at initial any last small =
    let l1 = length-append (optional_bytes 128 initial) (texts_bytes 129 any ++ optional_bytes 130 last) in
    let l2 = length-append (texts_bytes 129 any) (optional_bytes 130 last) in
    let i = optional_again 128 at initial (texts_bytes 129 any ++ optional_bytes 130 last) (λ z. omega arith) (omega (arith, l1)) (not_first any last) in
    let a = run_again 129 any (length (texts_bytes 129 any ++ optional_bytes 130 last)) i.place (optional_bytes 130 last) (λ z. omega arith) (omega (arith, l2, count_texts 129 any)) (omega (arith, l1, l2)) (not_any last) in
    let f = optional_again 130 a.place last [] (λ z. omega arith) (omega (arith, l1, l2)) refl in
    ap first_piece i.read ∙ ap (later_pieces initial) a.read ∙ ap (last_piece initial any) (optional_last 130 a.place last f)

pub substrings_again : (place at : ℕ) (name : List ℕ) (initial : Option (List ℕ)) (any : List (List ℕ)) (last : Option (List ℕ)) → has_part initial any last ≡ true → length (text_bytes 4 name ++ inside 48 (pieces_bytes initial any last)) < 2 ^ 32
    → substrings_in place (reading_of at (text_bytes 4 name ++ inside 48 (pieces_bytes initial any last))) ≡ Ok (substrings name initial any last)
unfolding substrings_in
substrings_again place at name initial any last there small =
    let l1 = length-append (text_bytes 4 name) (inside 48 (pieces_bytes initial any last)) in
    let l2 = inside_longer 48 (pieces_bytes initial any last) in
    let n = text_again 4 at name (inside 48 (pieces_bytes initial any last)) (λ z. omega arith) (omega (arith, l1)) in
    let p = expected_again n.place 48 (pieces_bytes initial any last) [] (λ z. omega arith) (omega (arith, l1, l2)) in
    let ps = pieces_again p.start initial any last (omega (arith, l1, l2)) in
    rw (n.read, expected_last n.place 48 (pieces_bytes initial any last) p, ps, there) refl

-- ---- filters

abbrev list_of : FilterValues → List FilterValue
list_of no_filters = []
list_of (with_filter f fs) = f ∷ list_of fs

filters_list : (fs : FilterValues) → filters_of (list_of fs) ≡ fs
filters_list no_filters = refl
filters_list (with_filter f fs) = ap (with_filter f) (filters_list fs)

some_filter : (f : FilterValue) → 0 < length (filter_bytes f)
some_filter (both fs) = omega (arith, inside_longer 160 (filters_bytes fs))
some_filter (either fs) = omega (arith, inside_longer 161 (filters_bytes fs))
some_filter (negated f) = omega (arith, inside_longer 162 (filter_bytes f))
some_filter (equal name value) = omega (arith, inside_longer 163 (pair_bytes name value))
some_filter (substrings name initial any last) = omega (arith, inside_longer 164 (text_bytes 4 name ++ inside 48 (pieces_bytes initial any last)))
some_filter (at_least name value) = omega (arith, inside_longer 165 (pair_bytes name value))
some_filter (at_most name value) = omega (arith, inside_longer 166 (pair_bytes name value))
some_filter (present name) = omega (arith, text_longer 135 name)
some_filter unsupported = omega (arith, inside_longer 169 [])

count_filters : (fs : FilterValues) → length (list_of fs) ≤ length (filters_bytes fs)
count_filters no_filters = omega arith
count_filters (with_filter f fs) = omega (arith, length-append (filter_bytes f) (filters_bytes fs), some_filter f, count_filters fs)

some_level : (f : FilterValue) → 0 < levels_of f
some_level (both fs) = omega arith
some_level (either fs) = omega arith
some_level (negated f) = omega arith
some_level (equal name value) = omega arith
some_level (substrings name initial any last) = omega arith
some_level (at_least name value) = omega arith
some_level (at_most name value) = omega arith
some_level (present name) = omega arith
some_level unsupported = omega arith

-- a filter by its tag and contents, where these are read
filter_part : (levels at tag : ℕ) (body rest : List ℕ) (f : FilterValue) (p : PartAgain at tag body rest) → 0 < levels → filter_of (λ inner. filter_in (levels - 1) inner) at tag (reading_of p.start body) ≡ Ok f
    → filter_in levels (reading_of at (inside tag body ++ rest)) ≡ Ok (f, reading_of p.place rest)
unfolding inside
filter_part levels at tag body rest f p some is =
    some_levels levels (reading_of at (element tag body ++ rest)) (λ z. omega arith)
    ∙ ap (λ (found : Result Opened ℕ). found >>= λ part. filter_of (λ inner. filter_in (levels - 1) inner) at part.tag part.contents >>= λ filter. Ok (filter, part.after)) p.read
    ∙ ap (λ (found : Result FilterValue ℕ). found >>= λ filter. Ok (filter, reading_of p.place rest)) is

module _ (inner : Reading → Result (FilterValue × Reading) ℕ) (at start : ℕ) (body : List ℕ) where
  both_of : (list : List FilterValue) (fs : FilterValues) → all_of inner (reading_of start body) ≡ Ok list → filters_of list ≡ fs → filter_of inner at 160 (reading_of start body) ≡ Ok (both fs)
  unfolding filter_of
  both_of list fs e l = ap (λ (found : Result (List FilterValue) ℕ). found >>= λ list. Ok (both (filters_of list))) e ∙ ap (λ (x : FilterValues). Ok (both x)) l

  either_of : (list : List FilterValue) (fs : FilterValues) → all_of inner (reading_of start body) ≡ Ok list → filters_of list ≡ fs → filter_of inner at 161 (reading_of start body) ≡ Ok (either fs)
  unfolding filter_of
  either_of list fs e l = ap (λ (found : Result (List FilterValue) ℕ). found >>= λ list. Ok (either (filters_of list))) e ∙ ap (λ (x : FilterValues). Ok (either x)) l

  negated_of : (place : ℕ) (f : FilterValue) → inner (reading_of start body) ≡ Ok (f, reading_of place []) → filter_of inner at 162 (reading_of start body) ≡ Ok (negated f)
  unfolding filter_of
  negated_of place f e = ap (λ (found : Result (FilterValue × Reading) ℕ). found >>= λ filter. ended (negated filter.0) filter.1) e

  equal_of : (name value : List ℕ) → pair_in (reading_of start body) ≡ Ok (name, value) → filter_of inner at 163 (reading_of start body) ≡ Ok (equal name value)
  unfolding filter_of comparison_of
  equal_of name value e = ap (λ (found : Result (List ℕ × List ℕ) ℕ). found >>= λ pair. Ok (compared 163 pair)) e

  at_least_of : (name value : List ℕ) → pair_in (reading_of start body) ≡ Ok (name, value) → filter_of inner at 165 (reading_of start body) ≡ Ok (at_least name value)
  unfolding filter_of comparison_of
  at_least_of name value e = ap (λ (found : Result (List ℕ × List ℕ) ℕ). found >>= λ pair. Ok (compared 165 pair)) e

  at_most_of : (name value : List ℕ) → pair_in (reading_of start body) ≡ Ok (name, value) → filter_of inner at 166 (reading_of start body) ≡ Ok (at_most name value)
  unfolding filter_of comparison_of
  at_most_of name value e = ap (λ (found : Result (List ℕ × List ℕ) ℕ). found >>= λ pair. Ok (compared 166 pair)) e

  substrings_of : (f : FilterValue) → substrings_in at (reading_of start body) ≡ Ok f → filter_of inner at 164 (reading_of start body) ≡ Ok f
  unfolding filter_of
  substrings_of f e = e

  present_of : filter_of inner at 135 (reading_of start body) ≡ Ok (present body)
  unfolding filter_of
  present_of = refl

  unsupported_of : filter_of inner at 169 (reading_of start body) ≡ Ok unsupported
  unfolding filter_of
  unsupported_of = refl

-- a text is an element
text_inside : (tag : ℕ) (text : List ℕ) → text_bytes tag text ≡ inside tag text
unfolding text_bytes inside
text_inside tag text = refl

each_end : (levels n at : ℕ) → each (λ inner. filter_in levels inner) n (reading_of at []) ≡ Ok []
unfolding each
each_end levels zero at = refl
each_end levels (suc n) at = refl

each_next : (levels n at : ℕ) (bytes rest : List ℕ) (f : FilterValue) (fs : List FilterValue) (a : Again (λ inner. filter_in levels inner) at bytes f rest) → 0 < length bytes → each (λ inner. filter_in levels inner) n (reading_of a.place rest) ≡ Ok fs
    → each (λ inner. filter_in levels inner) (suc n) (reading_of at (bytes ++ rest)) ≡ Ok (f ∷ fs)
unfolding each
each_next levels n at bytes rest f fs a some e =
    let there : eqb (length (bytes ++ rest)) 0 ≡ false = ne_eqb (length (bytes ++ rest)) 0 (λ z. omega (arith, length-append bytes rest)) in
    rw (there, a.read, e) refl

mutual
  pub filter_again : (f : FilterValue) (levels at : ℕ) (rest : List ℕ) → levels_of f ≤ levels → HasParts f → length (filter_bytes f) < 2 ^ 32 → Again (λ inner. filter_in levels inner) at (filter_bytes f) f rest
  filter_again (both fs) levels at rest le parts small =
      let l = inside_longer 160 (filters_bytes fs) in
      let p = part_again at 160 (filters_bytes fs) rest (λ z. omega arith) (omega (arith, l)) in
      let e = filters_again fs (levels - 1) (length (filters_bytes fs)) p.start (omega arith) parts (omega (arith, l)) (count_filters fs) in
      record { place = p.place; read = filter_part levels at 160 (filters_bytes fs) rest (both fs) p (omega arith) (both_of (λ inner. filter_in (levels - 1) inner) at p.start (filters_bytes fs) (list_of fs) fs e (filters_list fs)) }
  filter_again (either fs) levels at rest le parts small =
      let l = inside_longer 161 (filters_bytes fs) in
      let p = part_again at 161 (filters_bytes fs) rest (λ z. omega arith) (omega (arith, l)) in
      let e = filters_again fs (levels - 1) (length (filters_bytes fs)) p.start (omega arith) parts (omega (arith, l)) (count_filters fs) in
      record { place = p.place; read = filter_part levels at 161 (filters_bytes fs) rest (either fs) p (omega arith) (either_of (λ inner. filter_in (levels - 1) inner) at p.start (filters_bytes fs) (list_of fs) fs e (filters_list fs)) }
  filter_again (negated f) levels at rest le parts small =
      let l = inside_longer 162 (filter_bytes f) in
      let p = part_again at 162 (filter_bytes f) rest (λ z. omega arith) (omega (arith, l)) in
      let i = filter_again f (levels - 1) p.start [] (omega arith) parts (omega (arith, l)) in
      record { place = p.place; read = filter_part levels at 162 (filter_bytes f) rest (negated f) p (omega arith) (negated_of (λ inner. filter_in (levels - 1) inner) at p.start (filter_bytes f) i.place f (at_last (λ inner. filter_in (levels - 1) inner) p.start (filter_bytes f) f i)) }
  filter_again (equal name value) levels at rest le parts small =
      let l = inside_longer 163 (pair_bytes name value) in
      let p = part_again at 163 (pair_bytes name value) rest (λ z. omega arith) (omega (arith, l)) in
      record { place = p.place; read = filter_part levels at 163 (pair_bytes name value) rest (equal name value) p (omega arith) (equal_of (λ inner. filter_in (levels - 1) inner) at p.start (pair_bytes name value) name value (pair_again p.start name value (omega (arith, l)))) }
  filter_again (substrings name initial any last) levels at rest le parts small =
      let l = inside_longer 164 (text_bytes 4 name ++ inside 48 (pieces_bytes initial any last)) in
      let p = part_again at 164 (text_bytes 4 name ++ inside 48 (pieces_bytes initial any last)) rest (λ z. omega arith) (omega (arith, l)) in
      record { place = p.place; read = filter_part levels at 164 (text_bytes 4 name ++ inside 48 (pieces_bytes initial any last)) rest (substrings name initial any last) p (omega arith) (substrings_of (λ inner. filter_in (levels - 1) inner) at p.start (text_bytes 4 name ++ inside 48 (pieces_bytes initial any last)) (substrings name initial any last) (substrings_again at p.start name initial any last parts (omega (arith, l)))) }
  filter_again (at_least name value) levels at rest le parts small =
      let l = inside_longer 165 (pair_bytes name value) in
      let p = part_again at 165 (pair_bytes name value) rest (λ z. omega arith) (omega (arith, l)) in
      record { place = p.place; read = filter_part levels at 165 (pair_bytes name value) rest (at_least name value) p (omega arith) (at_least_of (λ inner. filter_in (levels - 1) inner) at p.start (pair_bytes name value) name value (pair_again p.start name value (omega (arith, l)))) }
  filter_again (at_most name value) levels at rest le parts small =
      let l = inside_longer 166 (pair_bytes name value) in
      let p = part_again at 166 (pair_bytes name value) rest (λ z. omega arith) (omega (arith, l)) in
      record { place = p.place; read = filter_part levels at 166 (pair_bytes name value) rest (at_most name value) p (omega arith) (at_most_of (λ inner. filter_in (levels - 1) inner) at p.start (pair_bytes name value) name value (pair_again p.start name value (omega (arith, l)))) }
  filter_again (present name) levels at rest le parts small =
      let p = part_again at 135 name rest (λ z. omega arith) (omega (arith, text_longer 135 name)) in
      let e = filter_part levels at 135 name rest (present name) p (omega arith) (present_of (λ inner. filter_in (levels - 1) inner) at p.start name) in
      record { place = p.place; read = ap (λ (bytes : List ℕ). filter_in levels (reading_of at (bytes ++ rest))) (text_inside 135 name) ∙ e }
  filter_again unsupported levels at rest le parts small =
      let l = inside_longer 169 ([]) in
      let p = part_again at 169 ([]) rest (λ z. omega arith) (omega (arith, l)) in
      record { place = p.place; read = filter_part levels at 169 ([]) rest unsupported p (omega arith) (unsupported_of (λ inner. filter_in (levels - 1) inner) at p.start []) }

  filters_again : (fs : FilterValues) (levels n at : ℕ) → most_levels fs ≤ levels → AllHaveParts fs → length (filters_bytes fs) < 2 ^ 32 → length (list_of fs) ≤ n → each (λ inner. filter_in levels inner) n (reading_of at (filters_bytes fs)) ≡ Ok (list_of fs)
  filters_again no_filters levels n at le parts small enough = each_end levels n at
  filters_again (with_filter f fs) levels zero at le parts small enough = absurd (omega arith)
  filters_again (with_filter f fs) levels (suc n) at le parts small enough =
      let l = length-append (filter_bytes f) (filters_bytes fs) in
      let a = filter_again f levels at (filters_bytes fs) (omega arith) parts.0 (omega (arith, l)) in
      each_next levels n at (filter_bytes f) (filters_bytes fs) f (list_of fs) a (some_filter f) (filters_again fs levels n a.place (omega arith) parts.1 (omega (arith, l)) (omega arith))
