-- The test of messages says what the definition of sound messages says.
use Rattle.std.proofs.Common.{◌≡◌, ◌≢◌, ℕ, ◌%◌, true, not, eqb, refl}
use Rattle.std.proofs.lemmas.Bool.{leb-true, le-leb, ltb-true, lt-ltb, and_from, and_parts, not-true, not_from_false, ne_eqb, eqb-false}
use Rattle.sd_ldap.specs.Filters.{FilterValue, FilterValues, both, either, negated, equal, substrings, at_least, at_most, present, unsupported, no_filters, with_filter}
use Rattle.sd_ldap.specs.Values.{SearchValue, OperationValue, MessageValue, bind_request, bind_response, unbind, search, entry, done, reference, other}
use Rattle.sd_ldap.specs.Sound.{levels_of, HasParts, AllHaveParts, IsSoundSearch, IsOtherTag, IsSoundOperation, IsSound}
use Rattle.sd_stub_link.specs.Sounding.{has_parts, all_have_parts, is_sound_search, is_other_tag, is_sound_operation, is_sound}

mutual
  parts_told : (f : FilterValue) → has_parts f ≡ true → HasParts f
  parts_told (both inner) e = all_parts_told inner e
  parts_told (either inner) e = all_parts_told inner e
  parts_told (negated inner) e = parts_told inner e
  parts_told (equal name value) e = tt
  parts_told (substrings name initial any last) e = e
  parts_told (at_least name value) e = tt
  parts_told (at_most name value) e = tt
  parts_told (present name) e = tt
  parts_told unsupported e = tt

  all_parts_told : (fs : FilterValues) → all_have_parts fs ≡ true → AllHaveParts fs
  all_parts_told no_filters e = tt
  all_parts_told (with_filter f rest) e = let p = and_parts (has_parts f) (all_have_parts rest) e in (parts_told f p.0, all_parts_told rest p.1)

mutual
  parts_tested : (f : FilterValue) → HasParts f → has_parts f ≡ true
  parts_tested (both inner) h = all_parts_tested inner h
  parts_tested (either inner) h = all_parts_tested inner h
  parts_tested (negated inner) h = parts_tested inner h
  parts_tested (equal name value) h = refl
  parts_tested (substrings name initial any last) h = h
  parts_tested (at_least name value) h = refl
  parts_tested (at_most name value) h = refl
  parts_tested (present name) h = refl
  parts_tested unsupported h = refl

  all_parts_tested : (fs : FilterValues) → AllHaveParts fs → all_have_parts fs ≡ true
  all_parts_tested no_filters h = refl
  all_parts_tested (with_filter f rest) h = and_from (has_parts f) (all_have_parts rest) (parts_tested f h.0) (all_parts_tested rest h.1)

search_told : (s : SearchValue) → is_sound_search s ≡ true → IsSoundSearch s
search_told s e =
    let a = and_parts _ _ e in
    let b = and_parts _ _ a.1 in
    let c = and_parts _ _ b.1 in
    let d = and_parts _ _ c.1 in
    let f = and_parts _ _ d.1 in
    record {
      scope = leb-true s.scope 2 a.0;
      deref = leb-true s.deref 3 b.0;
      size = leb-true s.size 2147483647 c.0;
      time = leb-true s.time 2147483647 d.0;
      levels = leb-true (levels_of s.filter) 32 f.0;
      parts = parts_told s.filter f.1;
    }

search_tested : (s : SearchValue) → IsSoundSearch s → is_sound_search s ≡ true
search_tested s h =
    and_from _ _ (le-leb s.scope 2 h.scope)
    (and_from _ _ (le-leb s.deref 3 h.deref)
    (and_from _ _ (le-leb s.size 2147483647 h.size)
    (and_from _ _ (le-leb s.time 2147483647 h.time)
    (and_from _ _ (le-leb (levels_of s.filter) 32 h.levels) (parts_tested s.filter h.parts)))))

differs : (a b : ℕ) → not (eqb a b) ≡ true → a ≢ b
differs a b e = eqb-false a b (not-true (eqb a b) e)

tested : (a b : ℕ) → a ≢ b → not (eqb a b) ≡ true
tested a b h = not_from_false (eqb a b) (ne_eqb a b h)

tag_told : (tag : ℕ) → is_other_tag tag ≡ true → IsOtherTag tag
tag_told tag e =
    let a = and_parts _ _ e in
    let b = and_parts _ _ a.1 in
    let c = and_parts _ _ b.1 in
    let d = and_parts _ _ c.1 in
    let f = and_parts _ _ d.1 in
    let g = and_parts _ _ f.1 in
    let h = and_parts _ _ g.1 in
    record {
      one_octet = differs (tag % 32) 31 a.0;
      no_bind_request = differs tag 96 b.0;
      no_bind_response = differs tag 97 c.0;
      no_unbind = differs tag 66 d.0;
      no_search = differs tag 99 f.0;
      no_entry = differs tag 100 g.0;
      no_done = differs tag 101 h.0;
      no_reference = differs tag 115 h.1;
    }

tag_tested : (tag : ℕ) → IsOtherTag tag → is_other_tag tag ≡ true
tag_tested tag h =
    and_from _ _ (tested (tag % 32) 31 h.one_octet)
    (and_from _ _ (tested tag 96 h.no_bind_request)
    (and_from _ _ (tested tag 97 h.no_bind_response)
    (and_from _ _ (tested tag 66 h.no_unbind)
    (and_from _ _ (tested tag 99 h.no_search)
    (and_from _ _ (tested tag 100 h.no_entry)
    (and_from _ _ (tested tag 101 h.no_done) (tested tag 115 h.no_reference)))))))

operation_told : (op : OperationValue) → is_sound_operation op ≡ true → IsSoundOperation op
operation_told (bind_request version name password) e = let a = and_parts _ _ e in (leb-true 1 version a.0, leb-true version 127 a.1)
operation_told (bind_response result) e = ltb-true result.code 4294967296 e
operation_told unbind e = tt
operation_told (search request) e = search_told request e
operation_told (entry found) e = tt
operation_told (done result) e = ltb-true result.code 4294967296 e
operation_told reference e = tt
operation_told (other tag) e = tag_told tag e

operation_tested : (op : OperationValue) → IsSoundOperation op → is_sound_operation op ≡ true
operation_tested (bind_request version name password) h = and_from _ _ (le-leb 1 version h.0) (le-leb version 127 h.1)
operation_tested (bind_response result) h = lt-ltb result.code 4294967296 h
operation_tested unbind h = refl
operation_tested (search request) h = search_tested request h
operation_tested (entry found) h = refl
operation_tested (done result) h = lt-ltb result.code 4294967296 h
operation_tested reference h = refl
operation_tested (other tag) h = tag_tested tag h

pub sound_told : (m : MessageValue) → is_sound m ≡ true → IsSound m
sound_told m e = let a = and_parts _ _ e in record { id = leb-true m.id 2147483647 a.0; operation = operation_told m.operation a.1 }

pub sound_tested : (m : MessageValue) → IsSound m → is_sound m ≡ true
sound_tested m h = and_from _ _ (le-leb m.id 2147483647 h.id) (operation_tested m.operation h.operation)
