-- Where the slots are that a search finds or a bind names.
use Rattle.std.proofs.Common.{◌≡◌, ◌≢◌, ℕ, zero, suc, ◌<◌, Bool, true, false, List, [], ◌∷◌, length, get_or, refl, sym, ap, ◌∙◌, subst, arith, inl, inr, Option}
use Rattle.std.specs.Prelude.{◌⊎◌, ◌&&◌}
use Rattle.std.specs.List.{list_any}
use Rattle.sd_dn.specs.declared.Pair.{Pair}
use Rattle.sd_dn.specs.Comparing.{ends_with}
use Rattle.sd_dn.specs.Texts.{spelled, both_meet}
use Rattle.sd_ldap.specs.declared.filter.Filter.{Filter}
use Rattle.sd_ldap.specs.declared.entry.Attribute.{Attribute}
use Rattle.sd_ldap.specs.declared.entry.DirEntry.{DirEntry}
use Rattle.sd_ldap.specs.Filters.{FilterValue, filter_value, filter_values}
use Rattle.sd_ldap.specs.Values.{SearchValue}
use Rattle.sd_match.specs.Matching.{holds_dns, has_value, equals, matches, all_match}
use Rattle.sd_match.specs.Answering.{in_scope, is_found}
use Rattle.sd_places.specs.Numbers.{base_number, value_number}
use Rattle.sd_places.specs.Covers.{AreEnough, present, at_slot, passes_at}
use Rattle.sd_places.specs.Index.{IsIndex, found_under}
use Rattle.sd_places.proofs.Covering.{any_enough, any_picked}
use Rattle.sd_places.proofs.Hashing.{meets_scope}
use Rattle.sd_places.proofs.Indexing.{base_enough, value_enough, dn_enough}

and_first : (s t : Bool) → (s && t) ≡ true → s ≡ true
and_first true t h = refl
and_first false t h = cc

and_second : (s t : Bool) → (s && t) ≡ true → t ≡ true
and_second true t h = h
and_second false t h = cc

there : (test : DirEntry → Bool) (slots : List (Option DirEntry)) (places : List ℕ) → AreEnough test slots places → list_any (λ (p : ℕ). passes_at test (at_slot slots p)) places ≡ list_any test (present slots)
there test slots places h = any_picked test (λ (p : ℕ). at_slot slots p) places ∙ any_enough test slots places h

pub base_there : (buckets : List (List ℕ)) (slots : List (Option DirEntry)) (base : Option (List (List Pair))) (places : List ℕ) → 1 < length buckets → IsIndex buckets slots → places ≡ found_under buckets (base_number base)
    → list_any (λ (p : ℕ). passes_at (λ (e : DirEntry). both_meet ends_with (spelled e.dn) base) (at_slot slots p)) places ≡ list_any (λ (e : DirEntry). both_meet ends_with (spelled e.dn) base) (present slots)
base_there buckets slots base places some is at =
    ap (λ (ps : List ℕ). list_any (λ (p : ℕ). passes_at (λ (e : DirEntry). both_meet ends_with (spelled e.dn) base) (at_slot slots p)) ps) at
    ∙ there (λ (e : DirEntry). both_meet ends_with (spelled e.dn) base) slots (found_under buckets (base_number base)) (base_enough buckets slots (λ (e : DirEntry). both_meet ends_with (spelled e.dn) base) base some is (λ e t. t))

pub base_all : (buckets : List (List ℕ)) (slots : List (Option DirEntry)) (s : SearchValue) (base : Option (List (List Pair))) → 1 < length buckets → IsIndex buckets slots → base ≡ spelled s.base
    → AreEnough (λ (e : DirEntry). is_found s e) slots (found_under buckets (base_number base))
base_all buckets slots s base some is at =
    base_enough buckets slots (λ (e : DirEntry). is_found s e) base some is
    (λ e t.
    let under : both_meet ends_with (spelled e.dn) (spelled s.base) ≡ true = meets_scope s.scope (spelled e.dn) (spelled s.base) (and_first (both_meet (in_scope s.scope) (spelled e.dn) (spelled s.base)) (matches s.filter e.attributes) t) in
    ap (λ (o : Option (List (List Pair))). both_meet ends_with (spelled e.dn) o) at ∙ under)

-- all that a search finds passes its filter
pub found_matches : (s : SearchValue) (filter : FilterValue) (e : DirEntry) → s.filter ≡ filter → is_found s e ≡ true → matches filter e.attributes ≡ true
found_matches s filter e same h =
    ap (λ (f : FilterValue). matches f e.attributes) (sym same) ∙ and_second (both_meet (in_scope s.scope) (spelled e.dn) (spelled s.base)) (matches s.filter e.attributes) h

-- what passes all filters passes each
each_matches : (filters : List Filter) (i : ℕ) (f d : Filter) (attributes : List Attribute) → i < length filters → f ≡ get_or filters i d → all_match (filter_values filters) attributes ≡ true → matches (filter_value f) attributes ≡ true
each_matches [] i f d attributes lt is h = absurd (omega (arith, lt))
each_matches (g ∷ gs) zero f d attributes lt is h = ap (λ (x : Filter). matches (filter_value x) attributes) is ∙ and_first (matches (filter_value g) attributes) (all_match (filter_values gs) attributes) h
each_matches (g ∷ gs) (suc i) f d attributes lt is h =
    each_matches gs i f d attributes (omega (arith, lt)) is (and_second (matches (filter_value g) attributes) (all_match (filter_values gs) attributes) h)

pub each_of : (filters : List Filter) (i : ℕ) (f d : Filter) (s : SearchValue) → i < length filters → f ≡ get_or filters i d
    → ((e : DirEntry) → is_found s e ≡ true → all_match (filter_values filters) e.attributes ≡ true) → (e : DirEntry) → is_found s e ≡ true → matches (filter_value f) e.attributes ≡ true
each_of filters i f d s lt is h e t = each_matches filters i f d e.attributes lt is (h e t)

pub value_all : (buckets : List (List ℕ)) (slots : List (Option DirEntry)) (s : SearchValue) (name asked : List ℕ) (number : ℕ) → 1 < length buckets → IsIndex buckets slots → number ≡ value_number name asked → number ≢ 0
    → (holds_dns name ≡ false) ⊎ (found_under buckets 0 ≡ []) → ((e : DirEntry) → is_found s e ≡ true → has_value name (equals name asked) e.attributes ≡ true)
    → AreEnough (λ (e : DirEntry). is_found s e) slots (found_under buckets number)
value_all buckets slots s name asked number some is at known (inl dns) h =
    subst (λ (n : ℕ). AreEnough (λ (e : DirEntry). is_found s e) slots (found_under buckets n)) (sym at) (value_enough buckets slots (λ (e : DirEntry). is_found s e) name asked some is (λ e. known (at ∙ e)) dns h)
value_all buckets slots s name asked number some is at known (inr none) h =
    subst (λ (n : ℕ). AreEnough (λ (e : DirEntry). is_found s e) slots (found_under buckets n)) (sym at) (dn_enough buckets slots (λ (e : DirEntry). is_found s e) name asked some is (λ e. known (at ∙ e)) none h)
