-- What a search over a told directory comes to is an answer by its entries.
use Rattle.std.proofs.Common.{◌≡◌, ℕ, suc, ◌+◌, ◌-◌, Bool, true, false, not, ◌==◌, ◌||◌, List, [], ◌∷◌, length, drop, map, Option, Some, None, refl, sym, ap, subst, ◌∙◌, cond, arith}
use Rattle.std.proofs.lemmas.Bool.{and_from, and_parts, le-leb}
use Rattle.std.specs.Prelude.{filter, ◌&&◌, nat_le}
use Rattle.std.specs.List.{list_any}
use Rattle.sd_base.specs.declared.Why.{Why}
use Rattle.sd_ldap.specs.declared.entry.DirEntry.{DirEntry}
use Rattle.sd_ldap.specs.Values.{SearchValue}
use Rattle.sd_dn.specs.declared.Pair.{Pair}
use Rattle.sd_dn.specs.Comparing.{same_list, same_rdn, same_dn, ends_with}
use Rattle.sd_dn.specs.Texts.{spelled, both_meet}
use Rattle.sd_match.specs.Matching.{has_unsupported, matches}
use Rattle.sd_match.specs.Answering.{is_at_or_under, in_scope, is_found, found, sent, limited, search_code}
use Rattle.sd_dial.specs.Entries.{Behind}
use Rattle.sd_dial.specs.declared.searched.Searched.{Searched}
use Rattle.sd_dial.specs.declared.searched.Searched.TheVariants as searches
use Rattle.sd_asking.specs.Searching.{ToldReply, entries, code, failed, told_search, entries_sent, code_sent, by_code, by_limit, IsToldSearch}
use Rattle.sd_asking.specs.Sizes.{is_too_long, content_size, first_limit}
use Rattle.sd_nested.specs.Searches.{IsAnswer}

-- the searches of lookups have no limit and no unsupported filter
pub record IsPlain (s : SearchValue) : Type 0 where
  pub unlimited : s.size ≡ 0
  pub supported : has_unsupported s.filter ≡ false

-- what comes is the entries, or 32 where none is at or under the base
abbrev plain_reply : List DirEntry → SearchValue → ToldReply
plain_reply all s = cond (list_any (λ (e : DirEntry). is_at_or_under s.base e) all) (entries (map (λ (e : DirEntry). sent s e) (found all s))) (code 32)

by_place : (all : List DirEntry) (s : SearchValue) (b : Bool) → by_code (map (λ (e : DirEntry). sent s e) (found all s)) (cond b 0 32) ≡ cond b (entries (map (λ (e : DirEntry). sent s e) (found all s))) (code 32)
by_place all s true = refl
by_place all s false = refl

by_codes : (all : List DirEntry) (s : SearchValue) → IsPlain s → by_code (entries_sent all s) (code_sent all s) ≡ plain_reply all s
by_codes all s p = rw (p.supported, p.unlimited) (by_place all s (list_any (λ (e : DirEntry). is_at_or_under s.base e) all))

-- ---- no entry at or under the base: none is found

same_length : {X : Type 0} (same : X → X → Bool) (xs ys : List X) → same_list same xs ys ≡ true → length xs ≡ length ys
same_length same [] [] h = refl
same_length same [] (y ∷ ys) h = absurd cc
same_length same (x ∷ xs) [] h = absurd cc
same_length same (x ∷ xs) (y ∷ ys) h = ap suc (same_length same xs ys (and_parts (same x y) (same_list same xs ys) h).1)

whole_end : (dn base : List (List Pair)) → same_dn dn base ≡ true → ends_with dn base ≡ true
whole_end dn base h =
    let e : length dn ≡ length base = same_length same_rdn dn base h in
    let none : length dn - length base ≡ 0 = omega (arith, e) in
    and_from (nat_le (length base) (length dn)) (same_dn (drop (length dn - length base) dn) base) (le-leb (length base) (length dn) (omega (arith, e)))
    (subst (λ (n : ℕ). same_dn (drop n dn) base ≡ true) (sym none) h)

in_any_scope : (scope : ℕ) (dn base : List (List Pair)) → in_scope scope dn base ≡ true → ends_with dn base ≡ true
in_any_scope scope dn base h = by_scope (scope == 0) (scope == 1) h
  where
    by_scope : (a b : Bool) → cond a (same_dn dn base) (cond b ((length dn == length base + 1) && ends_with dn base) (ends_with dn base)) ≡ true → ends_with dn base ≡ true
    by_scope true b k = whole_end dn base k
    by_scope false true k = (and_parts (length dn == length base + 1) (ends_with dn base) k).1
    by_scope false false k = k

both_scope : (scope : ℕ) (a b : Option (List (List Pair))) → both_meet (in_scope scope) a b ≡ true → both_meet ends_with a b ≡ true
both_scope scope (Some dn) (Some base) h = in_any_scope scope dn base h
both_scope scope (Some dn) None h = absurd cc
both_scope scope None b h = absurd cc

found_placed : (s : SearchValue) (e : DirEntry) → is_found s e ≡ true → is_at_or_under s.base e ≡ true
found_placed s e h = both_scope s.scope (spelled e.dn) (spelled s.base) (and_parts (both_meet (in_scope s.scope) (spelled e.dn) (spelled s.base)) (matches s.filter e.attributes) h).0

none_step : {X : Type 0} (x : X) (kept : List X) (p q any : Bool) → (p ≡ true → q ≡ true) → (q || any) ≡ false → (any ≡ false → kept ≡ []) → cond p (x ∷ kept) kept ≡ []
none_step x kept true true any f h k = absurd cc
none_step x kept true false any f h k = let e = f refl in cc
none_step x kept false true any f h k = absurd cc
none_step x kept false false any f h k = k h

none_kept : {X : Type 0} (p q : X → Bool) → ((x : X) → p x ≡ true → q x ≡ true) → (xs : List X) → list_any q xs ≡ false → filter p xs ≡ []
none_kept p q f [] h = refl
none_kept p q f (x ∷ xs) h = none_step x (filter p xs) (p x) (q x) (list_any q xs) (f x) h (none_kept p q f xs)

-- ---- answers

reply_entries : (all : List DirEntry) (s : SearchValue) (given : List DirEntry) (b : Bool) → cond b (entries (map (λ (e : DirEntry). sent s e) (found all s))) (code 32) ≡ entries given → given ≡ map (λ (e : DirEntry). sent s e) (found all s)
reply_entries all s given true h = cc
reply_entries all s given false h = absurd cc

reply_code : (all : List DirEntry) (s : SearchValue) (result : ℕ) (b : Bool) → cond b (entries (map (λ (e : DirEntry). sent s e) (found all s))) (code 32) ≡ code result → (result ≡ 32) × (b ≡ false)
reply_code all s result true h = absurd cc
reply_code all s result false h = (cc, refl)

limit_entries : (failure : Option Why) (reply : ToldReply) (given : List DirEntry) → by_limit failure reply ≡ entries given → reply ≡ entries given
limit_entries None reply given h = h
limit_entries (Some why) reply given h = absurd cc

limit_code : (failure : Option Why) (reply : ToldReply) (result : ℕ) → by_limit failure reply ≡ code result → reply ≡ code result
limit_code None reply result h = h
limit_code (Some why) reply result h = absurd cc

long_entries : (b : Bool) (why : Why) (reply : ToldReply) (given : List DirEntry) → cond b (failed why) reply ≡ entries given → reply ≡ entries given
long_entries false why reply given h = h
long_entries true why reply given h = absurd cc

long_code : (b : Bool) (why : Why) (reply : ToldReply) (result : ℕ) → cond b (failed why) reply ≡ code result → reply ≡ code result
long_code false why reply result h = h
long_code true why reply result h = absurd cc

told_entries : (b : Behind) (count id : ℕ) (s : SearchValue) (given : List DirEntry) → told_search b count id s ≡ entries given → by_code (entries_sent b.entries s) (code_sent b.entries s) ≡ entries given
unfolding told_search
told_entries b count id s given h = limit_entries _ _ given (long_entries _ _ _ given h)

told_code : (b : Behind) (count id : ℕ) (s : SearchValue) (result : ℕ) → told_search b count id s ≡ code result → by_code (entries_sent b.entries s) (code_sent b.entries s) ≡ code result
unfolding told_search
told_code b count id s result h = limit_code _ _ result (long_code _ _ _ result h)

pub answered : (b : Behind) (count id : ℕ) (s : SearchValue) (searched : Searched) → IsPlain s → IsToldSearch searched (told_search b count id s) → IsAnswer b.entries s searched
answered b count id s (searches.Entries given) p h =
    reply_entries b.entries s given (list_any (λ (e : DirEntry). is_at_or_under s.base e) b.entries) (sym (by_codes b.entries s p) ∙ told_entries b count id s given h)
answered b count id s (searches.Code result) p h =
    let k = reply_code b.entries s result (list_any (λ (e : DirEntry). is_at_or_under s.base e) b.entries) (sym (by_codes b.entries s p) ∙ told_code b count id s result h) in
    (k.0, none_kept (is_found s) (λ (e : DirEntry). is_at_or_under s.base e) (found_placed s) b.entries k.1)
answered b count id s (searches.Failed why) p h = tt
answered b count id s searches.Memory p h = tt
