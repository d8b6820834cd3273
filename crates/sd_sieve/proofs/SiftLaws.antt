-- What stands first in a list whose entries are sifted.
use Rattle.std.proofs.Common.{◌≡◌, ℕ, ◌+◌, ◌<◌, ◌≤◌, List, [], ◌∷◌, ◌++◌, true, false, length, get_or, take, set, refl, sym, ◌∙◌, ap, arith}
use Rattle.std.proofs.lemmas.List.{take_more, take-set-le, take-take, get_or_default, length-set}
use Rattle.std.specs.List.{SwappedAt}
use Rattle.sd_rules.specs.declared.replies.Entry.{Entry}
use Rattle.sd_sieve.specs.Sifting.{SiftsAt}

pub swapped_front : (old new : List Entry) (count place : ℕ) (d : Entry) → count ≤ place → place < length old → SwappedAt old new count place
    → take (count + 1) new ≡ take count old ++ get_or old place d ∷ []
swapped_front old new count place d few lt s =
    let long : length new ≡ length old =
    ap (λ (xs : List Entry). length xs) (s.3 d)
    ∙ length-set (set old count (get_or old place d)) place (get_or old count d)
    ∙ length-set old count (get_or old place d) in
    let same : take count new ≡ take count old =
    ap (λ (xs : List Entry). take count xs) (s.3 d)
    ∙ take-set-le count (set old count (get_or old place d)) place (get_or old count d) few
    ∙ take-set-le count old count (get_or old place d) (omega arith) in
    take_more new count d (omega (arith, few, lt, long))
    ∙ ap (λ (xs : List Entry). xs ++ get_or new count d ∷ []) same
    ∙ ap (λ (x : Entry). take count old ++ x ∷ []) (s.0 d)

-- what stands first stays where the entry at a place behind it is taken away
pub front_stays : (left taken : List Entry) (count place : ℕ) → count ≤ place → take place taken ≡ take place left → take count taken ≡ take count left
front_stays left taken count place few same =
    sym (take-take count place taken few) ∙ ap (λ (xs : List Entry). take count xs) same ∙ take-take count place left few

-- an entry that is kept
pub sifts_kept : (kept longer old taken : List Entry) (e : Entry) (count place : ℕ) → count ≤ place → place < length old
    → e ≡ get_or old place e → length taken ≡ length old → take place taken ≡ take place old → ((j : ℕ) (d : Entry) → place < j → get_or taken j d ≡ get_or old j d)
    → longer ≡ kept ++ e ∷ [] → SiftsAt true place count count kept longer old taken
sifts_kept kept longer old taken e count place few lt at long before behind put = record {
  kept = λ d. put ∙ ap (λ (x : Entry). kept ++ x ∷ []) (at ∙ get_or_default old place e d lt);
  front = λ d. front_stays old taken count place few before;
  many = refl;
  long = long;
  behind = behind;
}

-- an entry that is handed back
pub sifts_back : (kept old new : List Entry) (count place : ℕ) → length new ≡ length old
    → ((d : Entry) → take (count + 1) new ≡ take count old ++ get_or old place d ∷ []) → ((j : ℕ) (d : Entry) → place < j → get_or new j d ≡ get_or old j d)
    → SiftsAt false place count (count + 1) kept kept old new
sifts_back kept old new count place long front behind = record {
  kept = λ d. refl;
  front = front;
  many = refl;
  long = long;
  behind = behind;
}
