-- What bytes decide stays, whatever follows them on their line, and how the bytes received grow.
use Rattle.std.proofs.Common.{◌≡◌, ◌∙◌, ℕ, ◌<◌, ◌≤◌, true, ltb, List, [], ◌++◌, length, take, drop, Option, Some, None, refl, sym, ap, inl, inr, append_assoc, append-nil, arith}
use Rattle.std.specs.Io.KnownBytes.{append_known}
use Rattle.std.proofs.lemmas.Bool.{cases_lt, lt-ltb}
use Rattle.std.proofs.lemmas.List.{drop_all, length-append, length-take-le}
use Rattle.sd_base.specs.declared.Why.{Why}
use Rattle.sd_base.specs.declared.Why.TheVariants as whys
use Rattle.sd_rules.specs.declared.tasks.Bound.{Bound}
use Rattle.sd_rules.specs.declared.tasks.Bound.TheVariants as bounds
use Rattle.sd_ldap.specs.declared.entry.DirEntry.{DirEntry}
use Rattle.sd_dial.specs.declared.searched.Searched.{Searched}
use Rattle.sd_dial.specs.declared.searched.Searched.TheVariants as searches
use Rattle.sd_client.specs.declared.step.Request.{Request}
use Rattle.sd_client.specs.declared.step.Request.TheVariants as requests
use Rattle.sd_client.specs.Deciding.{Decision, undecided, ended, failed, reply, flooded, decided}
use Rattle.sd_client.specs.Replying.{IsFailure}
use Rattle.sd_client.specs.Talk.{Talk, IsSearched, IsBound, IsUnsearched, failure_by_search, without_entries}
use Rattle.sd_client.proofs.Decisions.{decided_within}
use Rattle.sd_client.proofs.Stable.{decided_stable}
use Rattle.sd_fetch.specs.Exchanging.{Telling, Exchange, Went}
use Rattle.sd_engine.specs.Received.{DecidesSearch}

reply_none : (request : Request) (id at : ℕ) → reply request id [] at 0 [] ≡ undecided
unfolding reply
reply_none request id at = refl

flood_of : (count : ℕ) → 67108864 < count → flooded count undecided ≡ failed (whys.Flood 67108865)
flood_of count many = let test : ltb 67108864 count ≡ true = lt-ltb 67108864 count many in rw test refl

-- where reading stands behind all that may be read, more bytes are a flood
flood_beyond : (request : Request) (id at : ℕ) (bytes : List ℕ) → 67108864 < length bytes → 67108864 ≤ at → decided request id at bytes ≡ failed (whys.Flood 67108865)
flood_beyond request id at bytes many beyond =
    let size : length (take 67108864 bytes) ≡ 67108864 = length-take-le 67108864 bytes (omega (arith, many)) in
    let none : drop at (take 67108864 bytes) ≡ [] = drop_all at (take 67108864 bytes) (omega (arith, size, beyond)) in
    ap (λ (list : List ℕ). flooded (length bytes) (reply request id [] at 0 list)) none
    ∙ ap (λ (d : Decision). flooded (length bytes) d) (reply_none request id at)
    ∙ flood_of (length bytes) many

nothing_beyond : (request : Request) (id at : ℕ) (bytes : List ℕ) → length bytes ≤ 67108864 → length bytes < at → decided request id at bytes ≡ undecided
nothing_beyond request id at bytes few beyond =
    let none : drop at bytes ≡ [] = drop_all at bytes (omega (arith, beyond)) in
    decided_within request id at bytes few
    ∙ ap (λ (list : List ℕ). reply request id [] at 0 list) none
    ∙ reply_none request id at

-- what is decided stays, wherever reading stands
pub decided_on : (request : Request) (id at : ℕ) (received more : List ℕ) → (decided request id at received ≡ undecided → ⊥) → decided request id at (received ++ more) ≡ decided request id at received
decided_on request id at received more some = elim (cases_lt (length received) at) [
  | inl beyond ↦ elim (cases_lt 67108864 (length received)) [
    | inl many ↦
        flood_beyond request id at (received ++ more) (omega (arith, many, length-append received more)) (omega (arith, many, beyond))
        ∙ sym (flood_beyond request id at received many (omega (arith, many, beyond)))
    | inr few ↦ absurd (some (nothing_beyond request id at received few beyond))
  ]
  | inr there ↦ decided_stable request id at received more there some
]

is_ended : (d : Decision) (found : List DirEntry) (code at : ℕ) → d ≡ ended found code at → d ≡ undecided → ⊥
is_ended d found code at e none = let clash : undecided ≡ ended found code at = sym none ∙ e in cc

is_coded : (d : Decision) (code at : ℕ) → without_entries d ≡ ended [] code at → d ≡ undecided → ⊥
is_coded d code at e none = is_ended undecided [] code at (sym (ap without_entries none) ∙ e) refl

not_well : (why : Why) → Some why ≡ None → ⊥
not_well why e = cc

-- a search that did not fail is decided by the same bytes with others behind them
pub searched_on : (s : Searched) (id at after : ℕ) (received more : List ℕ) (rose : Type 0) → failure_by_search s ≡ None → IsSearched s (decided requests.Search id at received) after rose → DecidesSearch (received ++ more) id at s after
searched_on (searches.Entries found) id at after received more rose well h =
    decided_on requests.Search id at received more (is_ended (decided requests.Search id at received) found 0 after h) ∙ h
searched_on (searches.Code code) id at after received more rose well h = (
  h.0,
  ap without_entries (decided_on requests.Search id at received more (is_coded (decided requests.Search id at received) code after h.1)) ∙ h.1,
)
searched_on (searches.Failed why) id at after received more rose well h = absurd (not_well why well)
searched_on searches.Memory id at after received more rose well h = tt

-- ---- without the counts of faults

failed_by : (why : Why) (d : Decision) (rose : Type 0) → IsFailure why d rose → IsFailure why d (Unit {0})
failed_by whys.Link d rose h = (tt, h.1)
failed_by (whys.Bytes at) d rose h = h
failed_by (whys.Message tag) d rose h = h
failed_by (whys.Flood count) d rose h = h
failed_by (whys.Code code) d rose h = h

pub searched_by : (s : Searched) (d : Decision) (after : ℕ) (rose : Type 0) → IsSearched s d after rose → IsSearched s d after (Unit {0})
searched_by (searches.Entries found) d after rose h = h
searched_by (searches.Code code) d after rose h = h
searched_by (searches.Failed why) d after rose h = failed_by why d rose h
searched_by searches.Memory d after rose h = tt

pub bound_by : (b : Bound) (d : Decision) (after : ℕ) (rose : Type 0) → IsBound b d after rose → IsBound b d after (Unit {0})
bound_by (bounds.Code code) d after rose h = h
bound_by (bounds.Failed why) d after rose h = failed_by why d rose h
bound_by bounds.Memory d after rose h = tt

pub unsearched_by : (s : Searched) (rose : Type 0) → IsUnsearched s rose → IsUnsearched s (Unit {0})
unsearched_by (searches.Entries found) rose h = h
unsearched_by (searches.Code code) rose h = h
unsearched_by (searches.Failed why) rose h = (h.0, tt)
unsearched_by searches.Memory rose h = tt

-- ---- bytes that come

-- what a client received grew by what its link then tells
pub record Grew (before after : List ℕ) (known known' : Option (List ℕ)) : Type 0 where
  pub bytes : List ℕ
  pub grown : after ≡ before ++ bytes
  pub told : known' ≡ append_known known bytes

append_none : (known : Option (List ℕ)) → known ≡ append_known known []
append_none None = refl
append_none (Some bytes) = ap Some (sym (append-nil bytes))

append_both : (known : Option (List ℕ)) (first more : List ℕ) → append_known (append_known known first) more ≡ append_known known (first ++ more)
append_both None first more = refl
append_both (Some bytes) first more = ap Some (append_assoc bytes first more)

pub grew_nothing : (before after : List ℕ) (known known' : Option (List ℕ)) → after ≡ before → known' ≡ known → Grew before after known known'
grew_nothing before after known known' same told = record { bytes = []; grown = same ∙ sym (append-nil before); told = told ∙ append_none known }

pub grew_more : (a b c : List ℕ) (k l m : Option (List ℕ)) → Grew a b k l → Grew b c l m → Grew a c k m
grew_more a b c k l m first next = record {
  bytes = first.bytes ++ next.bytes;
  grown = next.grown ∙ ap (λ (list : List ℕ). list ++ next.bytes) first.grown ∙ append_assoc a first.bytes next.bytes;
  told = next.told ∙ ap (λ (o : Option (List ℕ)). append_known o next.bytes) first.told ∙ append_both k first.bytes next.bytes;
}

-- what came in one search
pub went_grew : {L : Type 0} (t : Telling L) (old : Talk L) (x : Exchange) (new : Talk L) → Went t old x new → Grew old.received new.received (t.received old.link) (t.received new.link)
went_grew t old x new w = elim w.used [
  | inl same ↦ let u = w.unsent same in grew_nothing _ _ _ _ u.held u.received
  | inr more ↦ let c = (w.asked more).came in record { bytes = _; grown = c.grown; told = c.received }
]
