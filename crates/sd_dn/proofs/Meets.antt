-- Two texts go on alike where the DNs that they spell are the same.
use Rattle.std.proofs.Common.{◌≡◌, ℕ, zero, suc, ◌+◌, ◌<◌, Bool, true, false, cond, List, [], ◌∷◌, ◌++◌, length, take, drop, slice_index_or, add-one, length-drop, take_all, ◌-◌, Option, Some, None, option_map, refl, sym, ap, subst, ◌∙◌, arith, true≢false}
use Rattle.std.specs.Prelude.{◌==◌, ◌&&◌, is_ok, Result, Ok, Err}
use Rattle.std.specs.Option.{option_map_or}
use Rattle.std.specs.Result.{result_ok}
use Rattle.std.specs.Char.{is_ascii_hexdigit, eq_ignore_ascii_case}
use Rattle.std.proofs.lemmas.Bool.{or_parts, ne_eqb}
use Rattle.sd_dn.specs.declared.Pair.{Pair}
use Rattle.sd_dn.specs.declared.texts.Symbol.{Symbol}
use Rattle.sd_dn.specs.declared.texts.Symbol.TheVariants as symbols
use Rattle.sd_dn.specs.declared.texts.Meeting.{Meeting}
use Rattle.sd_dn.specs.declared.texts.Meeting.TheVariants as meetings
use Rattle.sd_dn.specs.Bytes.{is_type_byte, is_reserved, is_special, hex_pair}
use Rattle.sd_dn.specs.Comparing.{same_text, same_rdn, same_dn}
use Rattle.sd_dn.specs.Reading.{run, Start, is_dn}
use Rattle.sd_dn.specs.Texts.{spelled, both_meet, same_dn_text}
use Rattle.sd_dn.specs.Remaining.{Rest, nothing, AtType, OnType, AtEquals, AtValue, OnValue, OnEscape, OnHex, named, named_all, renamed, begun, spaced, pair_of, new_pair, new_rdn, remaining, starts_with_space, ends_pair, starts_with_type, on_value, said, is_byte, byte_meeting, meeting, met, same_head, same_tail}
use Rattle.sd_dn.specs.Grammar.{Spells, Reads}
use Rattle.sd_dn.specs.declared.DnFault.{DnFault}
use Rattle.sd_dn.specs.declared.DnFault.TheVariants as faults
use Rattle.sd_dn.proofs.Complete.{is_read}
use Rattle.sd_dn.proofs.Sound.{is_spelled}
use Rattle.sd_dn.proofs.Goes.{headed, spelled_start, spelled_space}
use Rattle.sd_dn.proofs.Same.{self_dn}

-- ---- types

pub named_push : (ns : List ℕ) (b : ℕ) (o : Option Rest) → named_all (ns ++ b ∷ []) o ≡ named_all ns (named b o)
named_push [] b o = refl
named_push (n ∷ ns) b o = ap (named n) (named_push ns b o)

named_none : (ns : List ℕ) → named_all ns None ≡ None
named_none [] = refl
named_none (n ∷ ns) = ap (named n) (named_none ns)

named_whole : (ns : List ℕ) (r : Rest) → named_all ns (Some (record r { name = [] })) ≡ Some (record r { name = ns })
named_whole [] r = refl
named_whole (n ∷ ns) r = ap (named n) (named_whole ns r)

named_value : (ns : List ℕ) (o : Option Rest) → named_all ns (renamed [] o) ≡ renamed ns o
named_value ns None = named_none ns
named_value ns (Some r) = named_whole ns r

type_more : (t : List ℕ) (i : ℕ) → i < length t → is_type_byte (slice_index_or t i 0) ≡ true → named_all (take i t) (remaining (drop i t) OnType) ≡ named_all (take (suc i) t) (remaining (drop (suc i) t) OnType)
type_more [] i lt h = absurd (omega arith)
type_more (b ∷ bs) zero lt h = rw h refl
type_more (b ∷ bs) (suc i) lt h = ap (named b) (type_more bs i (omega arith) h)

pub type_kept : (t : List ℕ) (i : ℕ) → i < length t → is_type_byte (slice_index_or t i 0) ≡ true
    → remaining t OnType ≡ named_all (take i t) (remaining (drop i t) OnType)
    → remaining t OnType ≡ named_all (take (i + 1) t) (remaining (drop (i + 1) t) OnType)
type_kept t i lt h e = rw add-one (e ∙ type_more t i lt h)

on_type : (t : List ℕ) → starts_with_space t ≡ false → starts_with_type t ≡ true → remaining t AtType ≡ remaining t OnType
on_type [] s h = absurd (true≢false (sym h))
on_type (b ∷ bs) s h = rw (s, h) refl

pub no_type : (t : List ℕ) → starts_with_space t ≡ false → starts_with_type t ≡ false → remaining t AtType ≡ None
no_type [] s h = refl
no_type (b ∷ bs) s h = rw (s, h) refl

behind_type : (t : List ℕ) → starts_with_type t ≡ false → remaining t OnType ≡ remaining t AtEquals
behind_type [] h = refl
behind_type (b ∷ bs) h = rw h refl

to_end : (t : List ℕ) (n : ℕ) → take (length t - n) (drop n t) ≡ drop n t
to_end t n = let e : length (drop n t) ≡ length t - n = length-drop n t in take_all (length t - n) (drop n t) (omega arith)

-- a type of n bytes
typed : (t : List ℕ) (n : ℕ) → starts_with_space t ≡ false → starts_with_type t ≡ true
    → remaining t OnType ≡ named_all (take n t) (remaining (drop n t) OnType) → starts_with_type (drop n t) ≡ false
    → remaining t AtType ≡ named_all (take n t) (remaining (drop n t) AtEquals)
typed t n s h e k = on_type t s h ∙ (e ∙ ap (named_all (take n t)) (behind_type (drop n t) k))

pub typed_value : (whole t : List ℕ) (n : ℕ) (value : List ℕ) → remaining t AtType ≡ remaining whole AtType → starts_with_space t ≡ false → starts_with_type t ≡ true
    → remaining t OnType ≡ named_all (take n t) (remaining (drop n t) OnType) → starts_with_type (drop n t) ≡ false
    → remaining (take (length t - n) (drop n t)) AtEquals ≡ renamed [] (remaining value AtValue)
    → remaining whole AtType ≡ renamed (take n t) (remaining value AtValue)
typed_value whole t n value w s h e k f = sym w ∙ typed t n s h e k ∙ (ap (named_all (take n t)) (ap (λ (u : List ℕ). remaining u AtEquals) (sym (to_end t n)) ∙ f) ∙ named_value (take n t) (remaining value AtValue))

pub typed_none : (whole t : List ℕ) (n : ℕ) → remaining t AtType ≡ remaining whole AtType → starts_with_space t ≡ false → starts_with_type t ≡ true
    → remaining t OnType ≡ named_all (take n t) (remaining (drop n t) OnType) → starts_with_type (drop n t) ≡ false
    → remaining (take (length t - n) (drop n t)) AtEquals ≡ None
    → remaining whole AtType ≡ None
typed_none whole t n w s h e k f = sym w ∙ typed t n s h e k ∙ (ap (named_all (take n t)) (ap (λ (u : List ℕ). remaining u AtEquals) (sym (to_end t n)) ∙ f) ∙ named_none (take n t))

-- ---- spaces in a value

spaced_none : (gap : ℕ) → spaced gap None ≡ None
spaced_none zero = refl
spaced_none (suc n) = ap (begun 32) (spaced_none n)

hexed_gap : (gap : ℕ) (o : Option ℕ) (f : ℕ → Option Rest) → option_map_or (λ x. spaced gap (f x)) o None ≡ spaced gap (option_map_or f o None)
hexed_gap gap None f = sym (spaced_none gap)
hexed_gap gap (Some x) f = refl

hex_gap : (t : List ℕ) (gap high : ℕ) → remaining t (OnHex gap high) ≡ spaced gap (remaining t (OnHex 0 high))
hex_gap [] gap high = sym (spaced_none gap)
hex_gap (b ∷ bs) gap high = hexed_gap gap (hex_pair high b) (λ x. begun x (remaining bs (OnValue 0)))

cond_gap : (gap : ℕ) (t : Bool) (x y u v : Option Rest) → x ≡ spaced gap u → y ≡ spaced gap v → cond t x y ≡ spaced gap (cond t u v)
cond_gap gap true x y u v p q = p
cond_gap gap false x y u v p q = q

escape_gap : (t : List ℕ) (gap : ℕ) → remaining t (OnEscape gap) ≡ spaced gap (remaining t (OnEscape 0))
escape_gap [] gap = sym (spaced_none gap)
escape_gap (b ∷ bs) gap =
    cond_gap gap (is_special b) (spaced gap (begun b (remaining bs (OnValue 0)))) (cond (is_ascii_hexdigit b) (remaining bs (OnHex gap b)) None) (begun b (remaining bs (OnValue 0))) (cond (is_ascii_hexdigit b) (remaining bs (OnHex 0 b)) None)
    refl
    (cond_gap gap (is_ascii_hexdigit b) (remaining bs (OnHex gap b)) None (remaining bs (OnHex 0 b)) None (hex_gap bs gap b) (sym (spaced_none gap)))

skipped : (gap : ℕ) (t1 t2 t3 t4 : Bool) → t1 ≡ false → t2 ≡ false → t4 ≡ false
    → (a b e s r a' b' e' s' r' : Option Rest) → e ≡ spaced gap e' → r ≡ spaced gap r'
    → cond t1 a (cond t2 b (cond t3 e (cond t4 s r))) ≡ spaced gap (cond t1 a' (cond t2 b' (cond t3 e' (cond t4 s' r'))))
skipped gap true t2 t3 t4 p q u a b e s r a' b' e' s' r' f g = absurd (true≢false p)
skipped gap false true t3 t4 p q u a b e s r a' b' e' s' r' f g = absurd (true≢false q)
skipped gap false false true t4 p q u a b e s r a' b' e' s' r' f g = f
skipped gap false false false true p q u a b e s r a' b' e' s' r' f g = absurd (true≢false u)
skipped gap false false false false p q u a b e s r a' b' e' s' r' f g = g

-- spaces before what is no space and ends no pair belong to the value
pub value_gap : (t : List ℕ) (gap : ℕ) → starts_with_space t ≡ false → ends_pair t ≡ false → remaining t (OnValue gap) ≡ spaced gap (remaining t (OnValue 0))
value_gap [] gap s h = refl
value_gap (b ∷ bs) gap s h =
    let apart = or_parts (b == 44) (b == 43) h in
    skipped gap (b == 44) (b == 43) (b == 92) (b == 32) apart.0 apart.1 s
    (new_rdn (remaining bs AtType)) (new_pair (remaining bs AtType)) (remaining bs (OnEscape gap)) (remaining bs (OnValue (suc gap))) (cond (is_reserved b) None (spaced gap (begun b (remaining bs (OnValue 0)))))
    (new_rdn (remaining bs AtType)) (new_pair (remaining bs AtType)) (remaining bs (OnEscape 0)) (remaining bs (OnValue 1)) (cond (is_reserved b) None (begun b (remaining bs (OnValue 0))))
    (escape_gap bs gap)
    (cond_gap gap (is_reserved b) None (spaced gap (begun b (remaining bs (OnValue 0)))) None (begun b (remaining bs (OnValue 0))) (sym (spaced_none gap)) refl)

spaced_before : (gap : ℕ) (o : Option Rest) → 0 < gap → spaced gap o ≡ begun 32 (spaced (gap - 1) o)
spaced_before zero o h = absurd (omega arith)
spaced_before (suc n) o h = let e : n ≡ suc n - 1 = omega arith in ap (λ (k : ℕ). begun 32 (spaced k o)) e

pub owing : (t : List ℕ) (gap : ℕ) → 0 < gap → starts_with_space t ≡ false → ends_pair t ≡ false → remaining t (OnValue gap) ≡ begun 32 (on_value (gap - 1) t)
owing t gap h s e = value_gap t gap s e ∙ spaced_before gap (remaining t (OnValue 0)) h

-- ---- two texts

and_false : (t : Bool) → (t && false) ≡ false
and_false true = refl
and_false false = refl

regrouped : (a b c d : Bool) → (((a && b) && c) && d) ≡ (a && (b && (c && d)))
regrouped false b c d = refl
regrouped true false c d = refl
regrouped true true c d = refl

pub right_none : (same : Rest → Rest → Bool) (o : Option Rest) → both_meet same o None ≡ false
right_none same None = refl
right_none same (Some r) = refl

-- two pairs, by their types
pub heads_meet : (n m : List ℕ) (o p : Option Rest) → both_meet same_head (renamed n o) (renamed m p) ≡ (same_text n m && both_meet same_tail o p)
heads_meet n m None p = sym (and_false (same_text n m))
heads_meet n m (Some r) None = sym (and_false (same_text n m))
heads_meet n m (Some r) (Some s) = regrouped (same_text n m) (same_text r.value s.value) (same_rdn r.pairs s.pairs) (same_dn r.rdns s.rdns)

and_again : (a b c : Bool) → ((a && b) && c) ≡ (a && (b && c))
and_again false b c = refl
and_again true b c = refl

bytes_meet : (b c : ℕ) (o p : Option Rest) → both_meet same_tail (begun b o) (begun c p) ≡ (eq_ignore_ascii_case b c && both_meet same_tail o p)
bytes_meet b c None p = sym (and_false (eq_ignore_ascii_case b c))
bytes_meet b c (Some r) None = sym (and_false (eq_ignore_ascii_case b c))
bytes_meet b c (Some r) (Some s) = and_again (eq_ignore_ascii_case b c) (same_text r.value s.value) (same_rdn r.pairs s.pairs && same_dn r.rdns s.rdns)

by_bytes : (t : Bool) (ra : List ℕ) (oa : ℕ) (rb : List ℕ) (ob : ℕ) → (t && both_meet same_tail (on_value oa ra) (on_value ob rb)) ≡ met (byte_meeting t) ra oa rb ob
by_bytes true ra oa rb ob = refl
by_bytes false ra oa rb ob = refl

pairs_meet : (o p : Option Rest) → both_meet same_tail (new_pair o) (new_pair p) ≡ both_meet same_head o p
pairs_meet None p = refl
pairs_meet (Some r) None = refl
pairs_meet (Some r) (Some s) = refl

rdns_meet : (o p : Option Rest) → both_meet same_tail (new_rdn o) (new_rdn p) ≡ both_meet same_head o p
rdns_meet None p = refl
rdns_meet (Some r) None = refl
rdns_meet (Some r) (Some s) = refl

-- two that never meet
differ : (o p : Option Rest) (f g : Rest → Rest) → ((r s : Rest) → same_tail (f r) (g s) ≡ false) → both_meet same_tail (option_map f o) (option_map g p) ≡ false
differ None p f g h = refl
differ (Some r) None f g h = refl
differ (Some r) (Some s) f g h = h r s

differ_right : (o : Option Rest) (f : Rest → Rest) (s : Rest) → ((r : Rest) → same_tail (f r) s ≡ false) → both_meet same_tail (option_map f o) (Some s) ≡ false
differ_right None f s h = refl
differ_right (Some r) f s h = h r

differ_left : (p : Option Rest) (r : Rest) (g : Rest → Rest) → ((s : Rest) → same_tail r (g s) ≡ false) → both_meet same_tail (Some r) (option_map g p) ≡ false
differ_left None r g h = refl
differ_left (Some s) r g h = h s

-- by the next symbols
pub symbols_meet : (x y : Symbol) (ra : List ℕ) (oa : ℕ) (rb : List ℕ) (ob : ℕ) → both_meet same_tail (said x ra oa) (said y rb ob) ≡ met (meeting x y) ra oa rb ob
symbols_meet (symbols.Byte b) (symbols.Byte c) ra oa rb ob = bytes_meet b c (on_value oa ra) (on_value ob rb) ∙ by_bytes (eq_ignore_ascii_case b c) ra oa rb ob
symbols_meet (symbols.Byte b) symbols.Plus ra oa rb ob = differ (on_value oa ra) (remaining rb AtType) (λ r. record r { value = b ∷ r.value }) (λ s. record { name = []; value = []; pairs = pair_of s ∷ s.pairs; rdns = s.rdns }) (λ r s. refl)
symbols_meet (symbols.Byte b) symbols.Comma ra oa rb ob = differ (on_value oa ra) (remaining rb AtType) (λ r. record r { value = b ∷ r.value }) (λ s. record { name = []; value = []; pairs = []; rdns = (pair_of s ∷ s.pairs) ∷ s.rdns }) (λ r s. refl)
symbols_meet (symbols.Byte b) symbols.End ra oa rb ob = differ_right (on_value oa ra) (λ r. record r { value = b ∷ r.value }) nothing (λ r. refl)
symbols_meet (symbols.Byte b) symbols.Bad ra oa rb ob = right_none same_tail (begun b (on_value oa ra))
symbols_meet symbols.Plus (symbols.Byte c) ra oa rb ob = differ (remaining ra AtType) (on_value ob rb) (λ s. record { name = []; value = []; pairs = pair_of s ∷ s.pairs; rdns = s.rdns }) (λ r. record r { value = c ∷ r.value }) (λ r s. refl)
symbols_meet symbols.Plus symbols.Plus ra oa rb ob = pairs_meet (remaining ra AtType) (remaining rb AtType)
symbols_meet symbols.Plus symbols.Comma ra oa rb ob = differ (remaining ra AtType) (remaining rb AtType) (λ s. record { name = []; value = []; pairs = pair_of s ∷ s.pairs; rdns = s.rdns }) (λ s. record { name = []; value = []; pairs = []; rdns = (pair_of s ∷ s.pairs) ∷ s.rdns }) (λ r s. refl)
symbols_meet symbols.Plus symbols.End ra oa rb ob = differ_right (remaining ra AtType) (λ s. record { name = []; value = []; pairs = pair_of s ∷ s.pairs; rdns = s.rdns }) nothing (λ r. refl)
symbols_meet symbols.Plus symbols.Bad ra oa rb ob = right_none same_tail (new_pair (remaining ra AtType))
symbols_meet symbols.Comma (symbols.Byte c) ra oa rb ob = differ (remaining ra AtType) (on_value ob rb) (λ s. record { name = []; value = []; pairs = []; rdns = (pair_of s ∷ s.pairs) ∷ s.rdns }) (λ r. record r { value = c ∷ r.value }) (λ r s. refl)
symbols_meet symbols.Comma symbols.Plus ra oa rb ob = differ (remaining ra AtType) (remaining rb AtType) (λ s. record { name = []; value = []; pairs = []; rdns = (pair_of s ∷ s.pairs) ∷ s.rdns }) (λ s. record { name = []; value = []; pairs = pair_of s ∷ s.pairs; rdns = s.rdns }) (λ r s. refl)
symbols_meet symbols.Comma symbols.Comma ra oa rb ob = rdns_meet (remaining ra AtType) (remaining rb AtType)
symbols_meet symbols.Comma symbols.End ra oa rb ob = differ_right (remaining ra AtType) (λ s. record { name = []; value = []; pairs = []; rdns = (pair_of s ∷ s.pairs) ∷ s.rdns }) nothing (λ r. refl)
symbols_meet symbols.Comma symbols.Bad ra oa rb ob = right_none same_tail (new_rdn (remaining ra AtType))
symbols_meet symbols.End (symbols.Byte c) ra oa rb ob = differ_left (on_value ob rb) nothing (λ r. record r { value = c ∷ r.value }) (λ r. refl)
symbols_meet symbols.End symbols.Plus ra oa rb ob = differ_left (remaining rb AtType) nothing (λ s. record { name = []; value = []; pairs = pair_of s ∷ s.pairs; rdns = s.rdns }) (λ r. refl)
symbols_meet symbols.End symbols.Comma ra oa rb ob = differ_left (remaining rb AtType) nothing (λ s. record { name = []; value = []; pairs = []; rdns = (pair_of s ∷ s.pairs) ∷ s.rdns }) (λ r. refl)
symbols_meet symbols.End symbols.End ra oa rb ob = refl
symbols_meet symbols.End symbols.Bad ra oa rb ob = refl
symbols_meet symbols.Bad (symbols.Byte c) ra oa rb ob = refl
symbols_meet symbols.Bad symbols.Plus ra oa rb ob = refl
symbols_meet symbols.Bad symbols.Comma ra oa rb ob = refl
symbols_meet symbols.Bad symbols.End ra oa rb ob = refl
symbols_meet symbols.Bad symbols.Bad ra oa rb ob = refl

pub alike_is_byte : (x y : Symbol) → meeting x y ≡ meetings.Alike → is_byte x ≡ true
alike_is_byte (symbols.Byte b) y h = refl
alike_is_byte symbols.Plus (symbols.Byte c) h = absurd cc
alike_is_byte symbols.Plus symbols.Plus h = absurd cc
alike_is_byte symbols.Plus symbols.Comma h = absurd cc
alike_is_byte symbols.Plus symbols.End h = absurd cc
alike_is_byte symbols.Plus symbols.Bad h = absurd cc
alike_is_byte symbols.Comma (symbols.Byte c) h = absurd cc
alike_is_byte symbols.Comma symbols.Plus h = absurd cc
alike_is_byte symbols.Comma symbols.Comma h = absurd cc
alike_is_byte symbols.Comma symbols.End h = absurd cc
alike_is_byte symbols.Comma symbols.Bad h = absurd cc
alike_is_byte symbols.End (symbols.Byte c) h = absurd cc
alike_is_byte symbols.End symbols.Plus h = absurd cc
alike_is_byte symbols.End symbols.Comma h = absurd cc
alike_is_byte symbols.End symbols.End h = absurd cc
alike_is_byte symbols.End symbols.Bad h = absurd cc
alike_is_byte symbols.Bad (symbols.Byte c) h = absurd cc
alike_is_byte symbols.Bad symbols.Plus h = absurd cc
alike_is_byte symbols.Bad symbols.Comma h = absurd cc
alike_is_byte symbols.Bad symbols.End h = absurd cc
alike_is_byte symbols.Bad symbols.Bad h = absurd cc

-- ---- how two values go on

met_by : (m : Meeting) (x y : Symbol) (ra : List ℕ) (oa : ℕ) (rb : List ℕ) (ob : ℕ) (v : Bool) → both_meet same_tail (said x ra oa) (said y rb ob) ≡ v → m ≡ meeting x y → v ≡ met m ra oa rb ob
met_by m x y ra oa rb ob v i e = sym i ∙ (symbols_meet x y ra oa rb ob ∙ ap (λ (k : Meeting). met k ra oa rb ob) (sym e))

pub go_on : (x y : Symbol) (ra : List ℕ) (oa : ℕ) (rb : List ℕ) (ob : ℕ) (v : Bool) → both_meet same_tail (said x ra oa) (said y rb ob) ≡ v → meetings.Alike ≡ meeting x y → both_meet same_tail (on_value oa ra) (on_value ob rb) ≡ v
go_on x y ra oa rb ob v i e = sym (met_by meetings.Alike x y ra oa rb ob v i e)

pub go_further : (x y : Symbol) (ra : List ℕ) (oa : ℕ) (rb : List ℕ) (ob : ℕ) (v : Bool) → both_meet same_tail (said x ra oa) (said y rb ob) ≡ v → meetings.Separated ≡ meeting x y → v ≡ both_meet same_head (remaining ra AtType) (remaining rb AtType)
go_further x y ra oa rb ob v i e = met_by meetings.Separated x y ra oa rb ob v i e

pub end_equal : (x y : Symbol) (ra : List ℕ) (oa : ℕ) (rb : List ℕ) (ob : ℕ) (v : Bool) → both_meet same_tail (said x ra oa) (said y rb ob) ≡ v → meetings.Ended ≡ meeting x y → v ≡ true
end_equal x y ra oa rb ob v i e = met_by meetings.Ended x y ra oa rb ob v i e

pub end_different : (x y : Symbol) (ra : List ℕ) (oa : ℕ) (rb : List ℕ) (ob : ℕ) (v : Bool) → both_meet same_tail (said x ra oa) (said y rb ob) ≡ v → meetings.Different ≡ meeting x y → v ≡ false
end_different x y ra oa rb ob v i e = met_by meetings.Different x y ra oa rb ob v i e

-- ---- how two pairs go on

pub first_none : (x y : Option Rest) → x ≡ None → both_meet same_head x y ≡ false
first_none x y e = ap (λ (o : Option Rest). both_meet same_head o y) e

pub second_none : (x y : Option Rest) → y ≡ None → both_meet same_head x y ≡ false
second_none x y e = ap (λ (o : Option Rest). both_meet same_head x o) e ∙ right_none same_head x

heads_by : (n m : List ℕ) (o p x y : Option Rest) → x ≡ renamed n o → y ≡ renamed m p → both_meet same_head x y ≡ (same_text n m && both_meet same_tail o p)
heads_by n m o p x y e f = ap (λ (k : Option Rest). both_meet same_head k y) e ∙ (ap (λ (k : Option Rest). both_meet same_head (renamed n o) k) f ∙ heads_meet n m o p)

pub heads_same : (n m : List ℕ) (o p x y : Option Rest) → x ≡ renamed n o → y ≡ renamed m p → same_text n m ≡ true → both_meet same_head x y ≡ both_meet same_tail o p
heads_same n m o p x y e f h = heads_by n m o p x y e f ∙ ap (λ (t : Bool). t && both_meet same_tail o p) h

pub heads_differ : (n m : List ℕ) (o p x y : Option Rest) → x ≡ renamed n o → y ≡ renamed m p → same_text n m ≡ false → both_meet same_head x y ≡ false
heads_differ n m o p x y e f h = heads_by n m o p x y e f ∙ ap (λ (t : Bool). t && both_meet same_tail o p) h

-- ---- whole texts

abbrev to_dn : Option Rest → Option (List (List Pair))
to_dn = option_map (headed [] [] [])

dns_meet : (o p : Option Rest) → both_meet same_dn (to_dn o) (to_dn p) ≡ both_meet same_head o p
dns_meet None p = refl
dns_meet (Some r) None = refl
dns_meet (Some r) (Some s) = refl

none_meets : (o : Option (List (List Pair))) → both_meet same_dn o None ≡ false
none_meets None = refl
none_meets (Some dn) = refl

pub two_pairs : (a b : ℕ) (rest bs : List ℕ) → (a == 32) ≡ false → (b == 32) ≡ false → same_dn_text (a ∷ rest) (b ∷ bs) ≡ both_meet same_head (remaining (a ∷ rest) AtType) (remaining (b ∷ bs) AtType)
two_pairs a b rest bs p q =
    ap (λ (o : Option (List (List Pair))). both_meet same_dn o (spelled (b ∷ bs))) (spelled_start a rest p)
    ∙ (ap (λ (o : Option (List (List Pair))). both_meet same_dn (to_dn (remaining (a ∷ rest) AtType)) o) (spelled_start b bs q)
    ∙ dns_meet (remaining (a ∷ rest) AtType) (remaining (b ∷ bs) AtType))

empty_left : (o : Option Rest) → both_meet same_dn (Some []) (to_dn o) ≡ false
empty_left None = refl
empty_left (Some r) = refl

empty_right : (o : Option Rest) → both_meet same_dn (to_dn o) (Some []) ≡ false
empty_right None = refl
empty_right (Some r) = refl

pub space_left : (text other : List ℕ) → starts_with_space text ≡ true → same_dn_text text other ≡ false
space_left [] other h = absurd (true≢false (sym h))
space_left (a ∷ rest) other h = ap (λ (o : Option (List (List Pair))). both_meet same_dn o (spelled other)) (spelled_space a rest h)

pub space_right : (text other : List ℕ) → starts_with_space other ≡ true → same_dn_text text other ≡ false
space_right text [] h = absurd (true≢false (sym h))
space_right text (b ∷ bs) h = ap (λ (o : Option (List (List Pair))). both_meet same_dn (spelled text) o) (spelled_space b bs h) ∙ none_meets (spelled text)

some_length : (n : ℕ) → (suc n == 0) ≡ false
some_length n = ne_eqb (suc n) 0 (λ e. omega (arith, e))

none_filled : (n : ℕ) → (suc n == 0) ≡ true → ⊥
none_filled n e = true≢false (sym e ∙ some_length n)

pub first_empty : (text other : List ℕ) → (length text == 0) ≡ true → starts_with_space other ≡ false → same_dn_text text other ≡ (length other == 0)
first_empty [] [] h t = refl
first_empty [] (b ∷ bs) h t = ap (λ (o : Option (List (List Pair))). both_meet same_dn (Some []) o) (spelled_start b bs t) ∙ (empty_left (remaining (b ∷ bs) AtType) ∙ sym (some_length (length bs)))
first_empty (a ∷ rest) other h t = absurd (none_filled (length rest) h)

pub second_empty : (text other : List ℕ) → (length text == 0) ≡ false → (length other == 0) ≡ true → starts_with_space text ≡ false → same_dn_text text other ≡ false
second_empty [] other h g s = absurd (true≢false h)
second_empty (a ∷ rest) [] h g s = ap (λ (o : Option (List (List Pair))). both_meet same_dn o (Some [])) (spelled_start a rest s) ∙ empty_right (remaining (a ∷ rest) AtType)
second_empty (a ∷ rest) (b ∷ bs) h g s = absurd (none_filled (length bs) g)

pub both_filled : (text other : List ℕ) → (length text == 0) ≡ false → (length other == 0) ≡ false → starts_with_space text ≡ false → starts_with_space other ≡ false → same_dn_text text other ≡ both_meet same_head (remaining text AtType) (remaining other AtType)
both_filled [] other h g s t = absurd (true≢false h)
both_filled (a ∷ rest) [] h g s t = absurd (true≢false g)
both_filled (a ∷ rest) (b ∷ bs) h g s t = two_pairs a b rest bs s t

-- ---- a text and itself

self_read : (r : Result (List (List Pair)) ℕ) → both_meet same_dn (result_ok r) (result_ok r) ≡ is_ok r
self_read (Ok dn) = self_dn dn
self_read (Err left) = refl

pub with_itself : (text : List ℕ) → same_dn_text text text ≡ is_dn text
with_itself text = self_read (run (Start [] []) text)

-- ---- the DN of a text

pub spelled_so : (text : List ℕ) (dn : List (List Pair)) → Spells text dn → Some dn ≡ spelled text
spelled_so text dn s = sym (ap (λ (r : Result (List (List Pair)) ℕ). result_ok r) (is_read text dn s))

none_read : (text : List ℕ) (r : Result (List (List Pair)) ℕ) → run (Start [] []) text ≡ r → ((dn : List (List Pair)) → Spells text dn → ⊥) → None ≡ result_ok r
none_read text (Ok dn) e h = absurd (h dn (is_spelled text dn e))
none_read text (Err left) e h = refl

pub not_read : (text : List ℕ) (f : DnFault) (place : ℕ) → f ≡ faults.BadDn place → ((dn : List (List Pair)) → Spells text dn → Reads (Err f) dn) → None ≡ spelled text
not_read text f place e h = none_read text (run (Start [] []) text) refl (λ dn s. subst (λ (x : DnFault). Reads (Err x) dn) e (h dn s))
