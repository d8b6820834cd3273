-- A text that spells a SID is read as that, and a text that is read spells what is read.
use Rattle.std.specs.Prelude.{nat_lt, nat_le, ◌&&◌, IfOk}
use Rattle.std.proofs.Common.{◌≡◌, ◌<◌, ◌≤◌, ℕ, zero, suc, ◌+◌, ◌-◌, ◌^◌, Bool, true, false, cond, List, [], ◌∷◌, ◌++◌, length, take, drop, Option, Some, None, Result, Ok, Err, refl, sym, ap, subst, ◌∙◌, append_assoc, arith, inl, inr}
use Rattle.std.specs.List.{flat_map}
use Rattle.std.proofs.lemmas.Bool.{and_parts, and_from, leb-true, le-ltb, le-leb}
use Rattle.std.proofs.lemmas.List.{append-nil, length_push, take-append-drop}
use Rattle.std.proofs.lemmas.Fmt.{decimal_digit}
use Rattle.sd_idmap.specs.declared.sids.Sid.{Sid}
use Rattle.sd_idmap.specs.declared.reading.SidFault.{SidFault}
use Rattle.sd_idmap.specs.declared.reading.SidFault.TheVariants as faults
use Rattle.sd_idmap.specs.declared.reading.Stage.{Stage}
use Rattle.sd_idmap.specs.declared.reading.Stage.TheVariants.{Lead, Begin, Number}
use Rattle.sd_idmap.specs.Sids.{part, text_of, are_numbers, is_sid}
use Rattle.sd_idmap.specs.Grammar.{Spells, IsFirstBad, Reads}
use Rattle.sd_idmap.specs.Reading.{Progress, at, start, greatest, step, run, ended, sid_by, sid_in, IsBadAt}
use Rattle.sd_idmap.proofs.Texts.{text_push}
use Rattle.sd_pieces.specs.Steps as specs
use Rattle.sd_pieces.proofs.StepLaws as steps
use Rattle.sd_idmap.proofs.Spelled.{greatest_part, are_push, are_front, IsGood, gone_over, start_moves}
use Rattle.sd_idmap.proofs.Complete.{number_read, parts_read}

-- ---- whole texts

domain_read : (domain : List ℕ) (rid : ℕ) → is_sid (domain ++ rid ∷ []) ≡ true → run start (text_of (domain ++ rid ∷ [])) ≡ Some (at domain (Number rid))
domain_read [] rid ok =
    let p = and_parts (are_numbers (rid ∷ [])) (nat_le 2 1 && nat_le 1 16) ok in
    absurd (let e : nat_le 2 1 ≡ true = (and_parts (nat_le 2 1) (nat_le 1 16) p.1).0 in omega (arith, leb-true 2 1 e))
domain_read (a ∷ ps) rid ok =
    let all : List ℕ = a ∷ (ps ++ rid ∷ []) in
    let p = and_parts (are_numbers all) (nat_le 2 (length all) && nat_le (length all) 16) ok in
    let q = and_parts (nat_le 2 (length all)) (nat_le (length all) 16) p.1 in
    let few : length all ≤ 16 = leb-true (length all) 16 q.1 in
    let room : 0 + length ps < 15 = omega (arith, length_push ps rid, few) in
    number_read [] a (are_front [] a (ps ++ rid ∷ []) p.0) (flat_map part (ps ++ rid ∷ []))
    ∙ parts_read ps [] a rid p.0 room

domain_ends : (domain : List ℕ) (rid : ℕ) → is_sid (domain ++ rid ∷ []) ≡ true → ended domain (Number rid) ≡ Some (record { domain = domain; rid = rid })
domain_ends [] rid ok =
    let p = and_parts (are_numbers (rid ∷ [])) (nat_le 2 1 && nat_le 1 16) ok in
    absurd (let e : nat_le 2 1 ≡ true = (and_parts (nat_le 2 1) (nat_le 1 16) p.1).0 in omega (arith, leb-true 2 1 e))
domain_ends (a ∷ ps) rid ok =
    let all : List ℕ = a ∷ (ps ++ rid ∷ []) in
    let p = and_parts (are_numbers all) (nat_le 2 (length all) && nat_le (length all) 16) ok in
    let fits : rid ≤ 2 ^ 32 - 1 = subst (λ (g : ℕ). rid ≤ g) (greatest_part (length ps)) (are_front (a ∷ ps) rid [] p.0) in
    ap (λ (t : Bool). cond t None (Some (record { domain = a ∷ ps; rid = rid }))) (le-ltb (2 ^ 32 - 1) rid fits)

pub spelled_run : (text : List ℕ) (sid : Sid) → Spells text sid → run start text ≡ Some (at sid.domain (Number sid.rid))
spelled_run text sid s = ap (run start) s.text_is ∙ domain_read sid.domain sid.rid s.fits

pub spelled_in : (text : List ℕ) (sid : Sid) → Spells text sid → sid_in text ≡ Some sid
spelled_in text sid s = ap sid_by (spelled_run text sid s) ∙ domain_ends sid.domain sid.rid s.fits

is_sid_from : (a : ℕ) (ps : List ℕ) (n : ℕ) → are_numbers (a ∷ ps) ≡ true → n ≤ greatest (length (a ∷ ps)) → length (a ∷ ps) ≤ 15 → is_sid ((a ∷ ps) ++ n ∷ []) ≡ true
is_sid_from a ps n ok fits room =
    let all : List ℕ = a ∷ (ps ++ n ∷ []) in
    let longer : length (ps ++ n ∷ []) ≡ length ps + 1 = length_push ps n in
    let short : suc (length ps) ≤ 15 = room in
    let two : 2 ≤ length all = omega arith in
    let few : length all ≤ 16 = omega arith in
    and_from (are_numbers all) (nat_le 2 (length all) && nat_le (length all) 16) (are_push (a ∷ ps) n ok fits)
    (and_from (nat_le 2 (length all)) (nat_le (length all) 16) (le-leb 2 (length all) two) (le-leb (length all) 16 few))

ends_spelled : (whole : List ℕ) (stage : Stage) (text : List ℕ) (sid : Sid) → IsGood whole stage → gone_over whole stage ≡ text → ended whole stage ≡ Some sid → Spells text sid
ends_spelled [] stage text sid good over h = absurd cc
ends_spelled (a ∷ ps) (Lead read) text sid good over h = absurd cc
ends_spelled (a ∷ ps) Begin text sid good over h = absurd cc
ends_spelled (a ∷ ps) (Number n) text sid good over h = by (nat_lt (2 ^ 32 - 1) n) h
  where
    by : (t : Bool) → cond t None (Some (record { domain = a ∷ ps; rid = n })) ≡ Some sid → Spells text sid
    by true k = absurd cc
    by false k =
        let same : record { domain = a ∷ ps; rid = n } ≡ sid = cc in
        subst (λ (s : Sid). Spells text s) same (record { fits = is_sid_from a ps n good.0 good.2 good.1; text_is = sym over })

pub in_spelled : (text : List ℕ) (sid : Sid) → sid_in text ≡ Some sid → Spells text sid
in_spelled text sid h = by (run start text) refl h
  where
    by : (o : Option Progress) → run start text ≡ o → sid_by o ≡ Some sid → Spells text sid
    by None is k = absurd cc
    by (Some p) is k =
        let m = start_moves text p is in
        ends_spelled p.whole p.stage text sid m.good m.over k

-- ---- what was reached goes on to a SID

-- a front of some SID's text
abbrev pub GoesOn : List ℕ → Type 0
GoesOn text = specs.GoesOn Spells text

zeros_text : text_of (0 ∷ 0 ∷ []) ≡ 83 ∷ 45 ∷ 49 ∷ 45 ∷ 48 ∷ 45 ∷ 48 ∷ []
zeros_text = rw (decimal_digit 0 (omega arith)) refl

zeros_spelled : Spells (83 ∷ 45 ∷ 49 ∷ 45 ∷ 48 ∷ 45 ∷ 48 ∷ []) (record { domain = 0 ∷ []; rid = 0 })
zeros_spelled = record { fits = refl; text_is = sym zeros_text }

lead_goes : (read : ℕ) → read ≤ 3 → GoesOn (take read (83 ∷ 45 ∷ 49 ∷ 45 ∷ []))
lead_goes zero low = (83 ∷ 45 ∷ 49 ∷ 45 ∷ 48 ∷ 45 ∷ 48 ∷ [], record { domain = 0 ∷ []; rid = 0 }, zeros_spelled)
lead_goes (suc zero) low = (45 ∷ 49 ∷ 45 ∷ 48 ∷ 45 ∷ 48 ∷ [], record { domain = 0 ∷ []; rid = 0 }, zeros_spelled)
lead_goes (suc (suc zero)) low = (49 ∷ 45 ∷ 48 ∷ 45 ∷ 48 ∷ [], record { domain = 0 ∷ []; rid = 0 }, zeros_spelled)
lead_goes (suc (suc (suc zero))) low = (45 ∷ 48 ∷ 45 ∷ 48 ∷ [], record { domain = 0 ∷ []; rid = 0 }, zeros_spelled)
lead_goes (suc (suc (suc (suc read)))) low = absurd (omega arith)

fits_zero : (count : ℕ) → 0 ≤ greatest count
fits_zero count = omega arith

begin_goes : (whole : List ℕ) → are_numbers whole ≡ true → length whole ≤ 15 → GoesOn (text_of whole ++ 45 ∷ [])
begin_goes [] ok room = (48 ∷ 45 ∷ 48 ∷ [], record { domain = 0 ∷ []; rid = 0 }, zeros_spelled)
begin_goes (a ∷ ps) ok room = (
  48 ∷ [],
  record { domain = a ∷ ps; rid = 0 },
  record {
    fits = is_sid_from a ps 0 ok (fits_zero (length (a ∷ ps))) room;
    text_is = append_assoc (text_of (a ∷ ps)) (45 ∷ []) (48 ∷ []) ∙ sym (text_push (a ∷ ps) 0 ∙ ap (λ (w : List ℕ). text_of (a ∷ ps) ++ (45 ∷ w)) (decimal_digit 0 (omega arith)));
  },
)

number_goes : (whole : List ℕ) (n : ℕ) → are_numbers whole ≡ true → length whole ≤ 15 → n ≤ greatest (length whole) → GoesOn (text_of (whole ++ n ∷ []))
number_goes [] n ok room fits = (
  45 ∷ 48 ∷ [],
  record { domain = n ∷ []; rid = 0 },
  record {
    fits = is_sid_from n [] 0 (are_push [] n ok fits) (fits_zero 1) (omega arith);
    text_is = sym (text_push (n ∷ []) 0 ∙ ap (λ (w : List ℕ). text_of (n ∷ []) ++ (45 ∷ w)) (decimal_digit 0 (omega arith)));
  },
)
number_goes (a ∷ ps) n ok room fits =
    ([], record { domain = a ∷ ps; rid = n }, record { fits = is_sid_from a ps n ok fits room; text_is = append-nil (text_of ((a ∷ ps) ++ n ∷ [])) })

good_goes : (whole : List ℕ) (stage : Stage) → IsGood whole stage → GoesOn (gone_over whole stage)
good_goes whole (Lead read) good = lead_goes read good.1
good_goes whole Begin good = begin_goes whole good.0 good.1
good_goes whole (Number n) good = number_goes whole n good.0 good.1 good.2

reached_goes : (text : List ℕ) (p : Progress) → run start text ≡ Some p → GoesOn text
reached_goes text p h =
    let m = start_moves text p h in
    subst GoesOn m.over (good_goes p.whole p.stage m.good)

-- ---- where reading stops

pub bad_none : (text : List ℕ) (place : ℕ) → IsBadAt text place → sid_in text ≡ None
bad_none text place (inl s) =
    ap sid_in (sym (take-append-drop (place + 1) text)) ∙ ap sid_by (steps.stops_all step start text place s (drop (place + 1) text))
bad_none text place (inr e) = ap sid_by e.whole ∙ e.none

not_both : (o : Option Sid) (sid : Sid) → o ≡ Some sid → o ≡ None → ⊥
not_both o sid p q = absurd cc

pub first_bad : (text : List ℕ) (place : ℕ) → IsBadAt text place → IsFirstBad text place
first_bad text place bad =
    steps.first_bad step (λ p. ended p.whole p.stage) Spells start reached_goes (λ t sid s. (at sid.domain (Number sid.rid), spelled_run t sid s, domain_ends sid.domain sid.rid s.fits)) text place bad

one_sid : (o : Option Sid) (a b : Sid) → o ≡ Some a → o ≡ Some b → a ≡ b
one_sid o a b p q = let e : Some a ≡ Some b = sym p ∙ q in cc

pub reads_all : (text : List ℕ) (answer : Result Sid SidFault) → ((sid : Sid) → answer ≡ Ok sid → sid_in text ≡ Some sid) → ((place : ℕ) → answer ≡ Err (faults.BadSid place) → sid_in text ≡ None) → (sid : Sid) → Spells text sid → Reads answer sid
reads_all text (Ok read) made bad sid spelled = one_sid (sid_in text) read sid (made read refl) (spelled_in text sid spelled)
reads_all text (Err (faults.BadSid place)) made bad sid spelled = not_both (sid_in text) sid (spelled_in text sid spelled) (bad place refl)
reads_all text (Err faults.Memory) made bad sid spelled = tt

-- ---- of an answer

pub made_spelled : (text : List ℕ) (answer : Result Sid SidFault) → IfOk answer (λ sid. sid_in text ≡ Some sid) → IfOk answer (λ sid. Spells text sid)
made_spelled text (Ok sid) made = in_spelled text sid made
made_spelled text (Err fault) made = tt

pub made_at : (text : List ℕ) (answer : Result Sid SidFault) → IfOk answer (λ sid. sid_in text ≡ Some sid) → (sid : Sid) → answer ≡ Ok sid → sid_in text ≡ Some sid
made_at text (Ok read) made sid h = let same : read ≡ sid = cc in subst (λ (s : Sid). sid_in text ≡ Some s) same made
made_at text (Err fault) made sid h = absurd cc
