-- What bytes say, by the message in front.
use Rattle.std.proofs.Common.{◌≡◌, ℕ, zero, suc, ◌+◌, ◌-◌, ◌<◌, ◌≤◌, true, false, List, [], ◌∷◌, ◌++◌, length, drop, refl, sym, ap, ◌∙◌, arith}
use Rattle.std.proofs.lemmas.List.{drop-append-le}
use Rattle.sd_ldap.specs.Values.{MessageValue}
use Rattle.sd_ldap.specs.MessageReading.{DecodedValue, whole, unfinished, wrong, decode_of}
use Rattle.sd_ldap.proofs.Cuts.{stays}
use Rattle.sd_stub.specs.declared.ending.LinkEnd.TheVariants as ends
use Rattle.sd_stub.specs.Saying.{Said, nothing, is_unbind, with_message, by_front, said_from}
use Rattle.sd_ldap.proofs.Sizes.{used_within}

-- bytes of a message that was heard are passed over
passed_over : (place within : ℕ) (bytes : List ℕ) → said_from place within bytes ≡ said_from (place + within) 0 (drop within bytes)
unfolding said_from
passed_over place zero [] = refl
passed_over place (suc within) [] = refl
passed_over place zero (byte ∷ bytes) = ap (λ (p : ℕ). said_from p 0 (byte ∷ bytes)) (omega arith)
passed_over place (suc within) (byte ∷ bytes) =
    let moved : place + 1 + within ≡ place + suc within = omega arith in
    passed_over (place + 1) within bytes ∙ ap (λ (p : ℕ). said_from p 0 (drop within bytes)) moved

behind : (place byte : ℕ) (bytes : List ℕ) (used : ℕ) → 0 < used → said_from (place + 1) (used - 1) bytes ≡ said_from (place + used) 0 (drop used (byte ∷ bytes))
behind place byte bytes zero h = absurd (omega arith)
behind place byte bytes (suc n) h =
    let less : suc n - 1 ≡ n = omega arith in
    let moved : place + 1 + n ≡ place + suc n = omega arith in
    ap (λ (within : ℕ). said_from (place + 1) within bytes) less
    ∙ passed_over (place + 1) n bytes
    ∙ ap (λ (p : ℕ). said_from p 0 (drop n bytes)) moved

-- a message stands in front
pub message_front : (place : ℕ) (bytes : List ℕ) (m : MessageValue) (used : ℕ) → decode_of bytes ≡ whole m used
    → said_from place 0 bytes ≡ with_message m (said_from (place + used) 0 (drop used bytes))
unfolding said_from decode_of
message_front place [] m used e = cc
message_front place (byte ∷ bytes) m used e =
    let some : (0 < used) × (used ≤ length (byte ∷ bytes)) = used_within (byte ∷ bytes) m used e in
    ap (λ (d : DecodedValue). by_front (λ n. said_from (place + 1) (n - 1) bytes) place d) e
    ∙ ap (λ (s : Said). with_message m s) (behind place byte bytes used some.0)

-- what is no message stands in front
pub wrong_front : (place : ℕ) (bytes : List ℕ) (at : ℕ) → decode_of bytes ≡ wrong at → said_from place 0 bytes ≡ nothing (ends.Bad (place + at))
unfolding said_from decode_of
wrong_front place [] at e = cc
wrong_front place (byte ∷ bytes) at e = ap (λ (d : DecodedValue). by_front (λ n. said_from (place + 1) (n - 1) bytes) place d) e

-- no byte is left
pub closed_front : (place : ℕ) (bytes : List ℕ) → bytes ≡ [] → said_from place 0 bytes ≡ nothing ends.Closed
unfolding said_from
closed_front place [] e = refl
closed_front place (byte ∷ bytes) e = cc

-- less than a message is left
pub cut_front : (place : ℕ) (bytes : List ℕ) → (bytes ≡ [] → ⊥) → decode_of bytes ≡ unfinished → said_from place 0 bytes ≡ nothing ends.Cut
unfolding said_from
cut_front place [] some e = absurd (some refl)
cut_front place (byte ∷ bytes) some e = ap (λ (d : DecodedValue). by_front (λ n. said_from (place + 1) (n - 1) bytes) place d) e

with_other : (m : MessageValue) (rest : Said) → is_unbind m.operation ≡ false → with_message m rest ≡ record { messages = m ∷ rest.messages; ending = rest.ending }
with_other m rest h = rw h refl

with_unbind : (m : MessageValue) (rest : Said) → is_unbind m.operation ≡ true → with_message m rest ≡ record { messages = m ∷ []; ending = ends.Unbound }
with_unbind m rest h = rw h refl

whole_stays : (bytes more : List ℕ) (m : MessageValue) (used : ℕ) → decode_of bytes ≡ whole m used → decode_of (bytes ++ more) ≡ whole m used
whole_stays bytes more m used e = stays bytes more (λ none. let bad : whole m used ≡ unfinished = sym e ∙ none in cc) ∙ e

wrong_stays : (bytes more : List ℕ) (at : ℕ) → decode_of bytes ≡ wrong at → decode_of (bytes ++ more) ≡ wrong at
wrong_stays bytes more at e = stays bytes more (λ none. let bad : wrong at ≡ unfinished = sym e ∙ none in cc) ∙ e

-- the same, whatever comes behind the bytes
pub passes_message : (place : ℕ) (bytes more : List ℕ) (m : MessageValue) (used : ℕ) → decode_of bytes ≡ whole m used → is_unbind m.operation ≡ false
    → said_from place 0 (bytes ++ more) ≡ record { messages = m ∷ (said_from (place + used) 0 (drop used bytes ++ more)).messages; ending = (said_from (place + used) 0 (drop used bytes ++ more)).ending }
passes_message place bytes more m used e other_one =
    let there : (0 < used) × (used ≤ length bytes) = used_within bytes m used e in
    let rest : drop used (bytes ++ more) ≡ drop used bytes ++ more = drop-append-le used bytes more there.1 in
    message_front place (bytes ++ more) m used (whole_stays bytes more m used e)
    ∙ ap (λ (list : List ℕ). with_message m (said_from (place + used) 0 list)) rest
    ∙ with_other m (said_from (place + used) 0 (drop used bytes ++ more)) other_one

pub unbinds : (place : ℕ) (bytes more : List ℕ) (m : MessageValue) (used : ℕ) → decode_of bytes ≡ whole m used → is_unbind m.operation ≡ true
    → said_from place 0 (bytes ++ more) ≡ record { messages = m ∷ []; ending = ends.Unbound }
unbinds place bytes more m used e one =
    message_front place (bytes ++ more) m used (whole_stays bytes more m used e) ∙ with_unbind m (said_from (place + used) 0 (drop used (bytes ++ more))) one

pub is_wrong : (place : ℕ) (bytes more : List ℕ) (at : ℕ) → decode_of bytes ≡ wrong at → said_from place 0 (bytes ++ more) ≡ nothing (ends.Bad (place + at))
is_wrong place bytes more at e = wrong_front place (bytes ++ more) at (wrong_stays bytes more at e)
