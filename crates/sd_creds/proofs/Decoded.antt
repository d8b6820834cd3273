-- What decoding tells of a text and of bytes.
use Rattle.std.proofs.Common.{◌≡◌, ◌≤◌, ℕ, Bool, true, false, nat_eq, List, length, take, Ok, Err, refl, sym, ap, ◌∙◌, subst}
use Rattle.std.specs.Bool.{OnTrue}
use Rattle.std.proofs.lemmas.Bool.{eqb-true, eq-eqb}
use Rattle.std.proofs.lemmas.List.{length-take-le}
use Rattle.base64.specs.declared.decode.DecodeError.{DecodeError}
use Rattle.base64.specs.Engines.{standard}
use Rattle.base64.specs.GeneralPurpose.{decode_of, encode_of, IsBytes}
use Rattle.base64.proofs.EngineFacts.{decode_of-encode_of, decode_of_strict}

on_true : (b : Bool) (P : Type 0) → (b ≡ true → P) → OnTrue b P
on_true true P f = f refl
on_true false P f = tt

pub told : (text new : List ℕ) (count size : ℕ) → IsBytes text → decode_of standard text ≡ Ok (take count new) → OnTrue (nat_eq count size) (text ≡ encode_of standard (take size new))
told text new count size bytes decoded =
    on_true (nat_eq count size) (text ≡ encode_of standard (take size new))
    (λ e. subst (λ (n : ℕ). text ≡ encode_of standard (take n new)) (eqb-true count size e) (decode_of_strict standard text (take count new) (refl, refl) bytes decoded))

-- an encoding decodes to its bytes
pub decodes : (text bytes : List ℕ) → IsBytes bytes → text ≡ encode_of standard bytes → decode_of standard text ≡ Ok bytes
decodes text bytes fits is = ap (decode_of standard) is ∙ decode_of-encode_of standard bytes refl fits

pub same_bytes : (text new bytes : List ℕ) (count : ℕ) → IsBytes bytes → text ≡ encode_of standard bytes → decode_of standard text ≡ Ok (take count new) → take count new ≡ bytes
same_bytes text new bytes count fits is decoded =
    let same = sym decoded ∙ decodes text bytes fits is in
    cc same

pub whole : (text new bytes : List ℕ) (count size : ℕ) → IsBytes bytes → length bytes ≡ size → text ≡ encode_of standard bytes → decode_of standard text ≡ Ok (take count new) → count ≤ length new → (nat_eq count size ≡ true) × (take size new ≡ bytes)
whole text new bytes count size fits len is decoded room =
    let same : take count new ≡ bytes = same_bytes text new bytes count fits is decoded in
    let sized : count ≡ size = sym (length-take-le count new room) ∙ ap length same ∙ len in
    (eq-eqb count size sized, subst (λ (n : ℕ). take n new ≡ bytes) sized same)

pub no_error : (text bytes : List ℕ) (e : DecodeError) → IsBytes bytes → text ≡ encode_of standard bytes → decode_of standard text ≡ Err e → ⊥
no_error text bytes e fits is failed =
    let same = sym failed ∙ decodes text bytes fits is in
    cc same
