-- What the bytes of an element with a message's tag are decoded as: all of them, a part, and more than a message may have.
use Rattle.std.proofs.Common.{◌≡◌, ℕ, zero, suc, ◌+◌, ◌-◌, ◌<◌, ◌≤◌, true, false, ltb, eqb, List, [], ◌∷◌, ◌++◌, length, take, drop, Ok, Err, refl, sym, ap, ◌∙◌, append_assoc, arith, inl, inr}
use Rattle.std.proofs.lemmas.Bool.{cases_Bool, le-ltb, lt-ltb, ne_eqb}
use Rattle.std.proofs.lemmas.List.{length-append, take-append-drop, length-take}
use Rattle.sd_ber.specs.Grammar.{IsLength}
use Rattle.sd_ber.specs.Reading.{reading_of, length_at, header_at}
use Rattle.sd_ber.specs.declared.fault.BerFault.TheVariants.{Short}
use Rattle.sd_ber.proofs.Elements.{header_again, element_again}
use Rattle.sd_ldap.specs.Values.{MessageValue}
use Rattle.sd_ldap.specs.MessageReading.{whole, unfinished, wrong, message_in, decode_of}
use Rattle.sd_ldap.proofs.Cuts.{stays}
use Rattle.sd_client.specs.Waiting.{is_waiting}
use Rattle.sd_ldap.proofs.Sizes.{used_within}
use Rattle.sd_client.proofs.Steps.{waiting_is}

-- the tag of a message, the octets of a length, and contents
abbrev pub frame : List ℕ → List ℕ → List ℕ
frame octets body = 48 ∷ (octets ++ body)

-- all of a message is decoded, whatever follows it
pub frame_whole : (octets body more : List ℕ) (m : MessageValue) → IsLength octets (length body) → length body ≤ 16777216 → message_in (reading_of (0 + (1 + length octets)) body) ≡ Ok m
    → decode_of (frame octets body ++ more) ≡ whole m (length (frame octets body))
unfolding decode_of
frame_whole octets body more m spelled small read =
    let grouped : frame octets body ++ more ≡ 48 ∷ (octets ++ (body ++ more)) = ap (λ (bytes : List ℕ). 48 ∷ bytes) (append_assoc octets body more) in
    let header = header_again 0 48 (length body) octets (body ++ more) (λ z. omega arith) spelled in
    let few : ltb 16777216 (length body) ≡ false = le-ltb 16777216 (length body) small in
    let opened = element_again 0 48 (frame octets body) body more (record { one_octet = λ z. omega arith; octets = octets; spelled = spelled; parts = refl }) in
    let used : 0 + (1 + length octets) + length body ≡ length (frame octets body) = omega (arith, length-append octets body) in
    let same : header_at 0 (frame octets body ++ more) ≡ Ok (record { tag = 48; size = 1 + length octets; length = length body }) = ap (header_at 0) grouped ∙ header in
    rw (same, few, opened, read, used) refl

-- a length above 16 MiB is wrong, whatever follows it
pub frame_long : (octets rest : List ℕ) (n : ℕ) → IsLength octets n → 16777216 < n → decode_of (48 ∷ (octets ++ rest)) ≡ wrong 1
unfolding decode_of
frame_long octets rest n spelled long =
    let header = header_again 0 48 n octets rest (λ z. omega arith) spelled in
    let many : ltb 16777216 n ≡ true = lt-ltb 16777216 n long in
    rw (header, many) refl

-- a part of a length is short
length_cut : (at n k : ℕ) (octets : List ℕ) → IsLength octets n → k < length octets → length_at at (take k octets) ≡ Err Short
length_cut at n k [] spelled few = absurd spelled
length_cut at n zero (first ∷ octets) spelled few = refl
length_cut at n (suc k) (first ∷ []) spelled few = absurd (omega arith)
length_cut at n (suc k) (first ∷ second ∷ more) spelled few =
    let not_short : ltb first 128 ≡ false = le-ltb _ _ (omega (arith, spelled.0)) in
    let not_open : eqb first 128 ≡ false = ne_eqb _ _ (λ e. omega (arith, spelled.0)) in
    let not_long : ltb 132 first ≡ false = le-ltb _ _ (omega (arith, spelled.0, spelled.1)) in
    let missing : ltb (length (take k (second ∷ more))) (first - 128) ≡ true = lt-ltb _ _ (omega (arith, spelled.0, length-take k (second ∷ more))) in
    rw (not_short, not_open, not_long, missing) refl

-- a part of what stands in front of the contents is unfinished
pub front_cut : (octets : List ℕ) (n k : ℕ) → IsLength octets n → k < 1 + length octets → decode_of (take k (48 ∷ octets)) ≡ unfinished
unfolding decode_of header_at
front_cut octets n zero spelled few = refl
front_cut octets n (suc k) spelled few = let short = length_cut 0 n k octets spelled (omega arith) in rw short refl

-- a part of a whole message is unfinished
pub whole_cut : (bytes : List ℕ) (m : MessageValue) (k : ℕ) → decode_of bytes ≡ whole m (length bytes) → k < length bytes → decode_of (take k bytes) ≡ unfinished
whole_cut bytes m k is few =
    elim (cases_Bool (is_waiting (decode_of (take k bytes)))) [
      | inl waits ↦ waiting_is (decode_of (take k bytes)) waits
      | inr stands ↦
          let some : decode_of (take k bytes) ≡ unfinished → ⊥ = λ e. let waits : is_waiting (decode_of (take k bytes)) ≡ true = ap is_waiting e in cc in
          let here : decode_of (take k bytes) ≡ whole m (length bytes) = sym (stays (take k bytes) (drop k bytes) some) ∙ ap decode_of (take-append-drop k bytes) ∙ is in
          let used = used_within (take k bytes) m (length bytes) here in
          absurd (omega (arith, used.1, length-take k bytes))
    ]
