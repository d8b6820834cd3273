-- How many bytes a message takes.
use Rattle.std.proofs.Common.{◌≡◌, ℕ, ◌+◌, ◌%◌, ◌<◌, ◌≤◌, true, false, ltb, eqb, List, [], ◌∷◌, length, Result, Ok, Err, refl, ap, arith, inl, inr}
use Rattle.std.proofs.lemmas.Bool.{cases_lt, cases_Bool, le-ltb, lt-ltb}
use Rattle.sd_ber.specs.declared.fault.BerFault.{BerFault}
use Rattle.sd_ber.specs.declared.fault.BerFault.TheVariants.{BadTag, Indefinite, TooLong, Short, BadInteger}
use Rattle.sd_ber.specs.declared.header.Header.{Header}
use Rattle.sd_ber.specs.Reading.{start_of, length_at, header_at, element_at, ◌>>=◌}
use Rattle.sd_ldap.specs.Values.{MessageValue}
use Rattle.sd_ldap.specs.MessageReading.{whole, content_of, outer_of, framed, decode_of}

-- a header of a tag and a length that was read
abbrev made : ℕ → ℕ × ℕ → Header
made tag found = record { tag = tag; size = 1 + found.0; length = found.1 }

made_size : (tag : ℕ) (found : ℕ × ℕ) (h : Header) → made tag found ≡ h → 0 < h.size
made_size tag found h e = omega (arith, ap (λ (x : Header). x.size) e)

size_by_length : (tag : ℕ) (r : Result (ℕ × ℕ) BerFault) (h : Header) → (r >>= λ found. Ok (made tag found)) ≡ Ok h → 0 < h.size
size_by_length tag (Ok found) h e = let same : made tag found ≡ h = cc in made_size tag found h same
size_by_length tag (Err fault) h e = cc

-- a header has a byte
has_size : (at : ℕ) (bytes : List ℕ) (h : Header) → header_at at bytes ≡ Ok h → 0 < h.size
unfolding header_at
has_size at [] h e = cc
has_size at (tag ∷ octets) h e =
    elim (cases_Bool (eqb (tag % 32) 31)) [
      | inl wide ↦ let wrong_tag = rw wide at e in cc
      | inr single ↦ size_by_length tag (length_at at octets) h (rw single at e)
    ]

counted : (n used : ℕ) (r : Result MessageValue ℕ) (m : MessageValue) → content_of n r ≡ whole m used → n ≡ used
counted n used (Ok x) m e = cc
counted n used (Err at) m e = cc

outer_within : (bytes : List ℕ) (h : Header) (m : MessageValue) (used : ℕ) → header_at 0 bytes ≡ Ok h → outer_of (element_at (start_of bytes)) ≡ whole m used → (0 < used) × (used ≤ length bytes)
unfolding element_at
outer_within bytes h m used e found =
    elim (cases_lt (length bytes) (h.size + h.length)) [
      | inl short ↦
          let test : ltb (length bytes) (h.size + h.length) ≡ true = lt-ltb _ _ short in
          let none = rw (e, test) at found in
          cc
      | inr there ↦
          let test : ltb (length bytes) (h.size + h.length) ≡ false = le-ltb _ _ there in
          let content = rw (e, test) at found in
          let count = counted _ used _ m content in
          let some = has_size 0 bytes h e in
          (omega (arith, count, some), omega (arith, count))
    ]

framed_within : (bytes : List ℕ) (r : Result Header BerFault) (m : MessageValue) (used : ℕ) → header_at 0 bytes ≡ r → framed bytes r ≡ whole m used → (0 < used) × (used ≤ length bytes)
framed_within bytes (Ok h) m used e found =
    elim (cases_lt 16777216 h.length) [
      | inl long ↦ let test : ltb 16777216 h.length ≡ true = lt-ltb _ _ long in let bad = rw test at found in cc
      | inr fits ↦ let test : ltb 16777216 h.length ≡ false = le-ltb _ _ fits in outer_within bytes h m used e (rw test at found)
    ]
framed_within bytes (Err (BadTag at)) m used e found = cc
framed_within bytes (Err (Indefinite at)) m used e found = cc
framed_within bytes (Err (TooLong at)) m used e found = cc
framed_within bytes (Err Short) m used e found = cc
framed_within bytes (Err (BadInteger at)) m used e found = cc

-- a message takes at least one byte, and no more than there are
pub used_within : (bytes : List ℕ) (m : MessageValue) (used : ℕ) → decode_of bytes ≡ whole m used → (0 < used) × (used ≤ length bytes)
unfolding decode_of
used_within [] m used e = cc
used_within (first ∷ rest) m used e =
    elim (cases_Bool (eqb first 48)) [
      | inl tagged ↦ framed_within (first ∷ rest) (header_at 0 (first ∷ rest)) m used refl (rw tagged at e)
      | inr other ↦ let bad = rw other at e in cc
    ]
