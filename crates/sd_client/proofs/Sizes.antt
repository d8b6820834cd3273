-- Whether more bytes of a message are waited for.
use Rattle.std.proofs.Common.{◌≡◌, ℕ, ◌+◌, ◌-◌, ◌≤◌, true, false, ltb, List, length, Result, Ok, Err, refl, sym, inl, inr}
use Rattle.std.proofs.lemmas.Bool.{cases_lt, le-ltb, lt-ltb}
use Rattle.sd_ber.specs.declared.header.Header.{Header}
use Rattle.sd_ber.specs.Reading.{start_of, header_at, element_at}
use Rattle.sd_ldap.specs.Values.{MessageValue}
use Rattle.sd_ldap.specs.MessageReading.{content_of, outer_of, framed}
use Rattle.sd_client.specs.Waiting.{is_waiting}

-- contents that are all there are not waited for
no_wait : (used : ℕ) (r : Result MessageValue ℕ) → is_waiting (content_of used r) ≡ false
no_wait used (Ok m) = refl
no_wait used (Err at) = refl

-- behind a header it is the count of the bytes that tells whether more are waited for
pub waits_by_count : (bytes : List ℕ) (h : Header) → header_at 0 bytes ≡ Ok h → is_waiting (outer_of (element_at (start_of bytes))) ≡ ltb (length bytes) (h.size + h.length)
unfolding element_at
waits_by_count bytes h e =
    elim (cases_lt (length bytes) (h.size + h.length)) [
      | inl short ↦ let test : ltb (length bytes) (h.size + h.length) ≡ true = lt-ltb _ _ short in rw (e, test) refl
      | inr there ↦ let test : ltb (length bytes) (h.size + h.length) ≡ false = le-ltb _ _ there in rw (e, test) (no_wait _ _)
    ]

-- the same behind the tag, where the length is no more than a message may have
pub framed_waits : (bytes : List ℕ) (h : Header) → header_at 0 bytes ≡ Ok h → h.length ≤ 16777216 → ltb (length bytes) (h.size + h.length) ≡ is_waiting (framed bytes (header_at 0 bytes))
framed_waits bytes h e few = let test : ltb 16777216 h.length ≡ false = le-ltb 16777216 h.length few in rw (e, test) (sym (waits_by_count bytes h e))
