-- What a directory answers to a request: its replies, or nothing to one that is too long.
use Rattle.std.proofs.Common.{◌≡◌, ℕ, ◌+◌, ◌^◌, ◌<◌, ◌≤◌, true, false, ltb, eqb, List, [], ◌∷◌, ◌++◌, length, Result, Ok, Err, refl, sym, ap, ◌∙◌, append_assoc, append-nil, arith, inl, inr}
use Rattle.std.specs.List.{flat_map}
use Rattle.std.proofs.lemmas.Bool.{cases_lt, cases_Bool, le-ltb, lt-ltb, eq-eqb, ne_eqb}
use Rattle.std.proofs.lemmas.List.{length-append}
use Rattle.sd_ber.specs.declared.fault.BerFault.{BerFault}
use Rattle.sd_ber.specs.declared.fault.BerFault.TheVariants.{BadTag, Indefinite, TooLong, Short, BadInteger}
use Rattle.sd_ber.specs.declared.header.Header.{Header}
use Rattle.sd_ber.specs.Octets.{length_octets}
use Rattle.sd_ber.specs.Grammar.{IsLength}
use Rattle.sd_ber.specs.Reading.{Opened, start_of, header_at, element_at}
use Rattle.sd_ber.proofs.Lengths.{spelled}
use Rattle.sd_ber.proofs.Elements.{ok_is, header_again, element_taken}
use Rattle.sd_ldap.specs.declared.entry.DirEntry.{DirEntry}
use Rattle.sd_ldap.specs.Values.{MessageValue}
use Rattle.sd_ldap.specs.Spelling.{content_bytes, message_bytes, inside}
use Rattle.sd_ldap.specs.Sound.{IsSound}
use Rattle.sd_ldap.specs.MessageReading.{DecodedValue, whole, unfinished, wrong, content_of, outer_of, framed, decode_of}
use Rattle.sd_ldap.proofs.MessageAgain.{decoded_again}
use Rattle.sd_ldap.proofs.Again.{inside_longer}
use Rattle.sd_match.specs.Answering.{replies_to, answer_decoded}
use Rattle.sd_dial.specs.Entries.{Framing, shortest, four_octets, Behind, long_decoded, answer_in, answer_behind}
use Rattle.sd_asking.specs.Sizes.{content_size}
use Rattle.sd_asking.proofs.Frames.{frame_long}
use Rattle.sd_asking.proofs.Replies.{framed_bytes}

-- ---- a whole message takes at most 16 MiB and six bytes

pub few_octets : (octets : List ℕ) (n : ℕ) → IsLength octets n → length octets ≤ 5
few_octets [] n h = absurd h
few_octets (first ∷ []) n h = omega arith
few_octets (first ∷ second ∷ more) n h = omega (arith, h.1)

content_is : (n used : ℕ) (r : Result MessageValue ℕ) (m : MessageValue) → content_of n r ≡ whole m used → n ≡ used
content_is n used (Ok x) m e = cc
content_is n used (Err at) m e = cc

outer_used : (bytes : List ℕ) (h : Header) (r : Result Opened BerFault) (m : MessageValue) (used : ℕ) → header_at 0 bytes ≡ Ok h → h.length ≤ 16777216 → element_at (start_of bytes) ≡ r → outer_of r ≡ whole m used → used ≤ 16777222
outer_used bytes h (Ok o) m used head fits e found =
    let t = element_taken (start_of bytes) o e in
    let octets = t.is.octets in
    let body = o.contents.rest in
    let count : o.after.at ≡ used = content_is o.after.at used _ m found in
    let grouped : bytes ≡ o.tag ∷ (octets ++ (body ++ o.after.rest)) =
    t.parts ∙ ap (λ (list : List ℕ). list ++ o.after.rest) t.is.parts ∙ ap (λ (list : List ℕ). o.tag ∷ list) (append_assoc octets body o.after.rest) in
    let again = header_again 0 o.tag (length body) octets (body ++ o.after.rest) t.is.one_octet t.is.spelled in
    let same = ok_is h (record { tag = o.tag; size = 1 + length octets; length = length body }) (sym head ∙ ap (header_at 0) grouped ∙ again) in
    let size : h.length ≡ length body = ap (λ (x : Header). x.length) same in
    let front : length t.front ≡ 1 + (length octets + length body) = ap length t.is.parts ∙ omega (arith, length-append octets body) in
    omega (arith, count, t.moved, front, few_octets octets (length body) t.is.spelled, size)
outer_used bytes h (Err fault) m used head fits e found = cc

framed_used : (bytes : List ℕ) (r : Result Header BerFault) (m : MessageValue) (used : ℕ) → header_at 0 bytes ≡ r → framed bytes r ≡ whole m used → used ≤ 16777222
framed_used bytes (Ok h) m used e found =
    elim (cases_lt 16777216 h.length) [
      | inl long ↦ let test : ltb 16777216 h.length ≡ true = lt-ltb _ _ long in let bad = rw test at found in cc
      | inr fits ↦ let test : ltb 16777216 h.length ≡ false = le-ltb _ _ fits in outer_used bytes h (element_at (start_of bytes)) m used e fits refl (rw test at found)
    ]
framed_used bytes (Err (BadTag at)) m used e found = cc
framed_used bytes (Err (Indefinite at)) m used e found = cc
framed_used bytes (Err (TooLong at)) m used e found = cc
framed_used bytes (Err Short) m used e found = cc
framed_used bytes (Err (BadInteger at)) m used e found = cc

used_few : (bytes : List ℕ) (m : MessageValue) (used : ℕ) → decode_of bytes ≡ whole m used → used ≤ 16777222
unfolding decode_of
used_few [] m used e = cc
used_few (first ∷ rest) m used e =
    elim (cases_Bool (eqb first 48)) [
      | inl tagged ↦ framed_used (first ∷ rest) (header_at 0 (first ∷ rest)) m used refl (rw tagged at e)
      | inr other ↦ let bad = rw other at e in cc
    ]

-- ---- what is answered

in_whole : (framing : Framing) (entries : List DirEntry) (piece : List ℕ) (m : MessageValue) → decode_of piece ≡ whole m (length piece) → answer_in framing entries piece ≡ flat_map (framed_bytes framing) (replies_to entries m)
in_whole shortest entries piece m e = ap (answer_decoded entries (length piece)) e ∙ rw (eq-eqb (length piece) (length piece) refl) refl
in_whole four_octets entries piece m e = ap (long_decoded entries (length piece)) e ∙ rw (eq-eqb (length piece) (length piece) refl) refl

-- a sound request of at most 16 MiB is answered by the replies
pub answered : (behind : Behind) (m : MessageValue) → IsSound m → content_size m ≤ 16777216 → answer_behind behind (message_bytes m) ≡ flat_map (framed_bytes behind.framing) (replies_to behind.entries m)
answered behind m sound fits =
    in_whole behind.framing behind.entries (message_bytes m) m (ap decode_of (sym (append-nil (message_bytes m))) ∙ decoded_again m [] sound fits)

abbrev IsNone : List ℕ → DecodedValue → Type 0
IsNone piece d = (m : MessageValue) (used : ℕ) → d ≡ whole m used → used ≡ length piece → ⊥

none_shortest : (entries : List DirEntry) (piece : List ℕ) (d : DecodedValue) → IsNone piece d → answer_decoded entries (length piece) d ≡ []
none_shortest entries piece (whole m used) none = rw (ne_eqb used (length piece) (λ e. none m used refl e)) refl
none_shortest entries piece unfinished none = refl
none_shortest entries piece (wrong at) none = refl

none_long : (entries : List DirEntry) (piece : List ℕ) (d : DecodedValue) → IsNone piece d → long_decoded entries (length piece) d ≡ []
none_long entries piece (whole m used) none = rw (ne_eqb used (length piece) (λ e. none m used refl e)) refl
none_long entries piece unfinished none = refl
none_long entries piece (wrong at) none = refl

in_none : (framing : Framing) (entries : List DirEntry) (piece : List ℕ) → IsNone piece (decode_of piece) → answer_in framing entries piece ≡ []
in_none shortest entries piece none = none_shortest entries piece (decode_of piece) none
in_none four_octets entries piece none = none_long entries piece (decode_of piece) none

-- the bytes of a message of less than 4 GiB, but more than 16 MiB, are none
long_wrong : (m : MessageValue) → 16777216 < content_size m → content_size m < 2 ^ 32 → decode_of (message_bytes m) ≡ wrong 1
unfolding inside
long_wrong m long small = frame_long (length_octets (length (content_bytes m))) (content_bytes m) (length (content_bytes m)) (spelled (length (content_bytes m)) small) long

is_none : (m : MessageValue) → 16777216 < content_size m → IsNone (message_bytes m) (decode_of (message_bytes m))
is_none m long other used e all =
    elim (cases_lt (content_size m) (2 ^ 32)) [
      | inl small ↦ let bad : wrong 1 ≡ whole other used = sym (long_wrong m long small) ∙ e in cc
      | inr huge ↦ omega (arith, used_few (message_bytes m) other used e, inside_longer 48 (content_bytes m))
    ]

-- a request of more than 16 MiB is not answered
pub unanswered : (behind : Behind) (m : MessageValue) → 16777216 < content_size m → answer_behind behind (message_bytes m) ≡ []
unanswered behind m long = in_none behind.framing behind.entries (message_bytes m) (is_none m long)
