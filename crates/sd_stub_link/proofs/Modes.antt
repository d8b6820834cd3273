-- What a server answers, by its mode.
use Rattle.std.proofs.Common.{◌≡◌, ℕ, Bool, true, false, List, [], ◌∷◌, length, refl, sym, ap, ◌∙◌, arith}
use Rattle.std.proofs.lemmas.List.{append-nil}
use Rattle.std.specs.Prelude.{◌==◌, if◌then◌else◌}
use Rattle.std.specs.List.{flat_map}
use Rattle.sd_ldap.specs.declared.entry.DirEntry.{DirEntry}
use Rattle.sd_ldap.specs.Values.{MessageValue}
use Rattle.sd_ldap.specs.MessageReading.{DecodedValue, whole, unfinished, wrong, decode_of}
use Rattle.sd_ldap.specs.Spelling.{message_bytes}
use Rattle.sd_match.specs.Answering.{replies_to, reply_bytes, answer_decoded, answer_to}
use Rattle.sd_dial.specs.Entries.{four_octets, long_decoded, answer_in}
use Rattle.sd_stub_link.specs.declared.framing.Outer.{Outer}
use Rattle.sd_stub_link.specs.declared.framing.Outer.TheVariants as outers
use Rattle.sd_stub_link.specs.Modes.{framed_bytes, answer_where_whole}
use Rattle.sd_stub_link.specs.Framing.{Reframes}

abbrev framed_replies : Outer → List DirEntry → MessageValue → List ℕ
framed_replies outer entries m = flat_map (framed_bytes outer) (replies_to entries m)

framed_where : (t : Bool) (outer : Outer) (entries : List DirEntry) (m : MessageValue) (bytes out : List ℕ) → bytes ≡ (if t then reply_bytes entries m else []) → Reframes outer bytes out
    → out ≡ (if t then framed_replies outer entries m else [])
framed_where true outer entries m bytes out e r = r (replies_to entries m) e
framed_where false outer entries m bytes out e r = r [] e

framed_decoded : (outer : Outer) (entries : List DirEntry) (len : ℕ) (d : DecodedValue) (bytes out : List ℕ) → bytes ≡ answer_decoded entries len d → Reframes outer bytes out
    → out ≡ answer_where_whole (λ m. framed_replies outer entries m) len d
framed_decoded outer entries len (whole m used) bytes out e r = framed_where (used == len) outer entries m bytes out e r
framed_decoded outer entries len unfinished bytes out e r = r [] e
framed_decoded outer entries len (wrong at) bytes out e r = r [] e

pub framed_whole : (outer : Outer) (entries : List DirEntry) (piece bytes out : List ℕ) → bytes ≡ answer_to entries piece → Reframes outer bytes out
    → out ≡ answer_where_whole (λ m. flat_map (framed_bytes outer) (replies_to entries m)) (length piece) (decode_of piece)
framed_whole outer entries piece bytes out e r = framed_decoded outer entries (length piece) (decode_of piece) bytes out e r

long_decoded_is : (entries : List DirEntry) (len : ℕ) (d : DecodedValue) → answer_where_whole (λ m. framed_replies outers.FourOctets entries m) len d ≡ long_decoded entries len d
long_decoded_is entries len (whole m used) = refl
long_decoded_is entries len unfinished = refl
long_decoded_is entries len (wrong at) = refl

pub long_whole : (entries : List DirEntry) (piece out : List ℕ) → out ≡ answer_where_whole (λ m. flat_map (framed_bytes outers.FourOctets) (replies_to entries m)) (length piece) (decode_of piece)
    → out ≡ answer_in four_octets entries piece
long_whole entries piece out e = e ∙ long_decoded_is entries (length piece) (decode_of piece)

pub alone : (m : MessageValue) (bytes : List ℕ) → bytes ≡ message_bytes m → bytes ≡ flat_map message_bytes (m ∷ [])
alone m bytes e = e ∙ sym (append-nil (message_bytes m))

same_test : (n : ℕ) (x : List ℕ) → (if n == n then x else []) ≡ x
same_test n x = grind arith

-- what a directory answers to a piece that is one message
pub plain_whole : (entries : List DirEntry) (piece bytes : List ℕ) (m : MessageValue) → decode_of piece ≡ whole m (length piece) → bytes ≡ answer_to entries piece → bytes ≡ flat_map message_bytes (replies_to entries m)
plain_whole entries piece bytes m d e = e ∙ ap (answer_decoded entries (length piece)) d ∙ same_test (length piece) (reply_bytes entries m)
