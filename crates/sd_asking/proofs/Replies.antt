-- Replies are read again wherever their contents stand, in each framing.
use Rattle.std.proofs.Common.{◌≡◌, ℕ, ◌+◌, ◌^◌, ◌<◌, ◌≤◌, List, [], ◌∷◌, length, Result, Ok, refl, sym, ap, ◌∙◌, arith}
use Rattle.std.specs.Int.{w32, to_be_bytes, from_be_bytes}
use Rattle.std.proofs.lemmas.Nat.{from_be_bytes-to_be_bytes_4}
use Rattle.std.proofs.lemmas.List.{length-append}
use Rattle.sd_ber.specs.Octets.{number, length_octets}
use Rattle.sd_ber.specs.Grammar.{IsLength}
use Rattle.sd_ber.specs.Reading.{reading_of}
use Rattle.sd_ber.proofs.Lengths.{spelled}
use Rattle.sd_ldap.specs.declared.entry.DirEntry.{DirEntry}
use Rattle.sd_ldap.specs.declared.result.LdapResult.{LdapResult}
use Rattle.sd_ldap.specs.Values.{OperationValue, MessageValue, bind_response, entry, done}
use Rattle.sd_ldap.specs.Monad.{◌>>=◌}
use Rattle.sd_ldap.specs.MessageReading.{operation_of, operation_in, message_in}
use Rattle.sd_ldap.specs.Spelling.{number_bytes, inside, result_bytes, entry_bytes, operation_tag, operation_contents, operation_bytes, content_bytes, message_bytes}
use Rattle.sd_ldap.proofs.Again.{Single, longer, part_again, Again, at_last, number_again, entry_again, result_again, passed_none}
use Rattle.sd_dial.specs.Entries.{Framing, shortest, four_octets, long_bytes}
use Rattle.sd_asking.specs.Sizes.{header_size}
use Rattle.sd_asking.proofs.Frames.{frame}

-- the contents of an operation are read as it, wherever they stand
pub record IsReadable (op : OperationValue) : Type 0 where
  pub single : Single (operation_tag op)
  pub contents : (place at : ℕ) → length (operation_contents op) < 2 ^ 32 → operation_of place (operation_tag op) (reading_of at (operation_contents op)) ≡ Ok op

entry_contents : (found : DirEntry) (place at : ℕ) → length (entry_bytes found) < 2 ^ 32 → operation_of place 100 (reading_of at (entry_bytes found)) ≡ Ok (entry found)
unfolding operation_of
entry_contents found place at small = ap (λ (read : Result DirEntry ℕ). read >>= λ e. Ok (entry e)) (entry_again at found small)

done_contents : (result : LdapResult) (place at : ℕ) → result.code < 2 ^ 32 → length (result_bytes result) < 2 ^ 32 → operation_of place 101 (reading_of at (result_bytes result)) ≡ Ok (done result)
unfolding operation_of
done_contents result place at code small = ap (λ (found : Result LdapResult ℕ). found >>= λ r. Ok (done r)) (result_again at result code small)

bound_contents : (result : LdapResult) (place at : ℕ) → result.code < 2 ^ 32 → length (result_bytes result) < 2 ^ 32 → operation_of place 97 (reading_of at (result_bytes result)) ≡ Ok (bind_response result)
unfolding operation_of
bound_contents result place at code small = ap (λ (found : Result LdapResult ℕ). found >>= λ r. Ok (bind_response r)) (result_again at result code small)

pub entry_readable : (found : DirEntry) → IsReadable (entry found)
entry_readable found = record { single = λ z. omega arith; contents = entry_contents found }

pub done_readable : (result : LdapResult) → result.code < 2 ^ 32 → IsReadable (done result)
done_readable result code = record { single = λ z. omega arith; contents = λ place at small. done_contents result place at code small }

pub bound_readable : (result : LdapResult) → result.code < 2 ^ 32 → IsReadable (bind_response result)
bound_readable result code = record { single = λ z. omega arith; contents = λ place at small. bound_contents result place at code small }

operation_again : (at : ℕ) (op : OperationValue) (more : List ℕ) → IsReadable op → length (operation_bytes op) < 2 ^ 32 → Again operation_in at (operation_bytes op) op more
unfolding operation_in inside
operation_again at op more readable small =
    let p = part_again at (operation_tag op) (operation_contents op) more readable.single (omega (arith, longer (operation_tag op) (operation_contents op))) in
    let c = readable.contents at p.start (omega (arith, longer (operation_tag op) (operation_contents op))) in
    record { place = p.place; read = rw (p.read, c) refl }

pub message_again : (at : ℕ) (m : MessageValue) → m.id ≤ 2147483647 → IsReadable m.operation → length (content_bytes m) < 2 ^ 32 → message_in (reading_of at (content_bytes m)) ≡ Ok m
unfolding message_in
message_again at m id readable small =
    let l = length-append (number_bytes 2 m.id) (operation_bytes m.operation) in
    let a = number_again 2 at 0 2147483647 m.id (operation_bytes m.operation) (λ z. omega arith) (omega arith) id (omega (arith, id)) in
    let b = operation_again a.place m.operation [] readable (omega (arith, l)) in
    rw (a.read, at_last operation_in a.place (operation_bytes m.operation) m.operation b, passed_none b.place) refl

-- ---- framings

-- the octets of the outer length
abbrev pub octets_by : Framing → ℕ → List ℕ
octets_by shortest size = length_octets size
octets_by four_octets size = 132 ∷ to_be_bytes w32 size

number_four : (n : ℕ) → n < 2 ^ 32 → number (to_be_bytes w32 n) ≡ n
number_four n h =
    let same : number (to_be_bytes w32 n) ≡ from_be_bytes w32 (to_be_bytes w32 n) = omega arith in
    same ∙ from_be_bytes-to_be_bytes_4 n h

pub spelled_by : (framing : Framing) (size : ℕ) → size < 2 ^ 32 → IsLength (octets_by framing size) size
spelled_by shortest size h = spelled size h
spelled_by four_octets size h = (refl, omega arith, sym (number_four size h))

pub header_by : (framing : Framing) (size : ℕ) → header_size framing size ≡ 1 + length (octets_by framing size)
header_by shortest size = refl
header_by four_octets size = refl

-- the bytes of a message in a framing
abbrev pub framed_bytes : Framing → MessageValue → List ℕ
framed_bytes shortest m = message_bytes m
framed_bytes four_octets m = long_bytes m

pub framed_is : (framing : Framing) (m : MessageValue) → framed_bytes framing m ≡ frame (octets_by framing (length (content_bytes m))) (content_bytes m)
unfolding inside
framed_is shortest m = refl
framed_is four_octets m = refl
