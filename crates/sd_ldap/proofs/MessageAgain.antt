-- What is written is read again: messages.
use Rattle.std.proofs.Common.{◌≡◌, ℕ, ◌+◌, ◌^◌, ◌<◌, ◌≤◌, Bool, false, ltb, List, [], ◌∷◌, ◌++◌, length, Result, Ok, refl, sym, ap, ◌∙◌, arith, append_assoc}
use Rattle.std.proofs.lemmas.Bool.{ne_eqb, le-ltb}
use Rattle.std.proofs.lemmas.List.{length-append}
use Rattle.sd_ber.specs.Octets.{element, length_octets}
use Rattle.sd_ber.specs.Reading.{reading_of, header_at}
use Rattle.sd_ber.proofs.Lengths.{spelled}
use Rattle.sd_ber.proofs.Elements.{header_again, element_again}
use Rattle.sd_ldap.specs.declared.result.LdapResult.{LdapResult}
use Rattle.sd_ldap.specs.Values.{SearchValue, OperationValue, MessageValue, bind_request, bind_response, unbind, search, entry, done, reference, other}
use Rattle.sd_ldap.specs.Monad.{◌>>=◌}
use Rattle.sd_ldap.specs.Parts.{text_in}
use Rattle.sd_ldap.specs.MessageReading.{span_in, bounds_in, search_in, bind_in, operation_of, operation_in, message_in, decode_of, whole}
use Rattle.sd_ldap.specs.Spelling.{number_bytes, text_bytes, truth_bytes, inside, texts_bytes, span_bytes, bounds_bytes, filter_bytes, search_bytes, operation_tag, operation_contents, operation_bytes, content_bytes, message_bytes}
use Rattle.sd_ldap.specs.Sound.{IsSoundSearch, IsSoundOperation, IsSound}
use Rattle.sd_ldap.specs.Laws.{DecodedAs}
use Rattle.sd_ldap.proofs.Again.{Single, longer, inside_longer, part_again, expected_again, expected_last, Again, at_last, text_again, number_again, truth_again, texts_again, entry_again, result_again, passed_none}
use Rattle.sd_ldap.proofs.FilterAgain.{filter_again}

span_again : (at : ℕ) (base : List ℕ) (scope deref : ℕ) (more : List ℕ) → scope ≤ 2 → deref ≤ 3 → length (span_bytes base scope deref) < 2 ^ 32 → Again span_in at (span_bytes base scope deref) (record { base = base; scope = scope; deref = deref }) more
unfolding span_in
span_again at base scope deref more s d small =
    let l = length-append (text_bytes 4 base) (number_bytes 10 scope ++ number_bytes 10 deref) in
    let regrouped : span_bytes base scope deref ++ more ≡ text_bytes 4 base ++ (number_bytes 10 scope ++ (number_bytes 10 deref ++ more)) = append_assoc (text_bytes 4 base) (number_bytes 10 scope ++ number_bytes 10 deref) more ∙ ap (λ (bytes : List ℕ). text_bytes 4 base ++ bytes) (append_assoc (number_bytes 10 scope) (number_bytes 10 deref) more) in
    let a = text_again 4 at base (number_bytes 10 scope ++ (number_bytes 10 deref ++ more)) (λ z. omega arith) (omega (arith, l)) in
    let b = number_again 10 a.place 0 2 scope (number_bytes 10 deref ++ more) (λ z. omega arith) (omega arith) s (omega arith) in
    let c = number_again 10 b.place 0 3 deref more (λ z. omega arith) (omega arith) d (omega arith) in
    record { place = c.place; read = ap (λ (bytes : List ℕ). span_in (reading_of at bytes)) regrouped ∙ rw (a.read, b.read, c.read) refl }

bounds_again : (at size time : ℕ) (types_only : Bool) (more : List ℕ) → size ≤ 2147483647 → time ≤ 2147483647 → Again bounds_in at (bounds_bytes size time types_only) (record { size = size; time = time; types_only = types_only }) more
unfolding bounds_in
bounds_again at size time types_only more s t =
    let regrouped : bounds_bytes size time types_only ++ more ≡ number_bytes 2 size ++ (number_bytes 2 time ++ (truth_bytes types_only ++ more)) = append_assoc (number_bytes 2 size) (number_bytes 2 time ++ truth_bytes types_only) more ∙ ap (λ (bytes : List ℕ). number_bytes 2 size ++ bytes) (append_assoc (number_bytes 2 time) (truth_bytes types_only) more) in
    let a = number_again 2 at 0 2147483647 size (number_bytes 2 time ++ (truth_bytes types_only ++ more)) (λ z. omega arith) (omega arith) s (omega arith) in
    let b = number_again 2 a.place 0 2147483647 time (truth_bytes types_only ++ more) (λ z. omega arith) (omega arith) t (omega arith) in
    let c = truth_again b.place types_only more in
    record { place = c.place; read = ap (λ (bytes : List ℕ). bounds_in (reading_of at bytes)) regrouped ∙ rw (a.read, b.read, c.read) refl }

search_again : (at : ℕ) (s : SearchValue) → IsSoundSearch s → length (search_bytes s) < 2 ^ 32 → search_in (reading_of at (search_bytes s)) ≡ Ok s
unfolding search_in
search_again at s sound small =
    let list = inside 48 (texts_bytes 4 s.attributes) in
    let tail = filter_bytes s.filter ++ list in
    let l1 = length-append (span_bytes s.base s.scope s.deref) (bounds_bytes s.size s.time s.types_only ++ tail) in
    let l2 = length-append (bounds_bytes s.size s.time s.types_only) tail in
    let l3 = length-append (filter_bytes s.filter) list in
    let l4 = inside_longer 48 (texts_bytes 4 s.attributes) in
    let a = span_again at s.base s.scope s.deref (bounds_bytes s.size s.time s.types_only ++ tail) sound.scope sound.deref (omega (arith, l1)) in
    let b = bounds_again a.place s.size s.time s.types_only tail sound.size sound.time in
    let c = filter_again s.filter 32 b.place list sound.levels sound.parts (omega (arith, l1, l2, l3)) in
    let d = expected_again c.place 48 (texts_bytes 4 s.attributes) [] (λ z. omega arith) (omega (arith, l1, l2, l3, l4)) in
    let e = texts_again d.start s.attributes (omega (arith, l1, l2, l3, l4)) in
    rw (a.read, b.read, c.read, expected_last c.place 48 (texts_bytes 4 s.attributes) d, e) refl

bind_again : (at version : ℕ) (name password : List ℕ) → 1 ≤ version → version ≤ 127 → length (number_bytes 2 version ++ (text_bytes 4 name ++ text_bytes 128 password)) < 2 ^ 32
    → bind_in (reading_of at (number_bytes 2 version ++ (text_bytes 4 name ++ text_bytes 128 password))) ≡ Ok (bind_request version name password)
unfolding bind_in
bind_again at version name password least most small =
    let l1 = length-append (number_bytes 2 version) (text_bytes 4 name ++ text_bytes 128 password) in
    let l2 = length-append (text_bytes 4 name) (text_bytes 128 password) in
    let a = number_again 2 at 1 127 version (text_bytes 4 name ++ text_bytes 128 password) (λ z. omega arith) least most (omega arith) in
    let b = text_again 4 a.place name (text_bytes 128 password) (λ z. omega arith) (omega (arith, l1, l2)) in
    let c = text_again 128 b.place password [] (λ z. omega arith) (omega (arith, l1, l2)) in
    rw (a.read, b.read, at_last (text_in 128) b.place (text_bytes 128 password) password c) refl

-- the contents of an operation are read by its tag
contents_again : (place at : ℕ) (op : OperationValue) → IsSoundOperation op → length (operation_contents op) < 2 ^ 32 → operation_of place (operation_tag op) (reading_of at (operation_contents op)) ≡ Ok op
unfolding operation_of
contents_again place at (bind_request version name password) sound small = bind_again at version name password sound.0 sound.1 small
contents_again place at (bind_response result) sound small = ap (λ (found : Result LdapResult ℕ). found >>= λ told. Ok (bind_response told)) (result_again at result sound small)
contents_again place at unbind sound small = refl
contents_again place at (search request) sound small = ap (λ (found : Result SearchValue ℕ). found >>= λ asked. Ok (search asked)) (search_again at request sound small)
contents_again place at (entry found) sound small = ap (λ (read : Result _ ℕ). read >>= λ e. Ok (entry e)) (entry_again at found small)
contents_again place at (done result) sound small = ap (λ (found : Result LdapResult ℕ). found >>= λ told. Ok (done told)) (result_again at result sound small)
contents_again place at reference sound small = refl
contents_again place at (other tag) sound small =
    rw (ne_eqb tag 96 sound.no_bind_request, ne_eqb tag 97 sound.no_bind_response, ne_eqb tag 66 sound.no_unbind, ne_eqb tag 99 sound.no_search, ne_eqb tag 100 sound.no_entry, ne_eqb tag 101 sound.no_done, ne_eqb tag 115 sound.no_reference) refl

single_tag : (op : OperationValue) → IsSoundOperation op → Single (operation_tag op)
single_tag (bind_request version name password) sound = λ z. omega arith
single_tag (bind_response result) sound = λ z. omega arith
single_tag unbind sound = λ z. omega arith
single_tag (search request) sound = λ z. omega arith
single_tag (entry found) sound = λ z. omega arith
single_tag (done result) sound = λ z. omega arith
single_tag reference sound = λ z. omega arith
single_tag (other tag) sound = sound.one_octet

operation_again : (at : ℕ) (op : OperationValue) (more : List ℕ) → IsSoundOperation op → length (operation_bytes op) < 2 ^ 32 → Again operation_in at (operation_bytes op) op more
unfolding operation_in inside
operation_again at op more sound small =
    let p = part_again at (operation_tag op) (operation_contents op) more (single_tag op sound) (omega (arith, longer (operation_tag op) (operation_contents op))) in
    let c = contents_again at p.start op sound (omega (arith, longer (operation_tag op) (operation_contents op))) in
    record { place = p.place; read = rw (p.read, c) refl }

-- the contents of a message, wherever they stand
pub message_again : (at : ℕ) (m : MessageValue) → IsSound m → length (content_bytes m) < 2 ^ 32 → message_in (reading_of at (content_bytes m)) ≡ Ok m
unfolding message_in
message_again at m sound small =
    let l = length-append (number_bytes 2 m.id) (operation_bytes m.operation) in
    let a = number_again 2 at 0 2147483647 m.id (operation_bytes m.operation) (λ z. omega arith) (omega arith) sound.id (omega (arith, sound.id)) in
    let b = operation_again a.place m.operation [] sound.operation (omega (arith, l)) in
    rw (a.read, at_last operation_in a.place (operation_bytes m.operation) m.operation b, passed_none b.place) refl

-- a message is decoded whole, whatever follows it
pub decoded_again : (m : MessageValue) (more : List ℕ) → IsSound m → length (content_bytes m) ≤ 16777216 → decode_of (message_bytes m ++ more) ≡ whole m (length (message_bytes m))
unfolding decode_of inside
decoded_again m more sound small =
    let body = content_bytes m in
    let octets = length_octets (length body) in
    let grouped : element 48 body ++ more ≡ 48 ∷ (octets ++ (body ++ more)) = ap (λ (bytes : List ℕ). 48 ∷ bytes) (append_assoc octets body more) in
    let header = header_again 0 48 (length body) octets (body ++ more) (λ z. omega arith) (spelled (length body) (omega arith)) in
    let few : ltb 16777216 (length body) ≡ false = le-ltb 16777216 (length body) small in
    let opened = element_again 0 48 (element 48 body) body more (record { one_octet = λ z. omega arith; octets = length_octets (length body); spelled = spelled (length body) (omega arith); parts = refl }) in
    let read = message_again (0 + (1 + length octets)) m sound (omega arith) in
    let used : 0 + (1 + length octets) + length body ≡ length (element 48 body) = omega (arith, length-append octets body) in
    let same : header_at 0 (element 48 body ++ more) ≡ Ok (record { tag = 48; size = 1 + length octets; length = length body }) = ap (header_at 0) grouped ∙ header in
    rw (same, few, opened, read, used) refl

pub decoded_as : (m : MessageValue) (bytes : List ℕ) → IsSound m → length (content_bytes m) ≤ 16777216 → bytes ≡ message_bytes m → DecodedAs m bytes
decoded_as m bytes sound small e more = ap (λ (front : List ℕ). decode_of (front ++ more)) e ∙ decoded_again m more sound small ∙ ap (λ (front : List ℕ). whole m (length front)) (sym e)
