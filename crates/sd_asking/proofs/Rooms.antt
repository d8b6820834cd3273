-- How many bytes replies take at most.
use Rattle.std.proofs.Common.{◌≡◌, ℕ, ◌+◌, ◌^◌, ◌<◌, ◌≤◌, Bool, true, false, List, [], ◌∷◌, ◌++◌, length, map, filter, take, zero, suc, arith, inl, inr}
use Rattle.std.specs.Int.{w32, to_be_bytes}
use Rattle.std.proofs.lemmas.Bool.{cases_Bool, and_parts, ltb-true}
use Rattle.std.proofs.lemmas.List.{length-append, length-drop}
use Rattle.sd_ber.specs.Octets.{length_octets, element}
use Rattle.sd_ber.proofs.Lengths.{spelled}
use Rattle.sd_ldap.specs.declared.entry.Attribute.{Attribute}
use Rattle.sd_ldap.specs.declared.entry.DirEntry.{DirEntry}
use Rattle.sd_ldap.specs.Values.{bind_response, entry, done, SearchValue}
use Rattle.sd_ldap.specs.Spelling.{unneeded, octets_of, number_bytes, text_bytes, inside, texts_bytes, attribute_bytes, attributes_bytes, entry_bytes, result_bytes}
use Rattle.sd_match.specs.Answering.{told, reply, is_sent, sent_values, sent_attribute, sent_attributes, sent}
use Rattle.sd_dial.specs.Entries.{Framing}
use Rattle.sd_dial.specs.Rooms.{text_room, texts_room, attribute_room, attributes_room, entry_room, is_short, are_short}
use Rattle.sd_asking.specs.Sizes.{content_size}
use Rattle.sd_asking.proofs.Replies.{entry_readable, done_readable, bound_readable}
use Rattle.sd_asking.proofs.Walk.{IsFramed}
use Rattle.sd_asking.proofs.Stream.{framed, replies, AreFramed}
use Rattle.sd_asking.proofs.Requests.{few_octets}

element_fits : (tag : ℕ) (body : List ℕ) → length body < 2 ^ 32 → length (element tag body) ≤ 6 + length body
element_fits tag body small = omega (arith, few_octets (length_octets (length body)) (length body) (spelled (length body) small), length-append (length_octets (length body)) body)

inside_fits : (tag : ℕ) (body : List ℕ) → length body < 2 ^ 32 → length (inside tag body) ≤ 6 + length body
unfolding inside
inside_fits tag body small = element_fits tag body small

text_fits : (tag : ℕ) (text : List ℕ) → length text < 2 ^ 32 → length (text_bytes tag text) ≤ text_room text
unfolding text_bytes
text_fits tag text small = element_fits tag text small

number_fits : (tag n : ℕ) → length (number_bytes tag n) ≤ 11
unfolding number_bytes
number_fits tag n =
    let few : length (octets_of n) ≤ 5 = omega (arith, length-drop (unneeded n) (0 ∷ to_be_bytes w32 n)) in
    omega (arith, few, element_fits tag (octets_of n) (omega (arith, few)))

texts_fit : (texts : List (List ℕ)) → texts_room texts < 2 ^ 32 → length (texts_bytes 4 texts) ≤ texts_room texts
texts_fit [] small = omega arith
texts_fit (text ∷ texts) small = omega (arith, length-append (text_bytes 4 text) (texts_bytes 4 texts), text_fits 4 text (omega arith), texts_fit texts (omega arith))

values_fit : (types_only : Bool) (values : List (List ℕ)) → texts_room values < 2 ^ 32 → length (texts_bytes 4 (sent_values types_only values)) ≤ texts_room values
values_fit true values small = omega arith
values_fit false values small = texts_fit values small

attribute_fits : (types_only : Bool) (a : Attribute) → attribute_room a < 2 ^ 32 → length (attribute_bytes (sent_attribute types_only a)) ≤ attribute_room a
attribute_fits types_only a small =
    let values = texts_bytes 4 (sent_values types_only a.values) in
    let v = values_fit types_only a.values (omega arith) in
    let s = inside_fits 49 values (omega (arith, v)) in
    let t = text_fits 4 a.name (omega arith) in
    let l = length-append (text_bytes 4 a.name) (inside 49 values) in
    let o = inside_fits 48 (text_bytes 4 a.name ++ inside 49 values) (omega (arith, l, s, t, v)) in
    omega (arith, o, l, s, t, v)

attributes_fit : (types_only : Bool) (p : Attribute → Bool) (attributes : List Attribute) → attributes_room attributes < 2 ^ 32
    → length (attributes_bytes (map (λ (a : Attribute). sent_attribute types_only a) (filter p attributes))) ≤ attributes_room attributes
attributes_fit types_only p [] small = omega arith
attributes_fit types_only p (a ∷ attributes) small =
    let others = map (λ (x : Attribute). sent_attribute types_only x) (filter p attributes) in
    let rest = attributes_fit types_only p attributes (omega arith) in
    elim (cases_Bool (p a)) [
      | inl kept ↦ rw kept (omega (arith, length-append (attribute_bytes (sent_attribute types_only a)) (attributes_bytes others), attribute_fits types_only a (omega arith), rest))
      | inr left ↦ rw left (omega (arith, rest))
    ]

-- an entry takes no more when it is sent than it has room
sent_fits : (s : SearchValue) (e : DirEntry) → entry_room e < 2 ^ 32 → length (entry_bytes (sent s e)) ≤ entry_room e
sent_fits s e small =
    let attributes = attributes_bytes (sent_attributes s.types_only s.attributes e.attributes) in
    let a = attributes_fit s.types_only (λ (x : Attribute). is_sent s.attributes x) e.attributes (omega arith) in
    let i = inside_fits 48 attributes (omega (arith, a)) in
    let t = text_fits 4 e.dn (omega arith) in
    omega (arith, length-append (text_bytes 4 e.dn) (inside 48 attributes), i, t, a)

-- ---- all entries

abbrev pub AreShort : List DirEntry → Type 0
AreShort [] = Unit {0}
AreShort (e ∷ entries) = (entry_room e + 64 < 2 ^ 32) × AreShort entries

pub short_each : (entries : List DirEntry) → are_short entries ≡ true → AreShort entries
unfolding are_short
short_each [] all = tt
short_each (e ∷ entries) all = let p = and_parts (is_short e) (are_short entries) all in (ltb-true (entry_room e + 64) (2 ^ 32) p.0, short_each entries p.1)

pub short_filtered : (p : DirEntry → Bool) (entries : List DirEntry) → AreShort entries → AreShort (filter p entries)
short_filtered p [] short = tt
short_filtered p (e ∷ entries) short =
    elim (cases_Bool (p e)) [
      | inl kept ↦ rw kept (short.0, short_filtered p entries short.1)
      | inr left ↦ rw left (short_filtered p entries short.1)
    ]

pub short_taken : (n : ℕ) (entries : List DirEntry) → AreShort entries → AreShort (take n entries)
short_taken zero entries short = tt
short_taken (suc n) [] short = tt
short_taken (suc n) (e ∷ entries) short = (short.0, short_taken n entries short.1)

-- each takes less than 4 GiB
abbrev pub AreSmall : List DirEntry → Type 0
AreSmall [] = Unit {0}
AreSmall (e ∷ entries) = (length (entry_bytes e) + 64 < 2 ^ 32) × AreSmall entries

pub small_sent : (s : SearchValue) (entries : List DirEntry) → AreShort entries → AreSmall (map (λ (e : DirEntry). sent s e) entries)
small_sent s [] short = tt
small_sent s (e ∷ entries) short = let fits = sent_fits s e (omega (arith, short.0)) in (omega (arith, fits, short.0), small_sent s entries short.1)

-- ---- replies

entry_small : (id : ℕ) (e : DirEntry) → length (entry_bytes e) + 64 < 2 ^ 32 → content_size (reply id (entry e)) < 2 ^ 32
entry_small id e small = omega (arith, number_fits 2 id, inside_fits 100 (entry_bytes e) (omega arith), length-append (number_bytes 2 id) (inside 100 (entry_bytes e)))

result_fits : (code : ℕ) → length (result_bytes (told code)) ≤ 23
result_fits code =
    omega (arith, number_fits 10 code, text_fits 4 [] (omega arith), length-append (text_bytes 4 []) (text_bytes 4 []), length-append (number_bytes 10 code) (text_bytes 4 [] ++ text_bytes 4 []))

code_fits : (id code tag : ℕ) → length (number_bytes 2 id ++ inside tag (result_bytes (told code))) ≤ 64
code_fits id code tag =
    let r = result_fits code in
    omega (arith, r, number_fits 2 id, inside_fits tag (result_bytes (told code)) (omega (arith, r)), length-append (number_bytes 2 id) (inside tag (result_bytes (told code))))

pub done_fits : (id code : ℕ) → content_size (reply id (done (told code))) ≤ 64
done_fits id code = code_fits id code 101

pub bound_fits : (id code : ℕ) → content_size (reply id (bind_response (told code))) ≤ 64
bound_fits id code = code_fits id code 97

pub done_framed : (framing : Framing) (id code : ℕ) → id ≤ 2147483647 → code < 2 ^ 32 → IsFramed framing (reply id (done (told code)))
done_framed framing id code small few = framed framing (reply id (done (told code))) small (done_readable (told code) few) (omega (arith, done_fits id code))

pub bound_framed : (framing : Framing) (id code : ℕ) → id ≤ 2147483647 → code < 2 ^ 32 → IsFramed framing (reply id (bind_response (told code)))
bound_framed framing id code small few = framed framing (reply id (bind_response (told code))) small (bound_readable (told code) few) (omega (arith, bound_fits id code))

pub replies_framed : (framing : Framing) (id code : ℕ) (entries : List DirEntry) → id ≤ 2147483647 → code < 2 ^ 32 → AreSmall entries → AreFramed framing (replies id code entries)
replies_framed framing id code [] small few are = (done_framed framing id code small few, tt)
replies_framed framing id code (e ∷ entries) small few are =
    (framed framing (reply id (entry e)) small (entry_readable e) (entry_small id e are.0), replies_framed framing id code entries small few are.1)
