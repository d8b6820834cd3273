-- More bytes behind what is no unfinished message change nothing.
use Rattle.std.proofs.Common.{◌≡◌, ℕ, ◌+◌, ◌-◌, ◌%◌, ◌<◌, ◌≤◌, true, false, ltb, eqb, List, [], ◌∷◌, ◌++◌, length, take, drop, Result, Ok, Err, refl, sym, ap, ◌∙◌, arith, inl, inr, ◌⊎◌}
use Rattle.std.proofs.lemmas.Bool.{cases_lt, cases_eq, cases_Bool, le-ltb, lt-ltb, ne_eqb, eq-eqb}
use Rattle.std.proofs.lemmas.List.{length-append, take-append-le, drop-append-le, length-drop}
use Rattle.sd_ber.specs.declared.fault.BerFault.{BerFault}
use Rattle.sd_ber.specs.declared.fault.BerFault.TheVariants.{BadTag, Indefinite, TooLong, Short, BadInteger}
use Rattle.sd_ber.specs.declared.header.Header.{Header}
use Rattle.sd_ber.specs.Reading.{Reading, Opened, reading_of, start_of, length_at, header_at, element_at}
use Rattle.sd_ldap.specs.MessageReading.{unfinished, message_in, content_of, outer_of, framed, decode_of}

-- a length is short, or the same whatever follows
length_more : (at : ℕ) (octets more : List ℕ) → (length_at at octets ≡ Err Short) ⊎ (length_at at (octets ++ more) ≡ length_at at octets)
length_more at [] more = inl refl
length_more at (first ∷ octets) more =
    elim (cases_lt first 128) [
      | inl below ↦ inr (rw (lt-ltb first 128 below) refl)
      | inr above ↦
          elim (cases_eq first 128) [
            | inl open_length ↦ inr (rw (le-ltb first 128 above, eq-eqb first 128 open_length) refl)
            | inr told ↦
                elim (cases_lt 132 first) [
                  | inl long ↦ inr (rw (le-ltb first 128 above, ne_eqb first 128 told, lt-ltb 132 first long) refl)
                  | inr few ↦
                      elim (cases_lt (length octets) (first - 128)) [
                        | inl short ↦ inl (rw (le-ltb first 128 above, ne_eqb first 128 told, le-ltb 132 first few, lt-ltb (length octets) (first - 128) short) refl)
                        | inr there ↦
                            let also : ltb (length (octets ++ more)) (first - 128) ≡ false = le-ltb _ _ (omega (arith, length-append octets more)) in
                            let same : take (first - 128) (octets ++ more) ≡ take (first - 128) octets = take-append-le (first - 128) octets more there in
                            inr (rw (le-ltb first 128 above, ne_eqb first 128 told, le-ltb 132 first few, le-ltb (length octets) (first - 128) there, also, same) refl)
                      ]
                ]
          ]
    ]

header_more : (at : ℕ) (bytes more : List ℕ) → (header_at at bytes ≡ Err Short) ⊎ (header_at at (bytes ++ more) ≡ header_at at bytes)
unfolding header_at
header_more at [] more = inl refl
header_more at (tag ∷ octets) more =
    elim (cases_Bool (eqb (tag % 32) 31)) [
      | inl wide ↦ inr (rw wide refl)
      | inr single ↦
          elim (length_more at octets more) [
            | inl short ↦ inl (rw (single, short) refl)
            | inr same ↦ inr (rw (single, same) refl)
          ]
    ]

-- an element is short, or has the same contents whatever follows
record SameOpened (o p : Opened) : Type 0 where
  contents : o.contents ≡ p.contents
  ends : o.after.at ≡ p.after.at

record IsOpenedMore (bytes more : List ℕ) : Type 0 where
  first : Opened
  second : Opened
  before : element_at (start_of bytes) ≡ Ok first
  longer : element_at (start_of (bytes ++ more)) ≡ Ok second
  same : SameOpened second first

opened_more : (bytes more : List ℕ) (h : Header) → header_at 0 bytes ≡ Ok h → header_at 0 (bytes ++ more) ≡ Ok h → h.size + h.length ≤ length bytes → IsOpenedMore bytes more
unfolding element_at
opened_more bytes more h e1 e2 there =
    let before : ltb (length bytes) (h.size + h.length) ≡ false = le-ltb _ _ there in
    let longer : ltb (length (bytes ++ more)) (h.size + h.length) ≡ false = le-ltb _ _ (omega (arith, length-append bytes more)) in
    let behind : drop h.size (bytes ++ more) ≡ drop h.size bytes ++ more = drop-append-le h.size bytes more (omega arith) in
    let body : take h.length (drop h.size (bytes ++ more)) ≡ take h.length (drop h.size bytes) = rw behind (take-append-le h.length (drop h.size bytes) more (omega (arith, length-drop h.size bytes))) in
    record {
      first = record { tag = h.tag; contents = reading_of (0 + h.size) (take h.length (drop h.size bytes)); after = reading_of (0 + h.size + h.length) (drop h.length (drop h.size bytes)) };
      second = record { tag = h.tag; contents = reading_of (0 + h.size) (take h.length (drop h.size (bytes ++ more))); after = reading_of (0 + h.size + h.length) (drop h.length (drop h.size (bytes ++ more))) };
      before = rw (e1, before) refl;
      longer = rw (e2, longer) refl;
      same = record { contents = ap (λ (list : List ℕ). reading_of (0 + h.size) list) body; ends = refl };
    }

short_opened : (bytes : List ℕ) (h : Header) → header_at 0 bytes ≡ Ok h → length bytes < h.size + h.length → element_at (start_of bytes) ≡ Err Short
unfolding element_at
short_opened bytes h e short =
    let test : ltb (length bytes) (h.size + h.length) ≡ true = lt-ltb _ _ short in
    rw (e, test) refl

outer_more : (bytes more : List ℕ) (h : Header) → header_at 0 bytes ≡ Ok h → header_at 0 (bytes ++ more) ≡ Ok h → (outer_of (element_at (start_of bytes)) ≡ unfinished → ⊥) → outer_of (element_at (start_of (bytes ++ more))) ≡ outer_of (element_at (start_of bytes))
outer_more bytes more h e1 e2 some =
    elim (cases_lt (length bytes) (h.size + h.length)) [
      | inl short ↦ absurd (some (ap outer_of (short_opened bytes h e1 short)))
      | inr there ↦
          let o = opened_more bytes more h e1 e2 there in
          ap outer_of o.longer ∙ ap (λ (at : ℕ). content_of at (message_in o.second.contents)) o.same.ends ∙ ap (λ (r : Reading). content_of o.first.after.at (message_in r)) o.same.contents ∙ sym (ap outer_of o.before)
    ]

framed_more : (bytes more : List ℕ) (found : Result Header BerFault) → header_at 0 bytes ≡ found → header_at 0 (bytes ++ more) ≡ found → (framed bytes found ≡ unfinished → ⊥) → framed (bytes ++ more) found ≡ framed bytes found
framed_more bytes more (Ok h) e1 e2 some =
    elim (cases_Bool (ltb 16777216 h.length)) [
      | inl long ↦ rw long refl
      | inr fits ↦
          let test : ltb 16777216 h.length ≡ false = fits in
          rw test (outer_more bytes more h e1 e2 (λ e. some (rw test e)))
    ]
framed_more bytes more (Err (BadTag at)) e1 e2 some = refl
framed_more bytes more (Err (Indefinite at)) e1 e2 some = refl
framed_more bytes more (Err (TooLong at)) e1 e2 some = refl
framed_more bytes more (Err Short) e1 e2 some = refl
framed_more bytes more (Err (BadInteger at)) e1 e2 some = refl

tagged_more : (bytes more : List ℕ) → (framed bytes (header_at 0 bytes) ≡ unfinished → ⊥) → framed (bytes ++ more) (header_at 0 (bytes ++ more)) ≡ framed bytes (header_at 0 bytes)
tagged_more bytes more some =
    elim (header_more 0 bytes more) [
      | inl short ↦ absurd (some (ap (framed bytes) short))
      | inr same ↦ ap (framed (bytes ++ more)) same ∙ framed_more bytes more (header_at 0 bytes) refl same some
    ]

-- what was decoded stays, whatever follows
pub stays : (bytes more : List ℕ) → (decode_of bytes ≡ unfinished → ⊥) → decode_of (bytes ++ more) ≡ decode_of bytes
unfolding decode_of
stays [] more some = absurd (some refl)
stays (first ∷ rest) more some =
    elim (cases_Bool (eqb first 48)) [
      | inl tagged ↦
          let test : eqb first 48 ≡ true = tagged in
          rw test (tagged_more (first ∷ rest) more (λ e. some (rw test e)))
      | inr other ↦ rw other refl
    ]
