-- How a link ends, from where it stands.
use Rattle.std.proofs.Common.{◌≡◌, ℕ, ◌+◌, ◌-◌, ◌<◌, ◌≤◌, Bool, true, false, ltb, List, [], ◌∷◌, ◌++◌, length, take, drop, refl, sym, ap, ◌∙◌, append-nil, append_assoc, subst, arith}
use Rattle.std.specs.Prelude.{if◌then◌else◌, ◌&&◌}
use Rattle.std.specs.declared.option.Option.{Option}
use Rattle.std.specs.Io.KnownBytes.{Appends, Consumes, IsAtEnd}
use Rattle.std.proofs.KnownBytes.{Appends-nil, Appends-trans, Consumes-trans}
use Rattle.std.proofs.Math.Seq.{take-append-add}
use Rattle.std.proofs.lemmas.Bool.{le-ltb, lt-ltb}
use Rattle.std.proofs.lemmas.List.{length-append, take-append-le, take_all, take_at}
use Rattle.sd_base.specs.Written.{AppendsFront}
use Rattle.sd_ldap.specs.declared.entry.DirEntry.{DirEntry}
use Rattle.sd_ldap.specs.Values.{OperationValue, MessageValue, bind_request, bind_response, unbind, search, entry, done, reference, other}
use Rattle.sd_ldap.specs.MessageReading.{DecodedValue, whole, unfinished, wrong, decode_of}
use Rattle.sd_match.specs.Answering.{reply_bytes}
use Rattle.sd_stub.specs.declared.ending.LinkEnd.{LinkEnd}
use Rattle.sd_stub.specs.declared.ending.LinkEnd.TheVariants as ends
use Rattle.sd_stub.specs.declared.stepping.Stop.TheVariants as stops
use Rattle.sd_stub.specs.Saying.{Said, nothing, is_unbind, said_from, is_by_bytes, limited, said, answers, ended_of}
use Rattle.sd_stub.specs.Passing.{after, Stops, Stands, IsBadAt}
use Rattle.sd_stub.specs.Serving.{IsAnswered, EndsBy, Served}
use Rattle.sd_stub.proofs.Hearing.{closed_front, cut_front, unbinds, is_wrong, passes_message}
use Rattle.sd_stub.proofs.Passing.{answers_both, answers_one}
use Rattle.sd_stub.proofs.Standing.{StandsTo, stands_taken}

-- ---- the limit

not_taken : (t : Bool) (a b : Said) → t ≡ false → (if t then a else b) ≡ b
not_taken true a b h = cc
not_taken false a b h = refl

and_false : (a b : Bool) → b ≡ false → (a && b) ≡ false
and_false true b h = h
and_false false b h = refl

same_messages : (t : Bool) (a b : Said) → a.messages ≡ b.messages → (if t then a else b).messages ≡ b.messages
same_messages true a b h = h
same_messages false a b h = refl

-- an end that the bytes alone did not bring stays
limited_other : (count : ℕ) (s : Said) → is_by_bytes s.ending ≡ false → limited count s ≡ s
limited_other count s h = not_taken (ltb 1073741824 count && is_by_bytes s.ending) (record { messages = s.messages; ending = ends.Long 1073741824 }) s (and_false (ltb 1073741824 count) (is_by_bytes s.ending) h)

limited_within : (count : ℕ) (s : Said) → count ≤ 1073741824 → limited count s ≡ s
limited_within count s few = let test : ltb 1073741824 count ≡ false = le-ltb 1073741824 count few in rw test refl

limited_over : (count : ℕ) (s : Said) → 1073741824 < count → is_by_bytes s.ending ≡ true → limited count s ≡ record { messages = s.messages; ending = ends.Long 1073741824 }
limited_over count s many h = let test : ltb 1073741824 count ≡ true = lt-ltb 1073741824 count many in rw (test, h) refl

limited_messages : (count : ℕ) (s : Said) → (limited count s).messages ≡ s.messages
limited_messages count s = same_messages (ltb 1073741824 count && is_by_bytes s.ending) (record { messages = s.messages; ending = ends.Long 1073741824 }) s refl

within_limit : (taken more : List ℕ) → length taken ≤ 1073741824 → take 1073741824 (taken ++ more) ≡ taken ++ take (1073741824 - length taken) more
within_limit taken more few =
    let room : 1073741824 ≡ length taken + (1073741824 - length taken) = omega arith in
    ap (λ (n : ℕ). take n (taken ++ more)) room ∙ take-append-add taken more (1073741824 - length taken)

-- ---- what an input says, by where the link stands

says_more : (entries : List DirEntry) (left left' held held' : Option (List ℕ)) (place : ℕ) (unread : List ℕ) (s : Stands entries left left' held held' place unread) (more : List ℕ) → length s.taken ≤ 1073741824
    → said (s.taken ++ more) ≡ limited (length (s.taken ++ more)) (after s.done (said_from place 0 (unread ++ take (1073741824 - length s.taken) more)))
says_more entries left left' held held' place unread s more few =
    ap (λ (list : List ℕ). limited (length (s.taken ++ more)) (said_from 0 0 list)) (within_limit s.taken more few)
    ∙ ap (limited (length (s.taken ++ more))) (s.says (take (1073741824 - length s.taken) more))

says_other : (entries : List DirEntry) (left left' held held' : Option (List ℕ)) (place : ℕ) (unread : List ℕ) (s : Stands entries left left' held held' place unread) (rest : Said) (more : List ℕ) → length s.taken ≤ 1073741824
    → ((list : List ℕ) → said_from place 0 (unread ++ list) ≡ rest) → is_by_bytes rest.ending ≡ false → said (s.taken ++ more) ≡ after s.done rest
says_other entries left left' held held' place unread s rest more few h other_end =
    says_more entries left left' held held' place unread s more few
    ∙ ap (λ (r : Said). limited (length (s.taken ++ more)) (after s.done r)) (h (take (1073741824 - length s.taken) more))
    ∙ limited_other (length (s.taken ++ more)) (after s.done rest) other_end

all_taken : (taken : List ℕ) → length taken ≤ 1073741824 → take 1073741824 taken ≡ taken
all_taken taken few = take_all 1073741824 taken few

says_here : (entries : List DirEntry) (left left' held held' : Option (List ℕ)) (place : ℕ) (unread : List ℕ) (s : Stands entries left left' held held' place unread) → length s.taken ≤ 1073741824
    → said s.taken ≡ after s.done (said_from place 0 unread)
says_here entries left left' held held' place unread s few =
    ap (λ (list : List ℕ). limited (length s.taken) (said_from 0 0 list)) (all_taken s.taken few)
    ∙ limited_within (length s.taken) (said_from 0 0 s.taken) few
    ∙ ap (λ (list : List ℕ). said_from 0 0 list) (sym (append-nil s.taken))
    ∙ s.says []
    ∙ ap (λ (list : List ℕ). after s.done (said_from place 0 list)) (append-nil unread)

says_messages : (entries : List DirEntry) (left left' held held' : Option (List ℕ)) (place : ℕ) (unread : List ℕ) (s : Stands entries left left' held held' place unread) (more : List ℕ) → length s.taken ≤ 1073741824
    → (said (s.taken ++ more)).messages ≡ s.done ++ (said_from place 0 (unread ++ take (1073741824 - length s.taken) more)).messages
says_messages entries left left' held held' place unread s more few =
    ap (λ (r : Said). r.messages) (says_more entries left left' held held' place unread s more few)
    ∙ limited_messages (length (s.taken ++ more)) (after s.done (said_from place 0 (unread ++ take (1073741824 - length s.taken) more)))

-- ---- what was written

answered : (entries : List DirEntry) (left left' held between held' : Option (List ℕ)) (place : ℕ) (unread : List ℕ) (s : Stands entries left left' held between place unread) (rest : Said) (ending : LinkEnd) (input : List ℕ)
    → said input ≡ after s.done rest → ending ≡ rest.ending → Appends between held' (answers entries rest.messages) → IsAnswered entries ending input held held'
answered entries left left' held between held' place unread s rest ending input e same w = record {
  ends = same ∙ sym (ap (λ (r : Said). r.ending) e);
  written =
      subst (λ (bs : List ℕ). Appends held held' bs)
      (sym (ap (λ (r : Said). answers entries r.messages) e ∙ answers_both entries s.done rest.messages))
      (Appends-trans held between held' (answers entries s.done) (answers entries rest.messages) s.written w);
}

front_none : (held : Option (List ℕ)) (bytes : List ℕ) → AppendsFront held held bytes
front_none held bytes = (0, omega arith, Appends-nil held)

front_behind : (held between held' : Option (List ℕ)) (a b : List ℕ) → Appends held between a → AppendsFront between held' b → AppendsFront held held' (a ++ b)
front_behind held between held' a b w f = (
  length a + f.0,
  omega (arith, length-append a b, f.1),
  subst (λ (bs : List ℕ). Appends held held' bs) (sym (take-append-add a b f.0)) (Appends-trans held between held' a (take f.0 b) w f.2),
)

front_first : (held held' : Option (List ℕ)) (a b : List ℕ) → AppendsFront held held' a → AppendsFront held held' (a ++ b)
front_first held held' a b f = (
  f.0,
  omega (arith, length-append a b, f.1),
  subst (λ (bs : List ℕ). Appends held held' bs) (sym (take-append-le f.0 a b f.1)) f.2,
)

fronted : (entries : List DirEntry) (left left' held between held' : Option (List ℕ)) (place : ℕ) (unread : List ℕ) (s : Stands entries left left' held between place unread) (behind : List MessageValue) (input : List ℕ)
    → (said input).messages ≡ s.done ++ behind → AppendsFront between held' (answers entries behind) → AppendsFront held held' (answers entries (said input).messages)
fronted entries left left' held between held' place unread s behind input e f =
    subst (λ (bs : List ℕ). AppendsFront held held' bs) (sym (ap (answers entries) e ∙ answers_both entries s.done behind))
    (front_behind held between held' (answers entries s.done) (answers entries behind) s.written f)

-- nothing more than the answers so far
pub front_so_far : (entries : List DirEntry) (left left' held held' : Option (List ℕ)) (place : ℕ) (unread : List ℕ) (s : Stands entries left left' held held' place unread) (more : List ℕ) → length s.taken ≤ 1073741824
    → AppendsFront held held' (answers entries (said (s.taken ++ more)).messages)
front_so_far entries left left' held held' place unread s more few =
    fronted entries left left' held held' held' place unread s (said_from place 0 (unread ++ take (1073741824 - length s.taken) more)).messages (s.taken ++ more)
    (says_messages entries left left' held held' place unread s more few)
    (front_none held' (answers entries (said_from place 0 (unread ++ take (1073741824 - length s.taken) more)).messages))

-- ---- ends by a message or by what is none

no_reply : (entries : List DirEntry) (id : ℕ) (operation : OperationValue) → is_unbind operation ≡ true → reply_bytes entries (record { id = id; operation = operation }) ≡ []
no_reply entries id unbind h = refl
no_reply entries id (bind_request version name password) h = cc
no_reply entries id (bind_response result) h = cc
no_reply entries id (search request) h = cc
no_reply entries id (entry found) h = cc
no_reply entries id (done result) h = cc
no_reply entries id reference h = cc
no_reply entries id (other tag) h = cc

unbound_by : (entries : List DirEntry) (left left' held between held' : Option (List ℕ)) (place : ℕ) (unread : List ℕ) (s : Stands entries left left' held between place unread) (d : DecodedValue) (writes : Type 0) (more : List ℕ)
    → length s.taken ≤ 1073741824 → decode_of unread ≡ d → Stops entries stops.Unbound d between held' writes → IsAnswered entries ends.Unbound (s.taken ++ more) held held'
unbound_by entries left left' held between held' place unread s (whole m used) writes more few e h =
    let rest : Said = record { messages = m ∷ []; ending = ends.Unbound } in
    let none : answers entries (m ∷ []) ≡ [] = answers_one entries m ∙ no_reply entries m.id m.operation h.0 in
    answered entries left left' held between held' place unread s rest ends.Unbound (s.taken ++ more)
    (says_other entries left left' held between place unread s rest more few (λ list. unbinds place unread list m used e h.0) refl)
    refl
    (subst (λ (bs : List ℕ). Appends between held' bs) (sym none) (subst (λ (known : Option (List ℕ)). Appends between known []) (sym h.1) (Appends-nil between)))
unbound_by entries left left' held between held' place unread s unfinished writes more few e h = absurd h
unbound_by entries left left' held between held' place unread s (wrong at) writes more few e h = absurd h

pub ends_unbound : (entries : List DirEntry) (left left' held held' : Option (List ℕ)) (place : ℕ) (unread : List ℕ) (reads writes later : Type 0)
    → StandsTo entries left left' held held' place unread stops.Unbound writes → place + length unread ≤ 1073741824 → Served entries ends.Unbound left left' held held' reads later
ends_unbound entries left left' held held' place unread reads writes later s few =
    let short : length s.stands.taken ≤ 1073741824 = omega (arith, s.stands.counted, few) in
    record {
      taken = s.stands.taken;
      consumed = s.stands.consumed;
      short = omega (arith, short);
      ended = λ more. unbound_by entries left left' held s.between held' place unread s.stands (decode_of unread) writes more short refl s.stops;
    }

bad_by : (entries : List DirEntry) (left left' held between held' : Option (List ℕ)) (place : ℕ) (unread : List ℕ) (s : Stands entries left left' held between place unread) (d : DecodedValue) (writes : Type 0) (at : ℕ) (more : List ℕ)
    → length s.taken ≤ 1073741824 → decode_of unread ≡ d → Stops entries (stops.Bad at) d between held' writes → IsAnswered entries (ends.Bad (place + at)) (s.taken ++ more) held held'
bad_by entries left left' held between held' place unread s (wrong p) writes at more few e h =
    let rest : Said = nothing (ends.Bad (place + at)) in
    let same : decode_of unread ≡ wrong at = e ∙ ap wrong h.0 in
    answered entries left left' held between held' place unread s rest (ends.Bad (place + at)) (s.taken ++ more)
    (says_other entries left left' held between place unread s rest more few (λ list. is_wrong place unread list at same) refl)
    refl
    (subst (λ (known : Option (List ℕ)). Appends between known []) (sym h.1) (Appends-nil between))
bad_by entries left left' held between held' place unread s unfinished writes at more few e h = absurd h
bad_by entries left left' held between held' place unread s (whole m used) writes at more few e h = absurd h

unwritten : (entries : List DirEntry) (d : DecodedValue) (at : ℕ) (between held' : Option (List ℕ)) (writes : Type 0) → Stops entries (stops.Bad at) d between held' writes → held' ≡ between
unwritten entries (wrong p) at between held' writes h = h.1
unwritten entries unfinished at between held' writes h = absurd h
unwritten entries (whole m used) at between held' writes h = absurd h

kept_front : (entries : List DirEntry) (left left' held between held' : Option (List ℕ)) (place : ℕ) (unread : List ℕ) (s : Stands entries left left' held between place unread) (more : List ℕ) → length s.taken ≤ 1073741824 → held' ≡ between
    → AppendsFront held held' (answers entries (said (s.taken ++ more)).messages)
kept_front entries left left' held between held' place unread s more few e =
    subst (λ (known : Option (List ℕ)). AppendsFront held known (answers entries (said (s.taken ++ more)).messages)) (sym e) (front_so_far entries left left' held between place unread s more few)

bad_ended : (entries : List DirEntry) (left left' held held' : Option (List ℕ)) (place : ℕ) (unread : List ℕ) (at : ℕ) (ending : LinkEnd) (reads writes later : Type 0) (s : StandsTo entries left left' held held' place unread (stops.Bad at) writes)
    → length s.stands.taken ≤ 1073741824 → IsBadAt ending (place + at) → EndsBy entries ending s.stands.taken left' held held' reads later
bad_ended entries left left' held held' place unread at (ends.Bad p) reads writes later s few h =
    subst (λ (n : ℕ). EndsBy entries (ends.Bad n) s.stands.taken left' held held' reads later) (sym h)
    (λ more. bad_by entries left left' held s.between held' place unread s.stands (decode_of unread) writes at more few refl s.stops)
bad_ended entries left left' held held' place unread at ends.Memory reads writes later s few h =
    λ more. kept_front entries left left' held s.between held' place unread s.stands more few (unwritten entries (decode_of unread) at s.between held' writes s.stops)
bad_ended entries left left' held held' place unread at ends.Closed reads writes later s few h = absurd h
bad_ended entries left left' held held' place unread at ends.Unbound reads writes later s few h = absurd h
bad_ended entries left left' held held' place unread at ends.Cut reads writes later s few h = absurd h
bad_ended entries left left' held held' place unread at (ends.Long count) reads writes later s few h = absurd h
bad_ended entries left left' held held' place unread at ends.ReadFault reads writes later s few h = absurd h
bad_ended entries left left' held held' place unread at ends.WriteFault reads writes later s few h = absurd h

pub ends_bad : (entries : List DirEntry) (left left' held held' : Option (List ℕ)) (place : ℕ) (unread : List ℕ) (at : ℕ) (ending : LinkEnd) (reads writes later : Type 0)
    → StandsTo entries left left' held held' place unread (stops.Bad at) writes → place + length unread ≤ 1073741824 → IsBadAt ending (place + at) → Served entries ending left left' held held' reads later
ends_bad entries left left' held held' place unread at ending reads writes later s few h =
    let short : length s.stands.taken ≤ 1073741824 = omega (arith, s.stands.counted, few) in
    record {
      taken = s.stands.taken;
      consumed = s.stands.consumed;
      short = omega (arith, short);
      ended = bad_ended entries left left' held held' place unread at ending reads writes later s short h;
    }

-- ---- faults

written_by : (entries : List DirEntry) (left left' held between held' : Option (List ℕ)) (place : ℕ) (unread : List ℕ) (s : Stands entries left left' held between place unread) (d : DecodedValue) (writes : Type 0) (more : List ℕ)
    → length s.taken ≤ 1073741824 → decode_of unread ≡ d → Stops entries stops.WriteFault d between held' writes → AppendsFront held held' (answers entries (said (s.taken ++ more)).messages)
written_by entries left left' held between held' place unread s (whole m used) writes more few e h =
    let list : List ℕ = take (1073741824 - length s.taken) more in
    let rest : List MessageValue = (said_from (place + used) 0 (drop used unread ++ list)).messages in
    let next : (said_from place 0 (unread ++ list)).messages ≡ m ∷ rest = ap (λ (r : Said). r.messages) (passes_message place unread list m used e h.0) in
    fronted entries left left' held between held' place unread s (m ∷ rest) (s.taken ++ more)
    (says_messages entries left left' held between place unread s more few ∙ ap (λ (ms : List MessageValue). s.done ++ ms) next)
    (front_first between held' (reply_bytes entries m) (answers entries rest) h.2)
written_by entries left left' held between held' place unread s unfinished writes more few e h = absurd h
written_by entries left left' held between held' place unread s (wrong at) writes more few e h = absurd h

writes_by : (entries : List DirEntry) (d : DecodedValue) (between held' : Option (List ℕ)) (writes : Type 0) → Stops entries stops.WriteFault d between held' writes → writes
writes_by entries (whole m used) between held' writes h = h.1
writes_by entries unfinished between held' writes h = absurd h
writes_by entries (wrong at) between held' writes h = absurd h

pub ends_write_fault : (entries : List DirEntry) (left left' held held' : Option (List ℕ)) (place : ℕ) (unread : List ℕ) (reads writes later : Type 0) → (writes → later)
    → StandsTo entries left left' held held' place unread stops.WriteFault writes → place + length unread ≤ 1073741824 → Served entries ends.WriteFault left left' held held' reads later
ends_write_fault entries left left' held held' place unread reads writes later f s few =
    let short : length s.stands.taken ≤ 1073741824 = omega (arith, s.stands.counted, few) in
    record {
      taken = s.stands.taken;
      consumed = s.stands.consumed;
      short = omega (arith, short);
      ended = (
        f (writes_by entries (decode_of unread) s.between held' writes s.stops),
        λ more. written_by entries left left' held s.between held' place unread s.stands (decode_of unread) writes more short refl s.stops,
      );
    }

pub ends_memory : (entries : List DirEntry) (left left' held held' : Option (List ℕ)) (place : ℕ) (unread : List ℕ) (reads writes later : Type 0)
    → StandsTo entries left left' held held' place unread stops.Memory writes → place + length unread ≤ 1073741824 → Served entries ends.Memory left left' held held' reads later
ends_memory entries left left' held held' place unread reads writes later s few =
    let short : length s.stands.taken ≤ 1073741824 = omega (arith, s.stands.counted, few) in
    record {
      taken = s.stands.taken;
      consumed = s.stands.consumed;
      short = omega (arith, short);
      ended = λ more. kept_front entries left left' held s.between held' place unread s.stands more short s.stops;
    }

-- ---- ends by what was taken

-- the bytes that are left are less than a message
waiting_front : (place : ℕ) (unread : List ℕ) → decode_of unread ≡ unfinished → said_from place 0 unread ≡ nothing (ended_of unread)
waiting_front place [] e = closed_front place [] refl
waiting_front place (byte ∷ bytes) e = cut_front place (byte ∷ bytes) (λ none. cc) e

ended_by : (unread : List ℕ) (entries : List DirEntry) (taken : List ℕ) (left held held' : Option (List ℕ)) (reads writes : Type 0) → IsAtEnd left → IsAnswered entries (ended_of unread) taken held held'
    → EndsBy entries (ended_of unread) taken left held held' reads writes
ended_by [] entries taken left held held' reads writes h a = (h, a)
ended_by (byte ∷ bytes) entries taken left held held' reads writes h a = (h, a)

pub ends_at_end : (entries : List DirEntry) (left left' held held' : Option (List ℕ)) (place : ℕ) (unread : List ℕ) (reads writes : Type 0)
    → Stands entries left left' held held' place unread → decode_of unread ≡ unfinished → place + length unread ≤ 1073741824 → IsAtEnd left' → Served entries (ended_of unread) left left' held held' reads writes
ends_at_end entries left left' held held' place unread reads writes s e few h =
    let short : length s.taken ≤ 1073741824 = omega (arith, s.counted, few) in
    let here : said s.taken ≡ after s.done (nothing (ended_of unread)) = says_here entries left left' held held' place unread s short ∙ ap (after s.done) (waiting_front place unread e) in
    record {
      taken = s.taken;
      consumed = s.consumed;
      short = omega (arith, short);
      ended = ended_by unread entries s.taken left' held held' reads writes h
          (answered entries left left' held held' held' place unread s (nothing (ended_of unread)) (ended_of unread) s.taken here refl (Appends-nil held'));
    }

pub ends_read_fault : (entries : List DirEntry) (left left' held held' : Option (List ℕ)) (place : ℕ) (unread : List ℕ) (reads writes : Type 0)
    → Stands entries left left' held held' place unread → decode_of unread ≡ unfinished → place + length unread ≤ 1073741824 → reads → Served entries ends.ReadFault left left' held held' reads writes
ends_read_fault entries left left' held held' place unread reads writes s e few rose =
    let short : length s.taken ≤ 1073741824 = omega (arith, s.counted, few) in
    let here : said s.taken ≡ after s.done (nothing (ended_of unread)) = says_here entries left left' held held' place unread s short ∙ ap (after s.done) (waiting_front place unread e) in
    let all : IsAnswered entries (ended_of unread) s.taken held held' = answered entries left left' held held' held' place unread s (nothing (ended_of unread)) (ended_of unread) s.taken here refl (Appends-nil held') in
    record {
      taken = s.taken;
      consumed = s.consumed;
      short = omega (arith, short);
      ended = (rose, all.written, λ more. front_so_far entries left left' held held' place unread s more short);
    }

pub ends_unstored : (entries : List DirEntry) (left between left' held held' : Option (List ℕ)) (place : ℕ) (unread piece : List ℕ) (reads writes : Type 0)
    → Stands entries left between held held' place unread → Consumes between left' piece → place + length unread + length piece ≤ 1073741824 → Served entries ends.Memory left left' held held' reads writes
ends_unstored entries left between left' held held' place unread piece reads writes s c few =
    let t : Stands entries left left' held held' place (unread ++ piece) = stands_taken entries left between left' held held' place unread piece s c in
    let short : length t.taken ≤ 1073741824 = omega (arith, t.counted, length-append unread piece, few) in
    record {
      taken = t.taken;
      consumed = t.consumed;
      short = omega (arith, short);
      ended = λ more. front_so_far entries left left' held held' place (unread ++ piece) t more short;
    }

ended_by_bytes : (unread : List ℕ) → is_by_bytes (ended_of unread) ≡ true
ended_by_bytes [] = refl
ended_by_bytes (byte ∷ bytes) = refl

-- one byte more than may be read
pub ends_over : (entries : List DirEntry) (left between left' held held' : Option (List ℕ)) (place : ℕ) (unread piece : List ℕ) (reads writes : Type 0)
    → Stands entries left between held held' place unread → decode_of unread ≡ unfinished → Consumes between left' piece → place + length unread ≡ 1073741824 → 0 < length piece → length piece ≤ 1
    → Served entries (ends.Long 1073741824) left left' held held' reads writes
ends_over entries left between left' held held' place unread piece reads writes s e c full some one =
    let size : length s.taken ≡ 1073741824 = omega (arith, s.counted, full) in
    let short : length s.taken ≤ 1073741824 = omega (arith, size) in
    let rest : Said = record { messages = []; ending = ends.Long 1073741824 } in
    let here : (more : List ℕ) → said ((s.taken ++ piece) ++ more) ≡ after s.done rest =
    λ more.
    let input : List ℕ = (s.taken ++ piece) ++ more in
    let many : 1073741824 < length input = omega (arith, length-append (s.taken ++ piece) more, length-append s.taken piece, size, some) in
    let front : take 1073741824 input ≡ s.taken = ap (take 1073741824) (append_assoc s.taken piece more) ∙ take_at s.taken (piece ++ more) 1073741824 size in
    let own : said_from 0 0 s.taken ≡ after s.done (nothing (ended_of unread)) =
    ap (λ (list : List ℕ). said_from 0 0 list) (sym (append-nil s.taken)) ∙ s.says [] ∙ ap (λ (list : List ℕ). after s.done (said_from place 0 list)) (append-nil unread) ∙ ap (after s.done) (waiting_front place unread e) in
    ap (λ (list : List ℕ). limited (length input) (said_from 0 0 list)) front
    ∙ ap (limited (length input)) own
    ∙ limited_over (length input) (after s.done (nothing (ended_of unread))) many (ended_by_bytes unread) in
    record {
      taken = s.taken ++ piece;
      consumed = Consumes-trans left between left' s.taken piece s.consumed c;
      short = omega (arith, length-append s.taken piece, size, one);
      ended = λ more. answered entries left between held held' held' place unread s rest (ends.Long 1073741824) ((s.taken ++ piece) ++ more) (here more) refl (Appends-nil held');
    }
