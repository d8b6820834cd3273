-- Room for what closes what is open.
use Rattle.std.proofs.Common.{◌≡◌, ℕ, ◌+◌, ◌≤◌, Bool, true, false, cond, not, List, [], ◌∷◌, ◌++◌, length, reverse, filter, Option, None, Some, sym, ◌∙◌, ap, subst, arith}
use Rattle.std.specs.Prelude.{if◌then◌else◌, Result, Ok, Err, OnOk, IfErr}
use Rattle.std.proofs.lemmas.List.{reverse-append, length-reverse}
use Rattle.sd_rules.specs.declared.events.Event.{Event}
use Rattle.sd_rules.specs.declared.replies.Entry.{Entry}
use Rattle.sd_rules.specs.Requests.{reserves, reserved_among, reserved_places}
use Rattle.sd_rules.specs.Needed.{needed}
use Rattle.sd_forgetting.specs.Kept.{IsKeptOf}
use Rattle.sd_forgetting.proofs.Daemons.{places_same}
use Rattle.sd_voids.specs.Entries.{numbers_fall, falls}
use Rattle.sd_index.specs.Places.{place_of, listed, reserved, gives_back}
use Rattle.sd_index.specs.declared.places.Place.{Place}
use Rattle.sd_index.proofs.CountLaws.{count_reserved}
use Rattle.sd_voids.proofs.FallLaws.{falls_of}
use Rattle.sd_index.proofs.PlaceLaws.{reserved_after}
use Rattle.sd_past.specs.Closing.{HasRoom}

one_more : (b : Bool) (m n : ℕ) → m ≤ n → (if b then 1 else 0) + m ≤ n + 1
one_more true m n h = omega arith
one_more false m n h = omega arith

reserved_few : (all past : List Entry) → reserved_among all past ≤ length past
reserved_few all [] = omega arith
reserved_few all (e ∷ past) =
    let more = one_more (reserves all e.number) (reserved_among all past) (length past) (reserved_few all past) in
    omega (arith, more)

-- each entry reserves one place at most
pub reserved_at_most : (past : List Entry) → reserved_places past ≤ length past
reserved_at_most past = reserved_few past past

kept_or_not : (b : Bool) (p : Place) (kept : List Place) (n : ℕ) → length kept ≤ n → length (cond b (p ∷ kept) kept) ≤ n + 1
kept_or_not true p kept n h = omega arith
kept_or_not false p kept n h = omega arith

filter_few : (keep : Place → Bool) (ps : List Place) → length (filter keep ps) ≤ length ps
filter_few keep [] = omega arith
filter_few keep (p ∷ ps) =
    let more = kept_or_not (keep p) p (filter keep ps) (length ps) (filter_few keep ps) in
    omega (arith, more)

listed_few : (o : Option Place) → length (listed o) ≤ 1
listed_few None = omega arith
listed_few (Some p) = omega arith

appended_few : (ps qs : List Place) → length (ps ++ qs) ≡ length ps + length qs
appended_few [] qs = omega arith
appended_few (p ∷ ps) qs = let e = appended_few ps qs in omega (arith, e)

-- an entry reserves one place more at most
pub reserved_more : (e : Entry) (past : List Entry) → numbers_fall e.number past ≡ true → reserved_places (e ∷ past) ≤ reserved_places past + 1
reserved_more e past falling =
    let rest : falls past ≡ true = falls_of e.number past falling in
    let now : length (reserved (e ∷ past)) ≡ reserved_places (e ∷ past) = count_reserved (e ∷ past) falling in
    let was : length (reserved past) ≡ reserved_places past = count_reserved past rest in
    let kept : List Place = filter (λ p. not (gives_back e.event e.reply p)) (reserved past) in
    let split : length (reserved (e ∷ past)) ≡ length (kept ++ listed (place_of e)) = ap (λ (ps : List Place). length ps) (reserved_after e past falling) in
    let both : length (kept ++ listed (place_of e)) ≡ length kept + length (listed (place_of e)) = appended_few kept (listed (place_of e)) in
    let few : length kept ≤ length (reserved past) = filter_few (λ p. not (gives_back e.event e.reply p)) (reserved past) in
    let one : length (listed (place_of e)) ≤ 1 = listed_few (place_of e) in
    omega arith

-- entries with one behind them, the newest first
pub newest_first : (xs entries : List Entry) (e : Entry) → xs ≡ entries ++ e ∷ [] → reverse xs ≡ e ∷ reverse entries
newest_first xs entries e is = ap (λ (es : List Entry). reverse es) is ∙ reverse-append entries (e ∷ [])

-- the room after an entry for which there was more, and after one that gives a place back
room_by : (a b c n k m : ℕ) → a ≡ n + 1 → b ≤ k + 1 → n + k + 2 ≤ m → c ≡ m → a + b ≤ c
room_by a b c n k m is few has same = omega arith

pub room_with_more : (entries xs : List Entry) (e : Entry) (capacity room : ℕ) → xs ≡ entries ++ e ∷ [] → numbers_fall e.number (reverse entries) ≡ true
    → length entries + reserved_places (reverse entries) + 2 ≤ capacity → room ≡ capacity → HasRoom (reverse xs) room
room_with_more entries xs e capacity room is falling has same =
    let few : reserved_places (e ∷ reverse entries) ≤ reserved_places (reverse entries) + 1 = reserved_more e (reverse entries) falling in
    let same_length = length-reverse entries in
    let long : length (e ∷ reverse entries) ≡ length entries + 1 = omega (arith, same_length) in
    subst (λ (es : List Entry). HasRoom es room) (sym (newest_first xs entries e is))
    (room_by (length (e ∷ reverse entries)) (reserved_places (e ∷ reverse entries)) room (length entries) (reserved_places (reverse entries)) capacity long few has same)

back_by : (a b c n k m : ℕ) → a ≡ n + 1 → b + 1 ≤ k → n + k ≤ m → c ≡ m → a + b ≤ c
back_by a b c n k m is few has same = omega arith

pub room_given_back : (entries xs : List Entry) (e : Entry) (capacity room : ℕ) → xs ≡ entries ++ e ∷ [] → HasRoom (reverse entries) capacity
    → reserved_places (e ∷ reverse entries) + 1 ≤ reserved_places (reverse entries) → room ≡ capacity → HasRoom (reverse xs) room
room_given_back entries xs e capacity room is has back same =
    let long : length (e ∷ reverse entries) ≡ length (reverse entries) + 1 = omega arith in
    subst (λ (es : List Entry). HasRoom es room) (sym (newest_first xs entries e is))
    (back_by (length (e ∷ reverse entries)) (reserved_places (e ∷ reverse entries)) room (length (reverse entries)) (reserved_places (reverse entries)) capacity long back has same)

-- a list with room for as many again
pub room_for_all : (entries : List Entry) (capacity : ℕ) → length entries + length entries ≤ capacity → HasRoom (reverse entries) capacity
room_for_all entries capacity h =
    let few : reserved_places (reverse entries) ≤ length (reverse entries) = reserved_at_most (reverse entries) in
    let long : length (reverse entries) ≡ length entries = length-reverse entries in
    omega arith

-- the room after a forget
pub room_kept : (entries kept : List Entry) (room : ℕ) → IsKeptOf (reverse entries) (needed (reverse entries)) → reverse kept ≡ needed (reverse entries)
    → length entries + reserved_places (reverse entries) ≤ room → HasRoom (reverse kept) room
room_kept entries kept room shown is has =
    let few : length (needed (reverse entries)) ≤ length (reverse entries) = shown.shorter in
    let long : length (reverse entries) ≡ length entries = length-reverse entries in
    let same : reserved_places (reverse entries) ≡ reserved_places (needed (reverse entries)) = places_same (reverse entries) (needed (reverse entries)) shown in
    let enough : HasRoom (needed (reverse entries)) room = omega arith in
    subst (λ (es : List Entry). HasRoom es room) (sym is) enough

-- the room where a place for each entry was made
pub room_for_more : (entries ys xs : List Entry) (e : Entry) (places capacity room : ℕ) → ys ≡ entries → xs ≡ ys ++ e ∷ [] → room ≡ capacity
    → numbers_fall e.number (reverse entries) ≡ true → length entries ≤ places → length ys + places + 2 ≤ capacity → HasRoom (reverse xs) room
room_for_more entries ys xs e places capacity room still is same falling most has =
    let few : reserved_places (reverse entries) ≤ length (reverse entries) = reserved_at_most (reverse entries) in
    let long : length (reverse entries) ≡ length entries = length-reverse entries in
    let count : length ys ≡ length entries = ap (λ (es : List Entry). length es) still in
    let enough : length entries + reserved_places (reverse entries) + 2 ≤ capacity = omega arith in
    room_with_more entries xs e capacity room (is ∙ ap (λ (es : List Entry). es ++ e ∷ []) still) falling enough same

pub places_within : (entries : List Entry) (n : ℕ) → n ≡ reserved_places (reverse entries) → n ≤ length entries
places_within entries n is =
    let few : reserved_places (reverse entries) ≤ length (reverse entries) = reserved_at_most (reverse entries) in
    let long : length (reverse entries) ≡ length entries = length-reverse entries in
    omega arith

-- the room after an entry was put, or was not
pub room_still : (entries xs : List Entry) (capacity room : ℕ) → xs ≡ entries → capacity ≤ room → HasRoom (reverse entries) capacity → HasRoom (reverse xs) room
room_still entries xs capacity room is more has =
    let here : HasRoom (reverse entries) room = omega arith in
    subst (λ (es : List Entry). HasRoom (reverse es) room) (sym is) here

pub room_either : (entries xs : List Entry) (e : Entry) (capacity room : ℕ) (r : Result Unit Event) → OnOk r (xs ≡ entries ++ e ∷ []) → IfErr r (λ event. (xs ≡ entries) × (event ≡ e.event))
    → (xs ≡ entries ++ e ∷ [] → HasRoom (reverse xs) room) → capacity ≤ room → HasRoom (reverse entries) capacity → HasRoom (reverse xs) room
room_either entries xs e capacity room (Ok x) put kept made more has = made put
room_either entries xs e capacity room (Err event) put kept made more has = room_still entries xs capacity room kept.0 more has

pub appended_there : (ys entries xs : List Entry) (e : Entry) (r : Result Unit Event) → ys ≡ entries → OnOk r (xs ≡ ys ++ e ∷ []) → OnOk r (xs ≡ entries ++ e ∷ [])
appended_there ys entries xs e (Ok x) still put = put ∙ ap (λ (es : List Entry). es ++ e ∷ []) still
appended_there ys entries xs e (Err event) still put = tt

pub kept_there : (ys entries xs : List Entry) (e : Entry) (r : Result Unit Event) → ys ≡ entries → IfErr r (λ event. (xs ≡ ys) × (event ≡ e.event)) → IfErr r (λ event. (xs ≡ entries) × (event ≡ e.event))
kept_there ys entries xs e (Ok x) still kept = tt
kept_there ys entries xs e (Err event) still kept = (kept.0 ∙ still, kept.1)
