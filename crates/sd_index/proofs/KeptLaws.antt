-- The table of the entries that a forget keeps is that of the whole journal, but for what is made anew.
use Rattle.std.proofs.Common.{◌≡◌, ℕ, Bool, true, false, cond, List, [], ◌∷◌, ◌++◌, filter, length, Option, is_some, refl, sym, ◌∙◌, ap, subst, inl, inr}
use Rattle.std.specs.Option.{option_map}
use Rattle.std.proofs.lemmas.List.Elements.{filter-append}
use Rattle.sd_rules.specs.declared.replies.Entry.{Entry}
use Rattle.sd_rules.specs.Requests.{is_open, waits_for, reserves}
use Rattle.sd_rules.specs.Needed.{is_looked_at, is_read_with, is_needed, needed}
use Rattle.sd_cache.specs.Kept.{kept_of}
use Rattle.sd_forgetting.specs.Parts.{part, IsAt}
use Rattle.sd_forgetting.specs.Kept.{IsKeptOf}
use Rattle.sd_forgetting.proofs.Tests.{or_left, either, is_false, clash}
use Rattle.sd_forgetting.proofs.Places.{needed_is_part, keeps_if}
use Rattle.sd_forgetting.proofs.Reasons.{by_open, by_waiting}
use Rattle.sd_forgetting.proofs.Replies.{outage_shown}
use Rattle.sd_index.specs.declared.places.Place.{Place}
use Rattle.sd_index.specs.declared.places.Place.TheVariants.{Request, Attempt, Ticket}
use Rattle.sd_voids.specs.Entries.{falls, numbers_fall}
use Rattle.sd_index.specs.Places.{place_of, listed, taken, stands, reserved}
use Rattle.sd_index.specs.Table.{Table, Indexes, Remake, Remakes}
use Rattle.sd_voids.proofs.FallLaws.{falls_from_some}
use Rattle.sd_index.proofs.FoundLaws.{AllFound, all_found, request_opened, attempt_opened, ticket_joined}
use Rattle.sd_index.proofs.CountLaws.{count_one}

-- the same requests and attempts are open, and the same tickets wait
stands_same : (w p : List Entry) → IsKeptOf w p → (place : Place) → stands w place ≡ stands p place
stands_same w p k (Request number key) = k.opens.requests number
stands_same w p k (Attempt number) = k.opens.attempts number
stands_same w p k (Ticket ticket request) = ap (λ (o : Option ℕ). is_some o) (k.tickets.waiting ticket)

filter_same : (f g : Place → Bool) → ((place : Place) → f place ≡ g place) → (ps : List Place) → filter f ps ≡ filter g ps
filter_same f g h [] = refl
filter_same f g h (p ∷ ps) =
    ap (λ (b : Bool). cond b (p ∷ filter f ps) (filter f ps)) (h p)
    ∙ ap (λ (qs : List Place). cond (g p) (p ∷ qs) qs) (filter_same f g h ps)

none_listed : (ps : List Place) (b : Bool) → length ps ≡ cond b 1 0 → b ≡ false → ps ≡ []
none_listed [] b h f = refl
none_listed (p ∷ ps) true h f = cc
none_listed (p ∷ ps) false h f = cc

nothing_more : (ps : List Place) → ps ++ [] ≡ ps
nothing_more [] = refl
nothing_more (p ∷ ps) = ap (λ (qs : List Place). p ∷ qs) (nothing_more ps)

-- a part that keeps each entry which reserves a place has taken the places that stand
module _ (w : List Entry) (keep : List Entry → Entry → Bool) where
  taken_kept : (xs : List Entry) → AllFound w xs → ((e : Entry) (past : List Entry) → IsAt xs e past → reserves w e.number ≡ true → keep past e ≡ true)
      → filter (stands w) (taken xs) ≡ filter (stands w) (taken (part keep xs))
  taken_kept [] found k = refl
  taken_kept (x ∷ xs) found k =
      let own : List Place = listed (place_of x) in
      let rest : filter (stands w) (taken xs) ≡ filter (stands w) (taken (part keep xs)) = taken_kept xs found.1 (λ e past at. k e past (inr at)) in
      let one : length (filter (stands w) own) ≡ cond (reserves w x.number) 1 0 =
      count_one w x.number x.event x.reply (request_opened w x x.number found.0) (attempt_opened w x x.number found.0) (ticket_joined w x x.number found.0) in
      keeps_if (λ (es : List Entry). filter (stands w) (taken es)) (keep xs x) x (part keep xs) (filter (stands w) (taken (x ∷ xs)))
      (λ kept.
      filter-append (stands w) (taken xs) own
      ∙ ap (λ (ps : List Place). ps ++ filter (stands w) own) rest
      ∙ sym (filter-append (stands w) (taken (part keep xs)) own))
      (λ dropped.
      let free : reserves w x.number ≡ false = is_false (reserves w x.number) (λ h. clash (keep xs x) (k x xs (inl (refl, refl)) h) dropped) in
      filter-append (stands w) (taken xs) own
      ∙ ap (λ (ps : List Place). filter (stands w) (taken xs) ++ ps) (none_listed (filter (stands w) own) (reserves w x.number) one free)
      ∙ nothing_more (filter (stands w) (taken xs))
      ∙ rest)

needed_if_reserved : (w past : List Entry) (e : Entry) → reserves w e.number ≡ true → is_needed w past e ≡ true
needed_if_reserved w past e h =
    or_left (is_looked_at w past e) (is_read_with w e w) (either (is_open w e.number) (is_some (waits_for w e.number)) h (by_open w past e) (by_waiting w past e))

places_kept : (w : List Entry) → falls w ≡ true → IsKeptOf w (needed w) → reserved w ≡ reserved (needed w)
places_kept w h k =
    let some : (n : ℕ) × (numbers_fall n w ≡ true) = falls_from_some w h in
    taken_kept w (is_needed w) w (all_found w some.0 some.1) (λ e past at r. needed_if_reserved w past e r)
    ∙ ap (λ (es : List Entry). filter (stands w) (taken es)) (sym (needed_is_part w w))
    ∙ filter_same (stands w) (stands (needed w)) (stands_same w (needed w) k) (taken (needed w))

pub kept_indexes : (w : List Entry) (t u : Table) (r : Remake) → Indexes w t → IsKeptOf w (needed w) → Remakes (needed w) r
    → u ≡ record t { bounds = r.bounds; signals = r.signals } → Indexes (needed w) u
kept_indexes w t u r is k made same =
    subst (λ (x : Table). Indexes (needed w) x) (sym same)
    (record {
      numbers = made.numbers;
      answers = record { each = λ key. is.answers.each key ∙ ap (option_map kept_of) (k.answers.is_newest key) };
      bounds = made.bounds;
      outage = record { each = λ timeout m. is.outage.each timeout m ∙ outage_shown w (needed w) k timeout m };
      places = is.places ∙ places_kept w is.numbers k;
      signals = made.signals;
    })
