-- The request that is open for a key is the last of its requests among the places.
use Rattle.std.proofs.Common.{◌≡◌, ℕ, Bool, true, false, cond, ◌&&◌, List, [], ◌∷◌, ◌++◌, filter, reverse, Option, None, Some, is_some, refl, sym, ◌∙◌, ap}
use Rattle.std.proofs.lemmas.List.{reverse-append}
use Rattle.std.proofs.lemmas.List.Elements.{filter-append}
use Rattle.sd_rules.specs.declared.keys.Key.{Key}
use Rattle.sd_rules.specs.declared.events.Event.{Event}
use Rattle.sd_rules.specs.declared.events.Event.TheVariants.{Ask, LoginOpen}
use Rattle.sd_rules.specs.declared.replies.Entry.{Entry}
use Rattle.sd_rules.specs.declared.replies.Reply.{Reply}
use Rattle.sd_rules.specs.declared.replies.Reply.TheVariants.{Join}
use Rattle.sd_rules.specs.Keys.{same_key}
use Rattle.sd_rules.specs.Past.{or_else}
use Rattle.sd_rules.specs.Requests.{is_lead, is_bind, opens_request, is_open_request, is_open_attempt, waits_for, asks_for, open_among, open_for}
use Rattle.sd_index.specs.declared.places.Place.{Place}
use Rattle.sd_index.specs.declared.places.Place.TheVariants.{Request, Attempt, Ticket}
use Rattle.sd_voids.specs.Entries.{falls, numbers_fall}
use Rattle.sd_index.specs.Places.{ticket_of, place_by, place_of, listed, taken, stands, reserved, running_at, running_in}
use Rattle.sd_voids.proofs.FallLaws.{falls_from_some}
use Rattle.sd_index.proofs.FoundLaws.{AllFound, all_found, request_opened}
use Rattle.sd_index.proofs.CountLaws.{never}

or_else_or : (a b c : Option ℕ) → or_else a (or_else b c) ≡ or_else (or_else a b) c
or_else_or (Some n) b c = refl
or_else_or None b c = refl

running_in-append : (k : Key) (ps qs : List Place) → running_in (ps ++ qs) k ≡ or_else (running_in ps k) (running_in qs k)
running_in-append k [] qs = refl
running_in-append k (p ∷ ps) qs =
    ap (λ (o : Option ℕ). or_else (running_at k p) o) (running_in-append k ps qs)
    ∙ or_else_or (running_at k p) (running_in ps k) (running_in qs k)

one_runs : (n : ℕ) (same : Bool) → or_else (cond same (Some n) None) None ≡ cond (same && true) (Some n) None
one_runs n true = refl
one_runs n false = refl

none_runs : (n : ℕ) (same : Bool) → None ≡ cond (same && false) (Some n) None
none_runs n true = refl
none_runs n false = refl

first_runs : (b : Bool) (n : ℕ) (o : Option ℕ) → or_else (cond b (Some n) None) o ≡ cond b (Some n) o
first_runs true n o = refl
first_runs false n o = refl

module _ (all : List Entry) (n : ℕ) (k : Key) where
  no_request : (s : Bool) (p : Place) → running_at k p ≡ None → running_in (reverse (cond s (p ∷ []) [])) k ≡ None
  no_request true p h = ap (λ (o : Option ℕ). or_else o None) h
  no_request false p h = refl

  ticket_runs : (r : Reply) → running_in (reverse (filter (stands all) (listed (ticket_of n r)))) k ≡ None
  ticket_runs (Join request ticket) = no_request (is_some (waits_for all n)) (Ticket n request) refl
  ticket_runs _ = refl

  own_runs : (key : Key) (s : Bool) → running_in (reverse (cond s (Request n key ∷ []) [])) k ≡ cond (same_key key k && s) (Some n) None
  own_runs key true = one_runs n (same_key key k)
  own_runs key false = none_runs n (same_key key k)

  request_runs : (key : Key) (r : Reply) (b : Bool) → is_lead r ≡ b → (is_open_request all n ≡ true → is_lead r ≡ true)
      → running_in (reverse (filter (stands all) (listed (cond b (Some (Request n key)) (ticket_of n r))))) k
      ≡ cond (same_key key k && is_open_request all n) (Some n) None
  request_runs key r true is opens = own_runs key (is_open_request all n)
  request_runs key r false is opens =
      let shut : is_open_request all n ≡ false = never (is_open_request all n) (λ o. sym is ∙ opens o) in
      ticket_runs r
      ∙ none_runs n (same_key key k)
      ∙ ap (λ (s : Bool). cond (same_key key k && s) (Some n) None) (sym shut)

  attempt_runs : (r : Reply) (b : Bool) → running_in (reverse (filter (stands all) (listed (cond b (Some (Attempt n)) (ticket_of n r))))) k ≡ None
  attempt_runs r true = no_request (is_open_attempt all n) (Attempt n) refl
  attempt_runs r false = ticket_runs r

  one_place_runs : (event : Event) (r : Reply) → (is_open_request all n ≡ true → opens_request event r ≡ true)
      → running_in (reverse (filter (stands all) (listed (place_by n event r)))) k ≡ cond (asks_for event k && is_open_request all n) (Some n) None
  one_place_runs (Ask key) r opens = request_runs key r (is_lead r) refl opens
  one_place_runs (LoginOpen user) r opens = attempt_runs r (is_bind r)
  one_place_runs _ r opens = ticket_runs r

runs_among : (k : Key) (all part : List Entry) → AllFound all part → running_in (reverse (filter (stands all) (taken part))) k ≡ open_among all part k
runs_among k all [] found = refl
runs_among k all (x ∷ part) found =
    let kept : List Place = filter (stands all) (taken part) in
    let own : List Place = filter (stands all) (listed (place_of x)) in
    let asked : Bool = asks_for x.event k && is_open_request all x.number in
    ap (λ (ps : List Place). running_in (reverse ps) k) (filter-append (stands all) (taken part) (listed (place_of x)))
    ∙ ap (λ (ps : List Place). running_in ps k) (reverse-append kept own)
    ∙ running_in-append k (reverse own) (reverse kept)
    ∙ ap (λ (o : Option ℕ). or_else o (running_in (reverse kept) k)) (one_place_runs all x.number k x.event x.reply (request_opened all x x.number found.0))
    ∙ first_runs asked x.number (running_in (reverse kept) k)
    ∙ ap (λ (o : Option ℕ). cond asked (Some x.number) o) (runs_among k all part found.1)

pub running_is_open : (past : List Entry) (k : Key) → falls past ≡ true → running_in (reverse (reserved past)) k ≡ open_for past k
running_is_open past k h =
    let some : (n : ℕ) × (numbers_fall n past ≡ true) = falls_from_some past h in
    runs_among k past past (all_found past some.0 some.1)
