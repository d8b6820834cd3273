-- As many places are reserved as the journal counts.
use Rattle.std.proofs.Common.{◌≡◌, ℕ, ◌+◌, Bool, true, false, cond, ◌||◌, List, [], ◌∷◌, filter, length, Some, is_some, refl, sym, ◌∙◌, ap, length-append, add_comm}
use Rattle.std.proofs.lemmas.List.Elements.{filter-append}
use Rattle.sd_rules.specs.declared.keys.Key.{Key}
use Rattle.sd_rules.specs.declared.events.Event.{Event}
use Rattle.sd_rules.specs.declared.events.Event.TheVariants.{Ask, LoginOpen}
use Rattle.sd_rules.specs.declared.replies.Entry.{Entry}
use Rattle.sd_rules.specs.declared.replies.Reply.{Reply}
use Rattle.sd_rules.specs.declared.replies.Reply.TheVariants.{Join, Lead, Refresh, Bind, Cached}
use Rattle.sd_rules.specs.Requests.{is_lead, is_bind, opens_request, opens_attempt, is_open_request, is_open_attempt, joined, waits_for, reserves, reserved_among, reserved_places}
use Rattle.sd_index.specs.declared.places.Place.{Place}
use Rattle.sd_index.specs.declared.places.Place.TheVariants.{Request, Attempt, Ticket}
use Rattle.sd_voids.specs.Entries.{falls, numbers_fall}
use Rattle.sd_index.specs.Places.{ticket_of, place_by, place_of, listed, taken, stands, reserved}
use Rattle.sd_voids.proofs.FallLaws.{falls_from_some}
use Rattle.sd_index.proofs.FoundLaws.{AllFound, all_found, request_opened, attempt_opened, ticket_joined}

-- what leads to a contradiction is not so
pub never : (b : Bool) → (b ≡ true → false ≡ true) → b ≡ false
never true f = sym (f refl)
never false f = refl

lead_joins_none : (r : Reply) → is_lead r ≡ true → is_some (joined r) ≡ true → false ≡ true
lead_joins_none (Lead request) h k = k
lead_joins_none (Refresh number request) h k = k
lead_joins_none _ h k = h

bind_joins_none : (r : Reply) → is_bind r ≡ true → is_some (joined r) ≡ true → false ≡ true
bind_joins_none (Bind attempt) h k = k
bind_joins_none (Cached attempt login) h k = k
bind_joins_none _ h k = h

length_one : (s : Bool) (p : Place) → length (cond s (p ∷ []) []) ≡ cond s 1 0
length_one true p = refl
length_one false p = refl

first_alone : (o a w : Bool) (p : Place) → a ≡ false → w ≡ false → length (cond o (p ∷ []) []) ≡ cond ((o || a) || w) 1 0
first_alone true a w p none nor = refl
first_alone false true w p none nor = cc
first_alone false false true p none nor = cc
first_alone false false false p none nor = refl

second_alone : (o a w : Bool) (p : Place) → o ≡ false → w ≡ false → length (cond a (p ∷ []) []) ≡ cond ((o || a) || w) 1 0
second_alone true a w p none nor = cc
second_alone false true w p none nor = refl
second_alone false false true p none nor = cc
second_alone false false false p none nor = refl

third_alone : (o a w : Bool) (p : Place) → o ≡ false → a ≡ false → length (cond w (p ∷ []) []) ≡ cond ((o || a) || w) 1 0
third_alone true a w p none nor = cc
third_alone false true w p none nor = cc
third_alone false false true p none nor = refl
third_alone false false false p none nor = refl

none_alone : (o a w : Bool) → o ≡ false → a ≡ false → w ≡ false → ◌≡◌ {A = ℕ} 0 (cond ((o || a) || w) 1 0)
none_alone true a w shut nor still = cc
none_alone false true w shut nor still = cc
none_alone false false true shut nor still = cc
none_alone false false false shut nor still = refl

module _ (all : List Entry) (n : ℕ) where
  count_ticket : (r : Reply) → is_open_request all n ≡ false → is_open_attempt all n ≡ false → (is_some (waits_for all n) ≡ true → is_some (joined r) ≡ true)
      → length (filter (stands all) (listed (ticket_of n r))) ≡ cond (reserves all n) 1 0
  count_ticket (Join request ticket) shut nor joins =
      third_alone (is_open_request all n) (is_open_attempt all n) (is_some (waits_for all n)) (Ticket n request) shut nor
  count_ticket _ shut nor joins =
      none_alone (is_open_request all n) (is_open_attempt all n) (is_some (waits_for all n)) shut nor (never (is_some (waits_for all n)) joins)

  count_request : (key : Key) (r : Reply) (b : Bool) → is_lead r ≡ b → (is_open_request all n ≡ true → is_lead r ≡ true) → is_open_attempt all n ≡ false
      → (is_some (waits_for all n) ≡ true → is_some (joined r) ≡ true)
      → length (filter (stands all) (listed (cond b (Some (Request n key)) (ticket_of n r)))) ≡ cond (reserves all n) 1 0
  count_request key r true is opens nor joins =
      first_alone (is_open_request all n) (is_open_attempt all n) (is_some (waits_for all n)) (Request n key) nor
      (never (is_some (waits_for all n)) (λ w. lead_joins_none r is (joins w)))
  count_request key r false is opens nor joins =
      count_ticket r (never (is_open_request all n) (λ o. sym is ∙ opens o)) nor joins

  count_attempt : (r : Reply) (b : Bool) → is_bind r ≡ b → is_open_request all n ≡ false → (is_open_attempt all n ≡ true → is_bind r ≡ true)
      → (is_some (waits_for all n) ≡ true → is_some (joined r) ≡ true)
      → length (filter (stands all) (listed (cond b (Some (Attempt n)) (ticket_of n r)))) ≡ cond (reserves all n) 1 0
  count_attempt r true is shut opens joins =
      second_alone (is_open_request all n) (is_open_attempt all n) (is_some (waits_for all n)) (Attempt n) shut
      (never (is_some (waits_for all n)) (λ w. bind_joins_none r is (joins w)))
  count_attempt r false is shut opens joins =
      count_ticket r shut (never (is_open_attempt all n) (λ o. sym is ∙ opens o)) joins

  pub count_one : (event : Event) (r : Reply) → (is_open_request all n ≡ true → opens_request event r ≡ true) → (is_open_attempt all n ≡ true → opens_attempt event r ≡ true)
      → (is_some (waits_for all n) ≡ true → is_some (joined r) ≡ true) → length (filter (stands all) (listed (place_by n event r))) ≡ cond (reserves all n) 1 0
  count_one (Ask key) r opens begins joins = count_request key r (is_lead r) refl opens (never (is_open_attempt all n) begins) joins
  count_one (LoginOpen user) r opens begins joins = count_attempt r (is_bind r) refl (never (is_open_request all n) opens) begins joins
  count_one _ r opens begins joins = count_ticket r (never (is_open_request all n) opens) (never (is_open_attempt all n) begins) joins

count_among : (all part : List Entry) → AllFound all part → length (filter (stands all) (taken part)) ≡ reserved_among all part
count_among all [] found = refl
count_among all (x ∷ part) found =
    let kept : List Place = filter (stands all) (taken part) in
    let own : List Place = filter (stands all) (listed (place_of x)) in
    ap length (filter-append (stands all) (taken part) (listed (place_of x)))
    ∙ length-append kept own
    ∙ add_comm (length kept) (length own)
    ∙ ap (λ (n : ℕ). n + length kept)
    (count_one all x.number x.event x.reply (request_opened all x x.number found.0) (attempt_opened all x x.number found.0) (ticket_joined all x x.number found.0))
    ∙ ap (λ (n : ℕ). cond (reserves all x.number) 1 0 + n) (count_among all part found.1)

pub count_reserved : (past : List Entry) → falls past ≡ true → length (reserved past) ≡ reserved_places past
count_reserved past h =
    let some : (n : ℕ) × (numbers_fall n past ≡ true) = falls_from_some past h in
    count_among past past (all_found past some.0 some.1)
