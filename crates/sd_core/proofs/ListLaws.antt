-- One step of a list, and then the others.
use Rattle.std.proofs.Common.{◌≡◌, ℕ, Bool, true, false, ◌&&◌, List, [], ◌∷◌, ◌++◌, refl, sym, subst, ap, ◌∙◌, append_assoc}
use Rattle.std.specs.Prelude.{not}
use Rattle.sd_rules.specs.declared.events.Event.{Event}
use Rattle.sd_rules.specs.declared.replies.Given.{Given}
use Rattle.sd_rules.specs.declared.replies.Refused.{Refused}
use Rattle.sd_rules.specs.declared.replies.StepFault.TheVariants.{JournalFull}
use Rattle.sd_rules.specs.Steps.{Daemon, after, given, is_steppable, is_full, full_count}
use Rattle.sd_core.specs.declared.lists.Step.{Step}
use Rattle.sd_core.specs.Lists.{are_steppable, have_room, after_all, all_given, LeadsTo, StopsAt}
use Rattle.sd_core.proofs.KindLaws.{second_holds}

-- the first steps of a list were made, each with room, and these are left
pub record IsFront (d e : Daemon) (steps left : List Step) (gave : List Given) : Type 0 where
  pub first : List Step
  pub whole : first ++ left ≡ steps
  pub room : have_room d first ≡ true
  pub reached : after_all d first ≡ e
  pub answers : all_given d first ≡ gave

pub front_at_first : (d : Daemon) (steps : List Step) → IsFront d d steps steps []
front_at_first d steps = record { first = []; whole = refl; room = refl; reached = refl; answers = refl }

pub front_leads : (d e : Daemon) (steps left : List Step) (gave : List Given) → IsFront d e steps left gave → LeadsTo d e steps
front_leads d e steps left gave front = record {
  first = front.first;
  others = left;
  whole = front.whole;
  room = front.room;
  reached = front.reached;
}

append_nothing : (steps : List Step) → steps ++ [] ≡ steps
append_nothing [] = refl
append_nothing (s ∷ steps) = ap (λ (ss : List Step). s ∷ ss) (append_nothing steps)

-- where none is left, all have room
pub front_is_all : (d e : Daemon) (steps left : List Step) (gave : List Given) → left ≡ [] → IsFront d e steps left gave → have_room d steps ≡ true
front_is_all d e steps left gave none front =
    let all : front.first ≡ steps = sym (append_nothing front.first) ∙ (ap (λ (ss : List Step). front.first ++ ss) (sym none) ∙ front.whole) in
    subst (λ (ss : List Step). have_room d ss ≡ true) all front.room

after_one_more : (d : Daemon) (first : List Step) (s : Step) → after_all d (first ++ s ∷ []) ≡ after (after_all d first) s.now s.event
after_one_more d [] s = refl
after_one_more d (f ∷ first) s = after_one_more (after d f.now f.event) first s

given_one_more : (d : Daemon) (first : List Step) (s : Step) → all_given d (first ++ s ∷ []) ≡ all_given d first ++ given (after_all d first) s.now s.event ∷ []
given_one_more d [] s = refl
given_one_more d (f ∷ first) s =
    ap (λ (gs : List Given). given d f.now f.event ∷ gs) (given_one_more (after d f.now f.event) first s)

not_and : (a : Bool) → a ≡ false → not a && true ≡ true
not_and true h = cc
not_and false h = refl

with_rest : (a b c : Bool) → a && b ≡ true → (b ≡ true → c ≡ true) → a && c ≡ true
with_rest true b c h f = f h
with_rest false b c h f = h

room_one_more : (d : Daemon) (first : List Step) (s : Step) → have_room d first ≡ true → is_full (after_all d first) s.event ≡ false → have_room d (first ++ s ∷ []) ≡ true
room_one_more d [] s h full = not_and (is_full d s.event) full
room_one_more d (f ∷ first) s h full =
    with_rest (not (is_full d f.event)) (have_room (after d f.now f.event) first) (have_room (after d f.now f.event) (first ++ s ∷ [])) h
    (λ rest. room_one_more (after d f.now f.event) first s rest full)

-- a step that is refused is handed back with what was given before it
pub stops_here : (d0 d e : Daemon) (steps left rest : List Step) (s : Step) (gave : List Given) (refused : Refused) → left ≡ s ∷ rest → e ≡ d →
    refused.event ≡ s.event → ((n : ℕ) → refused.fault ≡ JournalFull n → (is_full d s.event ≡ true) × (n ≡ full_count d)) →
    IsFront d0 d steps left gave → StopsAt d0 e steps gave refused
stops_here d0 d e steps left rest s gave refused cut same event full front = record {
  first = front.first;
  step = s;
  others = rest;
  whole = ap (λ (ss : List Step). front.first ++ ss) (sym cut) ∙ front.whole;
  room = front.room;
  reached = front.reached ∙ sym same;
  answers = front.answers;
  event = event;
  full = subst (λ (x : Daemon). (n : ℕ) → refused.fault ≡ JournalFull n → (is_full x s.event ≡ true) × (n ≡ full_count x)) (sym same) full;
}

module _ (d e : Daemon) (s : Step) (left rest : List Step) (event : Event) (cut : left ≡ s ∷ rest) (same : event ≡ s.event) (made : e ≡ after d s.now event) where
  stepped : e ≡ after d s.now s.event
  stepped = made ∙ ap (after d s.now) same

  pub next_steppable : are_steppable d left ≡ true → are_steppable e rest ≡ true
  next_steppable h =
      let all : are_steppable d (s ∷ rest) ≡ true = subst (λ (ss : List Step). are_steppable d ss ≡ true) cut h in
      subst (λ (x : Daemon). are_steppable x rest ≡ true) (sym stepped)
      (second_holds (is_steppable d.past s.event) (are_steppable (after d s.now s.event) rest) all)

  pub next_after : (x : Daemon) → after_all d left ≡ x → after_all e rest ≡ x
  next_after x h =
      let all : after_all d (s ∷ rest) ≡ x = subst (λ (ss : List Step). after_all d ss ≡ x) cut h in
      ap (λ (y : Daemon). after_all y rest) stepped ∙ all

  pub next_given : (g : Given) (front x : List Given) → g ≡ given d s.now event → front ++ all_given d left ≡ x → (front ++ g ∷ []) ++ all_given e rest ≡ x
  next_given g front x is h =
      let all : front ++ all_given d (s ∷ rest) ≡ x = subst (λ (ss : List Step). front ++ all_given d ss ≡ x) cut h in
      let gave : g ≡ given d s.now s.event = is ∙ ap (given d s.now) same in
      append_assoc front (g ∷ []) (all_given e rest)
      ∙ ap (λ (y : Daemon). front ++ (g ∷ all_given y rest)) stepped
      ∙ ap (λ (y : Given). front ++ (y ∷ all_given (after d s.now s.event) rest)) gave
      ∙ all

  pub next_front : (d0 : Daemon) (steps : List Step) (g : Given) (gave : List Given) → g ≡ given d s.now event → is_full d event ≡ false →
      IsFront d0 d steps left gave → IsFront d0 e steps rest (gave ++ g ∷ [])
  next_front d0 steps g gave is has_room front =
      let fits : is_full d s.event ≡ false = sym (ap (is_full d) same) ∙ has_room in
      let last : given d s.now s.event ≡ g = sym (is ∙ ap (given d s.now) same) in
      record {
        first = front.first ++ s ∷ [];
        whole = append_assoc front.first (s ∷ []) rest ∙ (ap (λ (ss : List Step). front.first ++ ss) (sym cut) ∙ front.whole);
        room = room_one_more d0 front.first s front.room (ap (λ (x : Daemon). is_full x s.event) front.reached ∙ fits);
        reached = after_one_more d0 front.first s ∙ (ap (λ (x : Daemon). after x s.now s.event) front.reached ∙ sym stepped);
        answers =
            given_one_more d0 front.first s
            ∙ (ap (λ (x : Daemon). all_given d0 front.first ++ given x s.now s.event ∷ []) front.reached
            ∙ (ap (λ (gs : List Given). gs ++ given d s.now s.event ∷ []) front.answers
            ∙ ap (λ (y : Given). gave ++ y ∷ []) last));
      }
