-- Forgetting changes nothing, for every run.
use Rattle.std.proofs.Common.{◌≡◌, ℕ, ◌+◌, Bool, true, false, List, [], ◌∷◌, refl, sym, ap, subst, ◌∙◌}
use Rattle.std.specs.Prelude.{not, ◌&&◌}
use Rattle.sd_rules.specs.declared.events.Event.{Event}
use Rattle.sd_rules.specs.declared.replies.Entry.{Entry}
use Rattle.sd_rules.specs.declared.replies.Given.{Given}
use Rattle.sd_rules.specs.Steps.{Daemon, entry_made, after, given, is_full, is_steppable}
use Rattle.sd_rules.specs.Needed.{needed}
use Rattle.sd_rules.specs.Reaching.{Move, Append, Forget, after_moves, can_make}
use Rattle.sd_forgetting.specs.Orderly.{IsOrderly}
use Rattle.sd_forgetting.specs.Kept.{IsKeptOf, Keeps}
use Rattle.sd_forgetting.specs.Runs.{without_forgets, moves_given, moves_have_room, ForgetsNothing}
use Rattle.sd_forgetting.proofs.Tests.{not_true, both, first_holds, second_holds}
use Rattle.sd_forgetting.proofs.Forgets.{needed_kept, needed_orderly}
use Rattle.sd_forgetting.proofs.Daemons.{over, entry_over, given_over, after_over, steppable_over, full_over, kept_over}
use Rattle.sd_forgetting.proofs.Orders.{orderly_after}
use Rattle.sd_forgetting.proofs.Whole.{kept_itself, kept_through}

-- two runs side by side: what the one keeps of the other shows all that it does, and both are orderly
pub record Beside (d : Daemon) (p : List Entry) : Type 0 where
  pub kept : IsKeptOf d.past p
  pub whole : IsOrderly d.next d.past
  pub part : IsOrderly d.next p

pub beside_itself : (d : Daemon) → IsOrderly d.next d.past → Beside d d.past
beside_itself d o = record { kept = kept_itself d.past; whole = o; part = o }

pub beside_after : (d : Daemon) (p : List Entry) (now : ℕ) (event : Event) → is_steppable d.past event ≡ true → Beside d p →
    Beside (after d now event) (entry_made d now event ∷ p)
beside_after d p now event h b = record {
  kept = kept_over d p b.kept now event h b.whole b.part;
  whole = orderly_after d now event h b.whole;
  part =
      let h' : is_steppable p event ≡ true = sym (steppable_over d p b.kept event) ∙ h in
      let e = entry_over d p b.kept now event in
      subst (λ (x : Entry). IsOrderly (x.number + 1) (x ∷ p)) (sym e) (orderly_after (over d p) now event h' b.part);
}

pub beside_forget : (d : Daemon) (p : List Entry) → Beside d p → Beside d (needed p)
beside_forget d p b = record {
  kept = kept_through d.past p (needed p) b.kept (needed_kept d.next p b.part);
  whole = b.whole;
  part = needed_orderly d.next p b.part;
}

room_and : (a b c d : Bool) → (b ≡ true → a ≡ true) → (c ≡ true → d ≡ true) → (not a && c) ≡ true → (not b && d) ≡ true
room_and true b c d f g h = absurd (not_true h)
room_and false true c d f g h = absurd (not_true (f refl))
room_and false false c d f g h = g h

-- a run over the part of a journal against the steps alone over the whole
pub runs : (d : Daemon) (p : List Entry) (moves : List Move) → Beside d p → can_make d (without_forgets moves) ≡ true →
    (moves_given (over d p) moves ≡ moves_given d (without_forgets moves)) × (can_make (over d p) moves ≡ true)
    × (moves_have_room d (without_forgets moves) ≡ true → moves_have_room (over d p) moves ≡ true)
    × ((q : List Entry) × ((after_moves (over d p) moves ≡ over (after_moves d (without_forgets moves)) q) × Beside (after_moves d (without_forgets moves)) q))
runs d p [] b h = (refl, refl, (λ r. refl), (p, (refl, b)))
runs d p (Append t event ∷ moves) b h =
    let can = first_holds (is_steppable d.past event) (can_make (after d t event) (without_forgets moves)) h in
    let rest = runs (after d t event) (entry_made d t event ∷ p) moves (beside_after d p t event can b)
    (second_holds (is_steppable d.past event) (can_make (after d t event) (without_forgets moves)) h) in
    let same = after_over d p b.kept t event in (
      ap (λ (x : Daemon). given (over d p) t event ∷ moves_given x moves) same
          ∙ (ap (λ (g : Given). g ∷ moves_given (over (after d t event) (entry_made d t event ∷ p)) moves) (sym (given_over d p b.kept t event))
          ∙ ap (λ (l : List Given). given d t event ∷ l) rest.0),
      both (is_steppable p event) (can_make (after (over d p) t event) moves) (sym (steppable_over d p b.kept event) ∙ can) (ap (λ (x : Daemon). can_make x moves) same ∙ rest.1),
      room_and (is_full d event) (is_full (over d p) event) (moves_have_room (after d t event) (without_forgets moves)) (moves_have_room (after (over d p) t event) moves)
          (full_over d p b.kept event) (λ r. ap (λ (x : Daemon). moves_have_room x moves) same ∙ rest.2 r),
      (rest.3.0, (ap (λ (x : Daemon). after_moves x moves) same ∙ rest.3.1.0, rest.3.1.1)),
    )
runs d p (Forget ∷ moves) b h = runs d (needed p) moves (beside_forget d p b) h

-- one daemon over the entries that another keeps of it
pub keeps_over : (d f : Daemon) (q : List Entry) → f ≡ over d q → IsKeptOf d.past q → Keeps d f
keeps_over d f q is k = subst (Keeps d) (sym is) (record { settings = refl; next = refl; floor = refl; past = k })

pub forgets_nothing : (d : Daemon) (moves : List Move) → IsOrderly d.next d.past → can_make d (without_forgets moves) ≡ true → ForgetsNothing d moves
forgets_nothing d moves o h =
    let r = runs d d.past moves (beside_itself d o) h in
    record {
      given = r.0;
      can = r.1;
      room = r.2;
      keeps = keeps_over (after_moves d (without_forgets moves)) (after_moves d moves) r.3.0 r.3.1.0 r.3.1.1.kept;
      full = λ event is. full_over (after_moves d (without_forgets moves)) r.3.0 r.3.1.1.kept event (sym (ap (λ (x : Daemon). is_full x event) r.3.1.0) ∙ is);
    }
