-- A step and a forget go on from a part of a grown journal to a part of a grown one.
use Rattle.std.proofs.Common.{◌≡◌, ℕ, true, List, ◌∷◌, sym, ap, subst, ◌∙◌}
use Rattle.std.specs.Prelude.{Result, Ok, Err, OnOk, OnErr}
use Rattle.sd_rules.specs.declared.events.Event.{Event}
use Rattle.sd_rules.specs.declared.replies.Entry.{Entry}
use Rattle.sd_rules.specs.declared.replies.Given.{Given}
use Rattle.sd_rules.specs.declared.replies.Refused.{Refused}
use Rattle.sd_rules.specs.declared.settings.Settings.{Settings}
use Rattle.sd_rules.specs.Needed.{needed}
use Rattle.sd_rules.specs.Reaching.{after_forget}
use Rattle.sd_rules.specs.Steps.{Daemon, entry_made, after, is_steppable}
use Rattle.sd_forgetting.specs.Kept.{Keeps}
use Rattle.sd_forgetting.specs.Orderly.{IsOrderly}
use Rattle.sd_forgetting.proofs.Daemons.{over, after_over, kept_over, steppable_over}
use Rattle.sd_forgetting.proofs.Forgets.{needed_kept}
use Rattle.sd_forgetting.proofs.Orders.{orderly_after}
use Rattle.sd_forgetting.proofs.Runs.{keeps_over}
use Rattle.sd_forgetting.proofs.Whole.{kept_through}
use Rattle.sd_core.specs.Growth.{IsGrownPart}
use Rattle.sd_core.specs.Laws.{IsKept}
use Rattle.sd_core.proofs.GrowthLaws.{grown_after}

abbrev daemon_by : Settings → ℕ → ℕ → List Entry → Daemon
daemon_by s next floor past = record { settings = s; next = next; floor = floor; past = past }

-- a daemon that keeps of another is the other over its own entries
same_but_past : (whole d : Daemon) → Keeps whole d → over whole d.past ≡ d
same_but_past whole d k =
    ap (λ (s : Settings). daemon_by s whole.next whole.floor d.past) k.settings
    ∙ (ap (λ (n : ℕ). daemon_by d.settings n whole.floor d.past) k.next
    ∙ ap (λ (f : ℕ). daemon_by d.settings d.next f d.past) k.floor)

part_after : (opened d : Daemon) (now : ℕ) (event : Event) → is_steppable d.past event ≡ true → IsOrderly d.next d.past → IsGrownPart opened d → IsGrownPart opened (after d now event)
part_after opened d now event h orderly part =
    let w = part.whole in
    let steppable = steppable_over w d.past part.keeps.past event ∙ h in
    let below : IsOrderly w.next d.past = subst (λ (n : ℕ). IsOrderly n d.past) (sym part.keeps.next) orderly in
    let same = ap (λ (x : Daemon). after x now event) (sym (same_but_past w d part.keeps)) ∙ after_over w d.past part.keeps.past now event in
    record {
      whole = after w now event;
      grown = grown_after opened w now event part.grown;
      orderly = orderly_after w now event steppable part.orderly;
      keeps = keeps_over (after w now event) (after d now event) (entry_made w now event ∷ d.past) same
          (kept_over w d.past part.keeps.past now event steppable part.orderly below);
    }

part_forgotten : (opened d : Daemon) → IsOrderly d.next d.past → IsGrownPart opened d → IsGrownPart opened (after_forget d)
part_forgotten opened d orderly part = record {
  whole = part.whole;
  grown = part.grown;
  orderly = part.orderly;
  keeps = record {
    settings = part.keeps.settings;
    next = part.keeps.next;
    floor = part.keeps.floor;
    past = kept_through part.whole.past d.past (needed d.past) part.keeps.past (needed_kept d.next d.past orderly);
  };
}

-- whether the step was made or refused
pub part_either : (opened d e : Daemon) (now : ℕ) (event : Event) (r : Result Given Refused) → OnOk r (e ≡ after d now event) → OnErr r (e ≡ d) → is_steppable d.past event ≡ true → IsKept d →
    IsGrownPart opened d → IsGrownPart opened e
part_either opened d e now event (Ok g) made same h kept part = subst (IsGrownPart opened) (sym made) (part_after opened d now event h kept.orderly part)
part_either opened d e now event (Err refused) made same h kept part = subst (IsGrownPart opened) (sym same) part

-- whether entries were forgotten or not
pub part_if_forgotten : {X M : Type 0} (opened d e : Daemon) (r : Result X M) → OnOk r (e ≡ after_forget d) → OnErr r (e ≡ d) → IsKept d → IsGrownPart opened d → IsGrownPart opened e
part_if_forgotten opened d e (Ok x) made same kept part = subst (IsGrownPart opened) (sym made) (part_forgotten opened d kept.orderly part)
part_if_forgotten opened d e (Err m) made same kept part = subst (IsGrownPart opened) (sym same) part
