-- The parts of a core after an entry was put behind the others, or was not, and after a forget.
use Rattle.std.proofs.Common.{◌≡◌, ℕ, ◌+◌, ◌-◌, ◌*◌, ◌^◌, ◌≤◌, Bool, ◌||◌, List, [], ◌∷◌, reverse, min, true, false, cond, arith, refl, sym, ap, subst, ◌∙◌}
use Rattle.std.specs.Prelude.{Result, Ok, Err, IfOk, Option, Some, is_some, length, sum_by, ◌<◌, ◌&&◌, nat_lt}
use Rattle.std.proofs.lemmas.Bool.Decides.{nat_tests}
use Rattle.sd_rules.specs.declared.events.Event.{Event}
use Rattle.sd_rules.specs.declared.events.Event.TheVariants.{Stop}
use Rattle.sd_rules.specs.declared.events.Row.{Row}
use Rattle.sd_rules.specs.declared.replies.Entry.{Entry}
use Rattle.sd_rules.specs.declared.settings.Settings.{Settings}
use Rattle.sd_rules.specs.KeptRows.{opened, rows_of}
use Rattle.sd_rules.specs.Needed as needing
use Rattle.sd_rules.specs.Needed.{needed, forgotten, is_needed, last_where, needed_among, forgotten_among}
use Rattle.sd_rules.specs.Steps.{Daemon, recorded}
use Rattle.sd_rules.specs.TextBytes.{bytes_of_event, bytes_of_row, text_bytes}
use Rattle.sd_keeping.specs.Counts.{HasCounts}
use Rattle.sd_voids.specs.Entries.{numbers_fall, falls}
use Rattle.sd_past.specs.Kept.{Keeps}
use Rattle.sd_forgetting.specs.Kept.{has_stop}
use Rattle.sd_forgetting.proofs.Forgets.{needed_kept}
use Rattle.sd_core.specs.Held.{daemon_of, IsHeld}
use Rattle.sd_core.specs.Laws.{IsKept}
use Rattle.sd_core.specs.Looks.{has_stopped, is_stop}
use Rattle.sd_core.specs.Sound.{falls_from, IsSound}
use Rattle.sd_core.proofs.ForgetLaws.{sound_forgotten, kept_forgotten}
use Rattle.sd_core.proofs.KindLaws.{first_holds, second_holds}
use Rattle.sd_core.proofs.RowBytes.{rows_few, rows_fit}

-- numbers that fall, as an index has it
pub numbers_same : (n : ℕ) (past : List Entry) → falls_from n past ≡ numbers_fall n past
numbers_same n [] = refl
numbers_same n (e ∷ past) = ap (λ (b : Bool). nat_lt e.number n && b) (numbers_same e.number past)

pub falls_if_sound : (next : ℕ) (past : List Entry) → falls_from next past ≡ true → falls past ≡ true
falls_if_sound next [] h = refl
falls_if_sound next (e ∷ past) h = sym (numbers_same e.number past) ∙ second_holds (nat_lt e.number next) (falls_from e.number past) h

-- the wrong guesses that count are numbers of 64 bits
pub counts_if_sound : (d : Daemon) → IsSound d → HasCounts d.past
counts_if_sound d sound = record { fits = λ user. omega (arith, sound.wrongs.fewer user, sound.room) }

-- as many entries as there are numbers below the next
pub entries_below : (n : ℕ) (past : List Entry) → falls_from n past ≡ true → length past ≤ n
entries_below n [] h = omega arith
entries_below n (e ∷ past) h =
    let lt : e.number < n = grind (arith, nat_tests, first_holds (nat_lt e.number n) (falls_from e.number past) h) in
    let rest = entries_below e.number past (second_holds (nat_lt e.number n) (falls_from e.number past) h) in
    omega (arith, lt, rest)

pub falls_below : (d : Daemon) (e : Entry) → IsSound (recorded d e) → numbers_fall e.number d.past ≡ true
falls_below d e sound =
    let falling : falls_from (e.number + 1) (e ∷ d.past) ≡ true = sound.numbers in
    sym (numbers_same e.number d.past) ∙ second_holds (nat_lt e.number (e.number + 1)) (falls_from e.number d.past) falling

counted_by : (texts n bytes all : ℕ) → texts ≡ all → n ≡ min bytes (2 ^ 64 - 1) → bytes + all ≤ 512 * 1024 * 1024 → texts + n ≡ bytes + all
counted_by texts n bytes all is by fits = omega (arith, is, by, fits)

all_counted : (n all : ℕ) → n ≡ min all (2 ^ 64 - 1) → all ≤ 512 * 1024 * 1024 → n ≡ all
all_counted n all is fits = omega (arith, is, fits)

pub held_after : (s : Settings) (next floor texts n : ℕ) (stopped stops : Bool) (past new : List Entry) (e : Entry) → IsHeld s next floor texts stopped past →
    new ≡ e ∷ past → n ≡ min (bytes_of_event e.event) (2 ^ 64 - 1) → stops ≡ (is_stop e.event || stopped) →
    IsSound (recorded (daemon_of s next floor past) e) → IsKept (recorded (daemon_of s next floor past) e) →
    IsHeld s (e.number + 1) floor (texts + n) stops new
held_after s next floor texts n stopped stops past new e held grown bytes says sound kept =
    let counted : texts + n ≡ text_bytes (e ∷ past) =
    counted_by texts n (bytes_of_event e.event) (text_bytes past) held.counted bytes sound.texts in
    let whole : IsHeld s (e.number + 1) floor (texts + n) stops (e ∷ past) =
    record { counted = counted; told = says ∙ ap (λ (b : Bool). is_stop e.event || b) held.told; sound = sound; kept = kept } in
    subst (λ (es : List Entry). IsHeld s (e.number + 1) floor (texts + n) stops es) (sym grown) whole

pub held_still : (s : Settings) (next floor texts : ℕ) (stopped : Bool) (past new : List Entry) → IsHeld s next floor texts stopped past → new ≡ past →
    IsHeld s next floor texts stopped new
held_still s next floor texts stopped past new held is = subst (λ (es : List Entry). IsHeld s next floor texts stopped es) (sym is) held

-- the parts of a core that rows open
pub held_at_first : (s : Settings) (rows : List Row) (next floor texts : ℕ) (stopped : Bool) (entries past : List Entry) → daemon_of s next floor (reverse entries) ≡ opened s rows →
    past ≡ reverse entries → texts ≡ min (text_bytes (reverse entries)) (2 ^ 64 - 1) → stopped ≡ has_stopped (reverse entries) → IsSound (opened s rows) → IsKept (opened s rows) →
    IsHeld s next floor texts stopped past
held_at_first s rows next floor texts stopped entries past is made bytes says sound kept =
    let here : IsSound (daemon_of s next floor (reverse entries)) = subst IsSound (sym is) sound in
    let whole : IsHeld s next floor texts stopped (reverse entries) = record {
      counted = all_counted texts (text_bytes (reverse entries)) bytes here.texts;
      told = says;
      sound = here;
      kept = subst IsKept (sym is) kept;
    } in
    subst (λ (es : List Entry). IsHeld s next floor texts stopped es) (sym made) whole

pub next_at_first : (s : Settings) (rows : List Row) (next floor : ℕ) (past : List Entry) → daemon_of s next floor past ≡ opened s rows → next ≤ 2 ^ 64 - 1 →
    (opened s rows).next ≤ 2 ^ 64 - 1
next_at_first s rows next floor past is h = subst (λ (d : Daemon). d.next ≤ 2 ^ 64 - 1) is h

-- the rows that are kept of its parts
pub rows_kept : {M : Type 0} (r : Result (List Row) M) (s : Settings) (next floor : ℕ) (past : List Entry) (d : Daemon) → IfOk r (Keeps next floor past) →
    daemon_of s next floor past ≡ d → IfOk r (λ rs. rs ≡ rows_of d)
rows_kept (Ok rs) s next floor past d h same = h s ∙ ap rows_of same
rows_kept (Err m) s next floor past d h same = tt

pub kept_few : {M : Type 0} (r : Result (List Row) M) (d : Daemon) → IfOk r (λ rs. rs ≡ rows_of d) → IsSound d → IfOk r (λ rs. length rs < 2 ^ 32)
kept_few (Ok rs) d h sound = rows_few d rs h sound
kept_few (Err m) d h sound = tt

pub kept_fit : {M : Type 0} (r : Result (List Row) M) (d : Daemon) → IfOk r (λ rs. rs ≡ rows_of d) → IsSound d → IfOk r (λ rs. sum_by bytes_of_row rs ≤ 512 * 1024 * 1024)
kept_fit (Ok rs) d h sound = rows_fit d rs h sound
kept_fit (Err m) d h sound = tt

-- what is kept and what is handed back hold together what the whole holds
module _ (all : List Entry) where
  parted : (b : Bool) (e : Entry) (kept back : List Entry) (n : ℕ) → text_bytes kept + text_bytes back ≡ n
      → text_bytes (cond b (e ∷ kept) kept) + text_bytes (cond b back (e ∷ back)) ≡ bytes_of_event e.event + n
  parted true e kept back n h = omega (arith, h)
  parted false e kept back n h = omega (arith, h)

  texts_parted : (past : List Entry) → text_bytes (needed_among all past) + text_bytes (forgotten_among all past) ≡ text_bytes past
  texts_parted [] = refl
  texts_parted (e ∷ past) = parted (is_needed all past e) e (needed_among all past) (forgotten_among all past) (text_bytes past) (texts_parted past)

texts_left : (past : List Entry) (texts back n : ℕ) → texts ≡ text_bytes past → text_bytes past ≤ 512 * 1024 * 1024 → back ≡ min (text_bytes (forgotten past)) (2 ^ 64 - 1) → n ≡ texts - back
    → n ≡ text_bytes (needed past)
texts_left past texts back n counted fits bytes less =
    let parts : text_bytes (needed past) + text_bytes (forgotten past) ≡ text_bytes past = texts_parted past past in
    omega (arith, counted, fits, bytes, less, parts)

-- a word to end is kept
stopped_by : (b : Bool) (n : ℕ) (last : Option ℕ) (rest : Bool) → is_some last ≡ rest → is_some (cond b (Some n) last) ≡ (b || rest)
stopped_by true n last rest h = refl
stopped_by false n last rest h = h

ends_is : (event : Event) → needing.is_stop event ≡ is_stop event
ends_is Stop = refl
ends_is _ = refl

stopped_is : (past : List Entry) → has_stop past ≡ has_stopped past
stopped_is [] = refl
stopped_is (e ∷ past) =
    stopped_by (needing.is_stop e.event) e.number (last_where (λ (x : Entry). needing.is_stop x.event) past) (has_stopped past) (stopped_is past)
    ∙ ap (λ (b : Bool). b || has_stopped past) (ends_is e.event)

stops_same : (past kept : List Entry) → has_stop past ≡ has_stop kept → has_stopped past ≡ has_stopped kept
stops_same past kept same = sym (stopped_is past) ∙ same ∙ stopped_is kept

-- the parts of a core after a forget
pub held_forgotten : (s : Settings) (next floor texts back n : ℕ) (stopped : Bool) (past new : List Entry) → IsHeld s next floor texts stopped past → new ≡ needed past →
    back ≡ min (text_bytes (forgotten past)) (2 ^ 64 - 1) → n ≡ texts - back → IsHeld s next floor n stopped new
held_forgotten s next floor texts back n stopped past new held is bytes less =
    let d : Daemon = daemon_of s next floor past in
    let here : IsSound (daemon_of s next floor new) = subst (λ (es : List Entry). IsSound (daemon_of s next floor es)) (sym is) (sound_forgotten d held.kept held.sound) in
    record {
      counted = texts_left past texts back n held.counted held.sound.texts bytes less ∙ ap text_bytes (sym is);
      told = held.told ∙ stops_same past (needed past) (needed_kept next past held.kept.orderly).ends.stopped ∙ ap has_stopped (sym is);
      sound = here;
      kept = subst (λ (es : List Entry). IsKept (daemon_of s next floor es)) (sym is) (kept_forgotten d held.kept);
    }
