-- What the clients of a scenario have in the journal stays there, and each step adds what it gives them.
use Rattle.std.proofs.Common.{◌≡◌, ◌∙◌, ◌<◌, ◌+◌, ℕ, zero, suc, Bool, true, false, ◌||◌, ◌==◌, ◌++◌, cond, List, [], ◌∷◌, Option, Some, None, refl, ap, sym, subst, arith}
use Rattle.std.specs.Prelude.{slice_set, get_or, length, max}
use Rattle.std.proofs.lemmas.Bool.Decides.{nat_tests}
use Rattle.sd_rules.specs.declared.keys.Key.{Key}
use Rattle.sd_rules.specs.declared.events.Event.{Event}
use Rattle.sd_rules.specs.declared.replies.Entry.{Entry}
use Rattle.sd_rules.specs.declared.scripts.Led.{Led}
use Rattle.sd_rules.specs.Past.{key_of, key_asked}
use Rattle.sd_rules.specs.Requests.{closes, ends_waiting, has_opened_attempt, has_opened_request, is_open, is_open_attempt, is_open_request, joined, unclosed, waits_for}
use Rattle.sd_rules.specs.Steps.{Daemon, after, entry_made, next_number, number_after}
use Rattle.sd_forgetting.specs.Kept.{Keeps}
use Rattle.sd_forgetting.specs.Parts.{entry_at}
use Rattle.sd_core.proofs.NamesLaws.{named_on}
use Rattle.sd_world.specs.Clients.{Client, begun}
use Rattle.sd_world.specs.Courses.{Course}
use Rattle.sd_world.specs.Past.{IsAsked, AreAsked, IsKnown, EachKnown, AreKnown, KeepsKeys, names}

-- ---- a journal that grows

-- an entry of another number leaves open what was open, and what is known of it
still_opened : (c s : Bool) (x : Entry) (y : Option Entry) → s ≡ false
    → (has_opened_request (cond c None (cond s (Some x) y)) || has_opened_attempt (cond c None (cond s (Some x) y))) ≡ true → (has_opened_request y || has_opened_attempt y) ≡ true
still_opened true s x y other h = cc
still_opened false true x y other h = cc
still_opened false false x y other h = h

still_waits : (c s : Bool) (x w : Option ℕ) (r : ℕ) → s ≡ false → cond c None (cond s x w) ≡ Some r → w ≡ Some r
still_waits true s x w r other h = cc
still_waits false true x w r other h = cc
still_waits false false x w r other h = h

other_key : (s : Bool) (x y : Option Key) (k : Key) → s ≡ false → y ≡ Some k → cond s x y ≡ Some k
other_key true x y k other h = cc
other_key false x y k other h = h

not_same : (m n : ℕ) → n < m → (m == n) ≡ false
not_same m n h = grind (arith, nat_tests, h)

grown_above : (m n : ℕ) → n < m → n < max (m + 1) (m + 1)
grown_above m n h = omega (arith, h)

step_asked : (d : Daemon) (now : ℕ) (event : Event) (n : ℕ) (key : Key) → IsAsked d n key → IsAsked (after d now event) n key
step_asked d now event n key asked =
    let e : Entry = entry_made d now event in
    let other : (e.number == n) ≡ false = not_same (next_number d) n asked.below in
    record {
      below = grown_above (next_number d) n asked.below;
      request = λ is. other_key (e.number == n) (key_asked event) (key_of d.past n) key other
          (asked.request (still_opened (closes event e.reply n) (e.number == n) e (unclosed d.past n) other is));
      ticket = λ r is. other_key (e.number == n) (key_asked event) (key_of d.past n) key other
          (asked.ticket r (still_waits (ends_waiting event e.reply n) (e.number == n) (joined e.reply) (waits_for d.past n) r other is));
    }

step_keeps : (d : Daemon) (now : ℕ) (event : Event) → KeepsKeys d (after d now event)
step_keeps d now event = record { keeps = step_asked d now event }

pub made_keeps : (d e : Daemon) (now : ℕ) (event : Event) → e ≡ after d now event → KeepsKeys d e
made_keeps d e now event is = subst (KeepsKeys d) (sym is) (step_keeps d now event)

pub keeps_itself : (d : Daemon) → KeepsKeys d d
keeps_itself d = record { keeps = λ n k h. h }

pub keeps_through : (p q r : Daemon) → KeepsKeys p q → KeepsKeys q r → KeepsKeys p r
keeps_through p q r f g = record { keeps = λ n k h. g.keeps n k (f.keeps n k h) }

-- ---- a journal of which a part is kept

abbrev asked_in : Option Entry → Option Key
asked_in None = None
asked_in (Some e) = key_asked e.event

key_beside : (s : Bool) (e : Entry) (o : Option Key) (rest : Option Entry) → o ≡ asked_in rest → cond s (key_asked e.event) o ≡ asked_in (cond s (Some e) rest)
key_beside true e o rest h = refl
key_beside false e o rest h = h

key_by_entry : (past : List Entry) (n : ℕ) → key_of past n ≡ asked_in (entry_at past n)
key_by_entry [] n = refl
key_by_entry (e ∷ past) n = key_beside (e.number == n) e (key_of past n) (entry_at past n) (key_by_entry past n)

same_key_at : (whole kept : List Entry) (n : ℕ) (key : Key) → entry_at whole n ≡ entry_at kept n → key_of whole n ≡ Some key → key_of kept n ≡ Some key
same_key_at whole kept n key same h = key_by_entry kept n ∙ (ap asked_in (sym same) ∙ (sym (key_by_entry whole n) ∙ h))

either_same : (a b c d : Bool) → a ≡ c → b ≡ d → (c || d) ≡ true → (a || b) ≡ true
either_same a b c d f g h = cc

same_next : (d f : Daemon) → Keeps d f → next_number f ≡ next_number d
same_next d f k = ap (λ (n : ℕ). number_after n f.past) (sym k.next) ∙ sym (k.past.ends.number d.next)

kept_asked : (d f : Daemon) (n : ℕ) (key : Key) → Keeps d f → IsAsked d n key → IsAsked f n key
kept_asked d f n key k asked = record {
  below = subst (λ (m : ℕ). n < m) (sym (same_next d f k)) asked.below;
  request = λ is.
      let open_before : is_open d.past n ≡ true = either_same (is_open_request d.past n) (is_open_attempt d.past n) (is_open_request f.past n) (is_open_attempt f.past n)
      (k.past.opens.requests n) (k.past.opens.attempts n) is in
      same_key_at d.past f.past n key (k.past.opens.leads n open_before) (asked.request open_before);
  ticket = λ r is.
      let waited : waits_for d.past n ≡ Some r = k.past.tickets.waiting n ∙ is in
      same_key_at d.past f.past n key (k.past.tickets.joins n r waited) (asked.ticket r waited);
}

pub forget_keeps : (d f : Daemon) → Keeps d f → KeepsKeys d f
forget_keeps d f k = record { keeps = λ n key h. kept_asked d f n key k h }

-- ---- what is asked for stays asked for

pub asked_on : (p q : Daemon) (led : List Led) → KeepsKeys p q → AreAsked p led → AreAsked q led
asked_on p q led keeps h = named_on (IsAsked p) (IsAsked q) keeps.keeps led h

pub known_on : (p q : Daemon) (c : Course) → KeepsKeys p q → IsKnown p c → IsKnown q c
known_on p q c keeps h = record { asked = asked_on p q (names c) keeps h.asked }

each_on : (p q : Daemon) (cs : List Client) → KeepsKeys p q → EachKnown p cs → EachKnown q cs
each_on p q [] keeps h = tt
each_on p q (c ∷ cs) keeps h = (known_on p q c.task keeps h.0, each_on p q cs keeps h.1)

each_set : (p : Daemon) (cs : List Client) (place : ℕ) (c : Client) → EachKnown p cs → IsKnown p c.task → EachKnown p (slice_set cs place c)
each_set p [] place c h k = tt
each_set p (x ∷ cs) zero c h k = (k, h.1)
each_set p (x ∷ cs) (suc place) c h k = (h.0, each_set p cs place c h.1 k)

each_at : (p : Daemon) (cs : List Client) (place : ℕ) (d : Client) → place < length cs → EachKnown p cs → IsKnown p (get_or cs place d).task
each_at p [] place d h k = absurd (omega (arith, h))
each_at p (x ∷ cs) zero d h k = k.0
each_at p (x ∷ cs) (suc place) d h k = each_at p cs place d (grind (arith, h)) k.1

each_more : (p : Daemon) (cs : List Client) (c : Client) → EachKnown p cs → IsKnown p c.task → EachKnown p (cs ++ c ∷ [])
each_more p [] c h k = (k, tt)
each_more p (x ∷ cs) c h k = (h.0, each_more p cs c h.1 k)

pub none_known : (past : Daemon) → AreKnown past []
none_known past = record { each = tt }

pub all_known_on : (p q : Daemon) (cs : List Client) → KeepsKeys p q → AreKnown p cs → AreKnown q cs
all_known_on p q cs keeps h = record { each = each_on p q cs keeps h.each }

-- one client in its place, the others as before
pub known_with : (p q : Daemon) (cs : List Client) (place : ℕ) (c : Client) → KeepsKeys p q → AreKnown p cs → IsKnown q c.task → AreKnown q (slice_set cs place c)
known_with p q cs place c keeps h k = record { each = each_set q cs place c (each_on p q cs keeps h.each) k }

pub known_at : (p : Daemon) (cs : List Client) (place : ℕ) (d : Client) → place < length cs → AreKnown p cs → IsKnown p (get_or cs place d).task
known_at p cs place d h k = each_at p cs place d h k.each

pub known_more : (p : Daemon) (cs : List Client) (c : Client) → AreKnown p cs → IsKnown p c.task → AreKnown p (cs ++ c ∷ [])
known_more p cs c h k = record { each = each_more p cs c h.each k }

-- a client that leaves keeps its task
pub known_left : (p q : Daemon) (cs : List Client) (place : ℕ) (c d : Client) → KeepsKeys p q → AreKnown p cs → place < length cs → c.task ≡ (get_or cs place d).task
    → AreKnown q (slice_set cs place c)
known_left p q cs place c d keeps h within same =
    known_with p q cs place c keeps h (known_on p q c.task keeps (subst (λ (t : Course). IsKnown p t) (sym same) (known_at p cs place d within h)))

-- a client of a task that names nothing
pub known_task : (p : Daemon) (cs : List Client) (task : Course) → AreKnown p cs → names task ≡ [] → AreKnown p (cs ++ begun task ∷ [])
known_task p cs task h nothing = known_more p cs (begun task) h (record { asked = subst (λ (led : List Led). AreAsked p led) (sym nothing) tt })
