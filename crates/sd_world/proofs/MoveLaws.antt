-- What a move comes to: an entry of the journal, or the end of its client.
use Rattle.std.proofs.Common.{◌≡◌, ◌∙◌, ◌⊎◌, inl, inr, ℕ, zero, suc, Bool, true, false, ◌&&◌, ◌||◌, ◌+◌, ◌≤◌, cond, not, slice_get, slice_set, length, List, [], ◌∷◌, Option, Some, None, Result, Ok, Err, refl, ap, sym, subst, arith}
use Rattle.sd_rules.specs.declared.events.Event.{Event}
use Rattle.sd_rules.specs.declared.events.Event.TheVariants as events
use Rattle.sd_rules.specs.declared.tasks.Need.{Need}
use Rattle.sd_rules.specs.declared.tasks.Need.TheVariants as needs
use Rattle.sd_rules.specs.Scripts.{awaits_reply, is_saying}
use Rattle.sd_rules.specs.Steps.{after, full_count, given, is_full}
use Rattle.sd_world.specs.Clients.{Client, about, asked, is_end, is_settled, need_of, replied}
use Rattle.sd_world.specs.Tasks.{Site, World, Act, Halt, Full, Endless, MakesEvents, ◌>>=◌, act, act_of, acted_by, asked_act, at_text, client_moved, client_moved_at, client_moved_by, is_ready, is_ready_at, is_settled_at, moved, moves_at, replied_act, settled_act, settled_by, with_act}
use Rattle.sd_world.proofs.RestLaws.{Whole}
use Rattle.sd_world.proofs.RoomLaws.{AreNumbered, numbered_after, places_after, places_of}
use Rattle.sd_world.proofs.SettledLaws.{twice_settled, over_twice}

-- what was done is not ended by the bound on the moves, and this is said of the world where it came to its end
abbrev pub Bounded : {A : Type 0} → Result A Halt → (A → Type 0) → Type 0
Bounded (Ok x) P = P x
Bounded (Err (Full n printed)) P = Unit {0}
Bounded (Err (Endless printed)) P = ⊥

pub bounded_then : {A B : Type 0} → (r : Result A Halt) (f : A → Result B Halt) (P : A → Type 0) (Q : B → Type 0) → Bounded r P → ((x : A) → P x → Bounded (f x) Q) → Bounded (r >>= f) Q
bounded_then (Ok x) f P Q h g = g x h
bounded_then (Err (Full n printed)) f P Q h g = tt
bounded_then (Err (Endless printed)) f P Q h g = h

pub bounded_as : {A : Type 0} → (r : Result A Halt) (P Q : A → Type 0) → Bounded r P → ((x : A) → P x → Q x) → Bounded r Q
bounded_as (Ok x) P Q h g = g x h
bounded_as (Err (Full n printed)) P Q h g = tt
bounded_as (Err (Endless printed)) P Q h g = h

pub whole_if : {A : Type 0} → (r : Result A Halt) (P Q : A → Type 0) → Bounded r P → ((x : A) → P x → Q x) → Whole r Q
whole_if (Ok x) P Q h g = g x h
whole_if (Err e) P Q h g = tt

clash_at : (b : Bool) → b ≡ true → b ≡ false → ⊥
clash_at b f g = cc

-- ---- one move of a client

-- What a move by a need makes: an entry where the need makes an event, and else none. Where the last is told, the client ends.
pub record IsMove (n : Need) (a b : Act) : Type 0 where
  pub numbered : AreNumbered a.daemon → AreNumbered b.daemon
  pub places : AreNumbered a.daemon → places_of b.daemon ≤ places_of a.daemon
  pub settings : b.daemon.settings ≡ a.daemon.settings
  pub settled : is_settled b.client ≡ true
  pub one : awaits_reply n ≡ true → length b.daemon.past ≡ length a.daemon.past + 1
  pub none : awaits_reply n ≡ false → length b.daemon.past ≡ length a.daemon.past
  pub last : is_saying n ≡ true → is_end (need_of (asked a.client)) ≡ true → b.client.is_over ≡ true

abbrev by_event : Site → ℕ → Act → Event → Bool → Result Act Halt
by_event s number a event full =
    (at_text a.printed (cond full (Err (full_count a.daemon)) (Ok (after a.daemon s.moment event, given a.daemon s.moment event))) >>= λ r. Ok (replied_act (asked_act a) event r))
    >>= λ b. Ok (settled_act s number b)

event_moved : (s : Site) (number : ℕ) (a : Act) (event : Event) (n : Need) (full : Bool) → is_full a.daemon event ≡ full → awaits_reply n ≡ true → is_saying n ≡ false
    → Bounded (by_event s number a event full) (IsMove n a)
event_moved s number a event n true is awaits says = tt
event_moved s number a event n false is awaits says = record {
  numbered = numbered_after a.daemon s.moment event;
  places = places_after a.daemon s.moment event is;
  settings = refl;
  settled = twice_settled s number (replied (asked a.client) (about event) (given a.daemon s.moment event)) a.printed;
  one = λ _. omega arith;
  none = λ h. absurd (clash_at (awaits_reply n) awaits h);
  last = λ h _. absurd (clash_at (is_saying n) h says);
}

abbrev without_event : Site → ℕ → Act → Need → Act
without_event s number a n = settled_act s number (act a.daemon (settled_by s number (asked a.client, a.printed) n).0 (settled_by s number (asked a.client, a.printed) n).1)

settled_moved : (s : Site) (number : ℕ) (a : Act) (n : Need) → awaits_reply n ≡ false
    → (is_saying n ≡ true → is_end (need_of (asked a.client)) ≡ true → (without_event s number a n).client.is_over ≡ true) → IsMove n a (without_event s number a n)
settled_moved s number a n awaits last = record {
  numbered = λ h. h;
  places = λ _. omega arith;
  settings = refl;
  settled = twice_settled s number (settled_by s number (asked a.client, a.printed) n).0 (settled_by s number (asked a.client, a.printed) n).1;
  one = λ h. absurd (clash_at (awaits_reply n) h awaits);
  none = λ _. refl;
  last = last;
}

or_right : (a b : Bool) → b ≡ true → (a || b) ≡ true
or_right true b h = refl
or_right false b h = h

moved_by : (s : Site) (number : ℕ) (a : Act) (n : Need) → Bounded (acted_by s number (asked_act a) n >>= λ b. Ok (settled_act s number b)) (IsMove n a)
moved_by s number a (needs.Step event) = event_moved s number a event (needs.Step event) (is_full a.daemon event) refl refl refl
moved_by s number a (needs.Await ticket) = event_moved s number a (events.Collect ticket) (needs.Await ticket) (is_full a.daemon (events.Collect ticket)) refl refl refl
moved_by s number a (needs.Fetch server key) = settled_moved s number a (needs.Fetch server key) refl (λ h. let clash : ⊥ = cc in absurd clash)
moved_by s number a (needs.Bind server dn password) = settled_moved s number a (needs.Bind server dn password) refl (λ h. let clash : ⊥ = cc in absurd clash)
moved_by s number a (needs.Say said) =
    settled_moved s number a (needs.Say said) refl
    (λ _ ends. over_twice s number (asked a.client) (settled_by s number (asked a.client, a.printed) (needs.Say said)).1 (or_right (asked a.client).is_over (is_end (need_of (asked a.client))) ends))
moved_by s number a needs.End = settled_moved s number a needs.End refl (λ h. let clash : ⊥ = cc in absurd clash)

pub moved_bounded : (s : Site) (number : ℕ) (a : Act) → Bounded (moved s number a) (IsMove (need_of a.client) a)
moved_bounded s number a = moved_by s number a (need_of a.client)

-- ---- so many moves of the client in a place

get_set : (cs : List Client) (place : ℕ) (x c : Client) → slice_get cs place ≡ Some x → slice_get (slice_set cs place c) place ≡ Some c
get_set [] place x c h = cc
get_set (y ∷ cs) zero x c h = refl
get_set (y ∷ cs) (suc place) x c h = get_set cs place x c h

-- one entry more, and the client is between two moves
pub record IsOneMore (place : ℕ) (w v : World) : Type 0 where
  pub one : length v.daemon.past ≡ length w.daemon.past + 1
  pub settled : is_settled_at (slice_get v.clients place) ≡ true

pub ready_is_open : (o w : Bool) → (not o && w) ≡ true → o ≡ false
ready_is_open true w h = cc
ready_is_open false w h = refl

awaits_by : (o n : Bool) → o ≡ false → (o || n) ≡ true → n ≡ true
awaits_by true n f h = cc
awaits_by false n f h = h

one_more_by : (w : World) (place : ℕ) (c : Client) (a : Act) → slice_get w.clients place ≡ Some c → is_ready w.daemon.past c ≡ true → is_settled c ≡ true
    → IsMove (need_of c) (act_of w c) a → IsOneMore place w (with_act w place a)
one_more_by w place c a at ready settled m = record {
  one = m.one (awaits_by c.is_over (awaits_reply (need_of c)) (ready_is_open c.is_over _ ready) settled);
  settled = subst (λ (o : Option Client). is_settled_at o ≡ true) (sym (get_set w.clients place c a.client at)) m.settled;
}

client_one_more : (w : World) (place : ℕ) (o : Option Client) → slice_get w.clients place ≡ o → is_ready_at w.daemon.past o ≡ true → is_settled_at o ≡ true
    → Whole (client_moved_by w place o) (IsOneMore place w)
client_one_more w place None at ready settled = let clash : ⊥ = cc in absurd clash
client_one_more w place (Some c) at ready settled =
    whole_if (client_moved w place c) (λ v. (a : Act) × ((v ≡ with_act w place a) × IsMove (need_of c) (act_of w c) a)) (IsOneMore place w)
    (bounded_then (moved w.site (place + 1) (act_of w c)) (λ a. Ok (with_act w place a)) (IsMove (need_of c) (act_of w c)) _ (moved_bounded w.site (place + 1) (act_of w c)) (λ a m. (a, (refl, m))))
    (λ v h. subst (IsOneMore place w) (sym h.1.0) (one_more_by w place c h.0 at ready settled h.1.1))

-- a client that is not ready stays as it is
stays_at : (w : World) (place : ℕ) (b : Bool) → is_ready_at w.daemon.past (slice_get w.clients place) ≡ b → b ≡ false → cond b (client_moved_at w place) (Ok w) ≡ Ok w
stays_at w place true is h = cc
stays_at w place false is h = refl

still : (count : ℕ) (w : World) (place : ℕ) → is_ready_at w.daemon.past (slice_get w.clients place) ≡ false → moves_at count w place ≡ Ok w
still zero w place h = refl
still (suc count) w place h =
    ap (λ (r : Result World Halt). r >>= λ v. moves_at count v place) (stays_at w place (is_ready_at w.daemon.past (slice_get w.clients place)) refl h) ∙ still count w place h

no_more : (count place : ℕ) (w : World) → is_settled_at (slice_get w.clients place) ≡ true → is_ready_at w.daemon.past (slice_get w.clients place) ≡ false → MakesEvents count place w w
no_more count place w settled h = record { most = omega arith; all = inr h; settled = settled }

more_made : (m n k count : ℕ) (P : Type 0) → n ≡ m + 1 → (k ≡ n + count) ⊎ P → (k ≡ m + suc count) ⊎ P
more_made m n k count P one (inl h) = inl (omega (arith, one, h))
more_made m n k count P one (inr h) = inr h

most_made : (m n k count : ℕ) → n ≡ m + 1 → k ≤ n + count → k ≤ m + suc count
most_made m n k count one h = omega (arith, one, h)

after_one : (count place : ℕ) (w v u : World) → IsOneMore place w v → MakesEvents count place v u → MakesEvents (suc count) place w u
after_one count place w v u one made = record {
  most = most_made (length w.daemon.past) (length v.daemon.past) (length u.daemon.past) count one.one made.most;
  all = more_made (length w.daemon.past) (length v.daemon.past) (length u.daemon.past) count _ one.one made.all;
  settled = made.settled;
}

pub whole_with : {A B : Type 0} → (r : Result A Halt) (f : A → Result B Halt) (P : A → Type 0) (Q : B → Type 0) → Whole r P → ((x : A) → P x → Whole (f x) Q) → Whole (r >>= f) Q
whole_with (Ok x) f P Q h g = g x h
whole_with (Err e) f P Q h g = tt

whole_map : {A : Type 0} → (r : Result A Halt) (P Q : A → Type 0) → Whole r P → ((x : A) → P x → Q x) → Whole r Q
whole_map (Ok x) P Q h g = g x h
whole_map (Err e) P Q h g = tt

made_by : (count place : ℕ) (w : World) (b : Bool) → is_ready_at w.daemon.past (slice_get w.clients place) ≡ b → is_settled_at (slice_get w.clients place) ≡ true
    → ((v : World) → is_settled_at (slice_get v.clients place) ≡ true → Whole (moves_at count v place) (MakesEvents count place v))
    → Whole (cond b (client_moved_at w place) (Ok w) >>= λ v. moves_at count v place) (MakesEvents (suc count) place w)
made_by count place w true is settled later =
    whole_with (client_moved_at w place) (λ v. moves_at count v place) (IsOneMore place w) (MakesEvents (suc count) place w)
    (client_one_more w place (slice_get w.clients place) refl is settled)
    (λ v one. whole_map (moves_at count v place) (MakesEvents count place v) (MakesEvents (suc count) place w) (later v one.settled) (λ u made. after_one count place w v u one made))
made_by count place w false is settled later =
    subst (λ (r : Result World Halt). Whole r (MakesEvents (suc count) place w)) (sym (still count w place is)) (no_more (suc count) place w settled is)

pub moves_made : (count place : ℕ) (w : World) → is_settled_at (slice_get w.clients place) ≡ true → Whole (moves_at count w place) (MakesEvents count place w)
moves_made zero place w settled = record { most = omega arith; all = inl (omega arith); settled = settled }
moves_made (suc count) place w settled =
    made_by count place w (is_ready_at w.daemon.past (slice_get w.clients place)) refl settled (λ v h. moves_made count place v h)
