-- Moves that are counted down.
use Rattle.std.proofs.Common.{◌≡◌, ◌<◌, ◌≤◌, ◌-◌, ◌∙◌, ℕ, zero, suc, Bool, true, false, cond, List, ◌∷◌, Result, Ok, Err, arith, refl, subst, sym, ap}
use Rattle.std.specs.Prelude.{slice_get}
use Rattle.sd_rules.specs.declared.events.Event.TheVariants as events
use Rattle.sd_rules.specs.Steps.{Daemon}
use Rattle.sd_world.specs.Tasks.{World, Halt, Endless, ◌>>=◌, abandoned, is_bounded, happened, move_at, moves_at, client_moved_at, is_ready_at, next_up, run_on}

pub move_counted : (n : ℕ) (w v : World) (place : ℕ) → 0 < n → move_at w place ≡ Ok v → moves_at (n - 1) v place ≡ moves_at n w place
move_counted zero w v place some h = absurd (omega (arith, some))
move_counted (suc n) w v place some h =
    let e : suc n - 1 ≡ n = omega arith in
    subst (λ (m : ℕ). moves_at m v place ≡ moves_at (suc n) w place) (sym e) (sym (ap (λ (r : Result World Halt). r >>= λ u. moves_at n u place) h))

pub move_stopped : (n : ℕ) (w : World) (place : ℕ) (h : Halt) → 0 < n → move_at w place ≡ Err h → moves_at n w place ≡ Err h
move_stopped zero w place h some stop = absurd (omega (arith, some))
move_stopped (suc n) w place h some stop = ap (λ (r : Result World Halt). r >>= λ u. moves_at n u place) stop

pub run_counted : (n : ℕ) (w v : World) (last : ℕ) → 0 < n → is_ready_at w.daemon.past (slice_get w.clients (next_up w last)) ≡ true
    → client_moved_at w (next_up w last) ≡ Ok v → run_on (n - 1) v (next_up w last) ≡ run_on n w last
run_counted zero w v last some ready h = absurd (omega (arith, some))
run_counted (suc n) w v last some ready h =
    let next : ℕ = next_up w last in
    let e : suc n - 1 ≡ n = omega arith in
    let by : (b : Bool) → b ≡ true → run_on n v next ≡ cond b (client_moved_at w next >>= λ u. run_on n u next) (Ok w) =
    λ b yes. subst (λ (c : Bool). run_on n v next ≡ cond c (client_moved_at w next >>= λ u. run_on n u next) (Ok w)) (sym yes) (sym (ap (λ (r : Result World Halt). r >>= λ u. run_on n u next) h)) in
    subst (λ (m : ℕ). run_on m v next ≡ run_on (suc n) w last) (sym e) (by (is_ready_at w.daemon.past (slice_get w.clients next)) ready)

pub run_rests : (n : ℕ) (w : World) (last : ℕ) → is_ready_at w.daemon.past (slice_get w.clients (next_up w last)) ≡ false → run_on n w last ≡ Ok w
run_rests zero w last rest = ap (λ (b : Bool). cond b (Err (Endless w.printed)) (Ok w)) rest
run_rests (suc n) w last rest =
    ap (λ (b : Bool). cond b (client_moved_at w (next_up w last) >>= λ u. run_on n u (next_up w last)) (Ok w)) rest

pub run_stopped : (n : ℕ) (w : World) (last : ℕ) (h : Halt) → 0 < n → is_ready_at w.daemon.past (slice_get w.clients (next_up w last)) ≡ true
    → client_moved_at w (next_up w last) ≡ Err h → run_on n w last ≡ Err h
run_stopped zero w last h some ready stop = absurd (omega (arith, some))
run_stopped (suc n) w last h some ready stop =
    let next : ℕ = next_up w last in
    ap (λ (b : Bool). cond b (client_moved_at w next >>= λ u. run_on n u next) (Ok w)) ready
    ∙ ap (λ (r : Result World Halt). r >>= λ u. run_on n u next) stop

-- where the bound is used up and no error comes, no client is ready
spent_by : (w : World) (b : Bool) → is_bounded (cond b (Err (Endless w.printed)) (Ok w)) ≡ true → cond b (Err (Endless w.printed)) (Ok w) ≡ Ok w
spent_by w true bounded = cc
spent_by w false bounded = refl

pub run_spent : (n : ℕ) (w : World) (last : ℕ) → n ≤ 0 → is_bounded (run_on n w last) ≡ true → run_on n w last ≡ Ok w
run_spent zero w last none bounded = spent_by w (is_ready_at w.daemon.past (slice_get w.clients (next_up w last))) bounded
run_spent (suc n) w last none bounded = absurd (omega (arith, none))

-- numbers that are abandoned one after the other
pub abandoned_next : (ns rest : List ℕ) (n : ℕ) (left : List ℕ) (d e f : Daemon) (now : ℕ) → left ≡ n ∷ rest → happened d now (events.Abandon n) ≡ Ok e
    → abandoned left d now ≡ abandoned ns f now → abandoned rest e now ≡ abandoned ns f now
abandoned_next ns rest n left d e f now at made told =
    sym (ap (λ (ms : List ℕ). abandoned ms d now) at ∙ ap (λ (r : Result Daemon ℕ). r >>= λ x. abandoned rest x now) made) ∙ told
