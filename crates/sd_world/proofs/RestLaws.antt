-- Tasks that run do so until no client is ready.
use Rattle.std.proofs.Common.{◌≡◌, ◌∙◌, ℕ, zero, suc, Bool, true, false, ◌+◌, cond, slice_get, List, [], ◌∷◌, Result, Ok, Err, refl, sym, subst, arith}
use Rattle.sd_rules.specs.declared.replies.Entry.{Entry}
use Rattle.sd_world.specs.Clients.{Client}
use Rattle.sd_world.specs.Tasks.{World, Halt, Endless, NoneIsReady, ◌>>=◌, client_moved_at, first_ready, is_ready, is_ready_at, next_up, run_on}

-- where the first that is ready is not, none is
none_after : (past : List Entry) (c : Client) (cs : List Client) (b : Bool) → is_ready past c ≡ b
    → (is_ready_at past (slice_get cs (first_ready past cs)) ≡ false → (k : ℕ) → is_ready_at past (slice_get cs k) ≡ false)
    → is_ready_at past (slice_get (c ∷ cs) (cond b 0 (first_ready past cs + 1))) ≡ false → (k : ℕ) → is_ready_at past (slice_get (c ∷ cs) k) ≡ false
none_after past c cs true is later rests k = let clash : false ≡ true = sym rests ∙ is in let never : ⊥ = cc in absurd never
none_after past c cs false is later rests zero = is
none_after past c cs false is later rests (suc k) =
    let next : first_ready past cs + 1 ≡ suc (first_ready past cs) = omega arith in
    later (subst (λ (n : ℕ). is_ready_at past (slice_get (c ∷ cs) n) ≡ false) next rests) k

none_ready : (past : List Entry) (cs : List Client) → is_ready_at past (slice_get cs (first_ready past cs)) ≡ false → (k : ℕ) → is_ready_at past (slice_get cs k) ≡ false
none_ready past [] rests k = refl
none_ready past (c ∷ cs) rests k = none_after past c cs (is_ready past c) refl (none_ready past cs) rests k

by_last : (past : List Entry) (cs : List Client) (last : ℕ) (b : Bool) → is_ready_at past (slice_get cs last) ≡ b
    → is_ready_at past (slice_get cs (cond b last (first_ready past cs))) ≡ false → (k : ℕ) → is_ready_at past (slice_get cs k) ≡ false
by_last past cs last true is rests k = let clash : false ≡ true = sym rests ∙ is in let never : ⊥ = cc in absurd never
by_last past cs last false is rests k = none_ready past cs rests k

-- where the client that would move next is not ready, none is
pub rests_at : (w : World) (last : ℕ) → is_ready_at w.daemon.past (slice_get w.clients (next_up w last)) ≡ false → NoneIsReady w
rests_at w last rests = by_last w.daemon.past w.clients last (is_ready_at w.daemon.past (slice_get w.clients last)) refl rests

-- ---- runs

-- what is said of the world where what was done came to its end
abbrev pub Whole : {A : Type 0} → Result A Halt → (A → Type 0) → Type 0
Whole (Ok x) P = P x
Whole (Err h) P = Unit {0}

pub whole_then : {A B : Type 0} → (r : Result A Halt) (f : A → Result B Halt) (P : B → Type 0) → ((x : A) → Whole (f x) P) → Whole (r >>= f) P
whole_then (Ok x) f P h = h x
whole_then (Err e) f P h = tt

pub whole_is : {A : Type 0} → (r : Result A Halt) (P : A → Type 0) (x : A) → Whole r P → r ≡ Ok x → P x
whole_is r P x h is = let known : Whole (Ok x) P = subst (λ (s : Result _ Halt). Whole s P) is h in known

spent : (w : World) (last : ℕ) (b : Bool) → is_ready_at w.daemon.past (slice_get w.clients (next_up w last)) ≡ b → Whole (cond b (Err (Endless w.printed)) (Ok w)) NoneIsReady
spent w last true is = tt
spent w last false is = rests_at w last is

goes_on : (n : ℕ) (w : World) (last : ℕ) (b : Bool) → is_ready_at w.daemon.past (slice_get w.clients (next_up w last)) ≡ b
    → ((v : World) → Whole (run_on n v (next_up w last)) NoneIsReady)
    → Whole (cond b (client_moved_at w (next_up w last) >>= λ v. run_on n v (next_up w last)) (Ok w)) NoneIsReady
goes_on n w last true is later = whole_then (client_moved_at w (next_up w last)) (λ v. run_on n v (next_up w last)) NoneIsReady later
goes_on n w last false is later = rests_at w last is

pub run_rested : (n : ℕ) (w : World) (last : ℕ) → Whole (run_on n w last) NoneIsReady
run_rested zero w last = spent w last (is_ready_at w.daemon.past (slice_get w.clients (next_up w last))) refl
run_rested (suc n) w last =
    goes_on n w last (is_ready_at w.daemon.past (slice_get w.clients (next_up w last))) refl (λ v. run_rested n v (next_up w last))
