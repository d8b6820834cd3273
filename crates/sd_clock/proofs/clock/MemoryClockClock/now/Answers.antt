use Rattle.std.proofs.Common.{◌≡◌, ◌∙◌, ℕ, suc, ◌+◌, ◌-◌, ◌^◌, Bool, true, false, nat_lt, cond, List, [], ◌∷◌, ◌++◌, Some, None, arith, refl, ap, sym, subst, rules}
use Rattle.std.specs.Prelude.{min}
use Rattle.std.proofs.lemmas.Bool.Decides.{nat_tests}
use Rattle.sd_clock.specs.Readings.{FollowsOn, Moments, readings_of, readings_before, reading_at}
use Rattle.sd_clock.proofs.clock.MemoryClockClock.now.Goals as goal

goes_on : (moments : List ℕ) (calls next moment : ℕ) (told tells : Bool) → (tells ≡ true → told ≡ true) → (tells ≡ true → next ≡ suc calls) → moment ≡ reading_at moments calls
    → FollowsOn (cond told (Some (readings_before moments calls)) None) moment (cond tells (Some (readings_before moments next)) None)
goes_on moments calls next moment told false f g m = tt
goes_on moments calls next moment true true f g m =
    ap (readings_before moments) (g refl) ∙ ap (λ (n : ℕ). readings_before moments calls ++ n ∷ []) (sym m)
goes_on moments calls next moment false true f g m = let e = f refl in cc

earlier : (calls next : ℕ) → next ≡ min (calls + 1) (2 ^ 64 - 1) → nat_lt next (2 ^ 64 - 1) ≡ true → nat_lt calls (2 ^ 64 - 1) ≡ true
earlier calls next e h = grind (arith, nat_tests, e, h)

counted : (calls next : ℕ) → next ≡ min (calls + 1) (2 ^ 64 - 1) → nat_lt next (2 ^ 64 - 1) ≡ true → next ≡ suc calls
counted calls next e h = grind (arith, nat_tests, e, h)

follows : (c : Moments) (next moment : ℕ) → next ≡ min (c.calls + 1) (2 ^ 64 - 1) → moment ≡ reading_at c.moments c.calls
    → FollowsOn (readings_of c) moment (readings_of (record { moments = c.moments; calls = next }))
follows c next moment e m =
    goes_on c.moments c.calls next moment (nat_lt c.calls (2 ^ 64 - 1)) (nat_lt next (2 ^ 64 - 1)) (earlier c.calls next e) (counted c.calls next e) m

pub returns-clause-follows : goal.returns-clause-follows
returns-clause-follows c =
    subst (λ (m : Moments). FollowsOn (readings_of m) c.moment_at-moment.result (readings_of (record { moments = c.self.inside.moments.items; calls = c.saturating_add-self-inside.result })))
    c.self.view_is
    (follows (record { moments = c.self.inside.moments.items; calls = c.self.inside.calls }) c.saturating_add-self-inside.result c.moment_at-moment.result
    (search rules) (search rules))
