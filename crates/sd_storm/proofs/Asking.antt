-- The users that are asked for, request by request.
use Rattle.std.proofs.Common.{arith, ◌≡◌, ◌<◌, ◌+◌, ◌-◌, ℕ, zero, suc, List, [], ◌∷◌, ◌++◌, refl, ap, sym, ◌∙◌, append_assoc}
use Rattle.sd_storm.specs.Asked.{asked_behind, next_state, user_in}

-- where requests are left, the next of them is the first of those
asked_more : (state n : ℕ) → 0 < n → asked_behind state n ≡ user_in (next_state state) ∷ asked_behind (next_state state) (n - 1)
asked_more state zero some = absurd (omega (arith, some))
asked_more state (suc n) some = ap (λ m. user_in (next_state state) ∷ asked_behind (next_state state) m) (omega arith)

-- what was asked and what is left to ask, before a request and behind it
pub asked_step : (done : List ℕ) (state n k : ℕ) → k < n
    → (done ++ user_in (next_state state) ∷ []) ++ asked_behind (next_state state) (n - (k + 1)) ≡ done ++ asked_behind state (n - k)
asked_step done state n k some =
    let user = user_in (next_state state) in
    let left : n - k - 1 ≡ n - (k + 1) = omega arith in
    append_assoc done (user ∷ []) (asked_behind (next_state state) (n - (k + 1)))
    ∙ ap (λ rest. done ++ rest) (ap (λ m. user ∷ asked_behind (next_state state) m) (sym left) ∙ sym (asked_more state (n - k) (omega (arith, some))))
