-- What a search makes of a client, by its cases.
use Rattle.std.proofs.Common.{◌≡◌, ℕ, ◌+◌, List, [], ◌∷◌, Option, Some, None, refl, sym, subst, inl, inr, ◌⊎◌}
use Rattle.std.specs.Prelude.{IfSome}
use Rattle.sd_base.specs.declared.Why.{Why}
use Rattle.sd_base.specs.Causes.{Rose}
use Rattle.sd_dial.specs.declared.searched.Searched.{Searched}
use Rattle.sd_dial.specs.declared.searched.Searched.TheVariants as searches
use Rattle.sd_client.specs.Deciding.{Decision}
use Rattle.sd_client.specs.Talk.{Talk, IsSearched, IsUnsearched}
use Rattle.sd_fetch.specs.Exchanging.{Telling, Exchange, Went}

zero_unsent : (s : Searched) (rose : Type 0) → IsUnsearched s rose → s ≡ searches.Code 0 → ⊥
zero_unsent (searches.Entries found) rose h e = h
zero_unsent (searches.Code code) rose h e = h
zero_unsent (searches.Failed why) rose h e = absurd cc
zero_unsent searches.Memory rose h e = absurd cc

zero_sent : (s : Searched) (decision : Decision) (at : ℕ) (rose : Type 0) → IsSearched s decision at rose → s ≡ searches.Code 0 → ⊥
zero_sent (searches.Entries found) decision at rose h e = absurd cc
zero_sent (searches.Code code) decision at rose h e = h.0 (let same : code ≡ 0 = cc in same)
zero_sent (searches.Failed why) decision at rose h e = absurd cc
zero_sent searches.Memory decision at rose h e = absurd cc

zero_again : (s : Searched) (why : Why) → s ≡ searches.Failed why → s ≡ searches.Code 0 → ⊥
zero_again s why e f = absurd cc

-- a search comes to no code 0
pub no_zero : {L : Type 0} (t : Telling L) (old : Talk L) (x : Exchange) (new : Talk L) → Went t old x new → x.searched ≡ searches.Code 0 → ⊥
no_zero t old x new w e = by_state old.failed refl
  where
    by_state : (failed : Option Why) → old.failed ≡ failed → ⊥
    by_state (Some why) f = zero_again x.searched why (subst (λ (o : Option Why). IfSome o (λ why. (x.searched ≡ searches.Failed why) × (new ≡ old))) f w.again).0 e
    by_state None f = elim w.used [
      | inl same ↦ zero_unsent x.searched _ (w.no_reply f same) e
      | inr more ↦ zero_sent x.searched _ new.at _ (w.reply more) e
    ]
