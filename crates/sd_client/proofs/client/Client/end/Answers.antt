use Rattle.std.proofs.Common.{◌≡◌, Bool, true, false, refl, inl, inr, ◌⊎◌}
use Rattle.sd_client.proofs.client.Client.end.Goals as goal

-- one or the other, by a test
either : (b : Bool) (P Q : Type 0) → (b ≡ true → P) → (b ≡ false → Q) → P ⊎ Q
either true P Q h k = inl (h refl)
either false P Q h k = inr (k refl)

pub returns-clause-unbinds : goal.returns-clause-unbinds
returns-clause-unbinds g c =
    rw (← c.self.view_is)
    (λ well.
    either c.send_unbind.result _ _
    (λ yes. (c.send_unbind.ensures.sent yes, c.send_unbind.ensures.asked yes))
    (λ no. (c.send_unbind.ensures.failed no, (c.send_unbind.ensures.unsent no).0, (c.send_unbind.ensures.unsent no).1)))
