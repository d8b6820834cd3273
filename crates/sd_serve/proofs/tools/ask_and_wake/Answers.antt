use Rattle.std.proofs.Common.{ℕ, ◌≤◌, inl, inr, arith}
use Rattle.sd_base.specs.Causes.{Rose}
use Rattle.sd_serve.proofs.Links.{twice}
use Rattle.sd_serve.proofs.tools.ask_and_wake.Goals as goal

rose_later : (a b d : ℕ) → a ≤ b → Rose b d → Rose a d
rose_later a b d h r = omega arith

pub returns-clause-woken : goal.returns-clause-woken
returns-clause-woken g c = λ done stop.
    elim c.wake_stopped.ensures.links [
      | inl none ↦ inr (rose_later _ _ _ c.ask_at-status.ensures.later (none.1 done stop))
      | inr one ↦ inl (twice _ _ _ _ (c.ask_at-status.ensures.linked done) one)
    ]
