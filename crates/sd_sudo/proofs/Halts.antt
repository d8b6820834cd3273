-- What ended the searches, where it is a cause of more than that.
use Rattle.std.proofs.Common.{◌⊎◌, inl, inr}
use Rattle.sd_sudo.specs.declared.lookups.Halt.{Halt}
use Rattle.sd_sudo.specs.declared.lookups.Halt.TheVariants as halts
use Rattle.sd_sudo.specs.Lookups.{HaltsBy}

pub halts_more : (halt : Halt) (P Q : Type 0) → (P → Q) → HaltsBy halt P → HaltsBy halt Q
halts_more halts.Limit P Q f h = f h
halts_more halts.Memory P Q f h = tt

-- one of two
pub groups_halt : (halt : Halt) (P Q : Type 0) → HaltsBy halt P → HaltsBy halt (P ⊎ Q)
groups_halt halt P Q h = halts_more halt P (P ⊎ Q) (λ p. inl p) h

pub group_halt : (halt : Halt) (P Q : Type 0) → HaltsBy halt Q → HaltsBy halt (P ⊎ Q)
group_halt halt P Q h = halts_more halt Q (P ⊎ Q) (λ q. inr q) h
