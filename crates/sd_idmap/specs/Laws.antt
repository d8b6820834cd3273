-- What holds of the numbers of domains, however they were added.
use Rattle.std.specs.Prelude.{◌≡◌, ℕ, List, Option, Some, None}
use Rattle.sd_idmap.specs.declared.sids.Sid.{Sid}
use Rattle.sd_idmap.specs.Slicing.{id_of, sid_of}

-- each SID that has a number keeps it
abbrev pub KeepsNumbers : List (List ℕ) → List (List ℕ) → Type 0
KeepsNumbers old new = (sid : Sid) → (id : ℕ) → id_of old sid ≡ Some id → id_of new sid ≡ Some id

-- no other SID has the number
abbrev pub IsAlone : List (List ℕ) → Sid → ℕ → Type 0
IsAlone domains sid id = (other : Sid) → id_of domains other ≡ Some id → other ≡ sid

-- the SID that has the number, or none where none has it
abbrev pub IsSidOf : List (List ℕ) → ℕ → Option Sid → Type 0
IsSidOf domains id None = (sid : Sid) → id_of domains sid ≡ Some id → ⊥
IsSidOf domains id (Some sid) = id_of domains sid ≡ Some id

-- each number leads back to the SID that has it, and to no other
pub record AreOneToOne (domains : List (List ℕ)) : Type 0 where
  pub back : (sid : Sid) → (id : ℕ) → id_of domains sid ≡ Some id → sid_of domains id ≡ Some sid
  pub alone : (sid : Sid) → (id : ℕ) → id_of domains sid ≡ Some id → IsAlone domains sid id
