-- Bytes each of which is an octet, and parts of them.
use Rattle.std.proofs.Common.{ℕ, suc, ◌+◌, ◌<◌, List, ◌∷◌, get_or, take, drop, arith, inl, inr}
use Rattle.std.proofs.lemmas.Bool.{cases_lt}
use Rattle.std.proofs.lemmas.List.{length-take, get_or-take, get_or-drop, get_or_past}

-- each is an octet
pub record AreOctets (bytes : List ℕ) : Type 0 where
  pub each : (i : ℕ) → get_or bytes i 0 < 256

pub front_octets : (n : ℕ) (bytes : List ℕ) → AreOctets bytes → AreOctets (take n bytes)
front_octets n bytes h = record {
  each = λ i. elim (cases_lt i n) [
    | inl below ↦ omega (arith, get_or-take n bytes i 0 below, h.each i)
    | inr past ↦ omega (arith, get_or_past (take n bytes) i 0 (omega (arith, length-take n bytes)))
  ];
}

pub back_octets : (n : ℕ) (bytes : List ℕ) → AreOctets bytes → AreOctets (drop n bytes)
back_octets n bytes h = record { each = λ i. omega (arith, get_or-drop n bytes i 0, h.each (n + i)) }

pub rest_octets : (b : ℕ) (bytes : List ℕ) → AreOctets (b ∷ bytes) → AreOctets bytes
rest_octets b bytes h = record { each = λ i. h.each (suc i) }
