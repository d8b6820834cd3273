-- What an element is, apart from how it is read or written.
use Rattle.std.specs.Prelude.{◌≡◌, ◌≢◌, ℕ, ◌+◌, ◌%◌, ◌<◌, ◌≤◌, List, [], ◌∷◌, ◌++◌, length}
use Rattle.sd_ber.specs.Octets.{number}

-- Each is an octet.
abbrev pub AreOctets : List ℕ → Type 0
AreOctets [] = Unit {0}
AreOctets (octet ∷ octets) = (octet < 256) × AreOctets octets

-- Octets that spell a length: one below 128 is itself, one above counts one to four that follow.
abbrev pub IsLength : List ℕ → ℕ → Type 0
IsLength [] n = ⊥
IsLength (first ∷ []) n = (first < 128) × (n ≡ first)
IsLength (first ∷ second ∷ more) n = (first ≡ 128 + length (second ∷ more)) × (length (second ∷ more) ≤ 4) × (n ≡ number (second ∷ more))

-- The bytes are an element: a tag of one octet, a length, and contents as long as that says.
pub record IsElement (bytes : List ℕ) (tag : ℕ) (body : List ℕ) : Type 0 where
  pub one_octet : tag % 32 ≢ 31
  pub octets : List ℕ
  pub spelled : IsLength octets (length body)
  pub parts : bytes ≡ tag ∷ (octets ++ body)
