-- Numbers as octets, and the bytes of an element as they are written.
use Rattle.std.specs.Prelude.{ℕ, zero, suc, ℤ, ◌+◌, ◌*◌, ◌-◌, List, [], ◌∷◌, ◌++◌, length, replicate, fold, nat_lt, if◌then◌else◌}
use Rattle.std.specs.Int.{w64, to_be_bytes, from_be_bytes, cast_signed}

-- the number that octets spell, the first the highest
abbrev pub number : List ℕ → ℕ
number octets = fold (λ n octet. n * 256 + octet) 0 octets

-- octets without the zeros in front
abbrev pub without_zeros : List ℕ → List ℕ
without_zeros [] = []
without_zeros (zero ∷ octets) = without_zeros octets
without_zeros (suc n ∷ octets) = suc n ∷ octets

-- the fewest octets that spell a number above 0
abbrev pub fewest : ℕ → List ℕ
fewest n = without_zeros (to_be_bytes w64 n)

-- a length in the fewest octets: below 128 itself, else a count of octets and these
abbrev pub length_octets : ℕ → List ℕ
length_octets n = if nat_lt n 128 then n ∷ [] else (128 + length (fewest n)) ∷ fewest n

-- the bytes of an element: its tag, its length in the fewest octets, its contents
abbrev pub element : ℕ → List ℕ → List ℕ
element tag body = tag ∷ (length_octets (length body) ++ body)

-- the octet in front that carries a sign on
abbrev pub sign_of : List ℕ → ℕ
sign_of [] = 0
sign_of (first ∷ rest) = if nat_lt first 128 then 0 else 255

-- the number of eight octets, of which the front is the sign
abbrev pub signed_by : ℕ → List ℕ → ℤ
signed_by sign octets = cast_signed w64 (from_be_bytes w64 (replicate (8 - length octets) sign ++ octets))

-- the number of octets in two's complement: their sign carried on to eight octets
abbrev pub twos_complement : List ℕ → ℤ
twos_complement octets = signed_by (sign_of octets) octets
