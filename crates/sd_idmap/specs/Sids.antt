-- SIDs and their texts.
use Rattle.std.specs.Prelude.{ℕ, ◌^◌, Bool, true, ◌&&◌, List, [], ◌∷◌, ◌++◌, length, codes, nat_lt, nat_le}
use Rattle.std.specs.List.{flat_map, list_all}
use Rattle.std.specs.Fmt.{decimal}
use Rattle.sd_idmap.specs.declared.sids.Sid.{Sid}

-- the authority, and the parts behind it
abbrev pub numbers_of : Sid → List ℕ
numbers_of sid = sid.domain ++ sid.rid ∷ []

-- a number behind a hyphen
abbrev pub part : ℕ → List ℕ
part n = 45 ∷ decimal n

-- the text of a SID of these numbers
abbrev pub text_of : List ℕ → List ℕ
text_of numbers = codes "S-1" ++ flat_map part numbers

-- an authority has 48 bits, each part 32
abbrev pub are_numbers : List ℕ → Bool
are_numbers [] = true
are_numbers (authority ∷ parts) = nat_lt authority (2 ^ 48) && list_all (λ n. nat_lt n (2 ^ 32)) parts

-- an authority and 1 to 15 parts
abbrev pub is_sid : List ℕ → Bool
is_sid numbers = are_numbers numbers && (nat_le 2 (length numbers) && nat_le (length numbers) 16)

-- one more part fits behind these
abbrev pub is_domain : List ℕ → Bool
is_domain numbers = nat_le (length numbers) 15
