-- Fields of printed lines: how the bytes are printed that would end a field or break a line.
use Rattle.std.specs.Prelude.{ℕ, Bool, ◌||◌, ◌==◌, ◌+◌, ◌/◌, ◌%◌, ◌++◌, nat_lt, List, [], ◌∷◌, if◌then◌else◌}

-- a control byte, DEL, a colon or a backslash
abbrev pub is_escaped : ℕ → Bool
is_escaped b = nat_lt b 32 || ((b == 127) || ((b == 58) || (b == 92)))

-- in the name of a member a comma too, since commas part the members
abbrev pub is_escaped_in_name : ℕ → Bool
is_escaped_in_name b = is_escaped b || (b == 44)

-- a hexadecimal digit in lower case
abbrev pub hex_digit : ℕ → ℕ
hex_digit n = if nat_lt n 10 then n + 48 else n + 87

-- a backslash and two hexadecimal digits
abbrev pub escape : ℕ → List ℕ
escape b = 92 ∷ hex_digit (b / 16) ∷ hex_digit (b % 16) ∷ []

abbrev pub byte_of_field : ℕ → List ℕ
byte_of_field b = if is_escaped b then escape b else b ∷ []

abbrev pub byte_of_name : ℕ → List ℕ
byte_of_name b = if is_escaped_in_name b then escape b else b ∷ []

-- a field
abbrev pub field : List ℕ → List ℕ
field [] = []
field (b ∷ bs) = byte_of_field b ++ field bs

-- the name of a member
abbrev pub member_name : List ℕ → List ℕ
member_name [] = []
member_name (b ∷ bs) = byte_of_name b ++ member_name bs
