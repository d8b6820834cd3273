-- Decimal numbers without a sign.
use Rattle.std.specs.Prelude.{ℕ, ◌+◌, ◌-◌, ◌*◌, Bool, ◌&&◌, nat_le, if◌then◌else◌, List, length, fold, Option, Some, None}
use Rattle.std.specs.List.{list_all}

abbrev pub is_digit : ℕ → Bool
is_digit b = nat_le 48 b && nat_le b 57

-- the number that digits stand for
abbrev pub value_of : List ℕ → ℕ
value_of digits = fold (λ n b. 10 * n + (b - 48)) 0 digits

-- one or more digits of a number that is at most the limit
abbrev pub is_number_up_to : ℕ → List ℕ → Bool
is_number_up_to limit text = nat_le 1 (length text) && (list_all is_digit text && nat_le (value_of text) limit)

abbrev pub number_up_to : ℕ → List ℕ → Option ℕ
number_up_to limit text = if is_number_up_to limit text then Some (value_of text) else None

-- one to ten digits of a number of 32 bits
abbrev pub is_number : List ℕ → Bool
is_number text = nat_le 1 (length text) && (nat_le (length text) 10 && (list_all is_digit text && nat_le (value_of text) 4294967295))

-- its number, where a text is one
abbrev pub number_of : List ℕ → Option ℕ
number_of text = if is_number text then Some (value_of text) else None
