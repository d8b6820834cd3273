-- The bytes of a DN's text, by what they may stand for.
use Rattle.std.specs.Prelude.{ℕ, ◌+◌, ◌*◌, Bool, ◌||◌, ◌&&◌, ◌==◌, Option, Some, None, if◌then◌else◌}
use Rattle.std.specs.Char.{is_ascii_alphanumeric, is_ascii_hexdigit, digit_value}

-- a letter, a digit, `-` or `.`
abbrev pub is_type_byte : ℕ → Bool
is_type_byte b = (is_ascii_alphanumeric b || b == 45) || b == 46

-- `,` `+` `"` `\` `<` `>` `;`
abbrev pub is_reserved : ℕ → Bool
is_reserved b = b == 44 || (b == 43 || (b == 34 || (b == 92 || (b == 60 || (b == 62 || b == 59)))))

-- those, `=`, `#` and space
abbrev pub is_special : ℕ → Bool
is_special b = ((is_reserved b || b == 61) || b == 35) || b == 32

-- the value of a hexadecimal digit
abbrev pub hex_value : ℕ → Option ℕ
hex_value b = if is_ascii_hexdigit b then Some (digit_value b) else None

-- the byte of two hexadecimal digits
abbrev pub hex_pair : ℕ → ℕ → Option ℕ
hex_pair h l = if is_ascii_hexdigit h && is_ascii_hexdigit l then Some (16 * digit_value h + digit_value l) else None
