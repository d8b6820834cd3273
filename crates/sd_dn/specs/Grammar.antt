-- Which texts spell which DN (RFC 4514, in this project's profile). A spelling says how each thing of
-- the DN is written; its text and its meaning are functions of it.
use Rattle.std.specs.Prelude.{◌≡◌, ℕ, ◌+◌, ◌*◌, Bool, true, false, ◌&&◌, ◌||◌, not, ◌==◌, List, [], ◌∷◌, ◌++◌, map, replicate}
use Rattle.std.specs.Prelude.{if◌then◌else◌, ◌⊎◌, ◌<◌, ◌≤◌, length, take, Result, Ok, Err}
use Rattle.std.specs.List.{flat_map, list_all}
use Rattle.std.specs.Char.{is_ascii_hexdigit, digit_value}
use Rattle.sd_dn.specs.declared.Pair.{Pair}
use Rattle.sd_dn.specs.declared.DnFault.{DnFault}
use Rattle.sd_dn.specs.declared.DnFault.TheVariants as faults
use Rattle.sd_dn.specs.Bytes.{is_type_byte, is_reserved, is_special}

-- A byte of a value is written as itself, behind a backslash, or behind a backslash as two hexadecimal digits.
pub data WrittenByte : Type 0 where
  Plain : ℕ → WrittenByte
  Escaped : ℕ → WrittenByte
  Hex : ℕ → ℕ → WrittenByte

abbrev pub written_byte : WrittenByte → List ℕ
written_byte (Plain b) = b ∷ []
written_byte (Escaped b) = 92 ∷ b ∷ []
written_byte (Hex h l) = 92 ∷ h ∷ l ∷ []

-- the byte that is meant
abbrev pub meant : WrittenByte → ℕ
meant (Plain b) = b
meant (Escaped b) = b
meant (Hex h l) = 16 * digit_value h + digit_value l

abbrev pub is_written_byte : WrittenByte → Bool
is_written_byte (Plain b) = not (is_reserved b)
is_written_byte (Escaped b) = is_special b
is_written_byte (Hex h l) = is_ascii_hexdigit h && is_ascii_hexdigit l

abbrev pub is_plain_space : WrittenByte → Bool
is_plain_space (Plain b) = b == 32
is_plain_space (Escaped b) = false
is_plain_space (Hex h l) = false

-- a value doesn't begin with a space or a `#` that is written as itself
abbrev pub may_begin : WrittenByte → Bool
may_begin (Plain b) = not (b == 32 || b == 35)
may_begin (Escaped b) = true
may_begin (Hex h l) = true

abbrev pub begins_well : List WrittenByte → Bool
begins_well [] = true
begins_well (x ∷ xs) = may_begin x

-- a value without the spaces at its end that are written as themselves
abbrev pub with_last : WrittenByte → List WrittenByte → List WrittenByte
with_last x [] = if is_plain_space x then [] else x ∷ []
with_last x (y ∷ ys) = x ∷ y ∷ ys

abbrev pub trimmed : List WrittenByte → List WrittenByte
trimmed [] = []
trimmed (x ∷ xs) = with_last x (trimmed xs)

-- `TYPE = VALUE`, with how many spaces stand before the type, before the `=` and behind it
pub record WrittenPair : Type 0 where
  pub lead : ℕ
  pub name : List ℕ
  pub before : ℕ
  pub after : ℕ
  pub value : List WrittenByte

abbrev pub spaces : ℕ → List ℕ
spaces n = replicate n 32

abbrev pub written_pair : WrittenPair → List ℕ
written_pair p = spaces p.lead ++ (p.name ++ (spaces p.before ++ (61 ∷ (spaces p.after ++ flat_map written_byte p.value))))

abbrev pub is_type : List ℕ → Bool
is_type [] = false
is_type (b ∷ bs) = is_type_byte b && list_all is_type_byte bs

abbrev pub is_written_pair : WrittenPair → Bool
is_written_pair p = is_type p.name && (list_all is_written_byte p.value && begins_well p.value)

-- the pair that is meant, where a `+` or a `,` follows: spaces before it are skipped
abbrev pub pair_of : WrittenPair → Pair
pair_of p = record { name = p.name; value = map meant (trimmed p.value) }

-- the pair that is meant at the end of the text, where spaces belong to the value
abbrev pub last_pair_of : WrittenPair → Pair
last_pair_of p = record { name = p.name; value = map meant p.value }

-- an RDN: one or more pairs joined by `+`
pub record WrittenRdn : Type 0 where
  pub pairs : List WrittenPair
  pub last : WrittenPair

-- pairs, each with a `+` behind it
abbrev pub written_pairs : List WrittenPair → List ℕ
written_pairs ps = flat_map (λ p. written_pair p ++ 43 ∷ []) ps

abbrev pub written_rdn : WrittenRdn → List ℕ
written_rdn r = written_pairs r.pairs ++ written_pair r.last

abbrev pub is_written_rdn : WrittenRdn → Bool
is_written_rdn r = list_all is_written_pair r.pairs && is_written_pair r.last

abbrev pub rdn_of : WrittenRdn → List Pair
rdn_of r = map pair_of r.pairs ++ pair_of r.last ∷ []

abbrev pub last_rdn_of : WrittenRdn → List Pair
last_rdn_of r = map pair_of r.pairs ++ last_pair_of r.last ∷ []

-- a DN that isn't empty: one or more RDNs joined by `,`
pub record WrittenDn : Type 0 where
  pub rdns : List WrittenRdn
  pub last : WrittenRdn

-- RDNs, each with a `,` behind it
abbrev pub written_rdns : List WrittenRdn → List ℕ
written_rdns rs = flat_map (λ r. written_rdn r ++ 44 ∷ []) rs

abbrev pub written_dn : WrittenDn → List ℕ
written_dn d = written_rdns d.rdns ++ written_rdn d.last

abbrev pub is_written_dn : WrittenDn → Bool
is_written_dn d = list_all is_written_rdn d.rdns && is_written_rdn d.last

abbrev pub dn_of : WrittenDn → List (List Pair)
dn_of d = map rdn_of d.rdns ++ last_rdn_of d.last ∷ []

abbrev pub begins_with_space : List ℕ → Bool
begins_with_space [] = false
begins_with_space (b ∷ bs) = b == 32

-- how a text is the spelling d
pub record IsTextOf (text : List ℕ) (dn : List (List Pair)) (d : WrittenDn) : Type 0 where
  pub valid : is_written_dn d ≡ true
  pub text_is : text ≡ written_dn d
  pub no_space_first : begins_with_space text ≡ false
  pub meaning : dn ≡ dn_of d

-- The text spells the DN: the empty text the empty DN, any other text a DN of one RDN or more.
abbrev pub Spells : List ℕ → List (List Pair) → Type 0
Spells text dn = ((text ≡ []) × (dn ≡ [])) ⊎ ((d : WrittenDn) × IsTextOf text dn d)

-- The place of the first byte with which no DN goes on, or the length of a text that ends too soon: the
-- bytes before it go on to a DN in some way, and with the byte there they don't in any.
pub record IsFirstBad (text : List ℕ) (place : ℕ) : Type 0 where
  pub within : place ≤ length text
  pub front : (more : List ℕ) × (dn : List (List Pair)) × Spells (take place text ++ more) dn
  pub stop : place < length text → (more : List ℕ) → (dn : List (List Pair)) → Spells (take (place + 1) text ++ more) dn → ⊥
  pub short : place ≡ length text → (dn : List (List Pair)) → Spells text dn → ⊥

-- What was answered for a text that spells the DN: it, unless memory ran out.
abbrev pub Reads : Result (List (List Pair)) DnFault → List (List Pair) → Type 0
Reads (Ok read) dn = read ≡ dn
Reads (Err (faults.BadDn place)) dn = ⊥
Reads (Err faults.Memory) dn = Unit {0}
