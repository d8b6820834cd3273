-- What a text goes on with, from a place in it: two texts are compared without keeping what was read of them.
use Rattle.std.specs.Prelude.{ℕ, zero, suc, Bool, true, false, ◌&&◌, ◌||◌, ◌==◌, if◌then◌else◌, List, [], ◌∷◌, length, nat_le, Option, Some, None, option_map}
use Rattle.std.specs.Option.{option_map_or}
use Rattle.std.specs.Char.{is_ascii_hexdigit, eq_ignore_ascii_case}
use Rattle.sd_dn.specs.declared.Pair.{Pair}
use Rattle.sd_dn.specs.declared.texts.Symbol.{Symbol}
use Rattle.sd_dn.specs.declared.texts.Symbol.TheVariants as symbols
use Rattle.sd_dn.specs.declared.texts.Meeting.{Meeting}
use Rattle.sd_dn.specs.declared.texts.Meeting.TheVariants as meetings
use Rattle.sd_dn.specs.declared.texts.Verdict.{Verdict}
use Rattle.sd_dn.specs.declared.texts.Verdict.TheVariants as verdicts
use Rattle.sd_dn.specs.Bytes.{is_type_byte, is_reserved, is_special, hex_pair}
use Rattle.sd_dn.specs.Comparing.{same_text, same_rdn, same_dn}
use Rattle.sd_dn.specs.Reading.{pair_made}
use Rattle.sd_dn.specs.Texts.{both_meet}

-- what is left of the pair at hand, the pairs behind it in its RDN, and the RDNs behind that one
pub record Rest : Type 0 where
  pub name : List ℕ
  pub value : List ℕ
  pub pairs : List Pair
  pub rdns : List (List Pair)

abbrev pub nothing : Rest
nothing = record { name = []; value = []; pairs = []; rdns = [] }

-- Where in a pair a place is. In a value that has begun it is told how many spaces stand before the place,
-- which belong to the value only if it goes on.
pub data Where : Type 0 where
  AtType : Where
  OnType : Where
  AtEquals : Where
  AtValue : Where
  OnValue : ℕ → Where
  OnEscape : ℕ → Where
  -- with the first of two hexadecimal digits
  OnHex : ℕ → ℕ → Where

-- a byte of the type before what is left
abbrev pub named : ℕ → Option Rest → Option Rest
named b = option_map (λ (r : Rest). record r { name = b ∷ r.name })

-- what is left begins with the value, behind a whole type
abbrev pub renamed : List ℕ → Option Rest → Option Rest
renamed name = option_map (λ (r : Rest). record r { name = name })

-- a byte of the value before what is left
abbrev pub begun : ℕ → Option Rest → Option Rest
begun b = option_map (λ (r : Rest). record r { value = b ∷ r.value })

-- so many spaces of the value before what is left
abbrev pub spaced : ℕ → Option Rest → Option Rest
spaced zero rest = rest
spaced (suc n) rest = begun 32 (spaced n rest)

abbrev pub pair_of : Rest → Pair
pair_of r = pair_made r.name r.value

-- what is left is a whole pair of the RDN, and what follows it
abbrev pub new_pair : Option Rest → Option Rest
new_pair = option_map (λ (r : Rest). record { name = []; value = []; pairs = pair_of r ∷ r.pairs; rdns = r.rdns })

-- what is left is a whole RDN, and what follows it
abbrev pub new_rdn : Option Rest → Option Rest
new_rdn = option_map (λ (r : Rest). record { name = []; value = []; pairs = []; rdns = (pair_of r ∷ r.pairs) ∷ r.rdns })

abbrev pub ends : Where → Option Rest
ends AtType = None
ends OnType = None
ends AtEquals = None
ends AtValue = Some nothing
ends (OnValue gap) = spaced gap (Some nothing)
ends (OnEscape gap) = None
ends (OnHex gap high) = None

abbrev pub type_ends : ℕ → (Where → Option Rest) → Option Rest
type_ends b rest = if b == 61 then renamed [] (rest AtValue) else if b == 32 then rest AtEquals else None

abbrev pub goes : Where → ℕ → (Where → Option Rest) → Option Rest
goes AtType b rest = if b == 32 then rest AtType else if is_type_byte b then named b (rest OnType) else None
goes OnType b rest = if is_type_byte b then named b (rest OnType) else type_ends b rest
goes AtEquals b rest = type_ends b rest
goes AtValue b rest =
    if b == 44 then new_rdn (rest AtType)
    else if b == 43 then new_pair (rest AtType)
    else if b == 92 then rest (OnEscape 0)
    else if b == 32 then rest AtValue
    else if is_reserved b || b == 35 then None
    else begun b (rest (OnValue 0))
goes (OnValue gap) b rest =
    if b == 44 then new_rdn (rest AtType)
    else if b == 43 then new_pair (rest AtType)
    else if b == 92 then rest (OnEscape gap)
    else if b == 32 then rest (OnValue (suc gap))
    else if is_reserved b then None
    else spaced gap (begun b (rest (OnValue 0)))
goes (OnEscape gap) b rest =
    if is_special b then spaced gap (begun b (rest (OnValue 0)))
    else if is_ascii_hexdigit b then rest (OnHex gap b)
    else None
goes (OnHex gap high) b rest = option_map_or (λ x. spaced gap (begun x (rest (OnValue 0)))) (hex_pair high b) None

-- what the text goes on with, where it goes on as a DN does
abbrev pub remaining : List ℕ → Where → Option Rest
remaining [] place = ends place
remaining (b ∷ bs) place = goes place b (λ next. remaining bs next)

-- ---- comparing

-- at the beginning of a pair
abbrev pub same_head : Rest → Rest → Bool
same_head r s = same_dn ((pair_of r ∷ r.pairs) ∷ r.rdns) ((pair_of s ∷ s.pairs) ∷ s.rdns)

-- in a value
abbrev pub same_tail : Rest → Rest → Bool
same_tail r s = same_text r.value s.value && (same_rdn r.pairs s.pairs && same_dn r.rdns s.rdns)

-- ---- what the code keeps

abbrev pub starts_with_space : List ℕ → Bool
starts_with_space [] = false
starts_with_space (b ∷ bs) = b == 32

-- at the byte behind a pair
abbrev pub ends_pair : List ℕ → Bool
ends_pair [] = false
ends_pair (b ∷ bs) = b == 44 || b == 43

abbrev pub starts_with_type : List ℕ → Bool
starts_with_type [] = false
starts_with_type (b ∷ bs) = is_type_byte b

-- a type before what is left
abbrev pub named_all : List ℕ → Option Rest → Option Rest
named_all [] rest = rest
named_all (b ∷ bs) rest = named b (named_all bs rest)

-- behind the `=`, where there is one
abbrev pub behind_equals : Option (List ℕ) → Option Rest
behind_equals None = None
behind_equals (Some text) = renamed [] (remaining text AtValue)

-- in a value, before spaces that belong to it
abbrev pub on_value : ℕ → List ℕ → Option Rest
on_value owed text = spaced owed (remaining text (OnValue 0))

-- a symbol before what is left
abbrev pub said : Symbol → List ℕ → ℕ → Option Rest
said (symbols.Byte b) text owed = begun b (on_value owed text)
said symbols.Plus text owed = new_pair (remaining text AtType)
said symbols.Comma text owed = new_rdn (remaining text AtType)
said symbols.End text owed = Some nothing
said symbols.Bad text owed = None

abbrev pub is_byte : Symbol → Bool
is_byte (symbols.Byte b) = true
is_byte symbols.Plus = false
is_byte symbols.Comma = false
is_byte symbols.End = false
is_byte symbols.Bad = false

abbrev pub byte_meeting : Bool → Meeting
byte_meeting true = meetings.Alike
byte_meeting false = meetings.Different

abbrev pub meeting : Symbol → Symbol → Meeting
meeting (symbols.Byte b) (symbols.Byte c) = byte_meeting (eq_ignore_ascii_case b c)
meeting symbols.Plus symbols.Plus = meetings.Separated
meeting symbols.Comma symbols.Comma = meetings.Separated
meeting symbols.End symbols.End = meetings.Ended
meeting _ _ = meetings.Different

-- whether what is left is the same, by how two symbols meet and what is behind them
abbrev pub met : Meeting → List ℕ → ℕ → List ℕ → ℕ → Bool
met meetings.Alike a owed_a b owed_b = both_meet same_tail (on_value owed_a a) (on_value owed_b b)
met meetings.Separated a owed_a b owed_b = both_meet same_head (remaining a AtType) (remaining b AtType)
met meetings.Ended a owed_a b owed_b = true
met meetings.Different a owed_a b owed_b = false

-- whether what is left is the same, by what was found of two values, and what is behind them
abbrev pub decided : Verdict → List ℕ → List ℕ → Bool
decided verdicts.Further a b = both_meet same_head (remaining a AtType) (remaining b AtType)
decided verdicts.Equal a b = true
decided verdicts.Different a b = false
