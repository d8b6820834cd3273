-- Reading from left to right, one byte after the other.
use Rattle.std.specs.Prelude.{◌≡◌, ℕ, suc, ◌+◌, Bool, ◌&&◌, ◌||◌, ◌==◌, if◌then◌else◌, List, [], ◌∷◌, ◌++◌, length, take, Option, Some, None, Result, Ok, Err, is_ok, nat_lt}
use Rattle.std.specs.Option.{option_map_or}
use Rattle.std.specs.Char.{is_ascii_hexdigit}
use Rattle.sd_dn.specs.declared.Pair.{Pair}
use Rattle.sd_dn.specs.declared.DnFault.{DnFault}
use Rattle.sd_dn.specs.declared.DnFault.TheVariants as faults
use Rattle.sd_dn.specs.declared.read.Stage.{Stage}
use Rattle.sd_dn.specs.declared.read.Stage.TheVariants as stages
use Rattle.sd_dn.specs.declared.read.Reader.{Reader}
use Rattle.sd_dn.specs.Bytes.{is_type_byte, is_reserved, is_special, hex_pair}

-- How far reading has come: the RDNs and the pairs that are whole, and the parts of the pair at hand.
pub data Progress : Type 0 where
  Start : List (List Pair) → List Pair → Progress
  BeforeType : List (List Pair) → List Pair → Progress
  InType : List (List Pair) → List Pair → List ℕ → Progress
  BeforeEquals : List (List Pair) → List Pair → List ℕ → Progress
  -- with how much of the value stays where spaces at its end are skipped
  InValue : List (List Pair) → List Pair → List ℕ → List ℕ → ℕ → Progress
  InEscape : List (List Pair) → List Pair → List ℕ → List ℕ → Progress
  -- with the first of two hexadecimal digits
  InHex : List (List Pair) → List Pair → List ℕ → List ℕ → ℕ → Progress

abbrev pub type_begun : List (List Pair) → List Pair → ℕ → Option Progress
type_begun dn rdn b = if is_type_byte b then Some (InType dn rdn (b ∷ [])) else None

abbrev pub type_ended : List (List Pair) → List Pair → List ℕ → ℕ → Option Progress
type_ended dn rdn name b =
    if b == 61 then Some (InValue dn rdn name [] 0)
    else if b == 32 then Some (BeforeEquals dn rdn name)
    else None

-- a space behind the `=` is skipped
abbrev pub spaced : List ℕ → List ℕ
spaced [] = []
spaced (b ∷ bs) = b ∷ bs ++ 32 ∷ []

abbrev pub is_empty : List ℕ → Bool
is_empty bs = nat_lt (length bs) 1

abbrev pub grown : List (List Pair) → List Pair → List ℕ → List ℕ → ℕ → Progress
grown dn rdn name value b = InValue dn rdn name (value ++ b ∷ []) (length value + 1)

abbrev pub pair_made : List ℕ → List ℕ → Pair
pair_made name value = record { name = name; value = value }

abbrev pub pair_ended : List (List Pair) → List Pair → List ℕ → List ℕ → ℕ → Progress
pair_ended dn rdn name value solid = BeforeType dn (rdn ++ pair_made name (take solid value) ∷ [])

abbrev pub rdn_ended : List (List Pair) → List Pair → List ℕ → List ℕ → ℕ → Progress
rdn_ended dn rdn name value solid = BeforeType (dn ++ (rdn ++ pair_made name (take solid value) ∷ []) ∷ []) []

abbrev pub value_taken : List (List Pair) → List Pair → List ℕ → List ℕ → ℕ → ℕ → Option Progress
value_taken dn rdn name value solid b =
    if b == 32 then Some (InValue dn rdn name (spaced value) solid)
    else if is_reserved b || (is_empty value && b == 35) then None
    else Some (grown dn rdn name value b)

abbrev pub step : Progress → ℕ → Option Progress
step (Start dn rdn) b = type_begun dn rdn b
step (BeforeType dn rdn) b = if b == 32 then Some (BeforeType dn rdn) else type_begun dn rdn b
step (InType dn rdn name) b = if is_type_byte b then Some (InType dn rdn (name ++ b ∷ [])) else type_ended dn rdn name b
step (BeforeEquals dn rdn name) b = type_ended dn rdn name b
step (InValue dn rdn name value solid) b =
    if b == 44 then Some (rdn_ended dn rdn name value solid)
    else if b == 43 then Some (pair_ended dn rdn name value solid)
    else if b == 92 then Some (InEscape dn rdn name value)
    else value_taken dn rdn name value solid b
step (InEscape dn rdn name value) b =
    if is_special b then Some (grown dn rdn name value b)
    else if is_ascii_hexdigit b then Some (InHex dn rdn name value b)
    else None
step (InHex dn rdn name value high) b = option_map_or (λ x. Some (grown dn rdn name value x)) (hex_pair high b) None

-- the DN, where the text may end here
abbrev pub ending : Progress → Option (List (List Pair))
ending (Start dn rdn) = Some dn
ending (BeforeType dn rdn) = None
ending (InType dn rdn name) = None
ending (BeforeEquals dn rdn name) = None
ending (InValue dn rdn name value solid) = Some (dn ++ (rdn ++ pair_made name value ∷ []) ∷ [])
ending (InEscape dn rdn name value) = None
ending (InHex dn rdn name value high) = None

-- the DN, or how many bytes were left where reading could not go on
abbrev pub run : Progress → List ℕ → Result (List (List Pair)) ℕ
run s [] = option_map_or (λ dn. Ok dn) (ending s) (Err 0)
run s (b ∷ bs) = option_map_or (λ next. run next bs) (step s b) (Err (suc (length bs)))

-- whether a text is a DN's
abbrev pub is_dn : List ℕ → Bool
is_dn text = is_ok (run (Start [] []) text)

-- ---- what the code keeps

abbrev pub progress_at : Stage → List (List Pair) → List Pair → List ℕ → List ℕ → ℕ → Progress
progress_at stages.Start dn rdn name value solid = Start dn rdn
progress_at stages.BeforeType dn rdn name value solid = BeforeType dn rdn
progress_at stages.Type dn rdn name value solid = InType dn rdn name
progress_at stages.BeforeEquals dn rdn name value solid = BeforeEquals dn rdn name
progress_at stages.Value dn rdn name value solid = InValue dn rdn name value solid
progress_at stages.Escape dn rdn name value solid = InEscape dn rdn name value
progress_at (stages.Hex high) dn rdn name value solid = InHex dn rdn name value high

abbrev pub progress : Reader → Progress
progress r = progress_at r.stage r.dn r.rdn r.name.items r.value.items r.solid

abbrev pub went : Bool → Reader → Option Progress
went taken reader = if taken then Some (progress reader) else None

-- What a step of the code did is what step says: it took the byte, or the byte has no place.
abbrev pub Steps : {E : Type 0} → Result Bool E → Reader → Option Progress → Type 0
Steps (Ok taken) reader next = next ≡ went taken reader
Steps (Err e) reader next = Unit {0}

-- What the code answered for a text of this length is what run says, unless memory ran out.
abbrev pub Gives : ℕ → Result (List (List Pair)) DnFault → Result (List (List Pair)) ℕ → Type 0
Gives len (Ok dn) read = read ≡ Ok dn
Gives len (Err (faults.BadDn place)) read = (left : ℕ) × (place + left ≡ len) × (read ≡ Err left)
Gives len (Err faults.Memory) read = Unit {0}
