-- Reading requests: the request that bytes begin with, as a function of the bytes.
use Rattle.std.specs.Prelude.{◌≡◌, ℕ, ◌&&◌, ◌==◌, ◌+◌, ◌++◌, nat_lt, List, [], ◌∷◌, length, take, drop, Option, Some, None, if◌then◌else◌}
use Rattle.std.specs.Option.{option_map}
use Rattle.std.specs.Int.{w16, w32, from_be_bytes}
use Rattle.sd_rules.specs.declared.keys.What.{What}
use Rattle.sd_rules.specs.declared.keys.What.TheVariants as whats
use Rattle.sd_wire.specs.Frames.{is_name, is_password, IsCarried, frame_of}
use Rattle.sd_wire.specs.declared.requests.Request.{Request}
use Rattle.sd_wire.specs.declared.requests.Request.TheVariants as requests
use Rattle.sd_wire.specs.declared.frames.Framed.{Framed}
use Rattle.sd_wire.specs.declared.frames.Framed.TheVariants as framings

-- a text of this length, and what is behind it
abbrev pub cut_at : ℕ → List ℕ → Option (List ℕ × List ℕ)
cut_at size rest = if nat_lt (length rest) size then None else Some (take size rest, drop size rest)

-- a text field in front, and what is behind it
abbrev pub text_in : List ℕ → Option (List ℕ × List ℕ)
text_in bytes = if nat_lt (length bytes) 2 then None else cut_at (from_be_bytes w16 (take 2 bytes)) (drop 2 bytes)

-- nothing is behind a text field
abbrev pub alone : Option (List ℕ × List ℕ) → Option (List ℕ)
alone None = None
alone (Some found) = if length found.1 == 0 then Some found.0 else None

abbrev pub text_alone : List ℕ → Option (List ℕ)
text_alone bytes = alone (text_in bytes)

abbrev pub if_name : Option (List ℕ) → Option (List ℕ)
if_name None = None
if_name (Some text) = if is_name text then Some text else None

-- a name, and nothing behind it
abbrev pub name_alone : List ℕ → Option (List ℕ)
name_alone bytes = if_name (text_alone bytes)

abbrev pub with_first : List ℕ → Option (List ℕ) → Option (List ℕ × List ℕ)
with_first first None = None
with_first first (Some second) = Some (first, second)

abbrev pub then_alone : Option (List ℕ × List ℕ) → Option (List ℕ × List ℕ)
then_alone None = None
then_alone (Some found) = with_first found.0 (text_alone found.1)

-- two texts, and nothing behind them
abbrev pub pair_alone : List ℕ → Option (List ℕ × List ℕ)
pair_alone bytes = then_alone (text_in bytes)

-- a number, and nothing behind it
abbrev pub number_alone : List ℕ → Option ℕ
number_alone bytes = if length bytes == 4 then Some (from_be_bytes w32 bytes) else None

abbrev pub as_login : Option (List ℕ × List ℕ) → Option Request
as_login None = None
as_login (Some found) = if is_name found.0 && is_password found.1 then Some (requests.Login found.0 found.1) else None

abbrev pub as_access : Option (List ℕ × List ℕ) → Option Request
as_access None = None
as_access (Some found) = if is_name found.0 && is_name found.1 then Some (requests.Access found.0 found.1) else None

-- a word that has no fields
abbrev pub bare : {T : Type 0} → T → List ℕ → Option T
bare word fields = if length fields == 0 then Some word else None

abbrev pub what_by : ℕ → List ℕ → Option What
what_by kind fields =
    if kind == 0 then bare whats.All fields
    else if kind == 1 then option_map whats.User (name_alone fields)
    else if kind == 2 then bare whats.Users fields
    else if kind == 3 then option_map whats.Group (name_alone fields)
    else if kind == 4 then bare whats.Groups fields
    else None

-- which answers are to be asked anew
abbrev pub what_in : List ℕ → Option What
what_in [] = None
what_in (kind ∷ fields) = what_by kind fields

-- the words of an administrator
abbrev pub order_by : ℕ → List ℕ → Option Request
order_by command fields =
    if command == 32 then option_map requests.Void (what_in fields)
    else if command == 33 then bare requests.Offline fields
    else if command == 34 then bare requests.Online fields
    else if command == 35 then bare requests.Stop fields
    else None

abbrev pub request_by : ℕ → List ℕ → Option Request
request_by command fields =
    if command == 1 then option_map requests.User (name_alone fields)
    else if command == 2 then option_map requests.Uid (number_alone fields)
    else if command == 3 then option_map requests.Group (name_alone fields)
    else if command == 4 then option_map requests.Gid (number_alone fields)
    else if command == 5 then option_map requests.GroupsOf (name_alone fields)
    else if command == 16 then as_login (pair_alone fields)
    else if command == 17 then as_access (pair_alone fields)
    else order_by command fields

-- the request whose body the bytes are
abbrev pub request_in : List ℕ → Option Request
request_in [] = None
request_in (command ∷ fields) = request_by command fields

abbrev pub framed_as : ℕ → Option Request → Framed
framed_as size None = framings.Bad
framed_as size (Some request) = framings.Frame request (size + 4)

-- what is behind a length
abbrev pub framed_by : ℕ → List ℕ → Framed
framed_by size rest =
    if size == 0 then framings.Bad
    else if nat_lt 65536 size then framings.Bad
    else if nat_lt (length rest) size then framings.More
    else framed_as size (request_in (take size rest))

-- the frame that bytes begin with
abbrev pub framed : List ℕ → Framed
framed bytes = if nat_lt (length bytes) 4 then framings.More else framed_by (from_be_bytes w32 (take 4 bytes)) (drop 4 bytes)

-- an answer is this one, or want of memory
abbrev pub Reads : Framed → Framed → Type 0
Reads framings.Memory expected = Unit {0}
Reads (framings.Frame request used) expected = expected ≡ framings.Frame request used
Reads framings.More expected = expected ≡ framings.More
Reads framings.Bad expected = expected ≡ framings.Bad

-- the frame of a request is read as that request, whatever follows it
abbrev pub ReadsBack : Type 0
ReadsBack =
    (request : Request) (more : List ℕ) → IsCarried request → framed (frame_of request ++ more) ≡ framings.Frame request (length (frame_of request))
