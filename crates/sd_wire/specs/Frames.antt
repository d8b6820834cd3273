-- Requests as bytes: which bytes are the frame of which request.
use Rattle.std.specs.Prelude.{◌≡◌, ℕ, Bool, true, false, not, ◌&&◌, ◌==◌, ◌+◌, ◌-◌, ◌^◌, ◌<◌, ◌≤◌, ◌⊎◌, nat_le, ◌++◌, List, [], ◌∷◌, length, take, drop}
use Rattle.std.specs.Int.{w16, w32, to_be_bytes, from_be_bytes}
use Rattle.sd_rules.specs.declared.keys.What.{What}
use Rattle.sd_rules.specs.declared.keys.What.TheVariants as whats
use Rattle.sd_wire.specs.declared.requests.Request.{Request}
use Rattle.sd_wire.specs.declared.requests.Request.TheVariants as requests
use Rattle.sd_wire.specs.declared.frames.Framed.{Framed}
use Rattle.sd_wire.specs.declared.frames.Framed.TheVariants as framings

-- a name has 1 to 255 bytes
abbrev pub is_name : List ℕ → Bool
is_name bytes = not (length bytes == 0) && nat_le (length bytes) 255

abbrev pub is_password : List ℕ → Bool
is_password bytes = nat_le (length bytes) 1024

abbrev pub is_sound_what : What → Bool
is_sound_what (whats.User name) = is_name name
is_sound_what (whats.Group name) = is_name name
is_sound_what _ = true

-- the texts of a request are within their limits
abbrev pub is_sound : Request → Bool
is_sound (requests.User name) = is_name name
is_sound (requests.Group name) = is_name name
is_sound (requests.GroupsOf name) = is_name name
is_sound (requests.Login user password) = is_name user && is_password password
is_sound (requests.Access user service) = is_name user && is_name service
is_sound (requests.Void what) = is_sound_what what
is_sound _ = true

-- the number of a request, where it has one
abbrev pub number_of : Request → ℕ
number_of (requests.Uid uid) = uid
number_of (requests.Gid gid) = gid
number_of _ = 0

-- a request that a frame can carry: its texts are within their limits, and its number has four octets
pub record IsCarried (request : Request) : Type 0 where
  pub sound : is_sound request ≡ true
  pub small : number_of request < 2 ^ 32

-- lookups, logins and account checks are for every user of the host
abbrev pub is_public : Request → Bool
is_public (requests.Void what) = false
is_public requests.Offline = false
is_public requests.Online = false
is_public requests.Stop = false
is_public _ = true

-- a text: its length in two octets, the highest first, and its bytes
abbrev pub text_field : List ℕ → List ℕ
text_field text = to_be_bytes w16 (length text) ++ text

-- a number in four octets, the highest first
abbrev pub number_field : ℕ → List ℕ
number_field n = to_be_bytes w32 n

-- which answers are to be asked anew: its kind, and a name where it has one
abbrev pub what_field : What → List ℕ
what_field whats.All = 0 ∷ []
what_field (whats.User name) = 1 ∷ text_field name
what_field whats.Users = 2 ∷ []
what_field (whats.Group name) = 3 ∷ text_field name
what_field whats.Groups = 4 ∷ []

-- the body of a request: its command and its fields
abbrev pub body_of : Request → List ℕ
body_of (requests.User name) = 1 ∷ text_field name
body_of (requests.Uid uid) = 2 ∷ number_field uid
body_of (requests.Group name) = 3 ∷ text_field name
body_of (requests.Gid gid) = 4 ∷ number_field gid
body_of (requests.GroupsOf name) = 5 ∷ text_field name
body_of (requests.Login user password) = 16 ∷ (text_field user ++ text_field password)
body_of (requests.Access user service) = 17 ∷ (text_field user ++ text_field service)
body_of (requests.Void what) = 32 ∷ what_field what
body_of requests.Offline = 33 ∷ []
body_of requests.Online = 34 ∷ []
body_of requests.Stop = 35 ∷ []

-- the frame of a request: the length of its body in four octets, and the body
abbrev pub frame_of : Request → List ℕ
frame_of request = to_be_bytes w32 (length (body_of request)) ++ body_of request

-- bytes begin with the frame of a request
abbrev pub BeginsWith : List ℕ → Request → Type 0
BeginsWith bytes request = take (length (frame_of request)) bytes ≡ frame_of request

-- the length that the first four octets spell
abbrev pub told_length : List ℕ → ℕ
told_length bytes = from_be_bytes w32 (take 4 bytes)

-- a body has 1 to 65536 bytes
abbrev pub IsInRange : ℕ → Type 0
IsInRange n = (1 ≤ n) × (n ≤ 65536)

abbrev pub IsOutOfRange : ℕ → Type 0
IsOutOfRange n = (n ≡ 0) ⊎ (65536 < n)

-- the length is not whole, or it is in range and the body is not whole
abbrev pub IsCut : List ℕ → Type 0
IsCut bytes = (length bytes < 4) ⊎ (IsInRange (told_length bytes) × (length bytes < told_length bytes + 4))

-- the body is whole, and bytes begin with the frame of no request
abbrev pub HasNoForm : List ℕ → Type 0
HasNoForm bytes =
    (told_length bytes + 4 ≤ length bytes) × ((request : Request) → IsCarried request → BeginsWith bytes request → ⊥)

-- the length is out of range, or the body is whole and has no form
abbrev pub IsBad : List ℕ → Type 0
IsBad bytes = (4 ≤ length bytes) × (IsOutOfRange (told_length bytes) ⊎ HasNoForm bytes)

-- what each answer says of the bytes; the three that are no want of memory exclude one another
abbrev pub SaysOf : Framed → List ℕ → Type 0
SaysOf (framings.Frame request used) bytes = IsCarried request × BeginsWith bytes request × (used ≡ length (frame_of request))
SaysOf framings.More bytes = IsCut bytes
SaysOf framings.Bad bytes = IsBad bytes
SaysOf framings.Memory bytes = Unit {0}

-- a frame whose length was left open, from a place on: its length is that of what is behind it
abbrev pub ended : ℕ → List ℕ → List ℕ
ended place bytes = take place bytes ++ (to_be_bytes w32 (length bytes - (place + 4)) ++ drop (place + 4) bytes)

-- the frame of a reply: the length of its text in four octets, the highest first, and the text
abbrev pub reply_of : List ℕ → List ℕ
reply_of text = to_be_bytes w32 (length text) ++ text
