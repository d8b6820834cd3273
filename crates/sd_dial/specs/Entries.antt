-- What stands behind a link: the entries of a directory, and how it frames its messages.
use Rattle.std.specs.Prelude.{◌≡◌, ℕ, false, ◌==◌, if◌then◌else◌, List, [], ◌∷◌, ◌++◌, length}
use Rattle.std.specs.List.{list_any, flat_map}
use Rattle.std.specs.Int.{w32, to_be_bytes}
use Rattle.sd_dn.specs.Texts.{same_dn_text}
use Rattle.sd_ldap.specs.declared.entry.DirEntry.{DirEntry}
use Rattle.sd_ldap.specs.Values.{MessageValue}
use Rattle.sd_ldap.specs.Spelling.{content_bytes}
use Rattle.sd_ldap.specs.MessageReading.{DecodedValue, whole, unfinished, wrong, decode_of}
use Rattle.sd_match.specs.Answering.{replies_to, answer_to}

-- no two have equal DNs
abbrev pub HaveOwnDns : List DirEntry → Type 0
HaveOwnDns [] = Unit {0}
HaveOwnDns (e ∷ es) = (list_any (λ (other : DirEntry). same_dn_text e.dn other.dn) es ≡ false) × HaveOwnDns es

-- the outer length of a message takes the fewest octets, or always four behind one that counts them
pub data Framing : Type 0 where
  shortest : Framing
  four_octets : Framing

-- what a link tells of the directory behind it
pub record Behind : Type 0 where
  pub entries : List DirEntry
  pub framing : Framing

-- a message whose outer length takes four octets
abbrev pub long_bytes : MessageValue → List ℕ
long_bytes m = 48 ∷ (132 ∷ (to_be_bytes w32 (length (content_bytes m)) ++ content_bytes m))

abbrev pub long_decoded : List DirEntry → ℕ → DecodedValue → List ℕ
long_decoded entries len (whole message used) = if used == len then flat_map long_bytes (replies_to entries message) else []
long_decoded entries len unfinished = []
long_decoded entries len (wrong at) = []

-- the bytes that answer a piece of bytes, in a framing
abbrev pub answer_in : Framing → List DirEntry → List ℕ → List ℕ
answer_in shortest entries piece = answer_to entries piece
answer_in four_octets entries piece = long_decoded entries (length piece) (decode_of piece)

-- the bytes with which a directory answers a piece
abbrev pub answer_behind : Behind → List ℕ → List ℕ
answer_behind behind piece = answer_in behind.framing behind.entries piece
