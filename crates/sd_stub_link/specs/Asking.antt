-- The messages that pieces are, at any length.
use Rattle.std.specs.Prelude.{ℕ, ◌&&◌, if◌then◌else◌, List, [], ◌∷◌, Option, Some, None, Result, Ok, Err}
use Rattle.sd_ber.specs.declared.fault.BerFault.{BerFault}
use Rattle.sd_ber.specs.Reading.{Opened, start_of, element_at}
use Rattle.sd_ldap.specs.Values.{MessageValue}
use Rattle.sd_ldap.specs.MessageReading.{message_in}
use Rattle.sd_ldap.specs.Spelling.{message_bytes}
use Rattle.sd_match.specs.Answering.{same_bytes}
use Rattle.sd_stub_link.specs.Sounding.{is_sound}

-- what the contents of the outer element are read as
abbrev pub read_in : Result Opened BerFault → Result MessageValue ℕ
read_in (Ok part) = message_in part.contents
read_in (Err fault) = Err 0

-- a sound message counts where the piece is its bytes
abbrev pub checked : List ℕ → Result MessageValue ℕ → Option MessageValue
checked piece (Ok m) = if is_sound m && same_bytes (message_bytes m) piece then Some m else None
checked piece (Err at) = None

unfoldable pub message_of : List ℕ → Option MessageValue
message_of piece = checked piece (read_in (element_at (start_of piece)))

abbrev pub with_found : Option MessageValue → List MessageValue → List MessageValue
with_found (Some m) rest = m ∷ rest
with_found None rest = rest

-- the sound messages whose bytes pieces are, in their order
unfoldable pub messages_of : List (List ℕ) → List MessageValue
messages_of [] = []
messages_of (piece ∷ rest) = with_found (message_of piece) (messages_of rest)
