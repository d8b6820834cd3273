-- What an input says to a server: its messages in order, and how it ends.
use Rattle.std.specs.Prelude.{ℕ, zero, suc, ◌+◌, ◌-◌, Bool, true, false, ◌&&◌, nat_lt, if◌then◌else◌, List, [], ◌∷◌, length, take, flat_map}
use Rattle.sd_ldap.specs.declared.entry.DirEntry.{DirEntry}
use Rattle.sd_ldap.specs.Values.{OperationValue, MessageValue, bind_request, bind_response, unbind, search, entry, done, reference, other}
use Rattle.sd_ldap.specs.MessageReading.{DecodedValue, whole, unfinished, wrong, decode_of}
use Rattle.sd_match.specs.Answering.{reply_bytes}
use Rattle.sd_stub.specs.declared.ending.LinkEnd.{LinkEnd}
use Rattle.sd_stub.specs.declared.ending.LinkEnd.TheVariants as ends

pub record Said : Type 0 where
  pub messages : List MessageValue
  pub ending : LinkEnd

abbrev pub nothing : LinkEnd → Said
nothing ending = record { messages = []; ending = ending }

abbrev pub is_unbind : OperationValue → Bool
is_unbind unbind = true
is_unbind (bind_request version name password) = false
is_unbind (bind_response result) = false
is_unbind (search request) = false
is_unbind (entry found) = false
is_unbind (done result) = false
is_unbind reference = false
is_unbind (other tag) = false

-- a message, and behind it what the rest says; nothing is heard behind an unbind
abbrev pub with_message : MessageValue → Said → Said
with_message m rest =
    if is_unbind m.operation then record { messages = m ∷ []; ending = ends.Unbound }
    else record { messages = m ∷ rest.messages; ending = rest.ending }

-- by what stands at a place of the input, where rest is what the bytes so far behind it say
abbrev pub by_front : (ℕ → Said) → ℕ → DecodedValue → Said
by_front rest place (whole m used) = with_message m (rest used)
by_front rest place unfinished = nothing ends.Cut
by_front rest place (wrong at) = nothing (ends.Bad (place + at))

-- Message by message: the first byte is at a place of the input, and so many bytes in front belong to a message
-- that was heard already.
unfoldable pub said_from : ℕ → ℕ → List ℕ → Said
said_from place within [] = nothing ends.Closed
said_from place zero (byte ∷ bytes) = by_front (λ used. said_from (place + 1) (used - 1) bytes) place (decode_of (byte ∷ bytes))
said_from place (suc within) (byte ∷ bytes) = said_from (place + 1) within bytes

-- what is read over one link: 1 GiB
abbrev pub limit : ℕ
limit = 1073741824

-- the bytes ended, and nothing else ended it before
abbrev pub is_by_bytes : LinkEnd → Bool
is_by_bytes ends.Closed = true
is_by_bytes ends.Cut = true
is_by_bytes ends.Unbound = false
is_by_bytes (ends.Bad at) = false
is_by_bytes (ends.Long count) = false
is_by_bytes ends.ReadFault = false
is_by_bytes ends.WriteFault = false
is_by_bytes ends.Memory = false

-- an input that goes on behind the limit is too long, unless it ended before
abbrev pub limited : ℕ → Said → Said
limited count said = if nat_lt limit count && is_by_bytes said.ending then record { messages = said.messages; ending = ends.Long limit } else said

abbrev pub said : List ℕ → Said
said input = limited (length input) (said_from 0 0 (take limit input))

-- the bytes that answer messages, one after the other
abbrev pub answers : List DirEntry → List MessageValue → List ℕ
answers entries messages = flat_map (λ (m : MessageValue). reply_bytes entries m) messages

-- how an input ended of which these bytes are left, that are less than a message
abbrev pub ended_of : List ℕ → LinkEnd
ended_of [] = ends.Closed
ended_of (byte ∷ bytes) = ends.Cut
