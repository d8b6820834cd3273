-- How many bytes messages take, and which limit they meet first.
use Rattle.std.specs.Prelude.{ℕ, ◌+◌, nat_lt, nat_le, Bool, ◌&&◌, if◌then◌else◌, List, [], ◌∷◌, length, Option, Some, None}
use Rattle.sd_base.specs.declared.Why.{Why}
use Rattle.sd_base.specs.declared.Why.TheVariants.{Bytes, Flood}
use Rattle.sd_ber.specs.Octets.{length_octets}
use Rattle.sd_ldap.specs.Values.{MessageValue}
use Rattle.sd_ldap.specs.Spelling.{content_bytes}
use Rattle.sd_dial.specs.Entries.{Framing, shortest, four_octets}

-- how many bytes the contents of a message take
abbrev pub content_size : MessageValue → ℕ
content_size m = length (content_bytes m)

-- contents of more than 16 MiB make no message
abbrev pub is_too_long : ℕ → Bool
is_too_long size = nat_lt 16777216 size

-- how many bytes stand in front of contents of a size: the tag, and the octets of the length
abbrev pub header_size : Framing → ℕ → ℕ
header_size shortest size = 1 + length (length_octets size)
header_size four_octets size = 6

-- how many bytes a message with contents of a size takes
abbrev pub framed_size : Framing → ℕ → ℕ
framed_size framing size = header_size framing size + size

-- how many bytes messages with contents of these sizes take
abbrev pub total_size : Framing → List ℕ → ℕ
total_size framing [] = 0
total_size framing (size ∷ sizes) = framed_size framing size + total_size framing sizes

-- The limit that a message meets where so many bytes were received before it: it is too long, as told by a
-- header that is still among the 64 MiB that are read over a link, or it goes beyond these.
abbrev pub limit_met : Framing → ℕ → ℕ → Option Why
limit_met framing count size =
    if is_too_long size && nat_le (count + header_size framing size) 67108864 then Some (Bytes 1)
    else if nat_lt 67108864 (count + framed_size framing size) then Some (Flood 67108865)
    else None

abbrev pub or_later : Option Why → Option Why → Option Why
or_later (Some why) later = Some why
or_later None later = later

-- the first limit that messages with contents of these sizes meet, one behind the other
abbrev pub first_limit : Framing → ℕ → List ℕ → Option Why
first_limit framing count [] = None
first_limit framing count (size ∷ sizes) = or_later (limit_met framing count size) (first_limit framing (count + framed_size framing size) sizes)
