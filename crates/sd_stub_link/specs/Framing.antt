-- The bytes of messages, framed anew.
use Rattle.std.specs.Prelude.{◌≡◌, ℕ, List}
use Rattle.std.specs.List.{flat_map}
use Rattle.sd_ldap.specs.Values.{MessageValue}
use Rattle.sd_ldap.specs.Spelling.{message_bytes}
use Rattle.sd_stub_link.specs.declared.framing.Outer.{Outer}
use Rattle.sd_stub_link.specs.Modes.{framed_bytes}

-- of whatever messages some bytes are, the others are the same ones behind another outer length
abbrev pub Reframes : Outer → List ℕ → List ℕ → Type 0
Reframes outer bytes framed = (messages : List MessageValue) → bytes ≡ flat_map message_bytes messages → framed ≡ flat_map (framed_bytes outer) messages
