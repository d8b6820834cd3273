-- Laws between reading and writing.
use Rattle.std.specs.Prelude.{◌≡◌, ℕ, ◌≤◌, List, ◌++◌, length}
use Rattle.sd_ldap.specs.Values.{MessageValue}
use Rattle.sd_ldap.specs.MessageReading.{decode_of, whole, unfinished}
use Rattle.sd_ldap.specs.Spelling.{content_bytes, message_bytes}
use Rattle.sd_ldap.specs.Sound.{IsSound}

-- what is written for a sound message is decoded as that message, whole, whatever follows it
abbrev pub DecodesBack : Type 0
DecodesBack =
    (m : MessageValue) (more : List ℕ) → IsSound m → length (content_bytes m) ≤ 16777216
    → decode_of (message_bytes m ++ more) ≡ whole m (length (message_bytes m))

-- what was decoded stays, whatever follows: only what is unfinished waits for more
abbrev pub Stays : List ℕ → Type 0
Stays bytes = (more : List ℕ) → (decode_of bytes ≡ unfinished → ⊥) → decode_of (bytes ++ more) ≡ decode_of bytes

-- the bytes are decoded as a message, whole, whatever follows them
abbrev pub DecodedAs : MessageValue → List ℕ → Type 0
DecodedAs m bytes = (more : List ℕ) → decode_of (bytes ++ more) ≡ whole m (length bytes)
