-- What is asked of a directory, over all servers.
use Rattle.std.specs.Prelude.{ℕ, List, [], ◌∷◌, ◌++◌, map, Some, None}
use Rattle.std.specs.Option.{option_map}
use Rattle.std.specs.declared.option.Option.{Option}
use Rattle.sd_ldap.specs.Values.{MessageValue}

-- a dial at a server, or a message asked on a line
pub data Operation : Type 0 where
  dialled : ℕ → Operation
  asked : MessageValue → Operation

-- the operations told, and then a dial
abbrev pub with_dial : Option (List Operation) → ℕ → Option (List Operation)
with_dial known server = option_map (λ operations. operations ++ dialled server ∷ []) known

-- the operations told, and then the messages that a line tells: nothing is told where either tells nothing
abbrev pub with_asked : Option (List Operation) → Option (List MessageValue) → Option (List Operation)
with_asked (Some operations) (Some messages) = Some (operations ++ map asked messages)
with_asked (Some operations) None = None
with_asked None messages = None

-- the bytes told of the lines given back, and then those of one more
abbrev pub with_received : Option (List (List ℕ)) → Option (List ℕ) → Option (List (List ℕ))
with_received (Some lines) (Some bytes) = Some (lines ++ bytes ∷ [])
with_received (Some lines) None = None
with_received None bytes = None
