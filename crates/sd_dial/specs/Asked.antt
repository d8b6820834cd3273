-- The messages that pieces are.
use Rattle.std.specs.Prelude.{◌≡◌, ℕ, List, [], ◌∷◌, ◌++◌}
use Rattle.std.specs.Option.{option_map}
use Rattle.std.specs.declared.option.Option.{Option}
use Rattle.sd_ldap.specs.Values.{MessageValue}
use Rattle.sd_ldap.specs.Spelling.{message_bytes}
use Rattle.sd_ldap.specs.Sound.{IsSound}

-- the messages told, and then one more
abbrev pub with_message : Option (List MessageValue) → MessageValue → Option (List MessageValue)
with_message known m = option_map (λ messages. messages ++ m ∷ []) known

-- a piece is the bytes of no sound message
abbrev pub IsNoMessage : List ℕ → Type 0
IsNoMessage piece = (m : MessageValue) → IsSound m → piece ≡ message_bytes m → ⊥
