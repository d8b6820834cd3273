-- Whose sudo rules the words of the tool ask for.
use Rattle.std.specs.Prelude.{ℕ, if◌then◌else◌, List, [], ◌∷◌, Option, Some, None, codes}
use Rattle.sd_match.specs.Answering.{same_bytes}

abbrev pub user_where : List ℕ → List ℕ → Option (List ℕ)
user_where tool user = if same_bytes tool (codes "sudo") then Some user else None

-- `sudo CONF LDIF USER`
abbrev pub user_asked : List (List ℕ) → Option (List ℕ)
user_asked (tool ∷ conf ∷ ldif ∷ user ∷ []) = user_where tool user
user_asked _ = None
