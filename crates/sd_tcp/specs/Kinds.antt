-- Which messages are binds.
use Rattle.std.specs.Prelude.{ℕ, ◌-◌, ◌==◌, if◌then◌else◌, Bool, false, List, [], ◌∷◌, drop}

-- behind a tag and its length, which has one octet, or the octets that the first counts above 128
abbrev pub behind_length : List ℕ → List ℕ
behind_length (tag ∷ (len ∷ rest)) = drop (len - 128) rest
behind_length (tag ∷ []) = []
behind_length [] = []

-- behind an element whose length has one octet
abbrev pub behind_element : List ℕ → List ℕ
behind_element (tag ∷ (len ∷ rest)) = drop len rest
behind_element (tag ∷ []) = []
behind_element [] = []

abbrev pub begins_as_bind : List ℕ → Bool
begins_as_bind (tag ∷ rest) = tag == 96
begins_as_bind [] = false

-- the tag of a bind stands behind the message's own header and the messageID
abbrev pub is_bind : List ℕ → Bool
is_bind bytes = begins_as_bind (behind_element (behind_length bytes))

-- how old a link may become where a message is sent over it, in seconds
abbrev pub seconds_for : List ℕ → ℕ
seconds_for bytes = if is_bind bytes then 60 else 600
