-- The bytes of replies.
use Rattle.std.specs.Prelude.{◌≡◌, ℕ, ◌-◌, Bool, List, [], ◌∷◌, ◌++◌, if◌then◌else◌, flat_map, Option, Some, None}
use Rattle.std.specs.List.{list_any}
use Rattle.sd_ldap.specs.declared.entry.DirEntry.{DirEntry}
use Rattle.sd_ldap.specs.Values.{SearchValue, entry, done, bind_response}
use Rattle.sd_ldap.specs.Spelling.{message_bytes}
use Rattle.sd_match.specs.Answering.{told, reply, sent, is_at_or_under, is_found, found, found_replies, search_replies, bind_code}

-- an entry in a message
abbrev pub entry_reply : ℕ → SearchValue → DirEntry → List ℕ
entry_reply id s e = message_bytes (reply id (entry (sent s e)))

abbrev pub entries_bytes : ℕ → SearchValue → List DirEntry → List ℕ
entries_bytes id s entries = flat_map (λ (e : DirEntry). entry_reply id s e) entries

abbrev pub done_bytes : ℕ → ℕ → List ℕ
done_bytes id code = message_bytes (reply id (done (told code)))

-- a code alone
abbrev pub alone_bytes : ℕ → ℕ → List ℕ
alone_bytes id code = flat_map message_bytes (reply id (done (told code)) ∷ [])

abbrev pub bind_bytes : List DirEntry → ℕ → List ℕ → List ℕ → List ℕ
bind_bytes entries id name password = flat_map message_bytes (reply id (bind_response (told (bind_code entries name password))) ∷ [])

-- what is put of an entry, and how many are still to be put
abbrev pub next_bytes : Bool → ℕ → SearchValue → DirEntry → List ℕ
next_bytes is id s e = if is then entry_reply id s e else []

abbrev pub next_left : Bool → ℕ → ℕ
next_left is left = if is then left - 1 else left

-- an entry is put behind the bytes where the search finds it, and one less is still to be put
abbrev pub PutsNext : ℕ → SearchValue → DirEntry → List ℕ → List ℕ → ℕ → ℕ → Type 0
PutsNext id s e old new left after = (new ≡ old ++ next_bytes (is_found s e) id s e) × (after ≡ next_left (is_found s e) left)

-- the same of what is at a place
abbrev pub bytes_at : Option DirEntry → ℕ → SearchValue → List ℕ
bytes_at (Some e) id s = next_bytes (is_found s e) id s e
bytes_at None id s = []

abbrev pub left_at : Option DirEntry → SearchValue → ℕ → ℕ
left_at (Some e) s left = next_left (is_found s e) left
left_at None s left = left

-- the same of what is at a place
abbrev pub PutsAt : ℕ → SearchValue → Option DirEntry → List ℕ → List ℕ → ℕ → ℕ → Type 0
PutsAt id s at old new left after = (new ≡ old ++ bytes_at at id s) × (after ≡ left_at at s left)

abbrev pub search_bytes : List DirEntry → ℕ → SearchValue → List ℕ
search_bytes entries id s = flat_map message_bytes (search_replies entries id s)

-- where the filter is supported
abbrev pub supported_bytes : List DirEntry → ℕ → SearchValue → List ℕ
supported_bytes entries id s =
    if list_any (λ (e : DirEntry). is_at_or_under s.base e) entries then flat_map message_bytes (found_replies id s (found entries s)) else alone_bytes id 32
