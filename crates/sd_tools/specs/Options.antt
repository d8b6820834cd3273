-- Which answers the words behind `cache SOCKET` name: the options of sss_cache(8).
use Rattle.std.specs.Prelude.{◌≡◌, ℕ, Bool, true, false, ◌&&◌, ◌||◌, ◌==◌, ◌++◌, ◌<◌, not, codes, List, [], ◌∷◌, length, map, Option, Some, None, is_some, if◌then◌else◌}
use Rattle.std.specs.List.{list_any}
use Rattle.sd_rules.specs.Keys.{same_name}
use Rattle.sd_rules.specs.declared.keys.What.{What}
use Rattle.sd_rules.specs.declared.keys.What.TheVariants as whats
use Rattle.sd_wire.specs.Frames.{is_name}
use Rattle.sd_wire.specs.declared.requests.Request.{Request}
use Rattle.sd_wire.specs.declared.requests.Request.TheVariants as requests

-- an option in its short or its long form
abbrev pub is_option : List ℕ → List ℕ → List ℕ → Bool
is_option short long word = same_name word short || same_name word long

-- an option that stands alone
abbrev pub flag_of : List ℕ → Option What
flag_of word =
    if is_option (codes "-E") (codes "--everything") word then Some whats.All
    else if is_option (codes "-U") (codes "--users") word then Some whats.Users
    else if is_option (codes "-G") (codes "--groups") word then Some whats.Groups
    else None

abbrev pub begins_with_hyphen : List ℕ → Bool
begins_with_hyphen [] = false
begins_with_hyphen (b ∷ bs) = b == 45

-- the name behind an option
abbrev pub is_option_name : List ℕ → Bool
is_option_name name = is_name name && not (begins_with_hyphen name)

-- an option with a name behind it
abbrev pub named_option : List ℕ → List ℕ → Option What
named_option word name =
    if is_option (codes "-u") (codes "--user") word then Some (whats.User name)
    else if is_option (codes "-g") (codes "--group") word then Some (whats.Group name)
    else None

abbrev pub named_of : List ℕ → List ℕ → Option What
named_of word name = if is_option_name name then named_option word name else None

abbrev pub with_item : Option What → Option (List What) → Option (List What)
with_item (Some item) (Some items) = Some (item ∷ items)
with_item _ _ = None

-- what words name, in their order: each is an option that stands alone, or one with its name behind it
abbrev pub items_of : List (List ℕ) → Option (List What)
items_of [] = Some []
items_of (word ∷ []) = with_item (flag_of word) (Some [])
items_of (word ∷ name ∷ words) =
    if is_some (flag_of word) then with_item (flag_of word) (items_of (name ∷ words))
    else with_item (named_of word name) (items_of words)

-- the order in which the options are sent: E, u, U, g, G
abbrev pub place_of : What → ℕ
place_of whats.All = 0
place_of (whats.User name) = 1
place_of whats.Users = 2
place_of (whats.Group name) = 3
place_of whats.Groups = 4

abbrev pub has_place : ℕ → List What → Bool
has_place place items = list_any (λ item. place_of item == place) items

-- no option stands twice, in either form
abbrev pub are_once : List What → Bool
are_once [] = true
are_once (item ∷ items) = not (has_place (place_of item) items) && are_once items

-- the options at a place of the order
abbrev pub at_place : ℕ → List What → List What
at_place place [] = []
at_place place (item ∷ items) = if place_of item == place then item ∷ at_place place items else at_place place items

-- the requests of the options at a place of the order
abbrev pub voids_at : ℕ → List What → List Request
voids_at place items = map requests.Void (at_place place items)

abbrev pub in_order : List What → List Request
in_order items = voids_at 0 items ++ (voids_at 1 items ++ (voids_at 2 items ++ (voids_at 3 items ++ voids_at 4 items)))

abbrev pub if_once : Option (List What) → Option (List Request)
if_once None = None
if_once (Some items) = if not (length items == 0) && are_once items then Some (in_order items) else None

-- the requests of words, in the order in which they are sent, where the words have a form
abbrev pub requests_of : List (List ℕ) → Option (List Request)
requests_of words = if_once (items_of words)

-- the first option of words, and the words behind it, where there is one
abbrev pub IsFront : Option (What × List (List ℕ)) → List (List ℕ) → Type 0
IsFront None words = items_of words ≡ None
IsFront (Some found) words = (items_of words ≡ with_item (Some found.0) (items_of found.1)) × (length found.1 < length words)

-- these items, and then those of further words
abbrev pub with_front : List What → Option (List What) → Option (List What)
with_front front None = None
with_front front (Some items) = Some (front ++ items)
