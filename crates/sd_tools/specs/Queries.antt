-- What the words behind `query SOCKET` ask.
use Rattle.std.specs.Prelude.{ℕ, Bool, true, false, ◌&&◌, ◌==◌, ◌-◌, ◌^◌, not, codes, List, [], ◌∷◌, length, Option, Some, None, if◌then◌else◌}
use Rattle.std.specs.Option.{option_map}
use Rattle.sd_pieces.specs.Digits.{number_up_to}
use Rattle.sd_pieces.specs.Pieces.{cut_of}
use Rattle.sd_rules.specs.Keys.{same_name}
use Rattle.sd_wire.specs.Frames.{is_name, is_sound}
use Rattle.sd_wire.specs.declared.requests.Request.{Request}
use Rattle.sd_wire.specs.declared.requests.Request.TheVariants as requests
use Rattle.sd_tools.specs.declared.queries.Query.{Query}
use Rattle.sd_tools.specs.declared.queries.Query.TheVariants as queries

-- a zero stands before further digits
abbrev pub has_leading_zero : List ℕ → Bool
has_leading_zero [] = false
has_leading_zero (b ∷ bs) = (b == 48) && not (length bs == 0)

-- a number among the words: decimal digits without a sign and without a leading zero, that fit 32 bits
abbrev pub id_of : List ℕ → Option ℕ
id_of w = if has_leading_zero w then None else number_up_to (2 ^ 32 - 1) w

-- a name among the words
abbrev pub name_of : List ℕ → Option (List ℕ)
name_of w = if is_name w then Some w else None

-- the words that have no further one
abbrev pub order_of : List ℕ → Option Request
order_of word =
    if same_name word (codes "offline") then Some requests.Offline
    else if same_name word (codes "online") then Some requests.Online
    else if same_name word (codes "stop") then Some requests.Stop
    else None

-- lookups, by name or by number
abbrev pub lookup_of : List ℕ → List ℕ → Option Request
lookup_of word name =
    if same_name word (codes "user") then option_map requests.User (name_of name)
    else if same_name word (codes "uid") then option_map requests.Uid (id_of name)
    else if same_name word (codes "group") then option_map requests.Group (name_of name)
    else if same_name word (codes "gid") then option_map requests.Gid (id_of name)
    else if same_name word (codes "groups") then option_map requests.GroupsOf (name_of name)
    else None

abbrev pub named_query : List ℕ → List ℕ → Option Query
named_query word name =
    if same_name word (codes "login") then option_map queries.Login (name_of name)
    else option_map queries.Asked (lookup_of word name)

abbrev pub check_of : List ℕ → List ℕ → List ℕ → Option Request
check_of word user service =
    if same_name word (codes "access") && (is_name user && is_name service) then Some (requests.Access user service) else None

-- the query that words ask, where they have a form
abbrev pub query_of : List (List ℕ) → Option Query
query_of (word ∷ []) = option_map queries.Asked (order_of word)
query_of (word ∷ name ∷ []) = named_query word name
query_of (word ∷ user ∷ service ∷ []) = option_map queries.Asked (check_of word user service)
query_of _ = None

-- the first line of an input: the bytes before its first line feed, or all of them where it has none
abbrev pub first_line : List ℕ → List ℕ
first_line input = (cut_of 10 input).0

-- whether a query needs a password
abbrev pub needs_password : Query → Bool
needs_password (queries.Asked request) = false
needs_password (queries.Login user) = true

-- the names of a query are within their limits
abbrev pub is_sound_query : Query → Bool
is_sound_query (queries.Asked request) = is_sound request
is_sound_query (queries.Login user) = is_name user
