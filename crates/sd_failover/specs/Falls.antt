-- The falls of servers that were told, as far as they can still count, and which server is picked after them.
use Rattle.std.specs.Prelude.{ℕ, Bool, true, false, ◌&&◌, ◌||◌, ◌==◌, ◌+◌, nat_lt, nat_le, not, find, filter, map, List, [], ◌∷◌, ◌++◌, Option, Some, None, is_some, if◌then◌else◌}
use Rattle.std.specs.List.{range_with_len, list_any}
use Rattle.sd_failover.specs.declared.falls.Fall.{Fall}

-- how many servers there are, and the falls that can still count, in the order in which they were told
pub record Told : Type 0 where
  pub servers : ℕ
  pub falls : List Fall

abbrev pub is_number : Option ℕ → ℕ → Bool
is_number None n = false
is_number (Some m) n = m == n

-- a fall under this request, which is not closed
abbrev pub is_under : Fall → ℕ → Bool
is_under fall request = is_number fall.request request

-- a fall of this server under this request; whether an online came after it says nothing here
abbrev pub falls_under : Fall → ℕ → ℕ → Bool
falls_under fall request server = is_under fall request && (fall.server == server)

abbrev pub has_fallen_under : List Fall → ℕ → ℕ → Bool
has_fallen_under falls request server = list_any (λ fall. falls_under fall request server) falls

abbrev pub is_shortly_after : ℕ → ℕ → Bool
is_shortly_after t m = nat_lt t (m + 30)

-- a fall of this server less than 30 seconds before t, with no online after it
abbrev pub falls_lately : Fall → ℕ → ℕ → Bool
falls_lately fall t server = (not fall.online_since && (fall.server == server)) && is_shortly_after t fall.moment

abbrev pub has_fallen_lately : List Fall → ℕ → ℕ → Bool
has_fallen_lately falls t server = list_any (λ fall. falls_lately fall t server) falls

abbrev pub is_down : List Fall → ℕ → ℕ → ℕ → Bool
is_down falls request t server = has_fallen_under falls request server || has_fallen_lately falls t server

-- the first primary, else the first backup, that is not down; primaries have the least numbers
abbrev pub picked_server : Told → ℕ → ℕ → Option ℕ
picked_server t request moment = find (λ server. not (is_down t.falls request moment server)) (range_with_len 0 t.servers)

-- a fall under no request, or under that of another
abbrev pub is_or_none : Option ℕ → Fall → Bool
is_or_none None later = true
is_or_none (Some request) later = is_under later request

abbrev pub is_of_same_request : Fall → Fall → Bool
is_of_same_request earlier later = is_or_none earlier.request later

-- an earlier fall counts nowhere once a later one of the same server is told, unless its request is another that is not closed
abbrev pub is_replaced : Fall → Fall → Bool
is_replaced earlier later =
    ((earlier.server == later.server) && nat_le earlier.moment later.moment) && is_of_same_request earlier later

-- a fall is told: it comes last, and those that it replaces are kept no longer
abbrev pub with_fall : Fall → List Fall → List Fall
with_fall fall falls = filter (λ earlier. not (is_replaced earlier fall)) falls ++ fall ∷ []

abbrev pub with_online : Fall → Fall
with_online fall = record fall { online_since = true }

-- an online is told: each fall under a request that is not closed has one after it, and the others can count no more
abbrev pub after_online : List Fall → List Fall
after_online falls = map with_online (filter (λ fall. is_some fall.request) falls)

-- a fall under this request, before an online
abbrev pub is_spent : Fall → ℕ → Bool
is_spent fall request = is_under fall request && fall.online_since

abbrev pub released : ℕ → Fall → Fall
released request fall = if is_under fall request then record fall { request = None } else fall

-- a request is closed: its falls count by their moments alone, so those before an online count no more
abbrev pub after_closed : ℕ → List Fall → List Fall
after_closed request falls = map (released request) (filter (λ fall. not (is_spent fall request)) falls)
