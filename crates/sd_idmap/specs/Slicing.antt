-- Which slice of numbers a domain has, and which number a SID.
use Rattle.std.specs.Prelude.{ℕ, ◌+◌, ◌-◌, ◌*◌, ◌%◌, Bool, ◌&&◌, ◌==◌, not, nat_lt, nat_le, if◌then◌else◌, List, [], ◌∷◌, ◌++◌, length, fold, find, Option, None}
use Rattle.std.specs.List.{list_any, range_with_len}
use Rattle.std.specs.Option.{option_map, option_map_or}
use Rattle.std.specs.Map.{lookup}
use Rattle.std.specs.Cmp.Lexicographic.{pointwise}
use Rattle.sd_idmap.specs.declared.sids.Sid.{Sid}
use Rattle.sd_idmap.specs.Sids.{text_of}
use Rattle.sd_idmap.specs.Hash.{murmur}

abbrev pub same_domain : List ℕ → List ℕ → Bool
same_domain = pointwise ◌==◌

-- the slice that a domain's text asks for
abbrev pub home : List ℕ → ℕ
home domain = murmur 0xdeadbeef (text_of domain) % 10000

-- the domains, each with its slice, in the order in which they were added
abbrev pub Placed : Type 0
Placed = List (List ℕ × ℕ)

abbrev pub is_free : Placed → ℕ → Bool
is_free earlier slice = not (list_any (λ p. slice == p.1) earlier)

-- the slices from one on, and then, going round, those in front of it
abbrev pub going_round : ℕ → List ℕ
going_round first = range_with_len first (10000 - first) ++ range_with_len 0 first

-- the first slice from one on, going round, that no earlier domain has
abbrev pub free_slice : Placed → ℕ → Option ℕ
free_slice earlier first = find (is_free earlier) (going_round first)

abbrev pub with_slice : Placed → List ℕ → Placed
with_slice earlier domain = option_map_or (λ slice. earlier ++ (domain, slice) ∷ []) (free_slice earlier (home domain)) earlier

-- the domains that were added, each once, in the order in which they were first added, with their slices
abbrev pub placed : List (List ℕ) → Placed
placed domains = fold with_slice [] domains

abbrev pub is_held : List (List ℕ) → List ℕ → Bool
is_held domains domain = list_any (same_domain domain) domains

-- a domain that is added: an old one stays where it is
abbrev pub with_domain : List (List ℕ) → List ℕ → List (List ℕ)
with_domain domains domain = if is_held domains domain then domains else domains ++ domain ∷ []

-- every slice has a domain, and this is none of them
abbrev pub is_full_for : List (List ℕ) → List ℕ → Bool
is_full_for domains domain = nat_le 10000 (length domains) && not (is_held domains domain)

-- the domains once this one was to be added
abbrev pub added : List (List ℕ) → List ℕ → List (List ℕ)
added domains domain = if is_full_for domains domain then domains else with_domain domains domain

abbrev pub slice_of : List (List ℕ) → List ℕ → Option ℕ
slice_of domains domain = lookup (same_domain domain) (placed domains)

-- the number of what a domain numbers so, in its slice
abbrev pub number_in : ℕ → ℕ → ℕ
number_in slice rid = 200000 * (slice + 1) + rid

-- the number of a SID
abbrev pub id_of : List (List ℕ) → Sid → Option ℕ
id_of domains sid =
    if nat_lt sid.rid 200000 then option_map (λ slice. number_in slice sid.rid) (slice_of domains sid.domain) else None

-- the slice has the number
abbrev pub has_number : ℕ → ℕ → Bool
has_number id slice = nat_le (number_in slice 0) id && nat_lt id (number_in (slice + 1) 0)

-- the SID of a number, searched among the domains
abbrev pub sid_of : List (List ℕ) → ℕ → Option Sid
sid_of domains id =
    option_map (λ p. record { domain = p.0; rid = id - number_in p.1 0 }) (find (λ p. has_number id p.1) (placed domains))
