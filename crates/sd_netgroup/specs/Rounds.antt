-- The names that are asked for, one after the other, and what they lead on to.
use Rattle.std.specs.Prelude.{ℕ, zero, suc, Bool, true, false, if◌then◌else◌, List, [], ◌∷◌, ◌++◌, map, filter, fold, take, slice_get, Option, Some, None}
use Rattle.std.specs.List.{list_any, flat_map}
use Rattle.sd_ldap.specs.declared.entry.DirEntry.{DirEntry}
use Rattle.sd_ldap.specs.Values.{SearchValue}
use Rattle.sd_match.specs.Answering.{same_bytes}
use Rattle.sd_netgroup.specs.Named.{is_called, members_of, named_in}
use Rattle.sd_netgroup.specs.Searches.{net_search}

-- one name more, where it is new
abbrev pub with_name : List (List ℕ) → List ℕ → List (List ℕ)
with_name names name = if list_any (same_bytes name) names then names else names ++ name ∷ []

abbrev pub with_names : List (List ℕ) → List (List ℕ) → List (List ℕ)
with_names names more = fold with_name names more

-- How far the rounds have come: the names found, in their order, of which the first were asked for, and the
-- netgroups of those.
pub record Course : Type 0 where
  pub names : List (List ℕ)
  pub found : List DirEntry

-- at first there is the name alone, which is asked for first
abbrev pub beginning : List ℕ → Course
beginning name = record { names = name ∷ []; found = [] }

-- what is found leads on to its members
abbrev pub further : Course → List DirEntry → Course
further c found = record { names = with_names c.names (flat_map members_of found); found = c.found ++ found }

-- those of some entries that are called so
abbrev pub called_in : List ℕ → List DirEntry → List DirEntry
called_in name entries = filter (λ (e : DirEntry). is_called name e.attributes) entries

abbrev pub is_some : List DirEntry → Bool
is_some [] = false
is_some (e ∷ es) = true

-- ---- over known entries

-- a name was asked for, where one was left
abbrev pub step_in : List DirEntry → List ℕ → Course → Option (List ℕ) → Course
step_in entries base c None = c
step_in entries base c (Some name) = further c (named_in entries base name)

-- so many searches more, from the name at a place on
abbrev pub go_on_in : List DirEntry → List ℕ → Course → ℕ → ℕ → Course
go_on_in entries base c place zero = c
go_on_in entries base c place (suc n) = go_on_in entries base (step_in entries base c (slice_get c.names place)) (suc place) n

-- the course of the first searches
abbrev pub course_in : List DirEntry → List ℕ → List ℕ → ℕ → Course
course_in entries base name n = go_on_in entries base (beginning name) 0 n

-- the first searches, for each name once
abbrev pub searches_in : List DirEntry → List ℕ → List ℕ → ℕ → List SearchValue
searches_in entries base name n = map (net_search base) (take n (course_in entries base name n).names)
