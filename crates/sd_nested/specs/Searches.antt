-- The searches of the rounds, and what comes of them over told entries.
use Rattle.std.specs.Prelude.{◌≡◌, ℕ, false, List, [], ◌∷◌, map, codes}
use Rattle.sd_ldap.specs.declared.entry.DirEntry.{DirEntry}
use Rattle.sd_ldap.specs.Filters.{FilterValue, both, either, equal, present, no_filters, with_filter}
use Rattle.sd_ldap.specs.Values.{SearchValue}
use Rattle.sd_match.specs.Answering.{found, sent}
use Rattle.sd_dial.specs.declared.searched.Searched.{Searched}
use Rattle.sd_dial.specs.declared.searched.Searched.TheVariants as searches

-- the attributes asked for
abbrev pub asked_attributes : List (List ℕ)
asked_attributes =
    codes "objectClass" ∷ codes "uid" ∷ codes "uidNumber" ∷ codes "gidNumber" ∷ codes "homeDirectory" ∷ codes "cn" ∷ codes "member" ∷ []

abbrev pub search_for : List ℕ → ℕ → FilterValue → SearchValue
search_for base scope filter = record {
  base = base;
  scope = scope;
  deref = 0;
  size = 0;
  time = 0;
  types_only = false;
  filter = filter;
  attributes = asked_attributes;
}

-- the entry at a DN: (objectClass=*)
abbrev pub read_search : List ℕ → SearchValue
read_search dn = search_for dn 0 (present (codes "objectClass"))

-- (|(objectClass=posixGroup)(objectClass=groupOfNames))
abbrev pub group_filter : FilterValue
group_filter = either (with_filter (equal (codes "objectClass") (codes "posixGroup")) (with_filter (equal (codes "objectClass") (codes "groupOfNames")) no_filters))

-- the groups at or under the base of which a DN is a member: (&(|(objectClass=posixGroup)(objectClass=groupOfNames))(member=DN))
abbrev pub holder_search : List ℕ → List ℕ → SearchValue
holder_search base dn = search_for base 2 (both (with_filter group_filter (with_filter (equal (codes "member") dn) no_filters)))

-- What comes of a search over these entries: those found, as they are sent; 32 alone, where there are none;
-- or no answer.
abbrev pub IsAnswer : List DirEntry → SearchValue → Searched → Type 0
IsAnswer told s (searches.Entries given) = given ≡ map (sent s) (found told s)
IsAnswer told s (searches.Code code) = (code ≡ 32) × (found told s ≡ [])
IsAnswer told s (searches.Failed why) = Unit {0}
IsAnswer told s searches.Memory = Unit {0}

-- what is asked: for the entry at a DN, or for the groups that hold it
pub data Question : Type 0 where
  entry_at : List ℕ → Question
  holders_of : List ℕ → Question

-- a question, and what it came to
pub record Exchange : Type 0 where
  pub question : Question
  pub searched : Searched
