-- Where the entry of a name stands.
use Rattle.std.specs.Prelude.{◌≡◌, ◌≢◌, ℕ, ◌<◌, suc, true, false, cond, is_some, List, length, Option, Some, None}
use Rattle.std.specs.Map.{lookup}
use Rattle.sd_dn.specs.declared.Pair.{Pair}
use Rattle.sd_dn.specs.Comparing.{same_dn}
use Rattle.sd_dn.specs.Texts.{spelled, both_meet}
use Rattle.sd_ldap.specs.declared.entry.DirEntry.{DirEntry}
use Rattle.sd_names.specs.declared.naming.Name.{Name}
use Rattle.sd_names.specs.Naming.{parts, lowered, names_equal}
use Rattle.sd_places.specs.Covers.{at_slot}

-- the place that is kept for a name
abbrev pub place_named : List (Name × ℕ) → Name → Option ℕ
place_named names name = lookup (names_equal name) names

-- the place of a name, where its slot holds an entry
abbrev pub if_there : List (Option DirEntry) → Option ℕ → Option ℕ
if_there slots (Some p) = cond (is_some (at_slot slots p)) (Some p) None
if_there slots None = None

-- Each entry whose text spells a DN stands at the place that is kept for its name. A place may be kept for a name
-- whose entry was taken out.
pub record AreNamed (names : List (Name × ℕ)) (slots : List (Option DirEntry)) : Type 0 where
  pub found : (name : Name) (p : ℕ) (e : DirEntry) → place_named names name ≡ Some p → at_slot slots p ≡ Some e → lowered (spelled e.dn) ≡ Some (parts name)
  pub known : (name : Name) (p : ℕ) (e : DirEntry) → at_slot slots p ≡ Some e → lowered (spelled e.dn) ≡ Some (parts name) → place_named names name ≡ Some p
  pub apart : (a b : Name) (p : ℕ) → place_named names a ≡ Some p → place_named names b ≡ Some p → parts a ≡ parts b
  pub below : (name : Name) (p : ℕ) → place_named names name ≡ Some p → p < length slots

-- a place is the one where an entry is to stand: that of the entry which has its DN, else one behind all
pub record IsReserved (names : List (Name × ℕ)) (slots : List (Option DirEntry)) (p : ℕ) (e : DirEntry) : Type 0 where
  pub within : p < length slots
  pub named : (name : Name) → place_named names name ≡ Some p → lowered (spelled e.dn) ≡ Some (parts name)
  pub at : (name : Name) → lowered (spelled e.dn) ≡ Some (parts name) → place_named names name ≡ Some p
  pub here : (old : DirEntry) → at_slot slots p ≡ Some old → both_meet same_dn (spelled old.dn) (spelled e.dn) ≡ true
  pub last : at_slot slots p ≡ None → suc p ≡ length slots
  pub others : (q : ℕ) (x : DirEntry) → at_slot slots q ≡ Some x → q ≢ p → both_meet same_dn (spelled x.dn) (spelled e.dn) ≡ false

-- at most at this place there is an entry of a DN
pub record IsAlone (slots : List (Option DirEntry)) (dn : Option (List (List Pair))) (p : ℕ) : Type 0 where
  pub within : p < length slots
  pub here : (old : DirEntry) → at_slot slots p ≡ Some old → both_meet same_dn (spelled old.dn) dn ≡ true
  pub others : (q : ℕ) (x : DirEntry) → at_slot slots q ≡ Some x → q ≢ p → both_meet same_dn (spelled x.dn) dn ≡ false

-- no entry has a DN
abbrev pub IsNowhere : List (Option DirEntry) → Option (List (List Pair)) → Type 0
IsNowhere slots dn = (q : ℕ) (x : DirEntry) → at_slot slots q ≡ Some x → both_meet same_dn (spelled x.dn) dn ≡ false

-- where the entry of a DN is, if there is one
abbrev pub IsPlaceOf : List (Option DirEntry) → Option (List (List Pair)) → Option ℕ → Type 0
IsPlaceOf slots dn (Some p) = IsAlone slots dn p
IsPlaceOf slots dn None = IsNowhere slots dn
