-- In which netgroups a user stands.
use Rattle.std.specs.Prelude.{◌≡◌, ℕ, Bool, true, false, ◌⊎◌, List, [], ◌∷◌, Some, None}
use Rattle.sd_ldap.specs.declared.entry.DirEntry.{DirEntry}
use Rattle.sd_triples.specs.declared.triples.Triple.{Triple}
use Rattle.sd_triples.specs.Matching.{speaks_of}
use Rattle.sd_netgroup.specs.Paths.{IsEnd, HasTriple}
use Rattle.sd_netgroup.specs.Told.{AreWithin}
use Rattle.sd_netgroup.specs.Endings.{directory_of, IsLimited}

-- a triple at the end of a path from the netgroup speaks of the user, whatever its host and domain
pub record StandsIn (entries : List DirEntry) (base user net : List ℕ) : Type 0 where
  pub end : DirEntry
  pub is_end : IsEnd entries base net end
  pub triple : Triple
  pub has : HasTriple end triple
  pub speaks : speaks_of None (Some user) None triple ≡ true

-- a test says whether it is so
abbrev pub IsSo : Type 0 → Bool → Type 0
IsSo P true = P
IsSo P false = P → ⊥

-- no search for the netgroup meets a limit, and whether the user stands in it
abbrev pub IsTold : List DirEntry → List ℕ → List ℕ → List ℕ → Bool → Type 0
IsTold entries base user net stands = AreWithin (directory_of entries) 0 1 base net × IsSo (StandsIn entries base user net) stands

-- either a thing is kept, which is so, and others are behind it, or it is not so
abbrev pub Keeps : {X : Type 0} → Type 0 → X → (List X → Type 0) → List X → Type 0
Keeps {X} P x others kept = (P × ((rest : List X) × (kept ≡ x ∷ rest) × others rest)) ⊎ ((P → ⊥) × others kept)

-- those of some netgroups in which the user stands, in their order
abbrev pub AreStood : List DirEntry → List ℕ → List ℕ → List (List ℕ) → List (List ℕ) → Type 0
AreStood entries base user [] kept = kept ≡ []
AreStood entries base user (net ∷ nets) kept = Keeps (StandsIn entries base user net) net (AreStood entries base user nets) kept

-- ---- limits

-- no search for these netgroups meets a limit
abbrev pub NetsPass : List DirEntry → List ℕ → List (List ℕ) → Type 0
NetsPass entries base [] = Unit {0}
NetsPass entries base (net ∷ nets) = AreWithin (directory_of entries) 0 1 base net × NetsPass entries base nets

-- one does
abbrev pub NetsMeet : List DirEntry → List ℕ → List (List ℕ) → Type 0
NetsMeet entries base [] = ⊥
NetsMeet entries base (net ∷ nets) = IsLimited entries base net ⊎ NetsMeet entries base nets
