-- Paths of members: from a netgroup to each netgroup of a name that is among its members, and so on.
use Rattle.std.specs.Prelude.{◌≡◌, ℕ, zero, suc, ◌⊎◌, List, [], ◌∷◌}
use Rattle.std.specs.List.Sorted.{IsStrictlySortedBy}
use Rattle.sd_ldap.specs.declared.entry.DirEntry.{DirEntry}
use Rattle.sd_triples.specs.declared.triples.Triple.{Triple}
use Rattle.sd_triples.specs.Grammar.{Spells}
use Rattle.sd_triples.specs.Order.{triple_cmp}
use Rattle.sd_netgroup.specs.Named.{named_in, members_of, texts_of}

-- a thing is in a list
abbrev pub In : {X : Type 0} → X → List X → Type 0
In x [] = ⊥
In x (y ∷ ys) = (y ≡ x) ⊎ In x ys

-- one step: to an entry named by one of the members
abbrev pub StepsTo : List DirEntry → List ℕ → DirEntry → DirEntry → Type 0
StepsTo entries base e f = (member : List ℕ) × In member (members_of e) × In f (named_in entries base member)

-- a path of so many steps
abbrev pub LeadsTo : List DirEntry → List ℕ → ℕ → DirEntry → DirEntry → Type 0
LeadsTo entries base zero e g = e ≡ g
LeadsTo entries base (suc n) e g = (f : DirEntry) × StepsTo entries base e f × LeadsTo entries base n f g

-- the end of a path of any length, none too, from an entry of the name
abbrev pub IsEnd : List DirEntry → List ℕ → List ℕ → DirEntry → Type 0
IsEnd entries base name g = (n : ℕ) × (e : DirEntry) × In e (named_in entries base name) × LeadsTo entries base n e g

-- one of the texts of an entry spells the triple
abbrev pub HasTriple : DirEntry → Triple → Type 0
HasTriple e t = (text : List ℕ) × In text (texts_of e) × Spells text t

-- The triples of a netgroup: those of all entries at the ends of paths from the entries of its name, by the bytes
-- of host, user and domain, each once.
pub record AreTriplesOf (entries : List DirEntry) (base name : List ℕ) (triples : List Triple) : Type 0 where
  pub ordered : IsStrictlySortedBy triple_cmp triples
  pub sound : (t : Triple) → In t triples → (e : DirEntry) × IsEnd entries base name e × HasTriple e t
  pub complete : (e : DirEntry) (t : Triple) → IsEnd entries base name e → HasTriple e t → In t triples
