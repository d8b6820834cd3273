-- Which triples speak of a host, a user and a domain.
use Rattle.std.specs.Prelude.{ℕ, Bool, true, false, ◌&&◌, ◌||◌, ◌==◌, List, [], ◌∷◌, Option, Some, None}
use Rattle.std.specs.List.{list_any}
use Rattle.std.specs.Cmp.Lexicographic.{pointwise}
use Rattle.sd_dn.specs.Comparing.{same_text}
use Rattle.sd_triples.specs.declared.triples.Triple.{Triple}

abbrev pub is_empty : List ℕ → Bool
is_empty [] = true
is_empty (b ∷ bs) = false

-- an empty field stands for everything, and what is not asked fits every field
abbrev pub fits : (List ℕ → List ℕ → Bool) → List ℕ → Option (List ℕ) → Bool
fits same field None = true
fits same field (Some asked) = is_empty field || same field asked

-- host and domain without ASCII case, the user byte for byte
abbrev pub speaks_of : Option (List ℕ) → Option (List ℕ) → Option (List ℕ) → Triple → Bool
speaks_of host user domain t =
    fits same_text t.host host && (fits (pointwise ◌==◌) t.user user && fits same_text t.domain domain)

abbrev pub is_in : List Triple → Option (List ℕ) → Option (List ℕ) → Option (List ℕ) → Bool
is_in triples host user domain = list_any (speaks_of host user domain) triples
