-- What stands outside of the program: its links, and what is counted of them.
use Rattle.std.specs.Prelude.{◌≡◌, ◌⊎◌, ℕ, ◌<◌, ◌≤◌, List, [], ◌∷◌}
use Rattle.std.specs.declared.option.Option.{Option}
use Rattle.sd_base.specs.Causes.{Rose}
use Rattle.sd_tools.specs.Replies.{with_pieces}

-- a count of faults takes in those of an object: it rises where the object has counted one, and else stands
pub record Counted (before now faults : ℕ) : Type 0 where
  pub later : before ≤ now
  pub rises : 0 < faults → Rose before now
  pub stands : faults ≡ 0 → now ≡ before

-- two links were made, both at the socket at a path
abbrev pub IsDialledTwice : List ℕ → Option (List (List ℕ)) → Option (List (List ℕ)) → Type 0
IsDialledTwice path before now = now ≡ with_pieces before (path ∷ path ∷ [])

-- no link was made, and so it is as it was; or one was, at the socket at a path
abbrev pub LinksFirst : List ℕ → Option (List (List ℕ)) → Option (List (List ℕ)) → Type 0 → Type 0
LinksFirst path before now IsAsItWas = ((now ≡ before) × IsAsItWas) ⊎ (now ≡ with_pieces before (path ∷ []))

-- the same, or two links were made there
abbrev pub LinksOften : List ℕ → Option (List (List ℕ)) → Option (List (List ℕ)) → Type 0 → Type 0
LinksOften path before now IsAsItWas = LinksFirst path before now IsAsItWas ⊎ IsDialledTwice path before now
