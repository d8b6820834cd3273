-- What a network tells, and what it counts.
use Rattle.std.specs.Prelude.{◌≡◌, ◌⊎◌, ◌<◌, ◌≤◌, ℕ, List, [], ◌∷◌, ◌++◌}
use Rattle.std.specs.Option.{option_map}
use Rattle.std.specs.declared.option.Option.{Option}
use Rattle.sd_base.specs.Causes.{Rose}

-- the addresses told, and then one more
abbrev pub with_address : Option (List (List ℕ)) → List ℕ → Option (List (List ℕ))
with_address told address = option_map (λ addresses. addresses ++ address ∷ []) told

-- doors were made at this address once, or none were
abbrev pub ListensAtMostOnce : List ℕ → Option (List (List ℕ)) → Option (List (List ℕ)) → Type 0
ListensAtMostOnce address before now = (now ≡ before) ⊎ (now ≡ with_address before address)

-- a count takes in the faults of an object: it rises where the object counted one, and else stands
pub record Counts (before now faults : ℕ) : Type 0 where
  pub later : before ≤ now
  pub rises : 0 < faults → Rose before now
  pub stands : faults ≡ 0 → now ≡ before
