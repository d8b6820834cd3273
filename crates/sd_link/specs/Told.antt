-- What links tell.
use Rattle.std.specs.Prelude.{ℕ, List, [], ◌∷◌, ◌++◌}
use Rattle.std.specs.Option.{option_map}
use Rattle.std.specs.declared.option.Option.{Option}

-- the pieces told, and then one more
abbrev pub with_piece : Option (List (List ℕ)) → List ℕ → Option (List (List ℕ))
with_piece known piece = option_map (λ pieces. pieces ++ piece ∷ []) known
