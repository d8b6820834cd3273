-- The last invalidation of each kind, by its number; 0 where there is none.
use Rattle.std.specs.Prelude.{ℕ, List}

pub record Bounds : Type 0 where
  pub all : ℕ
  pub users : ℕ
  pub groups : ℕ
  pub user_names : List (List ℕ × ℕ)
  pub group_names : List (List ℕ × ℕ)
