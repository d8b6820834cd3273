-- What comes over a link in some calls.
use Rattle.std.specs.Prelude.{◌≡◌, ℕ, List, ◌++◌, length, drop}
use Rattle.std.specs.declared.option.Option.{Option}
use Rattle.std.specs.Io.KnownBytes.{append_known, prepend_known}

-- the bytes by which a list grew
abbrev pub gained : List ℕ → List ℕ → List ℕ
gained old new = drop (length old) new

-- What the client holds grew by what came over the link: the link tells it behind the bytes received, and it
-- stood in front of the bytes to come.
pub record Comes (r r' c c' : Option (List ℕ)) (old new : List ℕ) : Type 0 where
  pub grown : new ≡ old ++ gained old new
  pub received : r' ≡ append_known r (gained old new)
  pub coming : c ≡ prepend_known (gained old new) c'
