-- What is known of a told text.
use Rattle.std.proofs.Common.{ℕ, List, Option, Some, None}
use Rattle.std.specs.Prelude.{IfSome}

pub known_by : (input : Option (List ℕ)) (P Q : List ℕ → Type 0) → ((text : List ℕ) → P text → Q text) → IfSome input P → IfSome input Q
known_by None P Q f h = tt
known_by (Some text) P Q f h = f text h
