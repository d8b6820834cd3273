-- Reading a SID's text: one byte more.
use Rattle.std.proofs.Common.{◌≡◌, ℕ, List, [], ◌∷◌, ◌++◌}
use Rattle.std.specs.Option.{option_and_then}
use Rattle.sd_idmap.specs.Reading.{Progress, run, step}
use Rattle.sd_pieces.proofs.StepLaws as steps

pub run_push : (p : Progress) (xs : List ℕ) (b : ℕ) → run p (xs ++ b ∷ []) ≡ option_and_then (λ q. step q b) (run p xs)
run_push p xs b = steps.run_push step p xs b
