-- The digest before the first round, and after one more.
use Rattle.std.proofs.Common.{◌≡◌, ℕ, ◌+◌, List, ◌++◌, refl, add-one}
use Rattle.sha2.specs.Sha512.{sha512}
use Rattle.sd_creds.specs.Hashes.{round_of}

pub first_digest : (salt password : List ℕ) → sha512 (salt ++ password) ≡ round_of salt password 0
unfolding round_of
first_digest salt password = refl

pub next_digest : (salt password : List ℕ) (n : ℕ) → sha512 (round_of salt password n ++ salt ++ password) ≡ round_of salt password (n + 1)
unfolding round_of
next_digest salt password n = rw add-one refl
