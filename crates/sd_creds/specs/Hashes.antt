-- Stored hashes of passwords, and the salts that they are made with.
use Rattle.std.specs.Prelude.{ℕ, zero, suc, List, ◌++◌, take, Bool, ◌==◌}
use Rattle.std.specs.Int.{w64, to_be_bytes}
use Rattle.std.specs.Cmp.Lexicographic.{pointwise}
use Rattle.sha2.specs.Sha256.{sha256}
use Rattle.sha2.specs.Sha512.{sha512}
use Rattle.sd_rules.specs.declared.events.Hash.{Hash}

-- the digest after so many rounds over the first: SHA-512 of the digest before, the salt and the password
unfoldable pub round_of : List ℕ → List ℕ → ℕ → List ℕ
round_of salt password zero = sha512 (salt ++ password)
round_of salt password (suc n) = sha512 (round_of salt password n ++ salt ++ password)

-- the digest that is stored of a password
abbrev pub digest_of : List ℕ → List ℕ → List ℕ
digest_of salt password = round_of salt password 5000

-- the hash of a password with a salt
abbrev pub hash_of : List ℕ → List ℕ → Hash
hash_of salt password = record { salt = salt; digest = digest_of salt password }

-- whether a password has this hash
abbrev pub is_hash_of : Hash → List ℕ → Bool
is_hash_of h password = pointwise ◌==◌ (digest_of h.salt password) h.digest

-- the salt of a login attempt: the first half of the SHA-256 of the seed and the attempt's number, high byte first
abbrev pub salt_of : List ℕ → ℕ → List ℕ
salt_of seed attempt = take 16 (sha256 (seed ++ to_be_bytes w64 attempt))
