-- The texts of stored hashes.
use Rattle.std.specs.Prelude.{◌≡◌, ◌≢◌, ℕ, List, ◌++◌, length, codes}
use Rattle.base64.specs.Engines.{standard}
use Rattle.base64.specs.GeneralPurpose.{encode_of, IsBytes}
use Rattle.sd_rules.specs.declared.events.Hash.{Hash}

-- a salt of 16 bytes and a digest of 64
pub record IsHash (h : Hash) : Type 0 where
  pub salt : IsBytes h.salt
  pub salt_len : length h.salt ≡ 16
  pub digest : IsBytes h.digest
  pub digest_len : length h.digest ≡ 64

-- the text of a hash: `$sd1$`, the salt, `$`, the digest, both in base64
abbrev pub text_of : Hash → List ℕ
text_of h = codes "$sd1$" ++ encode_of standard h.salt ++ codes "$" ++ encode_of standard h.digest

-- the text of no hash
abbrev pub IsNoHash : List ℕ → Type 0
IsNoHash text = (h : Hash) → IsHash h → text ≢ text_of h
