-- Where a directory is served: `HOST:PORT`.
use Rattle.std.specs.Prelude.{ℕ, Bool, false, not, ◌==◌, ◌&&◌, List, [], ◌∷◌, Option, Some, None, is_some}
use Rattle.sd_conf.specs.Values.{is_host}
use Rattle.sd_pieces.specs.Digits.{number_up_to}
use Rattle.sd_pieces.specs.Pieces.{cut_of}

abbrev pub leads_with_zero : List ℕ → Bool
leads_with_zero [] = false
leads_with_zero (b ∷ bs) = b == 48

-- 1 to 65535, without a zero before its digits
abbrev pub is_port : List ℕ → Bool
is_port text = is_some (number_up_to 65535 text) && not (leads_with_zero text)

-- what stands before the first colon is a host, and what stands behind it a port
abbrev pub is_address_of : List ℕ → Option (List ℕ) → Bool
is_address_of host None = false
is_address_of host (Some port) = is_host host && is_port port

abbrev pub is_address : List ℕ → Bool
is_address word = is_address_of (cut_of 58 word).0 (cut_of 58 word).1
