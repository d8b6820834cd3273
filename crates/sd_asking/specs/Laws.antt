-- What single replies decide, where all that came before was read.
use Rattle.std.specs.Prelude.{◌≡◌, ℕ, ◌+◌, ◌^◌, ◌<◌, ◌≤◌, List, [], ◌∷◌, ◌++◌, length}
use Rattle.sd_base.specs.declared.Why.TheVariants as whys
use Rattle.sd_ldap.specs.Values.{OperationValue, bind_response, done}
use Rattle.sd_ldap.specs.Spelling.{message_bytes}
use Rattle.sd_match.specs.Answering.{told, reply}
use Rattle.sd_client.specs.declared.step.Request.{Request}
use Rattle.sd_client.specs.declared.step.Request.TheVariants as requests
use Rattle.sd_client.specs.Deciding.{undecided, ended, failed, decided}

-- the first byte of a message alone decides nothing
abbrev pub CutDecides : Type 0
CutDecides =
    (request : Request) (id : ℕ) (received : List ℕ) → length received < 67108864
    → decided request id (length received) (received ++ 48 ∷ []) ≡ undecided

-- a message of indefinite length is none
abbrev pub IndefiniteDecides : Type 0
IndefiniteDecides =
    (request : Request) (id : ℕ) (received more : List ℕ) → length received + 2 ≤ 67108864
    → decided request id (length received) (received ++ 48 ∷ 128 ∷ more) ≡ failed (whys.Bytes 1)

-- the operation that ends the reply to a request
abbrev pub ending : Request → ℕ → OperationValue
ending requests.Search code = done (told code)
ending requests.Bind code = bind_response (told code)

-- a message with a code alone decides that code
abbrev pub CodeDecides : Type 0
CodeDecides =
    (request : Request) (id code : ℕ) (received : List ℕ) → id ≤ 2147483647 → code < 2 ^ 32
    → length received + length (message_bytes (reply id (ending request code))) ≤ 67108864
    → decided request id (length received) (received ++ message_bytes (reply id (ending request code)))
    ≡ ended [] code (length received + length (message_bytes (reply id (ending request code))))
