-- What a step says of the bytes that it was read from.
use Rattle.std.proofs.Common.{◌≡◌, ℕ, ◌+◌, ◌<◌, ◌≤◌, true, false, eqb, List, [], ◌∷◌, length, refl, inl, inr}
use Rattle.std.proofs.lemmas.Bool.{cases_Bool}
use Rattle.sd_ldap.specs.Values.{OperationValue, MessageValue, bind_request, bind_response, unbind, search, entry, done, reference, other}
use Rattle.sd_ldap.specs.MessageReading.{DecodedValue, whole, unfinished, wrong, decode_of}
use Rattle.sd_client.specs.declared.step.Request.{Request}
use Rattle.sd_client.specs.declared.step.Request.TheVariants as requests
use Rattle.sd_client.specs.declared.step.Step.{Step}
use Rattle.sd_client.specs.declared.step.Step.TheVariants.{Waits, Passed, Found, Ended, Failed}
use Rattle.sd_client.specs.Waiting.{IsWithin, is_waiting}
use Rattle.sd_client.specs.Heard.{operation_heard, message_heard, step_of}
use Rattle.sd_ldap.proofs.Sizes.{used_within}

operation_within : (request : Request) (used count : ℕ) (operation : OperationValue) → (0 < used) × (used ≤ count) → IsWithin (operation_heard request used operation) count
operation_within requests.Search used count (entry found) h = h
operation_within requests.Search used count (done result) h = h
operation_within requests.Search used count reference h = h
operation_within requests.Search used count (bind_request version name password) h = tt
operation_within requests.Search used count (bind_response result) h = tt
operation_within requests.Search used count unbind h = tt
operation_within requests.Search used count (search request) h = tt
operation_within requests.Search used count (other tag) h = tt
operation_within requests.Bind used count (bind_response result) h = h
operation_within requests.Bind used count (entry found) h = tt
operation_within requests.Bind used count (done result) h = tt
operation_within requests.Bind used count reference h = tt
operation_within requests.Bind used count (bind_request version name password) h = tt
operation_within requests.Bind used count unbind h = tt
operation_within requests.Bind used count (search request) h = tt
operation_within requests.Bind used count (other tag) h = tt

-- what a message of any kind takes is there
pub message_within : (request : Request) (id used count : ℕ) (m : MessageValue) → (0 < used) × (used ≤ count) → IsWithin (message_heard request id used m) count
message_within request id used count m h =
    elim (cases_Bool (eqb m.id id)) [
      | inl own ↦ rw own (operation_within request used count m.operation h)
      | inr other_id ↦ rw other_id h
    ]

decoded_within : (request : Request) (id count : ℕ) (d : DecodedValue) → ((m : MessageValue) (used : ℕ) → d ≡ whole m used → (0 < used) × (used ≤ count)) → IsWithin (step_of request id d) count
decoded_within request id count (whole m used) h = message_within request id used count m (h m used refl)
decoded_within request id count unfinished h = tt
decoded_within request id count (wrong at) h = tt

-- what a step takes is there
pub step_within : (request : Request) (id : ℕ) (bytes : List ℕ) → IsWithin (step_of request id (decode_of bytes)) (length bytes)
step_within request id bytes = decoded_within request id (length bytes) (decode_of bytes) (used_within bytes)

-- a message that is there is no wait
operation_moves : (request : Request) (used : ℕ) (operation : OperationValue) → Waits ≡ operation_heard request used operation → ⊥
operation_moves requests.Search used (entry found) e = cc
operation_moves requests.Search used (done result) e = cc
operation_moves requests.Search used reference e = cc
operation_moves requests.Search used (bind_request version name password) e = cc
operation_moves requests.Search used (bind_response result) e = cc
operation_moves requests.Search used unbind e = cc
operation_moves requests.Search used (search request) e = cc
operation_moves requests.Search used (other tag) e = cc
operation_moves requests.Bind used (entry found) e = cc
operation_moves requests.Bind used (done result) e = cc
operation_moves requests.Bind used reference e = cc
operation_moves requests.Bind used (bind_request version name password) e = cc
operation_moves requests.Bind used (bind_response result) e = cc
operation_moves requests.Bind used unbind e = cc
operation_moves requests.Bind used (search request) e = cc
operation_moves requests.Bind used (other tag) e = cc

message_moves : (request : Request) (id used : ℕ) (m : MessageValue) → Waits ≡ message_heard request id used m → ⊥
message_moves request id used m e =
    elim (cases_Bool (eqb m.id id)) [
      | inl own ↦ operation_moves request used m.operation (rw own at e)
      | inr other_id ↦ let passed = rw other_id at e in cc
    ]

-- only what is unfinished waits
pub waits_for : (request : Request) (id : ℕ) (d : DecodedValue) → Waits ≡ step_of request id d → d ≡ unfinished
waits_for request id (whole m used) e = absurd (message_moves request id used m e)
waits_for request id unfinished e = refl
waits_for request id (wrong at) e = cc

pub waiting_is : (d : DecodedValue) → is_waiting d ≡ true → d ≡ unfinished
waiting_is (whole m used) e = cc
waiting_is unfinished e = refl
waiting_is (wrong at) e = cc
