-- What one message says to a client that waits for the reply to a request.
use Rattle.std.specs.Prelude.{ℕ, ◌==◌, if◌then◌else◌}
use Rattle.sd_base.specs.declared.Why.TheVariants as whys
use Rattle.sd_ldap.specs.Values.{OperationValue, MessageValue, bind_request, bind_response, unbind, search, entry, done, reference, other}
use Rattle.sd_ldap.specs.Spelling.{operation_tag}
use Rattle.sd_ldap.specs.MessageReading.{DecodedValue, whole, unfinished, wrong}
use Rattle.sd_client.specs.declared.step.Request.{Request}
use Rattle.sd_client.specs.declared.step.Request.TheVariants as requests
use Rattle.sd_client.specs.declared.step.Step.{Step}
use Rattle.sd_client.specs.declared.step.Step.TheVariants.{Waits, Passed, Found, Ended, Failed}

-- a search expects entries, references, which are passed over, and the done; a bind expects its response
abbrev pub operation_heard : Request → ℕ → OperationValue → Step
operation_heard requests.Search used (entry found) = Found found used
operation_heard requests.Search used (done result) = Ended result.code used
operation_heard requests.Search used reference = Passed used
operation_heard requests.Search used operation = Failed (whys.Message (operation_tag operation))
operation_heard requests.Bind used (bind_response result) = Ended result.code used
operation_heard requests.Bind used operation = Failed (whys.Message (operation_tag operation))

-- messages of another id are passed over
abbrev pub message_heard : Request → ℕ → ℕ → MessageValue → Step
message_heard request id used m = if m.id == id then operation_heard request used m.operation else Passed used

-- what bytes begin with: a message, less than one, or what is none
abbrev pub step_of : Request → ℕ → DecodedValue → Step
step_of request id (whole m used) = message_heard request id used m
step_of request id unfinished = Waits
step_of request id (wrong at) = Failed (whys.Bytes at)
