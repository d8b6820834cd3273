-- Where a request is no message.
use Rattle.std.specs.Prelude.{◌≡◌, ℕ, ◌==◌, if◌then◌else◌, List, length, Option, Some, None}
use Rattle.sd_ldap.specs.MessageReading.{DecodedValue, whole, unfinished, wrong, decode_of}
use Rattle.sd_stub.specs.declared.fault.StubFault.{StubFault}
use Rattle.sd_stub.specs.declared.fault.StubFault.TheVariants as faults

-- the place of the first wrong element, the end of what is less than a message, or the end of the message where more follows
abbrev pub fault_in : ℕ → DecodedValue → Option ℕ
fault_in len (whole message used) = if used == len then None else Some used
fault_in len unfinished = Some len
fault_in len (wrong at) = Some at

abbrev pub fault_of : List ℕ → Option ℕ
fault_of request = fault_in (length request) (decode_of request)

-- a fault is the request's, unless memory was wanting
abbrev pub Tells : StubFault → Option ℕ → Type 0
Tells (faults.Bad at) place = place ≡ Some at
Tells faults.Memory place = Unit {0}
