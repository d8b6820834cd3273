-- What decode answers.
use Rattle.std.specs.Prelude.{◌≡◌}
use Rattle.sd_ldap.specs.declared.decoding.Decoded.{Decoded}
use Rattle.sd_ldap.specs.declared.decoding.Decoded.TheVariants.{Whole, More, Bad, Memory}
use Rattle.sd_ldap.specs.Values.{message_value}
use Rattle.sd_ldap.specs.MessageReading.{DecodedValue, whole, unfinished, wrong}

-- an answer is the one that the bytes have, unless memory was wanting
abbrev pub IsDecoded : Decoded → DecodedValue → Type 0
IsDecoded (Whole message used) value = value ≡ whole (message_value message) used
IsDecoded More value = value ≡ unfinished
IsDecoded (Bad at) value = value ≡ wrong at
IsDecoded Memory value = Unit {0}
