use Rattle.std.proofs.Common.{◌∙◌}
use Rattle.sd_ldif.proofs.Decoding.{decoded_so, not_decoded}
use Rattle.sd_ldif.proofs.forms.decoded.Goals as goal

pub returns-in_ok-from_bytes-in-Ok : goal.returns-in_ok-from_bytes-in-Ok
returns-in_ok-from_bytes-in-Ok c =
    decoded_so c.args.text.now c.in-Ok.bytes.items c.in_ok-from_bytes-in-Ok.field-0 c.in-Ok.ensures.ok (c.in_ok-from_bytes-in-Ok.ensures ∙ c.as_slice.ensures.value)

pub returns-in-Err-DecodeError : goal.returns-in-Err-DecodeError
returns-in-Err-DecodeError c = not_decoded c.args.text.now c.in-Err-DecodeError.field-0 c.in-Err-DecodeError._fault c.in-Err-DecodeError.ensures.err c.in-Err-DecodeError.field-0-is
