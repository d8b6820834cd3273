-- What the decoder says of a text.
use Rattle.std.proofs.Common.{◌≡◌, ℕ, List, Some, None, Ok, Err, sym, ap, subst, ◌∙◌}
use Rattle.std.specs.Result.{result_ok}
use Rattle.base64.specs.declared.decode.DecodeError.{DecodeError}
use Rattle.base64.specs.declared.decode.DecodeAllocError.{DecodeAllocError}
use Rattle.base64.specs.declared.decode.DecodeAllocError.TheVariants.{DecodeError as Failed}
use Rattle.base64.specs.Engines.{standard}
use Rattle.base64.specs.GeneralPurpose.{decode_of, IsDecodeFailure}
use Rattle.sd_ldif.specs.Forms.{decoded}

pub decoded_so : (text bytes value : List ℕ) → decode_of standard text ≡ Ok bytes → value ≡ bytes → Some value ≡ decoded text
unfolding decoded
decoded_so text bytes value h e = ap (λ (w : List ℕ). Some w) e ∙ sym (ap result_ok h)

failed : (text : List ℕ) (fault : DecodeAllocError) (why : DecodeError) → IsDecodeFailure standard text fault → fault ≡ Failed why → decode_of standard text ≡ Err why
failed text fault why h e = subst (λ (f : DecodeAllocError). IsDecodeFailure standard text f) e h

pub not_decoded : (text : List ℕ) (fault : DecodeAllocError) (why : DecodeError) → IsDecodeFailure standard text fault → fault ≡ Failed why → None ≡ decoded text
unfolding decoded
not_decoded text fault why h e = sym (ap result_ok (failed text fault why h e))
