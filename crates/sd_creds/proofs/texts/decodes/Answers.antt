use Rattle.std.proofs.Common.{arith}
use Rattle.sd_creds.proofs.Decoded.{told, whole, no_error}
use Rattle.sd_creds.proofs.texts.decodes.Goals as goal

pub returns-in-Ok-clause-told : goal.returns-in-Ok-clause-told
returns-in-Ok-clause-told c =
    told c.args.text.now c.decode_slice_unchecked.new.output c.in-Ok.count c.args.size
    (λ i. let fits = c.type_inv.text i in omega arith) c.in-Ok.ensures.ok.0

pub returns-in-Ok-clause-whole : goal.returns-in-Ok-clause-whole
returns-in-Ok-clause-whole c = λ bytes fits len is.
    whole c.args.text.now c.decode_slice_unchecked.new.output bytes c.in-Ok.count c.args.size fits len is c.in-Ok.ensures.ok.0
    (let room = c.in-Ok.ensures.ok.2 in omega arith)

pub returns-in-Err-clause-whole : goal.returns-in-Err-clause-whole
returns-in-Err-clause-whole c = λ bytes fits len is.
    absurd (no_error c.args.text.now bytes c.in-Err._fault fits is c.in-Err.ensures.err)
