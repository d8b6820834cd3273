use Rattle.sd_schema.proofs.ReadDn.{read_so, not_read}
use Rattle.sd_schema.proofs.places.dn_in.Goals as goal

pub returns-in-Ok : goal.returns-in-Ok
returns-in-Ok c = read_so c.args.text.now c.in-Ok.dn c.in-Ok.ensures.read

pub returns-in-Err-BadDn : goal.returns-in-Err-BadDn
returns-in-Err-BadDn c = not_read c.args.text.now c.in-Err-BadDn.field-0 c.in-Err-BadDn._place c.in-Err-BadDn.ensures.all c.in-Err-BadDn.field-0-is
