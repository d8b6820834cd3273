use Rattle.std.proofs.Common.{sym}
use Rattle.sd_dn.proofs.Meets.{spelled_so, not_read}
use Rattle.sd_dn.proofs.texts.spelled.Goals as goal

pub returns-in-Ok : goal.returns-in-Ok
returns-in-Ok c = spelled_so c.args.text.now c.in-Ok.dn c.in-Ok.ensures.read

pub returns-in-Err-BadDn : goal.returns-in-Err-BadDn
returns-in-Err-BadDn c = not_read c.args.text.now c.in-Err-BadDn.field-0 c.in-Err-BadDn.field-0-0 c.in-Err-BadDn.field-0-is c.in-Err-BadDn.ensures.all
