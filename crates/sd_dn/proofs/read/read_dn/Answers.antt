use Rattle.sd_dn.proofs.Places.{read_so, reads_all, bad_at}
use Rattle.sd_dn.proofs.read.read_dn.Goals as goal

pub returns-clause-read : goal.returns-clause-read
returns-clause-read c = read_so c.args.text.now c.read_text.result c.read_text.ensures

pub returns-clause-all : goal.returns-clause-all
returns-clause-all c = reads_all c.args.text.now c.read_text.result c.read_text.ensures

pub returns-clause-bad : goal.returns-clause-bad
returns-clause-bad c = bad_at c.args.text.now c.read_text.result c.read_text.ensures
