use Rattle.sd_stub.proofs.Told.{told_by}
use Rattle.sd_stub.proofs.serving.serve_link.Goals as goal

pub returns-clause-told : goal.returns-clause-told
returns-clause-told g c = told_by _ _ _ _ _ _ _ _ c.serve.ensures.served
