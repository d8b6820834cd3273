use Rattle.sd_fetch.proofs.Looking.{never_refused}
use Rattle.sd_fetch.proofs.lookup.fetch.Goals as goal

pub returns-in-Err-Refused-clause-told : goal.returns-in-Err-Refused-clause-told
returns-in-Err-Refused-clause-told g c = λ b is quiet. never_refused c.in-Err-Refused.field-0 c.in-Err-Refused.code _ _ _ _ _ c.in-Err-Refused.field-0-is (c.in-Err-Refused.ensures.told b is quiet)
