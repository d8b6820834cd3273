use Rattle.sd_cache.specs.Kept.{standing}
use Rattle.sd_cache.proofs.Puts.{on_ok, holds_put}
use Rattle.sd_cache.proofs.cache.Cache.put.Goals as goal

pub returns-clause-journal : goal.returns-clause-journal
returns-clause-journal c =
    on_ok c.keep.result _ _
    (λ is past e answer holds. holds_put past e (standing c.args.number c.args.moment c.args.key.now c.args.answered.now c.args.marked) c.args.self.now c.keep.new.self is answer holds)
    c.keep.ensures.ok
