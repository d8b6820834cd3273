use Rattle.sd_sieve.proofs.SiftLaws.{swapped_front}
use Rattle.sd_sieve.proofs.sieve.put_back.Goals as goal

pub returns-clause-front : goal.returns-clause-front
returns-clause-front c d =
    swapped_front c.args.entries.now.items c.swap.new.self.items c.args.count c.args.place d c.requires.ordered c.requires.within c.swap.ensures.by_index
