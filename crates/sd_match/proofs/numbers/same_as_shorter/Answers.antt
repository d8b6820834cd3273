use Rattle.std.proofs.Common.{refl}
use Rattle.sd_match.proofs.Digits.{split_same, split_differs}
use Rattle.sd_match.proofs.numbers.same_as_shorter.Goals as goal

pub returns-then-are_zeros : goal.returns-then-are_zeros
returns-then-are_zeros c =
    split_same c.args.long.now c.args.short.now c.split_at.result.0.now c.split_at.result.1.now c.are_zeros.result c.eq.result c.split_at.ensures.front c.split_at.ensures.back
    c.are_zeros.ensures c.if-are_zeros.true c.eq.ensures c.requires.shorter c.requires.one c.requires.other

pub returns-else-are_zeros : goal.returns-else-are_zeros
returns-else-are_zeros c =
    split_differs c.args.long.now c.args.short.now c.split_at.result.0.now c.split_at.result.1.now c.are_zeros.result c.split_at.ensures.front
    c.are_zeros.ensures c.if-are_zeros.false c.requires.shorter c.requires.one c.requires.other
