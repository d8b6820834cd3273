use Rattle.std.proofs.Common.{◌≡◌, ◌-◌}
use Rattle.sd_keeper.specs.Reading.{items_at}
use Rattle.sd_keeper.proofs.Loop.{with_front}
use Rattle.sd_keeper.proofs.field.read_items.Given as goal

-- what was read, and what is read of the rest, are what is read of all
abbrev pub invariant-loop : goal.invariant-loop
invariant-loop g l = with_front l.items (items_at g.T.Field.at (l.count - l.counter) l.rest) ≡ items_at g.T.Field.at l.count l.bytes
