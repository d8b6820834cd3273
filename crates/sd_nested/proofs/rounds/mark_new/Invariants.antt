use Rattle.std.proofs.Common.{◌≡◌, ◌++◌, drop}
use Rattle.sd_nested.specs.Rounds.{new_among, dns_of}
use Rattle.sd_nested.specs.Directions.{admits_by}
use Rattle.sd_nested.proofs.rounds.mark_new.Given as goal

-- those marked so far, and those that the rest adds
abbrev pub invariant-loop-text : goal.invariant-loop-text
invariant-loop-text l = record {
  due : l.due ++ new_among (admits_by l.direction) l.seen (drop l.text-index l.onward) ≡ new_among (admits_by l.direction) l.fn.seen l.onward;
  seen : l.seen ≡ l.fn.seen ++ dns_of l.due;
}
