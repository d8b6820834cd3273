use Rattle.sd_netgroup.specs.Stepping.{Going}
use Rattle.sd_netgroup.proofs.rounds.gather.Given as goal

-- the names before the place were asked for
abbrev pub invariant-loop-place : goal.invariant-loop-place
invariant-loop-place g l =
    Going (record { sent = g.L.Link.sent; asked = g.L.DirectoryLink.asked; received = g.L.Link.received; coming = g.L.Link.coming; answer = g.L.Link.answer; behind = g.L.DirectoryLink.behind; faults = g.L.Link.faults; refuses = g.L.Link.refuses; ends = g.L.Link.ends }) l.base l.name l.place l.finds l.fn.client l.client
