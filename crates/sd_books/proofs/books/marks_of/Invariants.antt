use Rattle.std.proofs.Common.{reverse, take}
use Rattle.sd_books.specs.Noted as noted
use Rattle.sd_books.proofs.books.marks_of.Given as goal

-- the marks say what the entries before the place say
abbrev pub invariant-loop-place : goal.invariant-loop-place
invariant-loop-place l = noted.SayOfUsers l.marks (reverse (take l.place l.entries))
