use Rattle.std.proofs.Common.{◌≡◌, reverse, take}
use Rattle.sd_rules.specs.Needed.{is_needed, needed_among}
use Rattle.sd_index.specs.Table.{Remakes}
use Rattle.sd_findings.specs.Marks.{marks}
use Rattle.sd_sieve.proofs.sieve.planned.Given as goal

-- the marks so far, and what is made anew says what the entries say that were kept so far
abbrev pub invariant-loop-place : goal.invariant-loop-place
invariant-loop-place l =
    (reverse l.marks.items ≡ marks (is_needed (reverse l.entries)) (reverse (take l.place l.entries)))
    × Remakes (needed_among (reverse l.entries) (reverse (take l.place l.entries))) l.remade
