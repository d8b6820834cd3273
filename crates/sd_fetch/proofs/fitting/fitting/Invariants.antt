use Rattle.std.proofs.Common.{◌≡◌, ◌++◌, map, drop}
use Rattle.std.specs.Prelude.{filter}
use Rattle.sd_fetch.specs.Lookup.{fits}
use Rattle.sd_fetch.proofs.fitting.fitting.Given as goal

abbrev pub invariant-loop-entry : goal.invariant-loop-entry
invariant-loop-entry l = map (λ e. e.now) l.those.items ++ filter (λ e. fits l.config l.key e) (drop l.entry-index l.entries) ≡ filter (λ e. fits l.config l.key e) l.entries
