use Rattle.std.proofs.Common.{◌≡◌, drop}
use Rattle.sd_places.specs.Keeping.{put_all}
use Rattle.sd_provider.proofs.keeping.ShortDirectory.put_all.Given as goal

-- the entries left decide
abbrev pub invariant-loop-entry : goal.invariant-loop-entry
invariant-loop-entry l = put_all l.self (drop l.entry-index l.entries) ≡ put_all l.fn.self l.entries
