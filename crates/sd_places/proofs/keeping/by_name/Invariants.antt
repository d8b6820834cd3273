use Rattle.std.proofs.Common.{◌≡◌}
use Rattle.sd_places.specs.Covers.{present}
use Rattle.sd_places.specs.Keeping.{kept}
use Rattle.sd_places.specs.Naming.{AreNamed}
use Rattle.sd_places.proofs.keeping.by_name.Given as goal

-- those so far are kept, each under its name
abbrev pub invariant-loop-entry : goal.invariant-loop-entry
invariant-loop-entry l = record {
  so_far : present l.slots ≡ kept l.yielded;
  named : AreNamed l.names.entries l.slots;
}
