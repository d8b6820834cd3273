use Rattle.std.proofs.Common.{◌≡◌, ◌-◌, length}
use Rattle.sd_ldap.specs.FilterReading.{run_in}
use Rattle.sd_ldap.proofs.Runs.{run_front}
use Rattle.sd_ldap.proofs.filter_reading.run.Given as goal

-- the texts so far and those that still come are all
abbrev pub invariant-loop : goal.invariant-loop
invariant-loop l = run_front l.texts (run_in l.tag (l.count - l.counter) l.reader) ≡ run_in l.tag (length l.fn.reader.rest) l.fn.reader
