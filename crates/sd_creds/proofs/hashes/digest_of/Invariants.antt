use Rattle.std.proofs.Common.{◌≡◌}
use Rattle.sd_creds.specs.Hashes as hashed
use Rattle.sd_creds.proofs.hashes.digest_of.Given as goal

abbrev pub invariant-loop-round : goal.invariant-loop-round
invariant-loop-round l = l.digest ≡ hashed.round_of l.salt l.password l._round
