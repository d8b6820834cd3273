use Rattle.std.proofs.Common.{◌≡◌, ◌-◌, ℕ, List}
use Rattle.sd_ldap.specs.Monad.{each}
use Rattle.sd_ldap.specs.Parts.{tag_in, passed}
use Rattle.sd_ldap.proofs.Loops.{with_front}
use Rattle.sd_ldap.proofs.parts.pass.Given as goal

-- some tags so far and those that are still read are all
abbrev pub invariant-loop : goal.invariant-loop
invariant-loop l = (front : List ℕ) × (with_front front (each tag_in (l.count - l.counter) l.reader) ≡ passed l.fn.reader)
