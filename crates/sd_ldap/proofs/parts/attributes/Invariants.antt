use Rattle.std.proofs.Common.{◌≡◌, ◌-◌}
use Rattle.sd_ldap.specs.Monad.{each}
use Rattle.sd_ldap.specs.Parts.{attribute_in, attributes_in}
use Rattle.sd_ldap.proofs.Loops.{with_front}
use Rattle.sd_ldap.proofs.parts.attributes.Given as goal

-- those so far and those that are still read are all
abbrev pub invariant-loop : goal.invariant-loop
invariant-loop l = with_front l.attributes (each attribute_in (l.count - l.counter) l.reader) ≡ attributes_in l.fn.reader
