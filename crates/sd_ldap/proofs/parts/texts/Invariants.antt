use Rattle.std.proofs.Common.{◌≡◌, ◌-◌}
use Rattle.sd_ldap.specs.Monad.{each}
use Rattle.sd_ldap.specs.Parts.{text_in, texts_in}
use Rattle.sd_ldap.proofs.Loops.{with_front}
use Rattle.sd_ldap.proofs.parts.texts.Given as goal

-- those so far and those that are still read are all
abbrev pub invariant-loop : goal.invariant-loop
invariant-loop l = with_front l.texts (each (text_in 4) (l.count - l.counter) l.reader) ≡ texts_in l.fn.reader
