use Rattle.std.proofs.Common.{◌≡◌, ◌++◌, take}
use Rattle.sd_ldap.specs.Spelling.{attributes_bytes}
use Rattle.sd_ldap.proofs.writing.put_attributes.Given as goal

-- those so far are written
abbrev pub invariant-loop-attribute : goal.invariant-loop-attribute
invariant-loop-attribute l = l.out.items ≡ l.fn.out.items ++ attributes_bytes (take l.attribute-index l.attributes)
