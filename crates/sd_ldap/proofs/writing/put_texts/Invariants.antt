use Rattle.std.proofs.Common.{◌≡◌, ◌++◌, take}
use Rattle.sd_ldap.specs.Spelling.{texts_bytes}
use Rattle.sd_ldap.proofs.writing.put_texts.Given as goal

-- those so far are written
abbrev pub invariant-loop-text : goal.invariant-loop-text
invariant-loop-text l = l.out.items ≡ l.fn.out.items ++ texts_bytes l.tag (take l.text-index l.texts)
