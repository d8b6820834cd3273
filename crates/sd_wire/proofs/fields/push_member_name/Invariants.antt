use Rattle.std.proofs.Common.{◌≡◌, ◌++◌, drop}
use Rattle.sd_wire.specs.Escapes as escapes
use Rattle.sd_wire.specs.Forms as forms
use Rattle.sd_wire.proofs.fields.push_member_name.Given as goal

-- what was appended, and then the bytes left, is the whole name
abbrev pub invariant-loop-byte : goal.invariant-loop-byte
invariant-loop-byte l =
    record {
      told : l.out.items ++ escapes.member_name (drop l.byte-index l.name) ≡ l.fn.out.items ++ escapes.member_name l.name;
      kept : forms.Keeps l.fn.out.items l.out.items;
    }
