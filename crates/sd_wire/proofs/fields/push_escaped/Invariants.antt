use Rattle.std.proofs.Common.{◌≡◌, ◌++◌, drop}
use Rattle.sd_wire.specs.Escapes as escapes
use Rattle.sd_wire.specs.Forms as forms
use Rattle.sd_wire.proofs.fields.push_escaped.Given as goal

-- what was appended, and then the bytes left, is the whole field
abbrev pub invariant-loop-byte : goal.invariant-loop-byte
invariant-loop-byte l =
    record {
      told : l.out.items ++ escapes.field (drop l.byte-index l.field) ≡ l.fn.out.items ++ escapes.field l.field;
      kept : forms.Keeps l.fn.out.items l.out.items;
    }
