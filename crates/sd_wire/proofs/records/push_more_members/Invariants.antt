use Rattle.std.proofs.Common.{◌≡◌, ◌++◌, drop}
use Rattle.sd_wire.specs.RecordLines as lines
use Rattle.sd_wire.specs.Forms as forms
use Rattle.sd_wire.proofs.records.push_more_members.Given as goal

-- what was appended, and then the names left, is the whole list
abbrev pub invariant-loop-name : goal.invariant-loop-name
invariant-loop-name l =
    record {
      told : l.out.items ++ lines.more_members (drop l.name-index l.names) ≡ l.fn.out.items ++ lines.more_members l.names;
      kept : forms.Keeps l.fn.out.items l.out.items;
    }
