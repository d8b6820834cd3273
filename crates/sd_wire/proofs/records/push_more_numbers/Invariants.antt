use Rattle.std.proofs.Common.{◌≡◌, ◌++◌, drop}
use Rattle.sd_wire.specs.RecordLines as lines
use Rattle.sd_wire.specs.Forms as forms
use Rattle.sd_wire.proofs.records.push_more_numbers.Given as goal

-- what was appended, and then the numbers left, is the whole list
abbrev pub invariant-loop-number : goal.invariant-loop-number
invariant-loop-number l =
    record {
      told : l.out.items ++ lines.more_numbers (drop l.number-index l.numbers) ≡ l.fn.out.items ++ lines.more_numbers l.numbers;
      kept : forms.Keeps l.fn.out.items l.out.items;
    }
