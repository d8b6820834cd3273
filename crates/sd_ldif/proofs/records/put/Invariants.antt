use Rattle.std.proofs.Common.{◌≡◌, ◌++◌, take, drop}
use Rattle.sd_ldif.specs.Records.{pair}
use Rattle.sd_ldif.specs.Reading.{with_value}
use Rattle.sd_ldif.proofs.records.put.Given as goal

-- the attributes that were passed have other names
abbrev pub invariant-loop-place : goal.invariant-loop-place
invariant-loop-place l = record {
  same : l.attributes.items ≡ l.fn.attributes.items;
  passed : take l.place l.attributes.items ++ with_value (pair l.name l.value) (drop l.place l.attributes.items) ≡ with_value (pair l.name l.value) l.attributes.items;
}
