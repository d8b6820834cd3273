use Rattle.std.proofs.Common.{◌≡◌, ◌++◌, drop}
use Rattle.sd_layout.specs.Entries.{host_group_dns}
use Rattle.sd_layout.proofs.entries.host_group_dns.Given as goal

-- those so far, and those left
abbrev pub invariant-loop-name : goal.invariant-loop-name
invariant-loop-name l = l.dns ++ host_group_dns l.base (drop l.name-index l.names) ≡ host_group_dns l.base l.names
