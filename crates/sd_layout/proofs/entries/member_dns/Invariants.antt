use Rattle.std.proofs.Common.{◌≡◌, ◌++◌, drop}
use Rattle.sd_layout.specs.Entries.{member_dns}
use Rattle.sd_layout.proofs.entries.member_dns.Given as goal

-- those so far, and those left
abbrev pub invariant-loop-member : goal.invariant-loop-member
invariant-loop-member l = l.dns ++ member_dns l.base (drop l.member-index l.members) ≡ member_dns l.base l.members
