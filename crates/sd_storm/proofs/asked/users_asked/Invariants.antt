use Rattle.std.proofs.Common.{◌≡◌, ◌++◌, ◌-◌}
use Rattle.sd_storm.specs.Asked.{asked_behind, users_asked}
use Rattle.sd_storm.proofs.asked.users_asked.Given as goal

-- what was asked, and what is left to ask
abbrev pub invariant-loop-request : goal.invariant-loop-request
invariant-loop-request l = l.users.items ++ asked_behind l.state (l.requests - l.request) ≡ users_asked l.requests
