use Rattle.std.proofs.Common.{◌≡◌, drop}
use Rattle.sd_rules.specs.Access as access
use Rattle.sd_hbac.proofs.rules.shares_service.Given as goal

-- what the services that are left say is what all say
abbrev pub invariant-loop-service : goal.invariant-loop-service
invariant-loop-service l = access.shares_letters (access.service_groups (drop l.service-index l.services) l.name) l.groups ≡ access.shares_letters (access.service_groups l.services l.name) l.groups
