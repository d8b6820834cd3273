use Rattle.std.proofs.Common.{ap, sym}
use Rattle.sd_ldap.specs.Filters.{filter_value}
use Rattle.sd_match.proofs.Presence.{present_is}
use Rattle.sd_match.proofs.filters.+matching.Goals as goal

pub filter_matches-returns-in-Present : goal.filter_matches-returns-in-Present
filter_matches-returns-in-Present t c = present_is c.in-Present.name c.args.filter.now c.args.attributes.now c.has_value-in-Present.result c.has_value-in-Present.ensures c.in-Present.is
