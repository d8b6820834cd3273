-- What the code's references show.
use Rattle.sd_rules.specs.declared.tasks.Who.{Who}
use Rattle.sd_rules.specs.Access as access
use Rattle.sd_hbac.specs.declared.rules.Placed.{Placed}

-- whom and what a check is about, by the texts that its references lead to
abbrev pub asker : Who → access.Asker
asker w = record {
  user = w.user.now;
  groups = w.groups.now;
  service = w.service.now;
  host = w.host.now;
  host_groups = w.host_groups.now;
}

-- a rule by its place and the name that its reference leads to
abbrev pub placed : Placed → access.Placed
placed p = record { place = p.place; name = p.name.now }
