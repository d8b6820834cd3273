use Rattle.std.proofs.Common.{◌≡◌, ◌++◌, drop}
use Rattle.std.specs.Prelude.{filter}
use Rattle.std.specs.List.{flat_map}
use Rattle.sd_dn.specs.Texts.{spelled, both_meet}
use Rattle.sd_dn.specs.Comparing.{is_below}
use Rattle.sd_fetch.specs.Lookup.{listed, service_of}
use Rattle.sd_fetch.proofs.rules.services_under.Given as goal

abbrev pub invariant-loop-entry : goal.invariant-loop-entry
invariant-loop-entry l =
    l.services ++ flat_map (λ e. listed (service_of l.config e)) (filter (λ e. both_meet is_below (spelled e.dn) l.place) (drop l.entry-index l.entries))
    ≡ flat_map (λ e. listed (service_of l.config e)) (filter (λ e. both_meet is_below (spelled e.dn) l.place) l.entries)
