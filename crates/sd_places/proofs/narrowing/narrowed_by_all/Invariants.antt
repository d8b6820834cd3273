use Rattle.sd_ldap.specs.declared.entry.DirEntry.{DirEntry}
use Rattle.sd_ldap.specs.Values.{search_value}
use Rattle.sd_match.specs.Answering.{is_found}
use Rattle.sd_places.specs.Covers.{AreEnough}
use Rattle.sd_places.specs.Index.{found_under}
use Rattle.sd_places.proofs.narrowing.narrowed_by_all.Given as goal

abbrev pub invariant-loop-filter : goal.invariant-loop-filter
invariant-loop-filter l = AreEnough (λ (e : DirEntry). is_found (search_value l.request) e) l.slots (found_under l.index l.number)
