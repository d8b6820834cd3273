use Rattle.std.proofs.Common.{List, ap, ◌∙◌}
use Rattle.sd_ldap.specs.declared.filter.Filter.{Filter}
use Rattle.sd_ldap.specs.Filters.{filter_values}
use Rattle.sd_ldap.specs.Values.{search_value}
use Rattle.sd_match.specs.Matching.{all_match}
use Rattle.sd_places.proofs.Near.{each_of}
use Rattle.sd_places.proofs.narrowing.narrowed_by_all.Goals as goal

pub narrowed_by-requires-clause-implied : goal.narrowed_by-requires-clause-implied
narrowed_by-requires-clause-implied c =
    each_of c.deref-filter-items.result.now c.loop-filter.filter-index c.filter-item.result c.filter-item.result (search_value c.args.request.now) c.loop-filter-test.true c.filter-item.is
    (λ e t. ap (λ (fs : List Filter). all_match (filter_values fs) e.attributes) c.deref-filter-items.ensures.value ∙ c.requires.implied e t)
