-- Requests by their parts.
use Rattle.std.proofs.Common.{◌≡◌, ℕ, false, List, ap, ◌∙◌}
use Rattle.std.specs.Prelude.{codes}
use Rattle.sd_ldap.specs.Filters.{FilterValue, present}
use Rattle.sd_ldap.specs.Values.{SearchValue}
use Rattle.sd_nested.specs.Searches.{asked_attributes, read_search}

abbrev of_parts : List ℕ → FilterValue → List (List ℕ) → SearchValue
of_parts base filter attributes = record { base = base; scope = 0; deref = 0; size = 0; time = 0; types_only = false; filter = filter; attributes = attributes }

pub read_of : (s : SearchValue) (dn : List ℕ) (filter : FilterValue) (attributes : List (List ℕ)) → s ≡ of_parts dn filter attributes → filter ≡ present (codes "objectClass") → attributes ≡ asked_attributes → s ≡ read_search dn
read_of s dn filter attributes e f a =
    e ∙ ap (λ (x : FilterValue). of_parts dn x attributes) f ∙ ap (λ (x : List (List ℕ)). of_parts dn (present (codes "objectClass")) x) a
