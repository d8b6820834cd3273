-- The order of triples.
use Rattle.std.specs.Cmp.Lexicographic.{slice_cmp}
use Rattle.std.specs.Ordering.{nat_cmp, on, then_cmp}
use Rattle.std.specs.declared.cmp.Ordering.{Ordering}
use Rattle.sd_triples.specs.declared.triples.Triple.{Triple}

-- by the bytes of the host, then of the user, then of the domain
abbrev pub triple_cmp : Triple → Triple → Ordering
triple_cmp = then_cmp (on (λ (t : Triple). t.host) (slice_cmp nat_cmp)) (then_cmp (on (λ (t : Triple). t.user) (slice_cmp nat_cmp)) (on (λ (t : Triple). t.domain) (slice_cmp nat_cmp)))
