-- Names put one part after the other.
use Rattle.std.proofs.Common.{◌≡◌, ℕ, List, ◌++◌}
use Rattle.sd_netgroup.specs.Rounds.{with_names}
use Rattle.sd_netgroup.proofs.Folding as folding

pub names_more : (names a b : List (List ℕ)) → with_names names (a ++ b) ≡ with_names (with_names names a) b
names_more names a b = folding.names_more names a b
