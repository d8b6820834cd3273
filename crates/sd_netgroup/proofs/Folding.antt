-- Names and triples put one part after the other.
use Rattle.std.proofs.Common.{◌≡◌, ℕ, List, [], ◌∷◌, ◌++◌, refl, ap, ◌∙◌}
use Rattle.std.proofs.lemmas.Grind.{flat_map-append}
use Rattle.std.specs.BTreeSet.{insert_key}
use Rattle.sd_triples.specs.declared.triples.Triple.{Triple}
use Rattle.sd_triples.specs.Order.{triple_cmp}
use Rattle.sd_triples.specs.Reading.{triple_in}
use Rattle.sd_netgroup.specs.Named.{listed, spelled_by}
use Rattle.sd_netgroup.specs.Order.{with_triples}
use Rattle.sd_netgroup.specs.Rounds.{with_name, with_names}

pub names_more : (names a b : List (List ℕ)) → with_names names (a ++ b) ≡ with_names (with_names names a) b
names_more names [] b = refl
names_more names (x ∷ a) b = names_more (with_name names x) a b

pub triples_more : (ordered a b : List Triple) → with_triples ordered (a ++ b) ≡ with_triples (with_triples ordered a) b
triples_more ordered [] b = refl
triples_more ordered (x ∷ a) b = triples_more (insert_key triple_cmp ordered x) a b

pub spelled_more : (ordered : List Triple) (a b : List (List ℕ)) → with_triples ordered (spelled_by (a ++ b)) ≡ with_triples (with_triples ordered (spelled_by a)) (spelled_by b)
spelled_more ordered a b = ap (with_triples ordered) (flat_map-append (λ text. listed (triple_in text)) a b) ∙ triples_more ordered (spelled_by a) (spelled_by b)

pub ruleset folding = (names_more, triples_more, spelled_more)
