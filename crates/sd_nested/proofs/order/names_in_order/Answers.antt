use Rattle.std.proofs.Common.{◌∙◌, ℕ, List, rules, subst}
use Rattle.std.specs.Cmp.Lexicographic.{slice_cmp}
use Rattle.std.specs.List.Sorted.{IsPermutation}
use Rattle.std.specs.Ordering.{nat_cmp, is_lt}
use Rattle.std.proofs.lemmas.List.Filters.{dedup_is}
use Rattle.std.proofs.lemmas.List.Sorted.{answers_always}
use Rattle.sd_rules.specs.Keys.{same_name}
use Rattle.sd_nested.specs.Order.{names_of}
use Rattle.sd_nested.proofs.Ordered.{ranks, sorted_once}
use Rattle.sd_nested.proofs.order.names_in_order.Goals as goal

pub returns : goal.returns
returns c =
    sorted_once (names_of c.args.refs.now) c.sort_by.new.self.items c.in_ok-names-2.names
    (subst (λ (xs : List (List ℕ)). IsPermutation xs c.sort_by.new.self.items) c.in_ok-names.ensures c.in_ok-sort_by.ensures.permutation)
    (c.in_ok-sort_by.ensures.sorted (λ (a b : List ℕ). is_lt (slice_cmp nat_cmp a b)) (ranks (λ (name : List ℕ). name)) (answers_always _ _ _ (λ f a r g h. search rules)))
    (c.in_ok-names-2.ensures ∙ dedup_is same_name c.sort_by.new.self.items c.dedup.new.self.items c.dedup.ensures.filtered)
