use Rattle.std.proofs.Common.{◌∙◌, List, rules, subst}
use Rattle.std.specs.Cmp.Lexicographic.{slice_cmp}
use Rattle.std.specs.List.Sorted.{IsPermutation}
use Rattle.std.specs.Ordering.{nat_cmp, is_lt}
use Rattle.std.proofs.lemmas.List.Sorted.{answers_always}
use Rattle.sd_rules.specs.declared.records.GroupRef.{GroupRef}
use Rattle.sd_nested.proofs.Ordered.{ranks, are_merged, sorted_joined}
use Rattle.sd_nested.proofs.order.refs_in_order.Goals as goal

pub returns : goal.returns
returns c =
    sorted_joined c.args.refs.now c.sort_by.new.self.items c.in_ok-groups-2.groups
    (subst (λ (xs : List GroupRef). IsPermutation xs c.sort_by.new.self.items) c.in_ok-groups.ensures c.in_ok-sort_by.ensures.permutation)
    (c.in_ok-sort_by.ensures.sorted (λ (a b : GroupRef). is_lt (slice_cmp nat_cmp a.name b.name)) (ranks (λ (r : GroupRef). r.name)) (answers_always _ _ _ (λ f a r g h. search rules)))
    (c.in_ok-groups-2.ensures ∙ are_merged _ (λ s x r b t y q h. search rules) _ c.sort_by.new.self.items c.dedup_by.new.self.items c.dedup_by.ensures.filtered)
