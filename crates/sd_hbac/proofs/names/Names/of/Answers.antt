use Rattle.std.proofs.Common.{rules, ◌≡◌, List, ℕ, map, ap, ◌∙◌}
use Rattle.std.specs.Char.{to_ascii_lowercase}
use Rattle.std.specs.Int.{bit_at}
use Rattle.std.proofs.lemmas.List.Elements.{All-same}
use Rattle.std.proofs.lemmas.List.Sorted.{IsPermutation-map}
use Rattle.std.proofs.lemmas.Map.Views.{All-map-IsPermutation}
use Rattle.sd_hbac.specs.Lowered.{mark}
use Rattle.sd_hbac.proofs.Lowering.{lowers}
use Rattle.sd_hbac.proofs.names.Names.of.Goals as goal

pub returns : goal.returns
returns c =
    lowers c.args.names.now (map (λ v. v.items) c.in_ok-names.names.items) (map (λ v. v.items) c.sort.new.self.items)
    (c.in_ok-names.ensures ∙ ap (λ (names : List (List ℕ)). map (map to_ascii_lowercase) names) c.items-texts.ensures)
    (IsPermutation-map (λ v. v.items) c.in_ok-names.names.items c.sort.new.self.items c.sort.ensures.permutation)

pub invariant_of-result : goal.invariant_of-result
invariant_of-result c = (
  search rules,
  All-map-IsPermutation (λ v. v.items) (λ n. bit_at c.marks_of-marks.result (mark n) ≡ 1) c.in_ok-names.names.items c.sort.new.self.items c.sort.ensures.permutation
      (All-same (λ n. bit_at c.marks_of-marks.result (mark n) ≡ 1) _ _ c.in_ok-names.ensures c.marks_of-marks.ensures),
)
