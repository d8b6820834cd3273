use Rattle.std.proofs.Common.{rules, List, ℕ, map, ap, ◌∙◌}
use Rattle.std.specs.Char.{to_ascii_lowercase}
use Rattle.std.specs.Cmp.Lexicographic.{slice_cmp}
use Rattle.std.specs.Ordering.{nat_cmp}
use Rattle.std.proofs.lemmas.Fn.{always_returns_same}
use Rattle.sd_hbac.specs.Lowered.{among}
use Rattle.sd_hbac.proofs.Lowering.{searched_in}
use Rattle.sd_hbac.proofs.names.Names.find.Goals as goal

pub returns : goal.returns
returns c =
    let name : List ℕ = map to_ascii_lowercase c.args.name.now in
    c.is_ok.ensures.value
    ∙ (searched_in (λ v. v.items) name c.as_slice-names.result.now c.self.inside.names.items c.binary_search_by-found.result c.as_slice-names.ensures.value c.self.invariant.0 c.binary_search_by-found.ensures.bound
    (c.binary_search_by-found.ensures.position (λ v. slice_cmp nat_cmp v.items name) (always_returns_same _ _ _ (λ a r f h. (search rules, search rules))))
    ∙ ap (λ (names : List (List ℕ)). among names c.args.name.now) c.self.view_is)
