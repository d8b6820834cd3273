use Rattle.std.proofs.Common.{◌≡◌, ℕ, List, Result, sym, ◌∙◌, ap, subst}
use Rattle.std.specs.Ordering.{nat_cmp}
use Rattle.std.specs.List.Sorted.{IsBinarySearchResult}
use Rattle.sd_places.specs.Covers.{with_place, RisesFrom}
use Rattle.sd_places.proofs.Rising.{Told, told, put_rises}
use Rattle.sd_places.proofs.index.Places.put.Goals as goal

pub returns-in-Ok-clause-ok : goal.returns-in-Ok-clause-ok
returns-in-Ok-clause-ok c =
    let ps : List ℕ = c.self.inside.places.items in
    let found : IsBinarySearchResult (λ (y : ℕ). nat_cmp y c.args.place) ps c.binary_search.result =
    subst (λ (xs : List ℕ). IsBinarySearchResult (λ (y : ℕ). nat_cmp y c.args.place) xs c.binary_search.result) c.as_slice.ensures.value c.binary_search.ensures.position in
    let same : with_place ps c.args.place ≡ ps = subst (λ (r : Result ℕ ℕ). Told ps c.args.place r) c.in-Ok.is (told ps c.args.place c.binary_search.result c.self.invariant found) in
    subst (λ (xs : List ℕ). xs ≡ with_place xs c.args.place) c.self.view_is (sym same)

pub invariant_of-self-2 : goal.invariant_of-self-2
invariant_of-self-2 c =
    let ps : List ℕ = c.self.inside.places.items in
    let found : IsBinarySearchResult (λ (y : ℕ). nat_cmp y c.args.place) ps c.binary_search.result =
    subst (λ (xs : List ℕ). IsBinarySearchResult (λ (y : ℕ). nat_cmp y c.args.place) xs c.binary_search.result) c.as_slice.ensures.value c.binary_search.ensures.position in
    let made = subst (λ (r : Result ℕ ℕ). Told ps c.args.place r) c.in-Err.is (told ps c.args.place c.binary_search.result c.self.invariant found) in
    subst (λ (xs : List ℕ). RisesFrom 0 xs) (made ∙ sym c.in_ok-insert.ensures.items) (put_rises c.args.place ps c.self.invariant)

pub returns-clause-ok : goal.returns-clause-ok
returns-clause-ok c =
    let ps : List ℕ = c.self.inside.places.items in
    let found : IsBinarySearchResult (λ (y : ℕ). nat_cmp y c.args.place) ps c.binary_search.result =
    subst (λ (xs : List ℕ). IsBinarySearchResult (λ (y : ℕ). nat_cmp y c.args.place) xs c.binary_search.result) c.as_slice.ensures.value c.binary_search.ensures.position in
    let made = subst (λ (r : Result ℕ ℕ). Told ps c.args.place r) c.in-Err.is (told ps c.args.place c.binary_search.result c.self.invariant found) in
    c.in_ok-insert.ensures.items ∙ sym made ∙ ap (λ (xs : List ℕ). with_place xs c.args.place) c.self.view_is
