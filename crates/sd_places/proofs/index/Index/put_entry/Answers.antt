use Rattle.std.proofs.Common.{sym, subst, ◌∙◌, List, ℕ, Some, set}
use Rattle.sd_places.specs.Index.{IsIndex}
use Rattle.sd_places.proofs.Indexing.{index_put}
use Rattle.sd_places.proofs.index.Index.put_entry.Goals as goal

pub returns-clause-ok : goal.returns-clause-ok
returns-clause-ok c =
    λ slots at is.
    subst (λ (bs : List (List ℕ)). IsIndex bs (set slots c.args.place (Some c.args.placed.now))) (sym c.in_ok-put_all.ensures.ok)
    (index_put c.args.self.now slots c.args.placed.now c.args.place c.deref.result.now c.check.ensures at (c.deref.ensures.value ∙ c.in_ok-numbers.ensures) is)
