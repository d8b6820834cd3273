-- What a forget will do with the entries of a journal, given the oldest first.
use Rattle.std.specs.Prelude.{List, reverse}
use Rattle.sd_rules.specs.declared.replies.Entry.{Entry}
use Rattle.sd_rules.specs.Needed.{needed}
use Rattle.sd_index.specs.Table.{Remakes}
use Rattle.sd_findings.specs.Marks.{MarkNeeded}
use Rattle.sd_sieve.specs.declared.sieve.Plan.{Plan}

-- it marks those that it keeps, and makes anew what the index says of them alone
pub record IsPlanOf (entries : List Entry) (p : Plan) : Type 0 where
  pub marks : MarkNeeded entries p.marks.items
  pub remade : Remakes (needed (reverse entries)) p.remade
