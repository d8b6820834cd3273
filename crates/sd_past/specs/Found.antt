-- What is found once of a whole journal, and asked for the row of each entry.
use Rattle.std.specs.Prelude.{List, reverse}
use Rattle.sd_rules.specs.declared.replies.Entry.{Entry}
use Rattle.sd_voids.specs.Voids.{HoldsVoids}
use Rattle.sd_past.specs.declared.findings.Findings.{Findings}
use Rattle.sd_findings.specs.Falls.{HoldFalls}
use Rattle.sd_findings.specs.Marks.{MarkNewest}
use Rattle.sd_findings.specs.Users.{HoldUsers}

-- what was found is that of a journal, given the oldest first
pub record AreFound (entries : List Entry) (f : Findings) : Type 0 where
  pub newest : MarkNewest entries f.newest.items
  pub voids : HoldsVoids (reverse entries) f.voids
  pub users : HoldUsers (reverse entries) f.users
  pub falls : HoldFalls (reverse entries) f.falls.entries
