-- What both a forget and a flush ask of a whole journal. All are its entries, the newest first.
use Rattle.std.specs.Prelude.{◌≡◌, List, reverse}
use Rattle.sd_rules.specs.declared.replies.Entry.{Entry}
use Rattle.sd_rules.specs.Needed.{is_newest_answer}
use Rattle.sd_findings.specs.Falls.{HoldFalls}
use Rattle.sd_findings.specs.Marks.{marks}
use Rattle.sd_findings.specs.Users.{HoldUsers}
use Rattle.sd_findings.specs.declared.outline.Outline.{Outline}

-- it is that of a part of the entries, which are marked where they hold the newest answer of a key by all
pub record IsOutlineOf (all part : List Entry) (o : Outline) : Type 0 where
  pub newest : reverse o.newest.items ≡ marks (is_newest_answer all) part
  pub users : HoldUsers part o.users
  pub falls : HoldFalls part o.falls.entries
