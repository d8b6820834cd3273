-- What is noted of a whole journal for a forget. All are its entries, the newest first.
use Rattle.std.specs.Prelude.{◌≡◌, List}
use Rattle.sd_rules.specs.declared.replies.Entry.{Entry}
use Rattle.sd_rules.specs.Needed.{last_where, last_outage, is_stop}
use Rattle.sd_rules.specs.Servers.{is_online}
use Rattle.sd_findings.specs.Covers.{HoldVoids}
use Rattle.sd_findings.specs.Findings.{askings, awaited}
use Rattle.sd_findings.specs.declared.notes.Notes.{Notes}

-- it is what a part of the entries says, where those are given by all that are open or wait
pub record AreNotesOf (all part : List Entry) (n : Notes) : Type 0 where
  pub lasts : HoldVoids part n.lasts
  pub askings : n.askings.items ≡ askings all part
  pub awaited : n.awaited.items ≡ awaited all part
  pub outage : n.outage ≡ last_outage part
  pub online : n.online ≡ last_where (λ (x : Entry). is_online x.event) part
  pub stop : n.stop ≡ last_where (λ (x : Entry). is_stop x.event) part
