-- What a walk over a whole journal finds. All are its entries, the newest first.
use Rattle.std.specs.Prelude.{List}
use Rattle.sd_rules.specs.declared.replies.Entry.{Entry}
use Rattle.sd_findings.specs.Briefs.{AreBriefsOf}
use Rattle.sd_findings.specs.Notes.{AreNotesOf}
use Rattle.sd_findings.specs.Outlines.{IsOutlineOf}
use Rattle.sd_findings.specs.declared.walk.Walk.{Walk}

-- it is what is found in a part of the entries
pub record IsWalkOf (all part : List Entry) (w : Walk) : Type 0 where
  pub outline : IsOutlineOf all part w.outline
  pub notes : AreNotesOf all part w.notes
  pub briefs : AreBriefsOf part w.briefs
