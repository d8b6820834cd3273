-- A client's request for a key, and how far it has come.
use Rattle.sd_rules.specs.declared.keys.Key.{Key}
use Rattle.sd_rules.specs.declared.scripts.LookupCourse.{LookupCourse}

pub record Asked : Type 0 where
  pub key : Key
  pub course : LookupCourse
