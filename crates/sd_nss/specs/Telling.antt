-- Requests that tell their client something next.
use Rattle.std.specs.Prelude.{Bool, true, false}
use Rattle.sd_rules.specs.declared.scripts.LookupCourse.{LookupCourse}
use Rattle.sd_rules.specs.declared.scripts.LookupCourse.TheVariants.{Saying, SayingFirst}

abbrev pub tells : LookupCourse → Bool
tells (Saying said) = true
tells (SayingFirst said request) = true
tells _ = false
