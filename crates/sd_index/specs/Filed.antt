-- Entries of which something is kept under a key or a name.
use Rattle.std.specs.Prelude.{Bool, true, false}
use Rattle.sd_rules.specs.declared.events.Event.{Event}
use Rattle.sd_rules.specs.declared.events.Event.TheVariants.{Answer, Void, Kept}

abbrev pub is_filed : Event → Bool
is_filed (Answer request answered) = true
is_filed (Void what) = true
is_filed (Kept row) = true
is_filed _ = false
