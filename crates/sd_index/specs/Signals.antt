-- The entries that tell of servers.
use Rattle.std.specs.Prelude.{Bool, true, false, filter, List, ◌∷◌, Option, Some, None, if◌then◌else◌}
use Rattle.sd_rules.specs.declared.events.Event.{Event}
use Rattle.sd_rules.specs.declared.events.Event.TheVariants.{Fall, Online, Kept}
use Rattle.sd_rules.specs.declared.events.Row.TheVariants as rows
use Rattle.sd_rules.specs.declared.replies.Entry.{Entry}
use Rattle.sd_rules.specs.declared.replies.Reply.{Reply}
use Rattle.sd_rules.specs.Servers.{is_noted}

-- a fall that was noted or is kept, or the word that the directory can be reached
abbrev pub is_signal : Event → Reply → Bool
is_signal (Fall request server why) reply = is_noted reply
is_signal (Kept (rows.Fall number moment server)) reply = true
is_signal Online reply = true
is_signal _ reply = false

-- the event of such an entry
abbrev pub told : Event → Reply → Option Event
told event reply = if is_signal event reply then Some event else None

abbrev pub tells_of_servers : Entry → Bool
tells_of_servers e = is_signal e.event e.reply

abbrev pub signal_of : Entry → Option Entry
signal_of e = if tells_of_servers e then Some e else None

-- those of a past, in its order
abbrev pub signals : List Entry → List Entry
signals past = filter tells_of_servers past

-- the signals after one more entry
abbrev pub signals_after : List Entry → Entry → List Entry
signals_after before e = if tells_of_servers e then e ∷ before else before
