-- Events that speak of a request or an attempt by its number, and replies that name nothing.
use Rattle.std.specs.Prelude.{Bool, true, false}
use Rattle.sd_rules.specs.declared.events.Event.{Event}
use Rattle.sd_rules.specs.declared.events.Event.TheVariants.{Access, Pick, Fall, Answer, Refuse, Outage, Abandon, LoginOnline, LoginTry}
use Rattle.sd_rules.specs.declared.replies.Reply.{Reply}
use Rattle.sd_rules.specs.declared.replies.Reply.TheVariants.{Closed, Left}

abbrev pub names_number : Event → Bool
names_number (Pick n) = true
names_number (Fall n server why) = true
names_number (Answer n answered) = true
names_number (Refuse n refusal) = true
names_number (Outage n) = true
names_number (Abandon n) = true
names_number (LoginOnline n result) = true
names_number (LoginTry n named right) = true
names_number _ = false

-- an account check: the one event whose reply takes memory
abbrev pub is_access : Event → Bool
is_access (Access user service) = true
is_access _ = false

-- what is closed or left is given nothing
abbrev pub gives_nothing : Reply → Bool
gives_nothing Closed = true
gives_nothing Left = true
gives_nothing _ = false
