-- What a call makes of a client, by what its link tells.
use Rattle.sd_base.specs.Causes.{Rose}
use Rattle.sd_ldap.specs.Values.{MessageValue}
use Rattle.sd_rules.specs.declared.tasks.Bound.{Bound}
use Rattle.sd_dial.specs.declared.searched.Searched.{Searched}
use Rattle.sd_client.specs.declared.step.Request.TheVariants as requests
use Rattle.sd_client.specs.Deciding.{decided}
use Rattle.sd_client.specs.Links.{Links, SendsNothing, Sends}
use Rattle.sd_client.specs.Talk.{Talk, IsSearched, IsBound}

-- nothing was sent, asked or received
abbrev pub AsksNothing : {L : Type 0} → Links L → Talk L → Talk L → Type 0
AsksNothing links old new = SendsNothing links old.link new.link old.received new.received

-- a message was sent as one piece, and bytes came, in front of those to come with the link's answer behind them
abbrev pub Asks : {L : Type 0} → Links L → MessageValue → Talk L → Talk L → Type 0
Asks links m old new = Sends links m old.link new.link old.received new.received

-- a search that was sent came to what all bytes received decide, or the link failed in a receive
abbrev pub IsSearchReply : {L : Type 0} → Links L → Talk L → Searched → Talk L → Type 0
IsSearchReply links old result new =
    IsSearched result (decided requests.Search old.next old.at new.received) new.at (Rose (links.faults old.link) (links.faults new.link) × links.ends new.link)

-- a bind that was sent came to what all bytes received decide, or the link failed in a receive
abbrev pub IsBindReply : {L : Type 0} → Links L → Talk L → Bound → Talk L → Type 0
IsBindReply links old result new =
    IsBound result (decided requests.Bind old.next old.at new.received) new.at (Rose (links.faults old.link) (links.faults new.link) × links.ends new.link)
