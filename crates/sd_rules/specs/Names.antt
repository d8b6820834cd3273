-- What a client's request names: the requests that it leads and the ticket that it waits with, each with the key that it names it for.
use Rattle.std.specs.Prelude.{ℕ, List, [], ◌∷◌}
use Rattle.sd_rules.specs.declared.keys.Key.{Key}
use Rattle.sd_rules.specs.declared.keys.Key.TheVariants as keys
use Rattle.sd_rules.specs.declared.scripts.Led.{Led}
use Rattle.sd_rules.specs.declared.scripts.LookupCourse.{LookupCourse}
use Rattle.sd_rules.specs.declared.scripts.LookupCourse.TheVariants.{Looking, Saying, SayingFirst, Renewing, Over}
use Rattle.sd_rules.specs.declared.scripts.LookupStage.{LookupStage}
use Rattle.sd_rules.specs.declared.scripts.LookupStage.TheVariants.{Ask, Wait, Pick, Search, Answer, Refuse, Fall, Outage}
use Rattle.sd_rules.specs.AccessScript as checks
use Rattle.sd_rules.specs.AccessScript.{AccessCourse}
use Rattle.sd_rules.specs.Closings as closings
use Rattle.sd_rules.specs.Closings.{Closing}
use Rattle.sd_rules.specs.LoginScript as logins
use Rattle.sd_rules.specs.LoginScript.{LoginCourse}

abbrev pub under : ℕ → Key → List Led → List Led
under n key led = record { request = n; key = key } ∷ led

-- the request or the ticket of the lookup of a key, with its key, in front of others
abbrev pub stage_names : Key → LookupStage → List Led → List Led
stage_names key Ask led = led
stage_names key (Wait ticket) led = under ticket key led
stage_names key (Pick request) led = under request key led
stage_names key (Search request server) led = under request key led
stage_names key (Answer request answered) led = under request key led
stage_names key (Refuse request refusal) led = under request key led
stage_names key (Fall request server why) led = under request key led
stage_names key (Outage request) led = under request key led

abbrev pub lookup_names : Key → LookupCourse → List Led
lookup_names key (Looking stage) = stage_names key stage []
lookup_names key (Saying said) = []
lookup_names key (SayingFirst said request) = under request key []
lookup_names key (Renewing stage) = stage_names key stage []
lookup_names key Over = []

abbrev pub closing_names : Closing → List Led
closing_names (closings.Saying said led) = led
closing_names (closings.Renewing key stage led) = stage_names key stage led
closing_names closings.Over = []

abbrev pub login_names : List ℕ → LoginCourse → List Led
login_names user (logins.Finding stage) = stage_names (keys.User user) stage []
login_names user (logins.Proving dn led stage) = led
login_names user (logins.Closed closing) = closing_names closing

abbrev pub access_names : AccessCourse → List Led
access_names (checks.Gathering key later led stage) = stage_names key stage led
access_names (checks.Checking led) = led
access_names (checks.Closed closing) = closing_names closing

-- of the number and the key of each of them the same holds
abbrev pub AllNamed : (ℕ → Key → Type 0) → List Led → Type 0
AllNamed P [] = Unit {0}
AllNamed P (l ∷ led) = P l.request l.key × AllNamed P led
