-- Which news are logged at which level, and their priorities.
use Rattle.std.specs.Prelude.{ℕ, Bool, true, false, List, codes, if◌then◌else◌}
use Rattle.sd_rules.specs.Keys.{same_name}
use Rattle.sd_log.specs.declared.news.Level.{Level}
use Rattle.sd_log.specs.declared.news.Level.TheVariants as levels
use Rattle.sd_log.specs.declared.news.Asked.{Asked}
use Rattle.sd_log.specs.declared.news.Asked.TheVariants as asks
use Rattle.sd_log.specs.declared.news.Told.{Told}
use Rattle.sd_log.specs.declared.news.Told.TheVariants as tells
use Rattle.sd_log.specs.declared.news.News.{News}
use Rattle.sd_log.specs.declared.news.News.TheVariants as kinds

-- the level that a word names; any other names that of logins
abbrev pub level_named : List ℕ → Level
level_named word =
    if same_name word (codes "errors") then levels.Errors
    else if same_name word (codes "changes") then levels.Changes
    else if same_name word (codes "everything") then levels.Everything
    else levels.Logins

-- logins and account checks, an administrator's commands, and lookups
abbrev pub level_of_asked : Asked → Level
level_of_asked (asks.Login user) = levels.Logins
level_of_asked (asks.Access user service) = levels.Logins
level_of_asked (asks.Order order) = levels.Changes
level_of_asked _ = levels.Everything

-- the least level at which news are logged: what keeps users from being served at every level, what ends that with other changes
abbrev pub level_of : News → Level
level_of (kinds.Answered asked told) = level_of_asked asked
level_of (kinds.Returned place) = levels.Changes
level_of (kinds.OutageEnded n entry) = levels.Changes
level_of (kinds.OutageLifted n) = levels.Changes
level_of kinds.JournalHasRoom = levels.Changes
level_of kinds.StoreWritten = levels.Changes
level_of _ = levels.Errors

-- a login or an account check came to nothing by no fault of the user's
abbrev pub is_trouble : Told → Bool
is_trouble (tells.Dark outage) = true
is_trouble (tells.Refused code) = true
is_trouble (tells.Many count) = true
is_trouble (tells.Dropped n) = true
is_trouble (tells.Expired moment) = true
is_trouble (tells.Blocked until) = true
is_trouble tells.BlockedOnline = true
is_trouble tells.NoHash = true
is_trouble _ = false

abbrev pub is_granted : Told → Bool
is_granted (tells.AcceptedOnline n) = true
is_granted (tells.AcceptedOffline n) = true
is_granted (tells.GrantedPermit n) = true
is_granted (tells.GrantedSimple n) = true
is_granted (tells.GrantedRule n name) = true
is_granted _ = false

abbrev pub priority_of_judged : Told → ℕ
priority_of_judged told = if is_trouble told then 4 else if is_granted told then 6 else 5

abbrev pub priority_of_answer : Asked → Told → ℕ
priority_of_answer (asks.Order order) told = 5
priority_of_answer (asks.Login user) told = priority_of_judged told
priority_of_answer (asks.Access user service) told = priority_of_judged told
priority_of_answer _ told = 6

-- as syslog counts priorities: 3 an error, 4 a warning, 5 a notice, 6 information
abbrev pub priority_of : News → ℕ
priority_of kinds.StoreUnwritten = 3
priority_of (kinds.Returned place) = 5
priority_of (kinds.OutageEnded n entry) = 5
priority_of (kinds.OutageLifted n) = 5
priority_of kinds.JournalHasRoom = 5
priority_of kinds.StoreWritten = 5
priority_of (kinds.Answered asked told) = priority_of_answer asked told
priority_of _ = 4
