-- The texts of what clients are told.
use Rattle.std.specs.Prelude.{ℕ, ◌++◌, codes, List, [], Option, Some, None}
use Rattle.sd_rules.specs.declared.records.Record.{Record}
use Rattle.sd_rules.specs.declared.tasks.Said.{Said}
use Rattle.sd_rules.specs.declared.tasks.Said.TheVariants as saids
use Rattle.sd_wire.specs.Escapes.{field}
use Rattle.sd_wire.specs.Forms.{numbered, numbered_twice, numbered_within}
use Rattle.sd_wire.specs.RecordLines.{line_of_record}

-- a found record: the number of its answer, and its line
abbrev pub found_text : ℕ → Record → List ℕ → List ℕ
found_text n found pwfield = numbered (codes "found ") n ++ (codes " " ++ line_of_record found pwfield)

-- the same in an outage, whose number follows
abbrev pub old_text : ℕ → ℕ → Record → List ℕ → List ℕ
old_text n outage found pwfield = numbered_twice (codes "old ") n outage ++ (codes " " ++ line_of_record found pwfield)

-- until when logins are blocked, in seconds, or until an online login
abbrev pub blocked_text : Option ℕ → List ℕ
blocked_text (Some moment) = numbered (codes "blocked ") moment
blocked_text None = codes "blocked online"

-- what a login is told
abbrev pub login_text : Said → List ℕ
login_text saids.DeniedEmpty = codes "denied empty"
login_text (saids.AcceptedOnline n) = numbered (codes "accepted online ") n
login_text (saids.WrongOnline n) = numbered (codes "wrong online ") n
login_text (saids.AcceptedOffline n) = numbered (codes "accepted offline ") n
login_text (saids.WrongOffline n) = numbered (codes "wrong offline ") n
login_text (saids.Expired moment) = numbered (codes "expired ") moment
login_text (saids.Blocked until) = blocked_text until
login_text saids.NoHash = codes "nohash"
login_text _ = []

abbrev pub granted_rule_text : ℕ → List ℕ → List ℕ
granted_rule_text n name = numbered (codes "granted ") n ++ (codes " rule " ++ field name)

-- what an account check is told
abbrev pub access_text : Said → List ℕ
access_text (saids.GrantedPermit n) = numbered_within (codes "granted ") n (codes " permit")
access_text (saids.GrantedSimple n) = numbered_within (codes "granted ") n (codes " simple")
access_text (saids.GrantedRule n name) = granted_rule_text n name
access_text (saids.DeniedDeny n) = numbered_within (codes "denied ") n (codes " deny")
access_text (saids.DeniedSimple n) = numbered_within (codes "denied ") n (codes " simple")
access_text (saids.DeniedNoRule n) = numbered_within (codes "denied ") n (codes " norule")
access_text said = login_text said

-- The text of what a client is told, with this stand-in for passwords in the lines of users and groups.
abbrev pub line_of : Said → List ℕ → List ℕ
line_of (saids.Found n found) pwfield = found_text n found pwfield
line_of (saids.Absent n) pwfield = numbered (codes "none ") n
line_of (saids.Old n outage found) pwfield = old_text n outage found pwfield
line_of (saids.OldNone n outage) pwfield = numbered_twice (codes "oldnone ") n outage
line_of (saids.Dark outage) pwfield = numbered (codes "dark ") outage
line_of saids.Filtered pwfield = codes "filtered"
line_of (saids.Refused code) pwfield = numbered (codes "refused ") code
line_of (saids.Many count) pwfield = numbered (codes "many ") count
line_of (saids.Dropped n) pwfield = numbered (codes "dropped ") n
line_of (saids.Done n) pwfield = numbered (codes "done ") n
line_of said pwfield = access_text said
