-- How much text an event holds: the bytes of all its texts, and eight more for each.
use Rattle.std.specs.Prelude.{ℕ, ◌+◌, length, List, [], ◌∷◌, sum_by}
use Rattle.sd_rules.specs.declared.keys.Key.{Key}
use Rattle.sd_rules.specs.declared.keys.Key.TheVariants as keys
use Rattle.sd_rules.specs.declared.keys.What.{What}
use Rattle.sd_rules.specs.declared.keys.What.TheVariants as whats
use Rattle.sd_rules.specs.declared.records.Answered.{Answered}
use Rattle.sd_rules.specs.declared.records.Answered.TheVariants.{Found, Absent}
use Rattle.sd_rules.specs.declared.records.Element.{Element}
use Rattle.sd_rules.specs.declared.records.GroupRef.{GroupRef}
use Rattle.sd_rules.specs.declared.records.Record.{Record}
use Rattle.sd_rules.specs.declared.records.Record.TheVariants as records
use Rattle.sd_rules.specs.declared.records.Rule.{Rule}
use Rattle.sd_rules.specs.declared.records.Service.{Service}
use Rattle.sd_rules.specs.declared.records.User.{User}
use Rattle.sd_rules.specs.declared.events.Event.{Event}
use Rattle.sd_rules.specs.declared.events.Event.TheVariants.{Ask, Answer, Void, LoginOpen, LoginLook, LoginGuess, Access, Kept}
use Rattle.sd_rules.specs.declared.events.Row.{Row}
use Rattle.sd_rules.specs.declared.events.Row.TheVariants as rows
use Rattle.sd_rules.specs.declared.replies.Entry.{Entry}

abbrev pub bytes_of_text : List ℕ → ℕ
bytes_of_text text = length text + 8

abbrev pub bytes_of_texts : List (List ℕ) → ℕ
bytes_of_texts texts = sum_by bytes_of_text texts

abbrev pub bytes_of_user : User → ℕ
bytes_of_user user =
    bytes_of_text user.dn
    + (bytes_of_text user.name + (bytes_of_text user.gecos + (bytes_of_text user.home + bytes_of_text user.shell)))

abbrev pub bytes_of_element : Element → ℕ
bytes_of_element el = bytes_of_texts el.names + bytes_of_texts el.groups

abbrev pub bytes_of_rule : Rule → ℕ
bytes_of_rule rule =
    bytes_of_text rule.name
    + (bytes_of_element rule.users + (bytes_of_element rule.hosts + bytes_of_element rule.services))

abbrev pub bytes_of_service : Service → ℕ
bytes_of_service service = bytes_of_text service.name + bytes_of_texts service.groups

abbrev pub bytes_of_ref : GroupRef → ℕ
bytes_of_ref group = bytes_of_text group.name

abbrev pub bytes_of_record : Record → ℕ
bytes_of_record (records.User user) = bytes_of_user user
bytes_of_record (records.Group group) =
    bytes_of_text group.dn + (bytes_of_text group.name + bytes_of_texts group.members)
bytes_of_record (records.Groups groups) = bytes_of_text groups.user + sum_by bytes_of_ref groups.groups
bytes_of_record (records.Host host) = bytes_of_text host.name + bytes_of_texts host.groups
bytes_of_record (records.Rules book) = sum_by bytes_of_rule book.rules + sum_by bytes_of_service book.services

abbrev pub bytes_of_answered : Answered → ℕ
bytes_of_answered (Found found) = bytes_of_record found
bytes_of_answered Absent = 0

abbrev pub bytes_of_key : Key → ℕ
bytes_of_key (keys.User name) = bytes_of_text name
bytes_of_key (keys.Group name) = bytes_of_text name
bytes_of_key (keys.GroupsOf name) = bytes_of_text name
bytes_of_key _ = 0

abbrev pub bytes_of_what : What → ℕ
bytes_of_what (whats.User name) = bytes_of_text name
bytes_of_what (whats.Group name) = bytes_of_text name
bytes_of_what _ = 0

-- a stored hash is no text
abbrev pub bytes_of_row : Row → ℕ
bytes_of_row (rows.Answer n m key answered voided) = bytes_of_key key + bytes_of_answered answered
bytes_of_row (rows.Hash n m user hash) = bytes_of_text user
bytes_of_row (rows.Wrong n m user count) = bytes_of_text user
bytes_of_row (rows.Online n m user) = bytes_of_text user
bytes_of_row _ = 0

abbrev pub bytes_of_event : Event → ℕ
bytes_of_event (Ask key) = bytes_of_key key
bytes_of_event (Answer request answered) = bytes_of_answered answered
bytes_of_event (Void what) = bytes_of_what what
bytes_of_event (LoginOpen user) = bytes_of_text user
bytes_of_event (LoginLook user) = bytes_of_text user
bytes_of_event (LoginGuess user named right) = bytes_of_text user
bytes_of_event (Access user service) = bytes_of_text user + bytes_of_text service
bytes_of_event (Kept row) = bytes_of_row row
bytes_of_event _ = 0

-- the text bytes of the events of all entries
abbrev pub text_bytes : List Entry → ℕ
text_bytes [] = 0
text_bytes (e ∷ past) = bytes_of_event e.event + text_bytes past
