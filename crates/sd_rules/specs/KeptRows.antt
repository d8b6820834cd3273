-- Kept rows: what is kept of a journal over a restart, and the journal that is opened with them.
use Rattle.std.specs.Prelude.{ℕ, Bool, true, false, ◌&&◌, ◌||◌, ◌==◌, ◌+◌, ◌*◌, nat_lt, nat_le, not, map, reverse, List, [], ◌∷◌, Option, Some, None, sum_by, if◌then◌else◌}
use Rattle.std.specs.List.{list_any}
use Rattle.sd_rules.specs.declared.events.Event.{Event}
use Rattle.sd_rules.specs.declared.events.Event.TheVariants.{Fall, Outage, Offline, Stop, Kept}
use Rattle.sd_rules.specs.declared.events.Hash.{Hash}
use Rattle.sd_rules.specs.declared.events.Row.{Row}
use Rattle.sd_rules.specs.declared.events.Row.TheVariants as rows
use Rattle.sd_rules.specs.declared.replies.Entry.{Entry}
use Rattle.sd_rules.specs.declared.replies.Reply.{Reply}
use Rattle.sd_rules.specs.declared.replies.Reply.TheVariants as replies
use Rattle.sd_rules.specs.declared.settings.Settings.{Settings}
use Rattle.sd_rules.specs.Keys.{same_name, is_answer_of_kind}
use Rattle.sd_rules.specs.Past.{Standing, answer_in, is_voided}
use Rattle.sd_rules.specs.Requests.{is_lead, is_bind, joined}
use Rattle.sd_rules.specs.Logins.{Login, hash_entry, last_online_login, wrongs, wrong_count}
use Rattle.sd_rules.specs.TextBytes.{bytes_of_row}
use Rattle.sd_rules.specs.Steps.{Daemon, next_number, moment_of, hash_of_event}
use Rattle.sd_rules.specs.Needed.{is_newest_of_some, is_number, is_last_where, last_fall, is_login, user_logged_in, user_guessed}

-- the row of an answer that is the newest of a key
abbrev pub answer_row : List Entry → Option Standing → Option Row
answer_row all None = None
answer_row all (Some a) =
    if is_newest_of_some all (Some a) then Some (rows.Answer a.number a.moment a.own a.answered (is_voided all a)) else None

-- the row of a hash entry, or of a last online login that left no hash
abbrev pub hash_row : Entry → List ℕ → Option Hash → Option Row
hash_row e user (Some hash) = Some (rows.Hash e.number e.moment user hash)
hash_row e user None = None

abbrev pub is_unhashed_login : ℕ → Option Login → Bool
is_unhashed_login n None = false
is_unhashed_login n (Some l) = (l.number == n) && not l.hashed

abbrev pub login_row : List Entry → Entry → Option (List ℕ) → Option Row
login_row all e None = None
login_row all e (Some user) =
    if is_login e.number (hash_entry all user) then hash_row e user (hash_of_event e.event)
    else if is_unhashed_login e.number (last_online_login all user) then Some (rows.Online e.number e.moment user)
    else None

-- the row of the wrong guesses of a user that still count: the last of them, with their count
abbrev pub is_last_wrong : List Entry → List ℕ → Entry → Bool
is_last_wrong all user e = is_last_where (λ (x : Entry). not (wrongs user x.event x.reply == 0)) all e

abbrev pub wrong_row : List Entry → Entry → Option (List ℕ) → Option Row
wrong_row all e None = None
wrong_row all e (Some user) =
    if is_last_wrong all user e && not (wrong_count all user == 0)
    then Some (rows.Wrong e.number e.moment user (wrong_count all user))
    else None

-- the row of the last fall of a server
abbrev pub server_row : List Entry → Entry → ℕ → Option Row
server_row all e server =
    if is_number e.number (last_fall all server) then Some (rows.Fall e.number e.moment server) else None

abbrev pub fall_row : List Entry → Entry → Event → Option Row
fall_row all e (Fall request server why) = server_row all e server
fall_row all e (Kept (rows.Fall n m server)) = server_row all e server
fall_row all e _ = None

abbrev pub or_row : Option Row → Option Row → Option Row
or_row (Some row) other = Some row
or_row None other = other

-- the row that is kept of an entry, where one is
abbrev pub row_of : List Entry → List Entry → Entry → Option Row
row_of all past e =
    or_row (answer_row all (answer_in past e))
    (or_row (login_row all e (user_logged_in past e.event e.reply))
    (or_row (wrong_row all e (user_guessed e.event)) (fall_row all e e.event)))

abbrev pub with_row : Option Row → List Row → List Row
with_row (Some row) rows = row ∷ rows
with_row None rows = rows

abbrev pub rows_among : List Entry → List Entry → List Row
rows_among all [] = []
rows_among all (e ∷ past) = with_row (row_of all past e) (rows_among all past)

-- the head: version 2, the number of the next entry, and the least moment that it has
abbrev pub head_of : Daemon → Row
head_of d = rows.Head 2 (next_number d) (moment_of d 0)

-- the rows that are kept of a daemon: the head, then the others by rising number
abbrev pub rows_of : Daemon → List Row
rows_of d = head_of d ∷ reverse (rows_among d.past d.past)

-- the number and the moment of the entry that a row stands for
abbrev pub row_number : Row → ℕ
row_number (rows.Head version next moment) = next
row_number (rows.Answer n m key answered voided) = n
row_number (rows.Hash n m user hash) = n
row_number (rows.Wrong n m user count) = n
row_number (rows.Fall n m server) = n
row_number (rows.Online n m user) = n

abbrev pub row_moment : Row → ℕ
row_moment (rows.Head version next moment) = moment
row_moment (rows.Answer n m key answered voided) = m
row_moment (rows.Hash n m user hash) = m
row_moment (rows.Wrong n m user count) = m
row_moment (rows.Fall n m server) = m
row_moment (rows.Online n m user) = m

abbrev pub kept_entry : Row → Entry
kept_entry row = record { number = row_number row; moment = row_moment row; event = Kept row; reply = replies.Held }

-- a daemon that is opened with rows: an entry for each but the head, and the head's next number and least moment
abbrev pub opened : Settings → List Row → Daemon
opened settings [] = record { settings = settings; next = 1; floor = 0; past = [] }
opened settings (head ∷ others) =
    record { settings = settings; next = row_number head; floor = row_moment head; past = reverse (map kept_entry others) }

-- an entry of an outage, or the end of the daemon
abbrev pub ends_with_daemon : Event → Bool
ends_with_daemon (Outage n) = true
ends_with_daemon Offline = true
ends_with_daemon Stop = true
ends_with_daemon _ = false

abbrev pub is_join : Option ℕ → Bool
is_join (Some request) = true
is_join None = false

-- a reply opens a request or an attempt, or lets a ticket wait
abbrev pub opens : Reply → Bool
opens reply = is_lead reply || (is_bind reply || is_join (joined reply))

-- an entry whose request or attempt counts as closed, or whose ticket waits no more
abbrev pub settled : Entry → Entry
settled e = if opens e.reply then record e { reply = replies.Done } else e

abbrev pub settled_past : List Entry → List Entry
settled_past [] = []
settled_past (e ∷ past) = if ends_with_daemon e.event then settled_past past else settled e ∷ settled_past past

-- a daemon after a restart that keeps all its entries but those of outages and of its end, where nothing is open and nobody
-- waits
abbrev pub reopened : Daemon → Daemon
reopened d =
    record { settings = d.settings; next = next_number d; floor = moment_of d 0; past = settled_past d.past }

-- The rules for rows. A row is judged by the head and by the rows between, the last first.
abbrev pub is_head : Row → Bool
is_head (rows.Head version next moment) = true
is_head _ = false

-- the number and the moment of the row before, where there is one
abbrev pub last_number : List Row → ℕ
last_number [] = 0
last_number (row ∷ before) = row_number row

abbrev pub last_moment : List Row → ℕ
last_moment [] = 0
last_moment (row ∷ before) = row_moment row

-- numbers rise from above 0 to below the head's next number, and moments never fall and are not above the head's
abbrev pub is_in_order : Row → List Row → Row → Bool
is_in_order head before row =
    nat_lt (last_number before) (row_number row)
    && (nat_lt (row_number row) (row_number head)
    && (nat_le (last_moment before) (row_moment row) && nat_le (row_moment row) (row_moment head)))

abbrev pub counts_wrongs_of : List ℕ → Row → Bool
counts_wrongs_of user (rows.Wrong n m name count) = same_name name user
counts_wrongs_of user _ = false

-- a count is above 0 and not above the row's number, and each user has one; a record is of its key's kind; there is one head
abbrev pub is_sound : List Row → Row → Bool
is_sound before (rows.Head version next moment) = false
is_sound before (rows.Answer n m key answered voided) = is_answer_of_kind answered key
is_sound before (rows.Wrong n m user count) =
    not (count == 0) && (nat_le count n && not (list_any (counts_wrongs_of user) before))
is_sound before _ = true

-- the text bytes of the rows up to this one are at most 512 MiB
abbrev pub has_room : List Row → Row → Bool
has_room before row = nat_le (sum_by bytes_of_row before + bytes_of_row row) (512 * 1024 * 1024)

abbrev pub is_good_row : Row → List Row → Row → Bool
is_good_row head before row = is_sound before row && (is_in_order head before row && has_room before row)

-- the place of the first row against the rules, of rows that stand behind others
abbrev pub first_bad : Row → List Row → ℕ → List Row → Option ℕ
first_bad head before place [] = None
first_bad head before place (row ∷ others) =
    if is_good_row head before row then first_bad head (row ∷ before) (place + 1) others else Some place

-- a head comes first, and its next number is not 0
abbrev pub is_good_head : Row → Bool
is_good_head head = is_head head && not (row_number head == 0)

-- the place of the first row against the rules, counted from 0; no rows are against none
abbrev pub bad_row : List Row → Option ℕ
bad_row [] = None
bad_row (head ∷ others) = if is_good_head head then first_bad head [] 1 others else Some 0
