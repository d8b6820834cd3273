-- For whom an entry is looked at. All are the entries of the journal and past are those before the entry, the newest first.
use Rattle.std.specs.Prelude.{ℕ, Bool, false, ◌&&◌, ◌||◌, List, [], ◌∷◌, is_some}
use Rattle.sd_rules.specs.declared.replies.Entry.{Entry}
use Rattle.sd_rules.specs.Needed.{is_fall_needed, is_last, is_last_online, is_last_stop, is_login_needed, is_looked_at, is_number, is_read_for, is_wrong_needed, last_outage, read_with, serves_ticket, serves_waiting, user_guessed, user_logged_in}
use Rattle.sd_rules.specs.KeptRows.{is_join}
use Rattle.sd_rules.specs.Requests.{joined, waits_for}

-- by the end of the daemon, or as the last entry of all
abbrev pub is_of_end : List Entry → Entry → Bool
is_of_end all e = is_last_stop all e || is_last all e

-- by later logins, or by the end
abbrev pub is_of_logins : List Entry → List Entry → Entry → Bool
is_of_logins all past e =
    is_login_needed all e.number (user_logged_in past e.event e.reply)
    || (is_wrong_needed all e (user_guessed e.event) || is_of_end all e)

-- by tickets that wait, by later logins, or by the end
abbrev pub is_of_clients : List Entry → List Entry → Entry → Bool
is_of_clients all past e =
    is_some (waits_for all e.number) || (serves_waiting all e.number all || is_of_logins all past e)

-- by later choices of a server, or for one of these
abbrev pub is_of_servers : List Entry → List Entry → Entry → Bool
is_of_servers all past e =
    is_fall_needed all e e.event
    || (is_last_online all e || (is_number e.number (last_outage all) || is_of_clients all past e))

-- an entry is read with the other, which is looked at; past are those before the other
abbrev pub reads : List Entry → List Entry → Entry → Entry → Bool
reads all past other e = is_looked_at all past other && is_read_for all e other.event (read_with other.event other.reply)

-- some ticket that waits will look at the entry n, sought among the entries that joined
abbrev pub serves_joined : List Entry → ℕ → List Entry → Bool
serves_joined all n [] = false
serves_joined all n (e ∷ past) =
    (is_join (joined e.reply) && serves_ticket all n (waits_for all e.number)) || serves_joined all n past
