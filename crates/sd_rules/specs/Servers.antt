-- Which server a request or an attempt is sent to.
use Rattle.std.specs.Prelude.{ℕ, Bool, true, false, ◌&&◌, ◌||◌, ◌==◌, ◌+◌, nat_lt, not, find, List, [], ◌∷◌, Option, if◌then◌else◌}
use Rattle.std.specs.List.{range_with_len}
use Rattle.sd_rules.specs.declared.settings.Settings.{Settings}
use Rattle.sd_rules.specs.declared.events.Event.{Event}
use Rattle.sd_rules.specs.declared.events.Event.TheVariants.{Fall, Pick, Online, Kept}
use Rattle.sd_rules.specs.declared.events.Row.TheVariants as rows
use Rattle.sd_rules.specs.declared.replies.Entry.{Entry}
use Rattle.sd_rules.specs.declared.replies.Reply.{Reply}
use Rattle.sd_rules.specs.declared.replies.Reply.TheVariants as replies

abbrev pub is_noted : Reply → Bool
is_noted replies.Noted = true
is_noted _ = false

-- a fall of this server under this request was noted
abbrev pub falls_under : Event → Reply → ℕ → ℕ → Bool
falls_under (Fall r i why) reply request server = (r == request) && ((i == server) && is_noted reply)
falls_under _ reply request server = false

abbrev pub has_fallen_under : List Entry → ℕ → ℕ → Bool
has_fallen_under [] request server = false
has_fallen_under (e ∷ past) request server =
    falls_under e.event e.reply request server || has_fallen_under past request server

-- a fall of this server was noted under any request, or is kept
abbrev pub is_fall_of : Event → Reply → ℕ → Bool
is_fall_of (Fall r i why) reply server = (i == server) && is_noted reply
is_fall_of (Kept (rows.Fall n m i)) reply server = i == server
is_fall_of _ reply server = false

abbrev pub is_online : Event → Bool
is_online Online = true
is_online _ = false

-- the server fell less than 30 seconds before t, after the last word that the directory can be reached
abbrev pub has_fallen_lately : List Entry → ℕ → ℕ → Bool
has_fallen_lately [] t server = false
has_fallen_lately (e ∷ past) t server =
    if is_online e.event then false
    else (is_fall_of e.event e.reply server && nat_lt t (e.moment + 30)) || has_fallen_lately past t server

abbrev pub is_down : List Entry → ℕ → ℕ → ℕ → Bool
is_down past request t server = has_fallen_under past request server || has_fallen_lately past t server

-- the first primary, else the first backup, that is not down; primaries have the least numbers
abbrev pub picked_server : Settings → List Entry → ℕ → ℕ → Option ℕ
picked_server s past request t = find (λ server. not (is_down past request t server)) (range_with_len 0 (s.primaries + s.backups))

abbrev pub is_pick_of : Event → ℕ → Bool
is_pick_of (Pick r) request = r == request
is_pick_of _ request = false

abbrev pub is_server : Reply → ℕ → Bool
is_server (replies.Server i) server = i == server
is_server _ server = false

-- the last pick of a request gave this server
abbrev pub was_picked : List Entry → ℕ → ℕ → Bool
was_picked [] request server = false
was_picked (e ∷ past) request server =
    if is_pick_of e.event request then is_server e.reply server else was_picked past request server
