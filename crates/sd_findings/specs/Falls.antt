-- The last falls of servers, by their numbers. A past is the list of a journal's entries, the newest first.
use Rattle.std.specs.Prelude.{◌≡◌, ℕ, ◌==◌, List, Option, Some, None, if◌then◌else◌}
use Rattle.std.specs.Map.{lookup}
use Rattle.sd_rules.specs.declared.events.Event.{Event}
use Rattle.sd_rules.specs.declared.events.Event.TheVariants.{Fall, Kept}
use Rattle.sd_rules.specs.declared.events.Row.TheVariants as rows
use Rattle.sd_rules.specs.declared.replies.Entry.{Entry}
use Rattle.sd_rules.specs.declared.replies.Reply.{Reply}
use Rattle.sd_rules.specs.Needed.{last_fall}
use Rattle.sd_rules.specs.Servers.{is_noted}

-- the server of which an entry is a fall
abbrev pub server_fallen : Event → Reply → Option ℕ
server_fallen (Fall request server why) reply = if is_noted reply then Some server else None
server_fallen (Kept (rows.Fall n m server)) reply = Some server
server_fallen _ reply = None

-- the fall that is kept of a server
abbrev pub fall_of : List (ℕ × ℕ) → ℕ → Option ℕ
fall_of falls server = lookup (λ i. server == i) falls

-- a server, where there is one, has this fall now, and each other server what it had
abbrev pub put_fall : Option ℕ → ℕ → ℕ → Option ℕ → Option ℕ
put_fall None number server before = before
put_fall (Some fallen) number server before = if fallen == server then Some number else before

-- of each server the last fall since the last word that the directory can be reached
pub record HoldFalls (past : List Entry) (falls : List (ℕ × ℕ)) : Type 0 where
  pub each : (server : ℕ) → fall_of falls server ≡ last_fall past server
