-- What a scenario prints.
use Rattle.std.specs.Prelude.{◌≡◌, ℕ, Bool, true, false, not, ◌&&◌, ◌+◌, ◌-◌, ◌++◌, length, reverse, slice_get, List, [], ◌∷◌, Option, Some, None, Result, Ok, Err, if◌then◌else◌}
use Rattle.sd_rules.specs.declared.keys.Key.TheVariants as keys
use Rattle.sd_rules.specs.declared.events.Event.{Event}
use Rattle.sd_rules.specs.declared.events.Event.TheVariants as events
use Rattle.sd_rules.specs.AccessScript.{AccessWords}
use Rattle.sd_rules.specs.Reaching.{after_forget}
use Rattle.sd_conf.specs.declared.config.Config.{Config}
use Rattle.sd_lines.specs.declared.lines.Line.{Line}
use Rattle.sd_lines.specs.declared.lines.Line.TheVariants as lines
use Rattle.sd_ldap.specs.declared.entry.DirEntry.{DirEntry}
use Rattle.sd_layout.specs.declared.blocks.Statement.{Statement}
use Rattle.sd_layout.specs.Blocks.{statements_of}
use Rattle.sd_layout.specs.Faults.{config_of}
use Rattle.sd_layout.specs.Head.{Head, head_of}
use Rattle.sd_stub.specs.declared.Mode.{Mode}
use Rattle.sd_layout.specs.Entries.{user_entry, group_entry, host_entry, service_entry, rule_entry, dn_of}
use Rattle.sd_places.specs.Keeping.{put, put_all, removed}
use Rattle.sd_world.specs.Clients.{begun}
use Rattle.sd_world.specs.Courses.{Course, LoginWords, lookup, login, check}
use Rattle.sd_world.specs.Prints.{full_line, journal_text}
use Rattle.sd_world.specs.Tasks.{Site, World, Halt, Full, Endless, MakesEvents, ◌>>=◌, at_text, happened, is_settled_at, moves_at, run_from, left_at}

-- where a scenario of this configuration begins: no entry of the journal or the directory, each server up, moment 0, no task
abbrev pub start : Config → World
start c = record {
  daemon = record { settings = c.settings; next = 1; floor = 0; past = [] };
  site = record { config = c; entries = []; changes = []; moment = 0 };
  clients = [];
  limit = c.settings.journal_limit;
  is_held = false;
  printed = [];
}

abbrev pub with_site : World → Site → World
with_site w s = record w { site = s }

abbrev pub with_entries : World → List DirEntry → World
with_entries w entries = record w { site = record w.site { entries = entries } }

-- an entry is put, or that of a DN is taken out
abbrev pub entry_put : World → DirEntry → World
entry_put w e = with_entries w (put w.site.entries e)

abbrev pub entry_removed : World → List ℕ → World
entry_removed w dn = with_entries w (removed w.site.entries dn)

abbrev pub server_changed : Site → ℕ → Mode → Site
server_changed s server mode = record s { changes = record { server = server; mode = mode } ∷ s.changes }

abbrev pub event_happened : World → Event → Result World Halt
event_happened w event =
    at_text w.printed (happened w.daemon w.site.moment event) >>= λ d. Ok (record w { daemon = d })

-- a task is made, and outside a hold it runs
abbrev pub run_unless_held : World → ℕ → Result World Halt
run_unless_held w last = if w.is_held then Ok w else run_from w last

abbrev pub client_added : World → Course → World
client_added w task = record w { clients = w.clients ++ begun task ∷ [] }

abbrev pub task_made : World → Course → Result World Halt
task_made w task = run_unless_held (client_added w task) (length w.clients)

abbrev pub hold : World → Bool → World
hold w is_held = record w { is_held = is_held }

abbrev pub journal_printed : World → World
journal_printed w = record w { printed = w.printed ++ journal_text (reverse w.daemon.past) }

-- the daemon forgets the entries that no later event can look at
abbrev pub forgot : World → World
forgot w = record w { daemon = after_forget w.daemon }

-- a line about the tasks that are held; tasks are numbered from 1
abbrev pub held_line_done : World → Line → Result World Halt
held_line_done w lines.Hold = Ok (hold w true)
held_line_done w lines.Go = run_from (hold w false) 0
held_line_done w (lines.Step task count) = moves_at count w (task - 1)
held_line_done w (lines.Abandon task) = left_at w (task - 1)
held_line_done w _ = Ok w

-- a line that puts an entry
abbrev pub entry_line_done : World → Line → World
entry_line_done w (lines.User user) = entry_put w (user_entry w.site.config.base user)
entry_line_done w (lines.Group group) = entry_put w (group_entry w.site.config.base group)
entry_line_done w (lines.Host host) = entry_put w (host_entry w.site.config.base host)
entry_line_done w (lines.Service service) = entry_put w (service_entry w.site.config.base service)
entry_line_done w (lines.Rule rule) = entry_put w (rule_entry w.site.config.base rule)
entry_line_done w _ = w

-- a line about the directory, its servers or the moment
abbrev pub directory_line_done : World → Line → World
directory_line_done w (lines.At moment) = with_site w (record w.site { moment = moment })
directory_line_done w (lines.Remove kind name) = entry_removed w (dn_of w.site.config.base kind name)
directory_line_done w (lines.Ldif entries) = with_entries w (put_all w.site.entries entries)
directory_line_done w (lines.Server server mode) = with_site w (server_changed w.site server mode)
directory_line_done w line = entry_line_done w line

-- the words of a login, whose password leaves its hash where the configuration says so
abbrev pub login_words : World → List ℕ → List ℕ → LoginWords
login_words w user password = record { user = user; password = password; stores = w.site.config.settings.cache_credentials }

-- the words of an account check, by the way of checking that the configuration has
abbrev pub check_words : World → List ℕ → List ℕ → AccessWords
check_words w user service = record { user = user; service = service; mode = w.site.config.settings.access }

-- a line that makes a task
abbrev pub task_line_done : World → Line → Result World Halt
task_line_done w (lines.GetUser name) = task_made w (lookup (keys.User name))
task_line_done w (lines.GetUid uid) = task_made w (lookup (keys.Uid uid))
task_line_done w (lines.GetGroup name) = task_made w (lookup (keys.Group name))
task_line_done w (lines.GetGid gid) = task_made w (lookup (keys.Gid gid))
task_line_done w (lines.GroupsOf name) = task_made w (lookup (keys.GroupsOf name))
task_line_done w (lines.Login user password) = task_made w (login (login_words w user password))
task_line_done w (lines.Access user service) = task_made w (check (check_words w user service))
task_line_done w _ = Ok w

-- what a line does: the operator's word, a forget, a task that is made, tasks that are held, or the directory
abbrev pub line_done : World → Line → Result World Halt
line_done w (lines.Void what) = event_happened w (events.Void what)
line_done w lines.Offline = event_happened w events.Offline
line_done w lines.Online = event_happened w events.Online
line_done w lines.Forget = Ok (forgot w)
line_done w lines.Journal = Ok (journal_printed w)
line_done w (lines.GetUser name) = task_line_done w (lines.GetUser name)
line_done w (lines.GetUid uid) = task_line_done w (lines.GetUid uid)
line_done w (lines.GetGroup name) = task_line_done w (lines.GetGroup name)
line_done w (lines.GetGid gid) = task_line_done w (lines.GetGid gid)
line_done w (lines.GroupsOf name) = task_line_done w (lines.GroupsOf name)
line_done w (lines.Login user password) = task_line_done w (lines.Login user password)
line_done w (lines.Access user service) = task_line_done w (lines.Access user service)
line_done w lines.Hold = held_line_done w lines.Hold
line_done w lines.Go = held_line_done w lines.Go
line_done w (lines.Step task count) = held_line_done w (lines.Step task count)
line_done w (lines.Abandon task) = held_line_done w (lines.Abandon task)
line_done w line = Ok (directory_line_done w line)

-- a line that makes a task
abbrev pub makes_task : Line → Bool
makes_task (lines.GetUser name) = true
makes_task (lines.GetUid uid) = true
makes_task (lines.GetGroup name) = true
makes_task (lines.GetGid gid) = true
makes_task (lines.GroupsOf name) = true
makes_task (lines.Login user password) = true
makes_task (lines.Access user service) = true
makes_task _ = false

-- a line that lets tasks run: the end of a hold, or one that makes a task outside a hold
abbrev pub lets_run : World → Line → Bool
lets_run w lines.Go = true
lets_run w line = makes_task line && not w.is_held

-- a `step` lets a task that needs an event make its events
abbrev pub StepsAs : World → Line → World → Type 0
StepsAs w (lines.Step task count) v =
    is_settled_at (slice_get w.clients (task - 1)) ≡ true → MakesEvents count (task - 1) w v
StepsAs w _ v = Unit {0}

-- what lines print, whether a full journal ended them, and whether the bound on the moves did, which never comes
pub record Transcript : Type 0 where
  pub text : List ℕ
  pub is_full : Bool
  pub is_endless : Bool

abbrev pub halted : Halt → Transcript
halted (Full number printed) = record { text = printed ++ full_line number; is_full = true; is_endless = false }
halted (Endless printed) = record { text = printed; is_full = false; is_endless = true }

-- a line, and then those behind it, or an early end
abbrev pub transcript_after : Result World Halt → (World → Transcript) → Transcript
transcript_after (Err h) rest = halted h
transcript_after (Ok w) rest = rest w

abbrev pub transcript_on : World → List Statement → Transcript
transcript_on w [] = record { text = w.printed; is_full = false; is_endless = false }
transcript_on w (s ∷ rest) = transcript_after (line_done w s.line) (λ v. transcript_on v rest)

-- by the configuration; where it is refused nothing is done
abbrev pub transcript_by : Result Config ℕ → List Statement → Transcript
transcript_by (Ok c) body = transcript_on (start c) body
transcript_by (Err n) body = record { text = []; is_full = false; is_endless = false }

-- the transcript of a scenario's text
unfoldable pub transcript : List ℕ → Transcript
transcript text = transcript_by (config_of (head_of text)) (statements_of (head_of text).number (head_of text).body)
