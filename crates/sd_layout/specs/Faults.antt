-- The first line of a scenario that has no form where it stands.
use Rattle.std.specs.Prelude.{ℕ, Bool, true, false, ◌&&◌, ◌+◌, not, nat_lt, nat_le, List, [], ◌∷◌, Option, Some, None, Result, Ok, Err, if◌then◌else◌}
use Rattle.sd_conf.specs.declared.ConfFault.{ConfFault}
use Rattle.sd_conf.specs.declared.config.Config.{Config}
use Rattle.sd_conf.specs.Config.{conf_of}
use Rattle.sd_layout.specs.declared.faults.ConfigRead.{ConfigRead}
use Rattle.sd_layout.specs.declared.faults.ConfigRead.TheVariants as reads
use Rattle.sd_layout.specs.declared.faults.Scope.{Scope}
use Rattle.sd_lines.specs.declared.lines.Line.{Line}
use Rattle.sd_lines.specs.declared.lines.Line.TheVariants.{Server, GetUser, GetUid, GetGroup, GetGid, GroupsOf, Login, Access, Step, Abandon, Bad}
use Rattle.sd_layout.specs.declared.blocks.Statement.{Statement}
use Rattle.sd_layout.specs.Blocks.{statements_of}
use Rattle.sd_layout.specs.Head.{Head, Origin, head_of, refused_line}

-- ---- the configuration

-- A configuration has at most 64 servers (read_conf refuses more).
abbrev pub has_few_servers : Config → Bool
has_few_servers c = nat_le (c.settings.primaries + c.settings.backups) 64

abbrev pub config_by : Origin → Result Config ConfFault → Result Config ℕ
config_by o (Ok c) = if has_few_servers c then Ok c else Err o.last
config_by o (Err fault) = Err (refused_line o fault)

-- the configuration of a head, or the line of the scenario that is at fault
abbrev pub config_of : Head → Result Config ℕ
config_of h = if h.is_whole then config_by h.origin (conf_of h.origin.text) else Err h.origin.last

-- the same as the code keeps it
abbrev pub read_as : ConfigRead → Result Config ℕ
read_as (reads.Config c) = Ok c
read_as (reads.BadLine n) = Err n

-- ---- the lines behind the head

-- tasks are numbered from 1, servers from 0
abbrev pub is_task : Scope → ℕ → Bool
is_task s task = nat_lt 0 task && nat_le task s.tasks

abbrev pub is_bad_in : Scope → Line → Bool
is_bad_in s Bad = true
is_bad_in s (Step task count) = not (is_task s task)
is_bad_in s (Abandon task) = not (is_task s task)
is_bad_in s (Server server mode) = nat_le s.servers server
is_bad_in s _ = false

abbrev pub tasks_after : ℕ → Line → ℕ
tasks_after tasks (GetUser name) = tasks + 1
tasks_after tasks (GetUid uid) = tasks + 1
tasks_after tasks (GetGroup name) = tasks + 1
tasks_after tasks (GetGid gid) = tasks + 1
tasks_after tasks (GroupsOf name) = tasks + 1
tasks_after tasks (Login user password) = tasks + 1
tasks_after tasks (Access user service) = tasks + 1
tasks_after tasks _ = tasks

abbrev pub scope_after : Scope → Line → Scope
scope_after s line = record { servers = s.servers; tasks = tasks_after s.tasks line }

-- the number of the first that has no form where it stands
abbrev pub first_bad_in : Scope → List Statement → Option ℕ
first_bad_in s [] = None
first_bad_in s (p ∷ ps) = if is_bad_in s p.line then Some p.number else first_bad_in (scope_after s p.line) ps

abbrev pub scope_of : Config → Scope
scope_of c = record { servers = c.settings.primaries + c.settings.backups; tasks = 0 }

abbrev pub first_bad_by : Head → Result Config ℕ → Option ℕ
first_bad_by h (Ok c) = first_bad_in (scope_of c) (statements_of h.number h.body)
first_bad_by h (Err n) = Some n

-- the number of the first line of a text that has no form, counted from 1: a line of the head whose configuration is refused
-- counts as one
unfoldable pub first_bad : List ℕ → Option ℕ
first_bad text = first_bad_by (head_of text) (config_of (head_of text))
