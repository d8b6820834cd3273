-- The form of a line, by its words alone.
use Rattle.std.specs.Prelude.{ℕ, Bool, true, false, ◌==◌, List, [], ◌∷◌, codes, if◌then◌else◌}
use Rattle.sd_rules.specs.Keys.{same_name}
use Rattle.sd_lines.specs.declared.lines.Line.{Line}
use Rattle.sd_lines.specs.declared.lines.Line.TheVariants.{Blank, Offline, Online, Hold, Go, Forget, Journal, Bad}
use Rattle.sd_lines.specs.Accounts.{user_by_words, group_by_words}
use Rattle.sd_lines.specs.Access.{host_by_words, service_by_words, rule_by_words, remove_by_words}
use Rattle.sd_lines.specs.Daemon.{at_moment, server_by_words, void_form}
use Rattle.sd_lines.specs.Tasks.{getuser_by_word, getuid_by_word, getgroup_by_word, getgid_by_word, groupsof_by_word, login_form, access_by_words, step_form, abandon_by_word}
use Rattle.sd_lines.specs.Words.{words_of, first_of, one_of, pair_of, two_of, three_of}

-- lines of one word
abbrev pub bare : Line → List (List ℕ) → Line
bare line [] = line
bare line (w ∷ ws) = Bad

-- ---- the form by the first word and those behind it

-- what puts entries into the directory, and takes them out
abbrev pub entry_form : List ℕ → List (List ℕ) → Line
entry_form w ws =
    if same_name w (codes "user") then user_by_words (three_of ws)
    else if same_name w (codes "group") then group_by_words (two_of ws)
    else if same_name w (codes "host") then host_by_words (first_of ws)
    else if same_name w (codes "service") then service_by_words (first_of ws)
    else if same_name w (codes "rule") then rule_by_words (first_of ws)
    else if same_name w (codes "remove") then remove_by_words (pair_of ws)
    else Bad

-- what happens to the daemon at once, to its servers and to the moment
abbrev pub event_form : List ℕ → List (List ℕ) → Line
event_form w ws =
    if same_name w (codes "void") then void_form ws
    else if same_name w (codes "offline") then bare Offline ws
    else if same_name w (codes "online") then bare Online ws
    else if same_name w (codes "forget") then bare Forget ws
    else if same_name w (codes "journal") then bare Journal ws
    else if same_name w (codes "at") then at_moment (one_of ws)
    else if same_name w (codes "server") then server_by_words (first_of ws)
    else entry_form w ws

-- how the tasks that were held go on
abbrev pub held_form : List ℕ → List (List ℕ) → Line
held_form w ws =
    if same_name w (codes "hold") then bare Hold ws
    else if same_name w (codes "go") then bare Go ws
    else if same_name w (codes "step") then step_form ws
    else if same_name w (codes "abandon") then abandon_by_word (one_of ws)
    else event_form w ws

-- what makes a task
abbrev pub task_form : List ℕ → List (List ℕ) → Line
task_form w ws =
    if same_name w (codes "getuser") then getuser_by_word (one_of ws)
    else if same_name w (codes "getuid") then getuid_by_word (one_of ws)
    else if same_name w (codes "getgroup") then getgroup_by_word (one_of ws)
    else if same_name w (codes "getgid") then getgid_by_word (one_of ws)
    else if same_name w (codes "groupsof") then groupsof_by_word (one_of ws)
    else if same_name w (codes "login") then login_form ws
    else if same_name w (codes "access") then access_by_words (pair_of ws)
    else held_form w ws

abbrev pub form_of : List (List ℕ) → Line
form_of [] = Blank
form_of (w ∷ ws) = task_form w ws

-- a line is a comment where its very first byte is #
abbrev pub is_comment : List ℕ → Bool
is_comment [] = false
is_comment (b ∷ bs) = b == 35

abbrev pub line_of : List ℕ → Line
line_of line = if is_comment line then Blank else form_of (words_of line)

abbrev pub is_blank : Line → Bool
is_blank Blank = true
is_blank _ = false
