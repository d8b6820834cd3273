-- Lines that make tasks, and lines of how these go on.
use Rattle.std.specs.Prelude.{ℕ, ◌^◌, ◌-◌, List, [], ◌∷◌, Option, Some, None, if◌then◌else◌}
use Rattle.sd_lines.specs.declared.lines.Line.{Line}
use Rattle.sd_lines.specs.declared.lines.Line.TheVariants.{GetUser, GetUid, GetGroup, GetGid, GroupsOf, Login, Access, Step, Abandon, Bad}
use Rattle.sd_pieces.specs.Digits.{number_up_to}
use Rattle.sd_lines.specs.Words.{is_word, id_of}

-- ---- getuser WORD, getuid N, getgroup WORD, getgid N and groupsof WORD: lookups

abbrev pub getuser_by_word : Option (List ℕ) → Line
getuser_by_word (Some name) = if is_word name then GetUser name else Bad
getuser_by_word None = Bad

abbrev pub uid_line : Option ℕ → Line
uid_line (Some uid) = GetUid uid
uid_line None = Bad

abbrev pub getuid_by_word : Option (List ℕ) → Line
getuid_by_word (Some uid) = uid_line (id_of uid)
getuid_by_word None = Bad

abbrev pub getgroup_by_word : Option (List ℕ) → Line
getgroup_by_word (Some name) = if is_word name then GetGroup name else Bad
getgroup_by_word None = Bad

abbrev pub gid_line : Option ℕ → Line
gid_line (Some gid) = GetGid gid
gid_line None = Bad

abbrev pub getgid_by_word : Option (List ℕ) → Line
getgid_by_word (Some gid) = gid_line (id_of gid)
getgid_by_word None = Bad

abbrev pub groupsof_by_word : Option (List ℕ) → Line
groupsof_by_word (Some name) = if is_word name then GroupsOf name else Bad
groupsof_by_word None = Bad

-- ---- login WORD [WORD], the password being empty where it is missing, and access WORD WORD

abbrev pub login_line : List ℕ → List ℕ → Line
login_line user password = if is_word user then Login user password else Bad

abbrev pub login_with : List ℕ → List ℕ → Line
login_with user password = if is_word password then login_line user password else Bad

abbrev pub login_form : List (List ℕ) → Line
login_form (user ∷ []) = login_line user []
login_form (user ∷ password ∷ []) = login_with user password
login_form _ = Bad

abbrev pub access_line : List ℕ → List ℕ → Line
access_line user service = if is_word user then (if is_word service then Access user service else Bad) else Bad

abbrev pub access_by_words : Option (List ℕ × List ℕ) → Line
access_by_words (Some ws) = access_line ws.0 ws.1
access_by_words None = Bad

-- ---- step K [N] and abandon K: task K makes N events, or leaves

abbrev pub step_line : Option ℕ → Option ℕ → Line
step_line (Some task) (Some count) = Step task count
step_line (Some task) None = Bad
step_line None count = Bad

abbrev pub step_form : List (List ℕ) → Line
step_form (task ∷ []) = step_line (number_up_to (2 ^ 64 - 1) task) (Some 1)
step_form (task ∷ count ∷ []) = step_line (number_up_to (2 ^ 64 - 1) task) (number_up_to 1000 count)
step_form _ = Bad

abbrev pub abandon_line : Option ℕ → Line
abandon_line (Some task) = Abandon task
abandon_line None = Bad

abbrev pub abandon_by_word : Option (List ℕ) → Line
abandon_by_word (Some task) = abandon_line (number_up_to (2 ^ 64 - 1) task)
abandon_by_word None = Bad
