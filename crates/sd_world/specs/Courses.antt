-- The tasks of a scenario's clients, as far as they have come: lookups, logins and account checks.
use Rattle.std.specs.Prelude.{ℕ, Bool, replicate, List}
use Rattle.sd_rules.specs.declared.keys.Key.{Key}
use Rattle.sd_rules.specs.declared.replies.Given.{Given}
use Rattle.sd_rules.specs.declared.scripts.LookupCourse.{LookupCourse}
use Rattle.sd_rules.specs.declared.tasks.Bound.{Bound}
use Rattle.sd_rules.specs.declared.tasks.Fetched.{Fetched}
use Rattle.sd_rules.specs.AccessScript.{AccessWords, AccessCourse, access_told, access_replied, access_fetched, access_begun}
use Rattle.sd_rules.specs.LoginScript.{LoginCourse, login_course_told, login_course_replied, login_course_fetched, login_course_bound, login_begun}
use Rattle.sd_rules.specs.LoginScript as logins
use Rattle.sd_rules.specs.Lookups.{course_told, course_replied, course_fetched}
use Rattle.sd_rules.specs.Lookups as lookups
use Rattle.sd_rules.specs.Scripts.{Script, Lookup, Login, Access}
pub use Rattle.sd_rules.specs.Scripts.{event_of}
use Rattle.sd_pam.specs.Checks as seen_checks
use Rattle.sd_pam.specs.Logins as seen_logins
use Rattle.sd_pam.specs.Logins.{hashing}
use Rattle.sd_world.specs.declared.task.ClientTask.{ClientTask}
use Rattle.sd_world.specs.declared.task.ClientTask.TheVariants.{LookUp, LogIn, Check}

-- the seed of a scenario's salts: 32 bytes of 0x73
unfoldable pub seed : List ℕ
seed = replicate 32 115

-- The words of a login, and whether the hash of a password that a server accepts is stored.
pub record LoginWords : Type 0 where
  pub user : List ℕ
  pub password : List ℕ
  pub stores : Bool

-- the words as the script of a login has them, with the salts of the scenario
abbrev pub with_hashing : LoginWords → logins.LoginWords
with_hashing w = record { user = w.user; password = w.password; stores = w.stores; hashing = hashing seed }

-- A task as far as it has come.
pub data Course : Type 0 where
  LookingUp : Key → LookupCourse → Course
  LoggingIn : LoginWords → LoginCourse → Course
  Checking : AccessWords → AccessCourse → Course

-- its script
abbrev pub script_of : Course → Script
script_of (LookingUp key course) = Lookup key course
script_of (LoggingIn words course) = Login (with_hashing words) course
script_of (Checking words course) = Access words course

-- each task at first
abbrev pub lookup : Key → Course
lookup key = LookingUp key lookups.begun

abbrev pub login : LoginWords → Course
login words = LoggingIn words (login_begun words.password)

abbrev pub check : AccessWords → Course
check words = Checking words (access_begun words)

-- a task once its need is known
abbrev pub told : Course → Course
told (LookingUp key course) = LookingUp key (course_told course)
told (LoggingIn words course) = LoggingIn words (login_course_told course)
told (Checking words course) = Checking words (access_told course)

-- a task after a reply
abbrev pub replied : Course → Given → Course
replied (LookingUp key course) given = LookingUp key (course_replied course given)
replied (LoggingIn words course) given = LoggingIn words (login_course_replied (with_hashing words) course given)
replied (Checking words course) given = Checking words (access_replied course given)

-- a task after its search at a server
abbrev pub fetched : Course → Fetched → Course
fetched (LookingUp key course) answer = LookingUp key (course_fetched course answer)
fetched (LoggingIn words course) answer = LoggingIn words (login_course_fetched course answer)
fetched (Checking words course) answer = Checking words (access_fetched course answer)

-- a task after its bind at a server
abbrev pub bound : Course → Bound → Course
bound (LoggingIn words course) answer = LoggingIn words (login_course_bound (with_hashing words) course answer)
bound course answer = course

-- ---- the tasks of the code

abbrev pub script : ClientTask → Script
script (LookUp task) = Lookup task.key task.course
script (LogIn task) = seen_logins.script task
script (Check task) = seen_checks.script task

-- a task of the code, seen as far as it has come
abbrev pub seen : ClientTask → Course
seen (LookUp task) = LookingUp task.key task.course
seen (LogIn task) = LoggingIn (record { user = task.words.user; password = task.words.password; stores = task.words.stores })
    (seen_logins.course_of task.words.user task.course)
seen (Check task) = Checking (seen_checks.words_of task.words) (seen_checks.course_of task.words.user task.words.mode task.course)
