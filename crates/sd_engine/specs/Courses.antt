-- The requests of clients, as far as they have come: lookups, logins, account checks and an administrator's words.
use Rattle.std.specs.Prelude.{ℕ, Bool, List}
use Rattle.sd_rules.specs.declared.keys.Key.{Key}
use Rattle.sd_rules.specs.declared.events.Event.{Event}
use Rattle.sd_rules.specs.declared.replies.Given.{Given}
use Rattle.sd_rules.specs.declared.scripts.LookupCourse.{LookupCourse}
use Rattle.sd_rules.specs.declared.tasks.Bound.{Bound}
use Rattle.sd_rules.specs.declared.tasks.Fetched.{Fetched}
use Rattle.sd_rules.specs.declared.tasks.Need.{Need}
use Rattle.sd_rules.specs.AccessScript.{AccessWords, AccessCourse, access_told, access_replied, access_fetched, access_begun}
use Rattle.sd_rules.specs.LoginScript.{LoginCourse, login_course_told, login_course_replied, login_course_fetched, login_course_bound, login_begun}
use Rattle.sd_rules.specs.LoginScript as logins
use Rattle.sd_rules.specs.Lookups.{course_told, course_replied, course_fetched}
use Rattle.sd_rules.specs.Lookups as lookups
use Rattle.sd_rules.specs.Scripts.{Script, Lookup, Login, Access, Admin, AdminCourse, Stepping, Telling, Over, admin_told, admin_replied, need_at}
use Rattle.sd_nss.specs.Tasks as seen_orders
use Rattle.sd_pam.specs.Checks as seen_checks
use Rattle.sd_pam.specs.Logins as seen_logins
use Rattle.sd_pam.specs.Logins.{hashing}
use Rattle.sd_nss.specs.declared.admin.AdminTask.{AdminTask}
use Rattle.sd_nss.specs.declared.admin.AdminTask.TheVariants as order_tasks
use Rattle.sd_engine.specs.declared.task.ClientTask.{ClientTask}
use Rattle.sd_engine.specs.declared.task.ClientTask.TheVariants.{LookUp, LogIn, Check, Administer}

-- The words of a login, and whether the hash of a password that a server accepts is stored.
pub record LoginWords : Type 0 where
  pub user : List ℕ
  pub password : List ℕ
  pub stores : Bool

-- the words as the script of a login has them, with the salts of this seed
abbrev pub with_hashing : List ℕ → LoginWords → logins.LoginWords
with_hashing seed w = record { user = w.user; password = w.password; stores = w.stores; hashing = hashing seed }

-- A request as far as it has come.
pub data Course : Type 0 where
  LookingUp : Key → LookupCourse → Course
  LoggingIn : LoginWords → LoginCourse → Course
  Checking : AccessWords → AccessCourse → Course
  Ordering : AdminCourse → Course

-- its script, where the hashes of passwords have the salts of this seed
abbrev pub script_of : List ℕ → Course → Script
script_of seed (LookingUp key course) = Lookup key course
script_of seed (LoggingIn words course) = Login (with_hashing seed words) course
script_of seed (Checking words course) = Access words course
script_of seed (Ordering course) = Admin course

-- each request at first
abbrev pub lookup : Key → Course
lookup key = LookingUp key lookups.begun

abbrev pub login : LoginWords → Course
login words = LoggingIn words (login_begun words.password)

abbrev pub check : AccessWords → Course
check words = Checking words (access_begun words)

abbrev pub order : Event → Course
order event = Ordering (Stepping event)

-- a request once its need is known
abbrev pub told : Course → Course
told (LookingUp key course) = LookingUp key (course_told course)
told (LoggingIn words course) = LoggingIn words (login_course_told course)
told (Checking words course) = Checking words (access_told course)
told (Ordering course) = Ordering (admin_told course)

-- a request after a reply
abbrev pub replied : List ℕ → Course → Given → Course
replied seed (LookingUp key course) given = LookingUp key (course_replied course given)
replied seed (LoggingIn words course) given = LoggingIn words (login_course_replied (with_hashing seed words) course given)
replied seed (Checking words course) given = Checking words (access_replied course given)
replied seed (Ordering course) given = Ordering (admin_replied course given)

-- a request after its search at a server
abbrev pub fetched : Course → Fetched → Course
fetched (LookingUp key course) answer = LookingUp key (course_fetched course answer)
fetched (LoggingIn words course) answer = LoggingIn words (login_course_fetched course answer)
fetched (Checking words course) answer = Checking words (access_fetched course answer)
fetched (Ordering course) answer = Ordering course

-- a request after its bind at a server
abbrev pub bound : List ℕ → Course → Bound → Course
bound seed (LoggingIn words course) answer = LoggingIn words (login_course_bound (with_hashing seed words) course answer)
bound seed (LookingUp key course) answer = LookingUp key course
bound seed (Checking words course) answer = Checking words course
bound seed (Ordering course) answer = Ordering course

-- ---- the tasks of the code

abbrev pub script : ClientTask → Script
script (LookUp task) = Lookup task.key task.course
script (LogIn task) = seen_logins.script task
script (Check task) = seen_checks.script task
script (Administer task) = seen_orders.script task

abbrev pub order_course : AdminTask → AdminCourse
order_course (order_tasks.Stepping event) = Stepping event
order_course (order_tasks.Telling number) = Telling number
order_course order_tasks.Over = Over

-- a request of the code, seen as far as it has come
abbrev pub seen : ClientTask → Course
seen (LookUp task) = LookingUp task.key task.course
seen (LogIn task) = LoggingIn (record { user = task.words.user; password = task.words.password; stores = task.words.stores })
    (seen_logins.course_of task.words.user task.course)
seen (Check task) = Checking (seen_checks.words_of task.words) (seen_checks.course_of task.words.user task.words.mode task.course)
seen (Administer task) = Ordering (order_course task)

-- A client's request, and the seed of the salts with which passwords are hashed.
pub record Client : Type 0 where
  pub seed : List ℕ
  pub course : Course

abbrev pub script_at : Client → Script
script_at c = script_of c.seed c.course

-- what it needs next
abbrev pub need_of : Client → Need
need_of c = need_at (script_at c)

abbrev pub client_told : Client → Client
client_told c = record { seed = c.seed; course = told c.course }

abbrev pub client_replied : Client → Given → Client
client_replied c given = record { seed = c.seed; course = replied c.seed c.course given }

abbrev pub client_fetched : Client → Fetched → Client
client_fetched c answer = record { seed = c.seed; course = fetched c.course answer }

abbrev pub client_bound : Client → Bound → Client
client_bound c answer = record { seed = c.seed; course = bound c.seed c.course answer }
