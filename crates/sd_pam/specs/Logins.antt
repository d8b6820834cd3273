-- A login as its code has it, seen as its script.
use Rattle.std.specs.Prelude.{ℕ, Bool, List, []}
use Rattle.sd_creds.specs.Hashes.{hash_of, salt_of}
use Rattle.sd_rules.specs.LoginScript as scripts
use Rattle.sd_rules.specs.Scripts.{Script, Login}
use Rattle.sd_pam.specs.declared.login.LoginWords.{LoginWords}
use Rattle.sd_pam.specs.declared.login.LoginCourse.{LoginCourse}
use Rattle.sd_pam.specs.declared.login.LoginCourse.TheVariants as courses
use Rattle.sd_pam.specs.Closings.{led}
use Rattle.sd_pam.specs.Closings as closings

-- passwords are hashed with the salts of this seed
abbrev pub hashing : List ℕ → scripts.Hashing
hashing seed = record { hash_of = hash_of; salt_of = salt_of seed }

abbrev pub words_of : LoginWords → scripts.LoginWords
words_of w = record { user = w.user; password = w.password; stores = w.stores; hashing = hashing w.salts }

abbrev pub course_of : List ℕ → LoginCourse → scripts.LoginCourse
course_of user (courses.Finding stage) = scripts.Finding stage
course_of user (courses.Proving dn renewals stage) = scripts.Proving dn (led user renewals) stage
course_of user (courses.Closed closing) = scripts.Closed (closings.seen user closing)

-- A login, and how far it has come.
pub record LoginState : Type 0 where
  pub words : LoginWords
  pub course : LoginCourse

abbrev pub script : LoginState → Script
script s = Login (words_of s.words) (course_of s.words.user s.course)
