-- An account check as its code has it, seen as its script.
use Rattle.std.specs.Prelude.{ℕ, Bool, true, List, [], ◌∷◌, Option, Some, None}
use Rattle.sd_rules.specs.declared.keys.Key.{Key}
use Rattle.sd_rules.specs.declared.keys.Key.TheVariants as keys
use Rattle.sd_rules.specs.declared.settings.AccessMode.{AccessMode}
use Rattle.sd_rules.specs.declared.settings.AccessMode.TheVariants as modes
use Rattle.sd_rules.specs.AccessScript as scripts
use Rattle.sd_rules.specs.Scripts.{Script, Access}
use Rattle.sd_pam.specs.declared.access.AccessWords.{AccessWords}
use Rattle.sd_pam.specs.declared.access.AccessCourse.{AccessCourse}
use Rattle.sd_pam.specs.declared.access.AccessCourse.TheVariants as courses
use Rattle.sd_pam.specs.declared.closing.Part.{Part}
use Rattle.sd_pam.specs.declared.closing.Part.TheVariants as parts
use Rattle.sd_pam.specs.Closings.{key_of, led, is_free}
use Rattle.sd_pam.specs.Closings as closings

-- the part that follows another
abbrev pub after_user : AccessMode → Option Part
after_user modes.Permit = None
after_user modes.Deny = None
after_user modes.Simple = Some parts.Groups
after_user modes.Ipa = Some parts.Groups

abbrev pub after_groups : AccessMode → Option Part
after_groups modes.Ipa = Some parts.Host
after_groups _ = None

abbrev pub next_part : AccessMode → Part → Option Part
next_part mode parts.User = after_user mode
next_part mode parts.Groups = after_groups mode
next_part mode parts.Host = Some parts.Rules
next_part mode parts.Rules = None

-- the keys that are looked up after that of this part
abbrev pub keys_after_groups : AccessMode → List Key
keys_after_groups modes.Ipa = keys.Host ∷ keys.Rules ∷ []
keys_after_groups _ = []

abbrev pub keys_after : List ℕ → AccessMode → Part → List Key
keys_after user mode parts.User = scripts.keys_checked user mode
keys_after user mode parts.Groups = keys_after_groups mode
keys_after user mode parts.Host = keys.Rules ∷ []
keys_after user mode parts.Rules = []

abbrev pub words_of : AccessWords → scripts.AccessWords
words_of w = record { user = w.user; service = w.service; mode = w.mode }

abbrev pub course_of : List ℕ → AccessMode → AccessCourse → scripts.AccessCourse
course_of user mode (courses.Gathering part renewals stage) = scripts.Gathering (key_of user part) (keys_after user mode part) (led user renewals) stage
course_of user mode (courses.Checking renewals) = scripts.Checking (led user renewals)
course_of user mode (courses.Closed closing) = scripts.Closed (closings.seen user closing)

-- An account check, and how far it has come.
pub record AccessState : Type 0 where
  pub words : AccessWords
  pub course : AccessCourse

abbrev pub script : AccessState → Script
script s = Access (words_of s.words) (course_of s.words.user s.words.mode s.course)

-- no request is led yet by the part that is looked up
abbrev pub is_in_order : AccessCourse → Bool
is_in_order (courses.Gathering part renewals stage) = is_free part renewals
is_in_order _ = true
