-- A script stays where it is until what came of its need was told, unless that was something to tell.
use Rattle.std.proofs.Common.{◌≡◌, true, false, Option, Some, None, refl, ap, sym, ◌∙◌}
use Rattle.sd_rules.specs.declared.scripts.LookupCourse.{LookupCourse}
use Rattle.sd_rules.specs.declared.scripts.LookupCourse.TheVariants.{Looking, Saying, SayingFirst, Renewing, Over}
use Rattle.sd_rules.specs.declared.keys.Key.{Key}
use Rattle.sd_rules.specs.declared.tasks.Fetched.{Fetched}
use Rattle.sd_rules.specs.declared.tasks.Need.{Need}
use Rattle.sd_rules.specs.declared.tasks.Need.TheVariants as needs
use Rattle.sd_rules.specs.Lookups.{course_need, course_told}
use Rattle.sd_rules.specs.Closings.{Closing, closing_need, closing_told}
use Rattle.sd_rules.specs.Closings as closings
use Rattle.sd_rules.specs.LoginScript.{LoginWords, LoginCourse, login_course_need, login_course_told}
use Rattle.sd_rules.specs.LoginScript as logins
use Rattle.sd_rules.specs.AccessScript.{AccessWords, AccessCourse, access_need, access_told}
use Rattle.sd_rules.specs.AccessScript as checks
use Rattle.sd_rules.specs.Scripts.{Script, AdminCourse, admin_need, admin_told, need_at, told_at, is_saying, awaits_reply, answers_search, fits_found}
use Rattle.sd_rules.specs.Scripts as scripts

course_stays : (key : Key) (course : LookupCourse) → is_saying (course_need key course) ≡ false → course_told course ≡ course
course_stays key (Looking stage) h = refl
course_stays key (Renewing stage) h = refl
course_stays key Over h = refl
course_stays key (Saying said) h = cc
course_stays key (SayingFirst said request) h = cc

closing_stays : (closing : Closing) → is_saying (closing_need closing) ≡ false → closing_told closing ≡ closing
closing_stays (closings.Saying said led) h = cc
closing_stays (closings.Renewing key stage led) h = refl
closing_stays closings.Over h = refl

login_stays : (words : LoginWords) (course : LoginCourse) →
    is_saying (login_course_need words course) ≡ false → login_course_told course ≡ course
login_stays words (logins.Finding stage) h = refl
login_stays words (logins.Proving dn led stage) h = refl
login_stays words (logins.Closed closing) h = ap logins.Closed (closing_stays closing h)

access_stays : (words : AccessWords) (course : AccessCourse) →
    is_saying (access_need words course) ≡ false → access_told course ≡ course
access_stays words (checks.Gathering key keys led stage) h = refl
access_stays words (checks.Checking led) h = refl
access_stays words (checks.Closed closing) h = ap checks.Closed (closing_stays closing h)

admin_stays : (course : AdminCourse) → is_saying (admin_need course) ≡ false → admin_told course ≡ course
admin_stays (scripts.Stepping event) h = refl
admin_stays (scripts.Telling number) h = cc
admin_stays scripts.Over h = refl

pub told_stays : (script : Script) → is_saying (need_at script) ≡ false → told_at script ≡ script
told_stays (scripts.Lookup key course) h = ap (scripts.Lookup key) (course_stays key course h)
told_stays (scripts.Login words course) h = ap (scripts.Login words) (login_stays words course h)
told_stays (scripts.Access words course) h = ap (scripts.Access words) (access_stays words course h)
told_stays (scripts.Admin course) h = ap scripts.Admin (admin_stays course h)

replies_are_not_said : (need : Need) → awaits_reply need ≡ true → is_saying need ≡ false
replies_are_not_said (needs.Say said) h = cc
replies_are_not_said (needs.Step event) h = refl
replies_are_not_said _ h = refl

searches_are_not_said : (need : Need) (fetched : Fetched) → answers_search need fetched ≡ true → is_saying need ≡ false
searches_are_not_said (needs.Say said) fetched h = cc
searches_are_not_said (needs.Step event) fetched h = refl
searches_are_not_said _ fetched h = refl

-- a need that waits for a reply still waits for it after it was handed over
pub reply_awaited : (before after : Script) (need : Need) → need ≡ need_at before →
    (is_saying need ≡ false → after ≡ before) → awaits_reply need ≡ true → awaits_reply (need_at after) ≡ true
reply_awaited before after need n stays h =
    ap (λ s. awaits_reply (need_at s)) (stays (replies_are_not_said need h)) ∙ (ap awaits_reply (sym n) ∙ h)

-- a need for a search still waits for what it gives after it was handed over
pub search_awaited : (before after : Script) (need : Need) (fetched : Fetched) → need ≡ need_at before →
    (is_saying need ≡ false → after ≡ before) → answers_search need fetched ≡ true →
    answers_search (need_at after) fetched ≡ true
search_awaited before after need fetched n stays h =
    ap (λ s. answers_search (need_at s) fetched) (stays (searches_are_not_said need fetched h))
    ∙ (ap (λ m. answers_search m fetched) (sym n) ∙ h)

-- a reply without a record fits
pub no_record_fits : (key : Option Key) → fits_found key None ≡ true
no_record_fits (Some key) = refl
no_record_fits None = refl
