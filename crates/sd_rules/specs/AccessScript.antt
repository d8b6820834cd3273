-- The script of an account check: its user is looked up, and what the check rests on, then access is asked for.
use Rattle.std.specs.Prelude.{ℕ, Bool, true, false, not, List, [], ◌∷◌, ◌++◌, Option, Some, None, if◌then◌else◌}
use Rattle.sd_rules.specs.declared.keys.Key.{Key}
use Rattle.sd_rules.specs.declared.keys.Key.TheVariants as keys
use Rattle.sd_rules.specs.declared.events.Event.TheVariants as events
use Rattle.sd_rules.specs.declared.replies.By.TheVariants as by
use Rattle.sd_rules.specs.declared.replies.Given.{Given}
use Rattle.sd_rules.specs.declared.replies.NotBy.TheVariants as not_by
use Rattle.sd_rules.specs.declared.replies.Reply.{Reply}
use Rattle.sd_rules.specs.declared.replies.Reply.TheVariants as replies
use Rattle.sd_rules.specs.declared.settings.AccessMode.{AccessMode}
use Rattle.sd_rules.specs.declared.settings.AccessMode.TheVariants as modes
use Rattle.sd_rules.specs.declared.tasks.Said.TheVariants as says
use Rattle.sd_rules.specs.declared.scripts.Led.{Led}
use Rattle.sd_rules.specs.declared.scripts.LookupStage.{LookupStage}
use Rattle.sd_rules.specs.declared.scripts.LookupStage.TheVariants as stages
use Rattle.sd_rules.specs.declared.scripts.LookupStep.{LookupStep}
use Rattle.sd_rules.specs.declared.scripts.LookupStep.TheVariants as steps
use Rattle.sd_rules.specs.declared.tasks.Fetched.{Fetched}
use Rattle.sd_rules.specs.declared.tasks.Need.{Need}
use Rattle.sd_rules.specs.declared.tasks.Need.TheVariants as needs
use Rattle.sd_rules.specs.declared.tasks.Said.{Said}
use Rattle.sd_rules.specs.Keys.{is_user_key}
use Rattle.sd_rules.specs.Lookups.{lookup_need, lookup_replied, lookup_fetched, dn_said, is_stage_of_kind}
use Rattle.sd_rules.specs.Closings.{Closing, Saying, closing_need, closing_told, closing_replied, closing_fetched, closing_key, is_closing_of_kind}

-- The words of an account check, and what decides it.
pub record AccessWords : Type 0 where
  pub user : List ℕ
  pub service : List ℕ
  pub mode : AccessMode

-- which keys are looked up once the user was found, in this order
abbrev pub keys_checked : List ℕ → AccessMode → List Key
keys_checked user modes.Permit = []
keys_checked user modes.Deny = []
keys_checked user modes.Simple = keys.GroupsOf user ∷ []
keys_checked user modes.Ipa = keys.GroupsOf user ∷ keys.Host ∷ keys.Rules ∷ []

-- How far an account check has come: this key is looked up, and these after it; then access is asked for; then it closes.
-- The list is of the requests that it leads to renew answers.
pub data AccessCourse : Type 0 where
  Gathering : Key → List Key → List Led → LookupStage → AccessCourse
  Checking : List Led → AccessCourse
  Closed : Closing → AccessCourse

abbrev pub is_some_dn : Option (List ℕ) → Bool
is_some_dn (Some dn) = true
is_some_dn None = false

-- an outcome that an account check can't go on with
abbrev pub is_no_answer : Said → Bool
is_no_answer (says.Dark o) = true
is_no_answer (says.Refused code) = true
is_no_answer (says.Many count) = true
is_no_answer (says.Dropped n) = true
is_no_answer _ = false

-- any outcome for the user but a found one is the answer, and of the other keys one that the check can't go on with
abbrev pub ends_check : Key → Said → Bool
ends_check key said = if is_user_key key then not (is_some_dn (dn_said said)) else is_no_answer said

abbrev pub gather : List Key → List Led → AccessCourse
gather [] led = Checking led
gather (key ∷ keys) led = Gathering key keys led stages.Ask

abbrev pub gathered : Key → List Key → List Led → Said → AccessCourse
gathered key keys led said = if ends_check key said then Closed (Saying said led) else gather keys led

abbrev pub gathering : Key → List Key → List Led → LookupStep → AccessCourse
gathering key keys led (steps.Next stage) = Gathering key keys led stage
gathering key keys led (steps.Ended said) = gathered key keys led said
gathering key keys led (steps.Renew said request) =
    gathered key keys (led ++ record { request = request; key = key } ∷ []) said

-- the rule that grants, by its name; where the reply brought none, the check counts as dropped
abbrev pub rule_said : ℕ → Option (List ℕ) → Said
rule_said number (Some name) = says.GrantedRule number name
rule_said number None = says.Dropped number

abbrev pub access_said : ℕ → Option (List ℕ) → Reply → Said
access_said number rule (replies.Granted by.Permit) = says.GrantedPermit number
access_said number rule (replies.Granted by.Simple) = says.GrantedSimple number
access_said number rule (replies.Granted (by.Rule n place)) = rule_said number rule
access_said number rule (replies.Denied not_by.Deny) = says.DeniedDeny number
access_said number rule (replies.Denied not_by.Simple) = says.DeniedSimple number
access_said number rule (replies.Denied not_by.NoRule) = says.DeniedNoRule number
access_said number rule _ = says.Dropped number

abbrev pub access_need : AccessWords → AccessCourse → Need
access_need words (Gathering key keys led stage) = lookup_need key stage
access_need words (Checking led) = needs.Step (events.Access words.user words.service)
access_need words (Closed closing) = closing_need closing

abbrev pub access_told : AccessCourse → AccessCourse
access_told (Closed closing) = Closed (closing_told closing)
access_told course = course

abbrev pub access_replied : AccessCourse → Given → AccessCourse
access_replied (Gathering key keys led stage) given = gathering key keys led (lookup_replied stage given)
access_replied (Checking led) given = Closed (Saying (access_said given.number given.rule given.reply) led)
access_replied (Closed closing) given = Closed (closing_replied closing given)

abbrev pub access_fetched : AccessCourse → Fetched → AccessCourse
access_fetched (Gathering key keys led stage) fetched = Gathering key keys led (lookup_fetched stage fetched)
access_fetched (Checking led) fetched = Checking led
access_fetched (Closed closing) fetched = Closed (closing_fetched closing fetched)

abbrev pub access_key : AccessCourse → Option Key
access_key (Gathering key keys led stage) = Some key
access_key (Checking led) = None
access_key (Closed closing) = closing_key closing

abbrev pub access_begun : AccessWords → AccessCourse
access_begun words = Gathering (keys.User words.user) (keys_checked words.user words.mode) [] stages.Ask

abbrev pub is_access_of_kind : AccessCourse → Bool
is_access_of_kind (Gathering key keys led stage) = is_stage_of_kind key stage
is_access_of_kind (Checking led) = true
is_access_of_kind (Closed closing) = is_closing_of_kind closing
