-- Account checks: by mode, by the simple lists, or by the access rules of the directory.
use Rattle.std.specs.Prelude.{ℕ, Bool, true, false, ◌&&◌, ◌||◌, ◌==◌, ◌+◌, nat_lt, map, List, [], ◌∷◌, ◌++◌, Option, Some, None, if◌then◌else◌}
use Rattle.std.specs.List.{list_any}
use Rattle.sd_rules.specs.declared.keys.Key.TheVariants as keys
use Rattle.sd_rules.specs.declared.records.Answered.{Answered}
use Rattle.sd_rules.specs.declared.records.Answered.TheVariants.{Found}
use Rattle.sd_rules.specs.declared.records.Element.{Element}
use Rattle.sd_rules.specs.declared.records.GroupRef.{GroupRef}
use Rattle.sd_rules.specs.declared.records.Record.TheVariants as records
use Rattle.sd_rules.specs.declared.records.Rule.{Rule}
use Rattle.sd_rules.specs.declared.records.RuleBook.{RuleBook}
use Rattle.sd_rules.specs.declared.records.Service.{Service}
use Rattle.sd_rules.specs.declared.settings.AccessMode.{AccessMode}
use Rattle.sd_rules.specs.declared.settings.AccessMode.TheVariants.{Permit, Deny, Simple, Ipa}
use Rattle.sd_rules.specs.declared.settings.Settings.{Settings}
use Rattle.sd_rules.specs.declared.settings.SimpleLists.{SimpleLists}
use Rattle.sd_rules.specs.declared.replies.By.TheVariants as by
use Rattle.sd_rules.specs.declared.replies.NotBy.TheVariants as not_by
use Rattle.sd_rules.specs.declared.replies.Entry.{Entry}
use Rattle.sd_rules.specs.declared.replies.Reply.{Reply}
use Rattle.sd_rules.specs.declared.replies.Reply.TheVariants as replies
use Rattle.sd_rules.specs.Keys.{same_letters}
use Rattle.sd_rules.specs.Past.{Standing, newest}
use Rattle.sd_rules.specs.Answers.{lists_name}

-- whom and what an account check is about
pub record Asker : Type 0 where
  pub user : List ℕ
  pub groups : List (List ℕ)
  pub service : List ℕ
  pub host : List ℕ
  pub host_groups : List (List ℕ)

-- names hold a name without ASCII case
abbrev pub holds_letters : List (List ℕ) → List ℕ → Bool
holds_letters names name = list_any (λ n. same_letters n name) names

-- one of the names is among the others, without ASCII case
abbrev pub shares_letters : List (List ℕ) → List (List ℕ) → Bool
shares_letters names others = list_any (λ n. holds_letters others n) names

-- an element matches a thing where its category is all, or it names the thing or one of its groups
abbrev pub element_matches : Element → List ℕ → List (List ℕ) → Bool
element_matches el name groups = el.all || (holds_letters el.names name || shares_letters groups el.groups)

-- the groups of all services of a name, together
abbrev pub service_groups : List Service → List ℕ → List (List ℕ)
service_groups [] name = []
service_groups (s ∷ services) name =
    if same_letters s.name name then s.groups ++ service_groups services name else service_groups services name

-- an enabled rule each of whose elements matches
abbrev pub rule_matches : List Service → Asker → Rule → Bool
rule_matches services who rule =
    rule.enabled
    && (element_matches rule.users who.user who.groups
    && (element_matches rule.hosts who.host who.host_groups
    && element_matches rule.services who.service (service_groups services who.service)))

-- byte order of two names
abbrev pub comes_before : List ℕ → List ℕ → Bool
comes_before [] [] = false
comes_before [] (y ∷ ys) = true
comes_before (x ∷ xs) [] = false
comes_before (x ∷ xs) (y ∷ ys) = nat_lt x y || ((x == y) && comes_before xs ys)

-- a rule by its place and its name
pub record Placed : Type 0 where
  pub place : ℕ
  pub name : List ℕ

-- of two rules the one of the lesser name, and the first where the names are equal
abbrev pub lesser_of : Placed → Option Placed → Placed
lesser_of first None = first
lesser_of first (Some later) = if comes_before later.name first.name then later else first

-- of the rules that match, the one of least name, and of these the first; places are counted from the given one
abbrev pub least_matching : List Service → Asker → ℕ → List Rule → Option Placed
least_matching services who place [] = None
least_matching services who place (rule ∷ rules) =
    if rule_matches services who rule
    then Some (lesser_of (record { place = place; name = rule.name }) (least_matching services who (place + 1) rules))
    else least_matching services who (place + 1) rules

abbrev pub place_of : Option Placed → Option ℕ
place_of None = None
place_of (Some rule) = Some rule.place

-- the rule that grants: its place in the book
abbrev pub granting_rule : RuleBook → Asker → Option ℕ
granting_rule book who = place_of (least_matching book.services who 0 book.rules)

abbrev pub lists_any : List (List ℕ) → List (List ℕ) → Bool
lists_any names groups = list_any (λ g. lists_name names g) groups

abbrev pub is_empty_list : List (List ℕ) → Bool
is_empty_list [] = true
is_empty_list (name ∷ names) = false

-- a deny list that holds the user or a group denies; else where an allow list has an item, one of them has to hold the user or a group
abbrev pub simple_allows : SimpleLists → List ℕ → List (List ℕ) → Bool
simple_allows lists user groups =
    if lists_name lists.deny_users user || lists_any lists.deny_groups groups then false
    else if is_empty_list lists.allow_users && is_empty_list lists.allow_groups then true
    else lists_name lists.allow_users user || lists_any lists.allow_groups groups

abbrev pub groups_in_answer : Answered → List (List ℕ)
groups_in_answer (Found (records.Groups groups)) = map (λ (g : GroupRef). g.name) groups.groups
groups_in_answer _ = []

abbrev pub groups_of_user : Option Standing → List (List ℕ)
groups_of_user None = []
groups_of_user (Some a) = groups_in_answer a.answered

-- the groups of a user, by the newest answer to the question for them
abbrev pub user_groups : List Entry → List ℕ → List (List ℕ)
user_groups past user = groups_of_user (newest past (keys.GroupsOf user))

abbrev pub host_groups_in_answer : Answered → List (List ℕ)
host_groups_in_answer (Found (records.Host host)) = host.groups
host_groups_in_answer _ = []

abbrev pub groups_of_host : Option Standing → List (List ℕ)
groups_of_host None = []
groups_of_host (Some a) = host_groups_in_answer a.answered

-- who asks: the user with the groups of the user's, this host with its groups, and the service
abbrev pub asker_of : Settings → List Entry → List ℕ → List ℕ → Asker
asker_of s past user service = record {
  user = user;
  groups = user_groups past user;
  service = service;
  host = s.hostname;
  host_groups = groups_of_host (newest past keys.Host);
}

abbrev pub reply_by_rule : ℕ → Option ℕ → Reply
reply_by_rule n None = replies.Denied not_by.NoRule
reply_by_rule n (Some place) = replies.Granted (by.Rule n place)

abbrev pub reply_by_book : Asker → ℕ → Answered → Reply
reply_by_book who n (Found (records.Rules book)) = reply_by_rule n (granting_rule book who)
reply_by_book who n _ = replies.Denied not_by.NoRule

abbrev pub reply_by_rules : Asker → Option Standing → Reply
reply_by_rules who None = replies.Denied not_by.NoRule
reply_by_rules who (Some a) = reply_by_book who a.number a.answered

abbrev pub reply_by_lists : Bool → Reply
reply_by_lists allowed = if allowed then replies.Granted by.Simple else replies.Denied not_by.Simple

abbrev pub access_by : AccessMode → Settings → List Entry → List ℕ → List ℕ → Reply
access_by Permit s past user service = replies.Granted by.Permit
access_by Deny s past user service = replies.Denied not_by.Deny
access_by Simple s past user service = reply_by_lists (simple_allows s.simple user (user_groups past user))
access_by Ipa s past user service = reply_by_rules (asker_of s past user service) (newest past keys.Rules)

-- the reply to an account check
abbrev pub access_of : Settings → List Entry → List ℕ → List ℕ → Reply
access_of s past user service = access_by s.access s past user service
