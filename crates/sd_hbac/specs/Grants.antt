-- What it means that a rule grants, said of all the rules of a book at once.
use Rattle.std.specs.Prelude.{◌≡◌, ◌≢◌, ◌<◌, ℕ, List, Some, IsTrue, Contains, Any, slice_get}
use Rattle.sd_rules.specs.declared.records.Element.{Element}
use Rattle.sd_rules.specs.declared.records.Rule.{Rule}
use Rattle.sd_rules.specs.declared.records.RuleBook.{RuleBook}
use Rattle.sd_rules.specs.declared.records.Service.{Service}
use Rattle.sd_rules.specs.Keys.{same_letters}
use Rattle.sd_rules.specs.Access.{Asker, comes_before}

-- one of the names is this name, without ASCII case
abbrev pub Names : List (List ℕ) → List ℕ → Type 0
Names names name = Any (λ n. IsTrue (same_letters n name)) names

-- an element matches a thing by its category, by the thing's name, or by a group of the thing
pub data ElementMatches (element : Element) (name : List ℕ) (IsGroup : List ℕ → Type 0) : Type 0 where
  by_category : IsTrue element.all → ElementMatches element name IsGroup
  by_name : Names element.names name → ElementMatches element name IsGroup
  by_group : (group : List ℕ) → IsGroup group → Names element.groups group → ElementMatches element name IsGroup

-- a service of this name, without ASCII case, is in the group
pub record IsServiceGroup (services : List Service) (name : List ℕ) (group : List ℕ) : Type 0 where
  pub service : Service
  pub known : Contains services service
  pub named : IsTrue (same_letters service.name name)
  pub grouped : Contains service.groups group

-- an enabled rule, whose elements match the user, this host and the service
pub record RuleMatches (services : List Service) (who : Asker) (rule : Rule) : Type 0 where
  pub enabled : IsTrue rule.enabled
  pub user : ElementMatches rule.users who.user (Contains who.groups)
  pub host : ElementMatches rule.hosts who.host (Contains who.host_groups)
  pub service : ElementMatches rule.services who.service (IsServiceGroup services who.service)

-- no rule of the book matches
abbrev pub NoneMatches : RuleBook → Asker → Type 0
NoneMatches book who =
    (place : ℕ) (rule : Rule) → slice_get book.rules place ≡ Some rule → ¬ (RuleMatches book.services who rule)

-- the rule at a place matches, none that matches has a lesser name in byte order, and none before it that matches has its name
pub record Grants (book : RuleBook) (who : Asker) (place : ℕ) : Type 0 where
  pub rule : Rule
  pub there : slice_get book.rules place ≡ Some rule
  pub matches : RuleMatches book.services who rule
  pub least :
      (other : ℕ) (r : Rule) → slice_get book.rules other ≡ Some r → RuleMatches book.services who r → ¬ (IsTrue (comes_before r.name rule.name))
  pub first :
      (earlier : ℕ) (r : Rule) → earlier < place → slice_get book.rules earlier ≡ Some r → RuleMatches book.services who r → r.name ≢ rule.name
