-- The rules of a book, compiled, and what they grant.
use Rattle.std.specs.Prelude.{◌≡◌, ℕ, Bool, true, ◌&&◌, ◌||◌, List, [], ◌∷◌, Option, Some, None, if◌then◌else◌}
use Rattle.sd_rules.specs.declared.records.Element.{Element}
use Rattle.sd_rules.specs.declared.records.Rule.{Rule}
use Rattle.sd_rules.specs.declared.records.RuleBook.{RuleBook}
use Rattle.sd_rules.specs.declared.records.Service.{Service}
use Rattle.sd_rules.specs.Access.{Asker, Placed, element_matches, service_groups, rule_matches, least_matching, lesser_of, place_of, granting_rule}
use Rattle.sd_hbac.specs.Lowered.{among, shares}
use Rattle.sd_hbac.specs.declared.elements.Members.{Members}
use Rattle.sd_hbac.specs.declared.elements.Served.{Served}
use Rattle.sd_hbac.specs.declared.sets.Set.{Set}

-- the names of the services that are in one of some lowered groups
abbrev pub grouped : List Service → List (List ℕ) → List (List ℕ)
grouped [] groups = []
grouped (s ∷ services) groups = if shares s.groups groups then s.name ∷ grouped services groups else grouped services groups

-- one of a name, in some groups, is among compiled members
abbrev pub members_hold : Members → List ℕ → List (List ℕ) → Bool
members_hold m name groups = m.all || (among m.names name || shares groups m.groups)

-- a service of a name is among compiled ones
abbrev pub served_hold : Served → List ℕ → Bool
served_hold s name = s.all || among s.names name

-- a compiled rule lets in whom its three elements match
abbrev pub admits : Set → Asker → Bool
admits set who =
    served_hold set.services who.service
    && (members_hold set.hosts who.host who.host_groups && members_hold set.users who.user who.groups)

abbrev pub placed : Set → Placed
placed set = record { place = set.place; name = set.name }

-- of the compiled rules that let them in, the one of least name, and of these the first
abbrev pub least_admitting : List Set → Asker → Option Placed
least_admitting [] who = None
least_admitting (set ∷ sets) who =
    if admits set who
    then Some (lesser_of (placed set) (least_admitting sets who))
    else least_admitting sets who

-- the compiled rule that grants, by its place in the book
abbrev pub granted : List Set → Asker → Option ℕ
granted sets who = place_of (least_admitting sets who)

-- compiled members are those that the element matches
pub record IsMembersOf (element : Element) (m : Members) : Type 0 where
  pub each : (name : List ℕ) (groups : List (List ℕ)) → members_hold m name groups ≡ element_matches element name groups

-- compiled services are those that the element matches, with the groups of each
pub record IsServedOf (services : List Service) (element : Element) (s : Served) : Type 0 where
  pub each : (name : List ℕ) → served_hold s name ≡ element_matches element name (service_groups services name)

-- a compiled rule has the place and the name of the rule, and lets in whom the rule matches once it is enabled
pub record IsSetOf (services : List Service) (place : ℕ) (rule : Rule) (set : Set) : Type 0 where
  pub placed : set.place ≡ place
  pub named : set.name ≡ rule.name
  pub each : rule.enabled ≡ true → (who : Asker) → admits set who ≡ rule_matches services who rule

-- compiled rules are those of a list whose places are counted from the given one
pub record CompilesFrom (services : List Service) (place : ℕ) (rules : List Rule) (sets : List Set) : Type 0 where
  pub each : (who : Asker) → least_admitting sets who ≡ least_matching services who place rules

-- compiled rules grant as a book does, whoever asks
pub record Compiles (book : RuleBook) (sets : List Set) : Type 0 where
  pub each : (who : Asker) → granted sets who ≡ granting_rule book who
