-- A rule matches as a test exactly where it matches as a fact.
use Rattle.std.proofs.Common.{◌≡◌, ◌<◌, ◌⊎◌, ℕ, suc, zero, Bool, true, false, cond, ◌&&◌, ◌||◌, List, [], ◌∷◌, ◌++◌, length, get_or, refl, sym, ap, ◌∙◌, subst, inl, inr, arith}
use Rattle.std.specs.Prelude.{IsTrue, Contains, Any}
use Rattle.std.proofs.lemmas.List.Folds.{Any-from_list_any, list_any-from_Any}
use Rattle.std.proofs.lemmas.List.Elements.{Contains-append_left, Contains-append_right, Contains-append_cases}
use Rattle.sd_rules.specs.declared.records.Element.{Element}
use Rattle.sd_rules.specs.declared.records.Rule.{Rule}
use Rattle.sd_rules.specs.declared.records.Service.{Service}
use Rattle.sd_rules.specs.Keys.{same_letters}
use Rattle.sd_rules.specs.Access.{Asker, holds_letters, shares_letters, element_matches, service_groups, rule_matches}
use Rattle.sd_hbac.specs.Grants.{Names, ElementMatches, by_category, by_name, by_group, IsServiceGroup, RuleMatches}

or_cases : (a b : Bool) → IsTrue (a || b) → IsTrue a ⊎ IsTrue b
or_cases true b h = inl refl
or_cases false b h = inr h

or_left : (a b : Bool) → IsTrue a → IsTrue (a || b)
or_left a b h = ap (λ c. c || b) h

or_right : (a b : Bool) → IsTrue b → IsTrue (a || b)
or_right true b h = refl
or_right false b h = h

and_left : (a b : Bool) → IsTrue (a && b) → IsTrue a
and_left true b h = refl
and_left false b h = h

and_right : (a b : Bool) → IsTrue (a && b) → IsTrue b
and_right true b h = h
and_right false b h = cc

and_both : (a b : Bool) → IsTrue a → IsTrue b → IsTrue (a && b)
and_both a b h k = ap (λ c. c && b) h ∙ k

names_from_test : (names : List (List ℕ)) (name : List ℕ) → IsTrue (holds_letters names name) → Names names name
names_from_test names name h = Any-from_list_any (λ n. same_letters n name) names h

test_from_names : (names : List (List ℕ)) (name : List ℕ) → Names names name → IsTrue (holds_letters names name)
test_from_names names name h = list_any-from_Any (λ n. same_letters n name) names h

module _ (element : Element) (name : List ℕ) (groups : List (List ℕ)) (IsGroup : List ℕ → Type 0) where
  by_some_group : ((g : List ℕ) → Contains groups g → IsGroup g) → Any (λ g. IsTrue (holds_letters element.groups g)) groups → ElementMatches element name IsGroup
  by_some_group known any = by_group any.1 (known any.1 (any.0, any.2, any.3)) (names_from_test element.groups any.1 any.4)

  by_name_or_group : ((g : List ℕ) → Contains groups g → IsGroup g) → IsTrue (holds_letters element.names name) ⊎ IsTrue (shares_letters groups element.groups) → ElementMatches element name IsGroup
  by_name_or_group known (inl h) = by_name (names_from_test element.names name h)
  by_name_or_group known (inr h) = by_some_group known (Any-from_list_any (λ g. holds_letters element.groups g) groups h)

  by_any : ((g : List ℕ) → Contains groups g → IsGroup g) → IsTrue element.all ⊎ IsTrue (holds_letters element.names name || shares_letters groups element.groups) → ElementMatches element name IsGroup
  by_any known (inl h) = by_category h
  by_any known (inr h) = by_name_or_group known (or_cases (holds_letters element.names name) (shares_letters groups element.groups) h)

  pub element_from_test : ((g : List ℕ) → Contains groups g → IsGroup g) → IsTrue (element_matches element name groups) → ElementMatches element name IsGroup
  element_from_test known h =
      by_any known (or_cases element.all (holds_letters element.names name || shares_letters groups element.groups) h)

  shares : (g : List ℕ) → Contains groups g → Names element.groups g → IsTrue (shares_letters groups element.groups)
  shares g there named =
      list_any-from_Any (λ n. holds_letters element.groups n) groups (there.0, g, there.1, there.2, test_from_names element.groups g named)

  pub test_from_element : ((g : List ℕ) → IsGroup g → Contains groups g) → ElementMatches element name IsGroup → IsTrue (element_matches element name groups)
  test_from_element known (by_category h) = or_left element.all (holds_letters element.names name || shares_letters groups element.groups) h
  test_from_element known (by_name h) =
      or_right element.all (holds_letters element.names name || shares_letters groups element.groups)
      (or_left (holds_letters element.names name) (shares_letters groups element.groups) (test_from_names element.names name h))
  test_from_element known (by_group g is named) =
      or_right element.all (holds_letters element.names name || shares_letters groups element.groups)
      (or_right (holds_letters element.names name) (shares_letters groups element.groups) (shares g (known g is) named))

there : (s x : Service) (services : List Service) → Contains services x → Contains (s ∷ services) x
there s x services h = Contains-append_right (s ∷ []) services x h

further : (s : Service) (services : List Service) (name g : List ℕ) → IsServiceGroup services name g → IsServiceGroup (s ∷ services) name g
further s services name g k = record {
  service = k.service;
  known = there s k.service services k.known;
  named = k.named;
  grouped = k.grouped;
}

here : (s : Service) (services : List Service) (name g : List ℕ) → IsTrue (same_letters s.name name) → Contains s.groups g → IsServiceGroup (s ∷ services) name g
here s services name g named grouped = record {
  service = s;
  known = Contains-append_left (s ∷ []) services s (0, omega arith, refl);
  named = named;
  grouped = grouped;
}

group_of_either : (s : Service) (services : List Service) (name g : List ℕ) → (Contains (service_groups services name) g → IsServiceGroup services name g) → same_letters s.name name ≡ true → Contains s.groups g ⊎ Contains (service_groups services name) g → IsServiceGroup (s ∷ services) name g
group_of_either s services name g ih e (inl h) = here s services name g e h
group_of_either s services name g ih e (inr h) = further s services name g (ih h)

group_of_first : (s : Service) (services : List Service) (name g : List ℕ) → (Contains (service_groups services name) g → IsServiceGroup services name g) → (b : Bool) → same_letters s.name name ≡ b → Contains (cond b (s.groups ++ service_groups services name) (service_groups services name)) g → IsServiceGroup (s ∷ services) name g
group_of_first s services name g ih true e h =
    group_of_either s services name g ih e (Contains-append_cases s.groups (service_groups services name) g h)
group_of_first s services name g ih false e h = further s services name g (ih h)

pub is_service_group : (services : List Service) (name g : List ℕ) → Contains (service_groups services name) g → IsServiceGroup services name g
is_service_group [] name g h = let below = h.1 in absurd (omega arith)
is_service_group (s ∷ services) name g h =
    group_of_first s services name g (is_service_group services name g) (same_letters s.name name) refl h

behind : (s : Service) (services : List Service) (name g : List ℕ) (b : Bool) → Contains (service_groups services name) g → Contains (cond b (s.groups ++ service_groups services name) (service_groups services name)) g
behind s services name g true h = Contains-append_right s.groups (service_groups services name) g h
behind s services name g false h = h

within : (s : Service) (services : List Service) (name g : List ℕ) (b : Bool) → b ≡ true → Contains s.groups g → Contains (cond b (s.groups ++ service_groups services name) (service_groups services name)) g
within s services name g true e h = Contains-append_left s.groups (service_groups services name) g h
within s services name g false e h = cc

group_at : (services : List Service) (name g : List ℕ) (k : ℕ) (service : Service) → k < length services → get_or services k service ≡ service → same_letters service.name name ≡ true → Contains service.groups g → Contains (service_groups services name) g
group_at [] name g k service below is named h = absurd (omega arith)
group_at (s ∷ services) name g zero service below is named h =
    within s services name g (same_letters s.name name)
    (ap (λ (x : Service). same_letters x.name name) is ∙ named)
    (subst (λ (x : Service). Contains x.groups g) (sym is) h)
group_at (s ∷ services) name g (suc k) service below is named h =
    behind s services name g (same_letters s.name name) (group_at services name g k service (omega arith) is named h)

pub has_service_group : (services : List Service) (name g : List ℕ) → IsServiceGroup services name g → Contains (service_groups services name) g
has_service_group services name g k =
    group_at services name g k.known.0 k.service k.known.1 k.known.2 k.named k.grouped

module _ (services : List Service) (who : Asker) (rule : Rule) where
  pub rule_from_test : IsTrue (rule_matches services who rule) → RuleMatches services who rule
  rule_from_test h =
      let users : Bool = element_matches rule.users who.user who.groups in
      let hosts : Bool = element_matches rule.hosts who.host who.host_groups in
      let served : Bool = element_matches rule.services who.service (service_groups services who.service) in
      let all = and_right rule.enabled (users && (hosts && served)) h in
      let rest = and_right users (hosts && served) all in
      record {
        enabled = and_left rule.enabled (users && (hosts && served)) h;
        user = element_from_test rule.users who.user who.groups (Contains who.groups) (λ g k. k) (and_left users (hosts && served) all);
        host = element_from_test rule.hosts who.host who.host_groups (Contains who.host_groups) (λ g k. k) (and_left hosts served rest);
        service = element_from_test rule.services who.service (service_groups services who.service) (IsServiceGroup services who.service) (is_service_group services who.service) (and_right hosts served rest);
      }

  pub test_from_rule : RuleMatches services who rule → IsTrue (rule_matches services who rule)
  test_from_rule m =
      let users : Bool = element_matches rule.users who.user who.groups in
      let hosts : Bool = element_matches rule.hosts who.host who.host_groups in
      let served : Bool = element_matches rule.services who.service (service_groups services who.service) in
      and_both rule.enabled (users && (hosts && served)) m.enabled
      (and_both users (hosts && served) (test_from_element rule.users who.user who.groups (Contains who.groups) (λ g k. k) m.user)
      (and_both hosts served (test_from_element rule.hosts who.host who.host_groups (Contains who.host_groups) (λ g k. k) m.host)
      (test_from_element rule.services who.service (service_groups services who.service) (IsServiceGroup services who.service) (has_service_group services who.service) m.service)))
