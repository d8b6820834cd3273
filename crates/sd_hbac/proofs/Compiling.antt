-- Compiled elements and rules match what the rules match.
use Rattle.std.proofs.Common.{◌≡◌, ℕ, zero, suc, ◌+◌, ◌<◌, length, get_or, drop, arith, Bool, true, false, cond, ◌&&◌, ◌||◌, List, [], ◌∷◌, ◌++◌, refl, sym, ap, ◌∙◌}
use Rattle.std.specs.Prelude.{Option, Some, None}
use Rattle.std.specs.List.{list_any}
use Rattle.std.proofs.lemmas.List.Folds.{list_any-append}
use Rattle.sd_rules.specs.declared.records.Element.{Element}
use Rattle.sd_rules.specs.declared.records.Rule.{Rule}
use Rattle.sd_rules.specs.declared.records.RuleBook.{RuleBook}
use Rattle.sd_rules.specs.declared.records.Service.{Service}
use Rattle.sd_rules.specs.Keys.{same_letters}
use Rattle.sd_rules.specs.Access.{Asker, Placed, holds_letters, shares_letters, element_matches, service_groups, rule_matches, least_matching, lesser_of, place_of, granting_rule}
use Rattle.sd_hbac.specs.declared.elements.Members.{Members}
use Rattle.sd_hbac.specs.declared.elements.Served.{Served}
use Rattle.sd_hbac.specs.declared.sets.Set.{Set}
use Rattle.sd_hbac.specs.Lowered.{among, shares, Lowers}
use Rattle.sd_hbac.specs.Compiled.{grouped, members_hold, served_hold, admits, placed, least_admitting, granted, IsMembersOf, IsServedOf, IsSetOf, CompilesFrom, Compiles}

shared_same : (groups lowered names : List (List ℕ)) → Lowers groups lowered → shares names lowered ≡ shares_letters names groups
shared_same groups lowered [] l = refl
shared_same groups lowered (n ∷ names) l =
    ap (λ (b : Bool). b || shares names lowered) (l.each n)
    ∙ ap (λ (b : Bool). holds_letters groups n || b) (shared_same groups lowered names l)

-- the members of an element
pub members_of : (element : Element) (m : Members) → m.all ≡ element.all → Lowers element.names m.names → Lowers element.groups m.groups → IsMembersOf element m
members_of element m all names groups = record {
  each = λ name others.
      ap (λ (b : Bool). b || (among m.names name || shares others m.groups)) all
      ∙ (ap (λ (b : Bool). element.all || (b || shares others m.groups)) (names.each name)
      ∙ ap (λ (b : Bool). element.all || (holds_letters element.names name || b)) (shared_same element.groups m.groups others groups));
}

holds_both : (names more : List (List ℕ)) (name : List ℕ) → holds_letters (names ++ more) name ≡ (holds_letters names name || holds_letters more name)
holds_both names more name = list_any-append (λ n. same_letters n name) names more

shares_both : (names more groups : List (List ℕ)) → shares_letters (names ++ more) groups ≡ (shares_letters names groups || shares_letters more groups)
shares_both names more groups = list_any-append (λ n. holds_letters groups n) names more

-- a service of a name is among those of the groups where one of the name's groups is among these
module _ (groups lowered : List (List ℕ)) (name : List ℕ) (l : Lowers groups lowered) where
  more_grouped : (s : Service) (services : List Service) (shared same : Bool) → shares_letters s.groups groups ≡ shared → same_letters s.name name ≡ same
      → holds_letters (grouped services lowered) name ≡ shares_letters (service_groups services name) groups
      → holds_letters (cond shared (s.name ∷ grouped services lowered) (grouped services lowered)) name
      ≡ shares_letters (cond same (s.groups ++ service_groups services name) (service_groups services name)) groups
  more_grouped s services true true eh em rest =
      ap (λ (b : Bool). b || holds_letters (grouped services lowered) name) em
      ∙ (ap (λ (b : Bool). b || shares_letters (service_groups services name) groups) (sym eh)
      ∙ sym (shares_both s.groups (service_groups services name) groups))
  more_grouped s services true false eh em rest =
      ap (λ (b : Bool). b || holds_letters (grouped services lowered) name) em ∙ rest
  more_grouped s services false true eh em rest =
      rest
      ∙ (ap (λ (b : Bool). b || shares_letters (service_groups services name) groups) (sym eh)
      ∙ sym (shares_both s.groups (service_groups services name) groups))
  more_grouped s services false false eh em rest = rest

  pub grouped_same : (services : List Service) → holds_letters (grouped services lowered) name ≡ shares_letters (service_groups services name) groups
  grouped_same [] = refl
  grouped_same (s ∷ services) =
      more_grouped s services (shares s.groups lowered) (same_letters s.name name) (sym (shared_same groups lowered s.groups l)) refl (grouped_same services)

-- the services of an element
pub served_of : (services : List Service) (element : Element) (groups names : List (List ℕ)) (s : Served) → s.all ≡ element.all → Lowers element.groups groups
    → names ≡ element.names ++ grouped services groups → Lowers names s.names → IsServedOf services element s
served_of services element groups names s all lowers is named = record {
  each = λ name.
      ap (λ (b : Bool). b || among s.names name) all
      ∙ ap (λ (b : Bool). element.all || b)
      (named.each name
      ∙ (ap (λ (ns : List (List ℕ)). holds_letters ns name) is
      ∙ (holds_both element.names (grouped services groups) name
      ∙ ap (λ (b : Bool). holds_letters element.names name || b) (grouped_same element.groups groups name lowers services))));
}

turned : (s h u : Bool) → (s && (h && u)) ≡ (u && (h && s))
turned true true true = refl
turned true true false = refl
turned true false true = refl
turned true false false = refl
turned false true true = refl
turned false true false = refl
turned false false true = refl
turned false false false = refl

-- a compiled rule
pub set_of : (services : List Service) (place : ℕ) (rule : Rule) (set : Set) → set.place ≡ place → set.name ≡ rule.name → IsMembersOf rule.users set.users
    → IsMembersOf rule.hosts set.hosts → IsServedOf services rule.services set.services → IsSetOf services place rule set
set_of services place rule set at named users hosts served = record {
  placed = at;
  named = named;
  each = λ enabled who.
      let u : Bool = element_matches rule.users who.user who.groups in
      let h : Bool = element_matches rule.hosts who.host who.host_groups in
      let s : Bool = element_matches rule.services who.service (service_groups services who.service) in
      ap (λ (b : Bool). b && (members_hold set.hosts who.host who.host_groups && members_hold set.users who.user who.groups)) (served.each who.service)
      ∙ (ap (λ (b : Bool). s && (b && members_hold set.users who.user who.groups)) (hosts.each who.host who.host_groups)
      ∙ (ap (λ (b : Bool). s && (h && b)) (users.each who.user who.groups)
      ∙ (turned s h u ∙ ap (λ (b : Bool). b && (u && (h && s))) (sym enabled))));
}

-- one more enabled rule
pub compiles_more : (services : List Service) (place : ℕ) (rule : Rule) (rules : List Rule) (set : Set) (sets : List Set) → rule.enabled ≡ true
    → IsSetOf services place rule set → CompilesFrom services (place + 1) rules sets → CompilesFrom services place (rule ∷ rules) (set ∷ sets)
compiles_more services place rule rules set sets enabled is rest = record {
  each = λ who.
      let before : Option Placed = least_admitting sets who in
      ap (λ (o : Option Placed). cond (admits set who) (Some (lesser_of (placed set) o)) o) (rest.each who)
      ∙ (ap (λ (b : Bool). cond b (Some (lesser_of (placed set) (least_matching services who (place + 1) rules))) (least_matching services who (place + 1) rules)) (is.each enabled who)
      ∙ (ap (λ (n : ℕ). cond (rule_matches services who rule) (Some (lesser_of (record { place = n; name = set.name }) (least_matching services who (place + 1) rules))) (least_matching services who (place + 1) rules)) is.placed
      ∙ ap (λ (n : List ℕ). cond (rule_matches services who rule) (Some (lesser_of (record { place = place; name = n }) (least_matching services who (place + 1) rules))) (least_matching services who (place + 1) rules)) is.named));
}

-- all rules, from the first on
pub compiles_all : (book : RuleBook) (sets : List Set) → CompilesFrom book.services 0 book.rules sets → Compiles book sets
compiles_all book sets all = record { each = λ who. ap place_of (all.each who) }

-- the rule at a place, before those behind it
pub fronted : (rules : List Rule) (i j : ℕ) (rule : Rule) → j ≡ i + 1 → i < length rules → rule ≡ get_or rules i rule → rule ∷ drop j rules ≡ drop i rules
fronted [] i j rule e below is = absurd (omega arith)
fronted (r ∷ rules) zero j rule e below is =
    ap (λ (n : ℕ). rule ∷ drop n (r ∷ rules)) e ∙ ap (λ (x : Rule). x ∷ rules) is
fronted (r ∷ rules) (suc i) zero rule e below is = absurd (omega arith)
fronted (r ∷ rules) (suc i) (suc j) rule e below is = fronted rules i j rule (omega arith) (omega arith) is
