-- The rule that is found by going over the rules is the one that grants.
use Rattle.std.proofs.Common.{◌≡◌, ◌≢◌, ◌<◌, ◌+◌, ℕ, zero, suc, Bool, true, false, cond, List, [], ◌∷◌, Option, Some, None, refl, ◌∙◌, subst, arith}
use Rattle.std.specs.Prelude.{slice_get, IfSome, IfNone}
use Rattle.sd_rules.specs.declared.records.Rule.{Rule}
use Rattle.sd_rules.specs.declared.records.RuleBook.{RuleBook}
use Rattle.sd_rules.specs.declared.records.Service.{Service}
use Rattle.sd_rules.specs.Access.{Asker, Placed, comes_before, lesser_of, rule_matches, least_matching, place_of, granting_rule}
use Rattle.sd_hbac.specs.Grants.{NoneMatches, Grants}
use Rattle.sd_hbac.proofs.Matching.{rule_from_test, test_from_rule}
use Rattle.sd_hbac.proofs.Order.{not_before_itself, not_before_back, not_before_onward}

-- no rule matches
record NoneOf (services : List Service) (who : Asker) (rules : List Rule) : Type 0 where
  pub none : (j : ℕ) (r : Rule) → slice_get rules j ≡ Some r → rule_matches services who r ≡ false

-- the least of the rules that match, which are counted from p
record LeastOf (services : List Service) (who : Asker) (p : ℕ) (rules : List Rule) (b : Placed) : Type 0 where
  pub index : ℕ
  pub rule : Rule
  pub place : b.place ≡ p + index
  pub there : slice_get rules index ≡ Some rule
  pub named : rule.name ≡ b.name
  pub matches : rule_matches services who rule ≡ true
  pub least : (j : ℕ) (r : Rule) → slice_get rules j ≡ Some r → rule_matches services who r ≡ true → comes_before r.name b.name ≡ false
  pub first : (j : ℕ) (r : Rule) → j < index → slice_get rules j ≡ Some r → rule_matches services who r ≡ true → r.name ≢ b.name

abbrev Found : List Service → Asker → ℕ → List Rule → Option Placed → Type 0
Found services who p rules None = NoneOf services who rules
Found services who p rules (Some b) = LeastOf services who p rules b

module _ (services : List Service) (who : Asker) (p : ℕ) (rule : Rule) (rules : List Rule) where
  none_but : rule_matches services who rule ≡ false → NoneOf services who rules → (j : ℕ) (r : Rule) → slice_get (rule ∷ rules) j ≡ Some r → rule_matches services who r ≡ false
  none_but e f zero r is = let same : rule ≡ r = cc in subst (λ (x : Rule). rule_matches services who x ≡ false) same e
  none_but e f (suc j) r is = f.none j r is

  abbrev mine : Placed
  mine = record { place = p; name = rule.name }

  -- what holds of the first and of the others holds of all
  module _ (P : ℕ → Rule → Type 0) where
    at_each : P zero rule → ((j : ℕ) (r : Rule) → slice_get rules j ≡ Some r → P (suc j) r) → (j : ℕ) (r : Rule) → slice_get (rule ∷ rules) j ≡ Some r → P j r
    at_each first others zero r is = let same : rule ≡ r = cc in subst (λ (x : Rule). P zero x) same first
    at_each first others (suc j) r is = others j r is

  -- the first rule does not match: the least of the others
  of_others : (b : Placed) → rule_matches services who rule ≡ false → LeastOf services who (p + 1) rules b → LeastOf services who p (rule ∷ rules) b
  of_others b e f = record {
    index = suc f.index;
    rule = f.rule;
    place = let at = f.place in omega arith;
    there = f.there;
    named = f.named;
    matches = f.matches;
    least =
        at_each (λ j r. rule_matches services who r ≡ true → comes_before r.name b.name ≡ false) (λ h. cc)
        (λ j r is h. f.least j r is h);
    first = λ j r below is.
        at_each (λ i x. i < suc f.index → rule_matches services who x ≡ true → x.name ≢ b.name) (λ h k same. cc)
        (λ i x at under h. f.first i x (omega arith) at h) j r is below;
  }

  -- the first rule matches, and no other has a lesser name
  of_first : rule_matches services who rule ≡ true → ((j : ℕ) (r : Rule) → slice_get rules j ≡ Some r → rule_matches services who r ≡ true → comes_before r.name rule.name ≡ false) → LeastOf services who p (rule ∷ rules) mine
  of_first e f = record {
    index = 0;
    rule = rule;
    place = omega arith;
    there = refl;
    named = refl;
    matches = e;
    least =
        at_each (λ j r. rule_matches services who r ≡ true → comes_before r.name rule.name ≡ false) (λ h. not_before_itself rule.name) f;
    first = λ j r below is h same. absurd (omega arith);
  }

  -- the first rule matches, and the least of the others has a lesser name
  of_lesser : (b : Placed) → comes_before b.name rule.name ≡ true → LeastOf services who (p + 1) rules b → LeastOf services who p (rule ∷ rules) b
  of_lesser b e f = record {
    index = suc f.index;
    rule = f.rule;
    place = let at = f.place in omega arith;
    there = f.there;
    named = f.named;
    matches = f.matches;
    least =
        at_each (λ j r. rule_matches services who r ≡ true → comes_before r.name b.name ≡ false) (λ h. not_before_back b.name rule.name e)
        (λ j r is h. f.least j r is h);
    first = λ j r below is.
        at_each (λ i x. i < suc f.index → rule_matches services who x ≡ true → x.name ≢ b.name)
        (λ under h same. let not_less : comes_before b.name rule.name ≡ false = subst (λ (n : List ℕ). comes_before n rule.name ≡ false) same (not_before_itself rule.name) in cc)
        (λ i x at under h. f.first i x (omega arith) at h) j r is below;
  }

  of_both : (b : Placed) (c : Bool) → comes_before b.name rule.name ≡ c → rule_matches services who rule ≡ true → LeastOf services who (p + 1) rules b → LeastOf services who p (rule ∷ rules) (cond c b mine)
  of_both b true e m f = of_lesser b e f
  of_both b false e m f =
      of_first m (λ j r is h. not_before_onward r.name b.name rule.name (f.least j r is h) e)

  of_all : (c : Bool) (o : Option Placed) → rule_matches services who rule ≡ c → Found services who (p + 1) rules o → Found services who p (rule ∷ rules) (cond c (Some (lesser_of mine o)) o)
  of_all false None e f = record { none = none_but e f }
  of_all false (Some b) e f = of_others b e f
  of_all true None e f = of_first e (λ j r is h. let no = f.none j r is in cc)
  of_all true (Some b) e f = of_both b (comes_before b.name rule.name) refl e f

found : (services : List Service) (who : Asker) (p : ℕ) (rules : List Rule) → Found services who p rules (least_matching services who p rules)
found services who p [] = record { none = λ j r is. cc }
found services who p (rule ∷ rules) =
    of_all services who p rule rules (rule_matches services who rule) (least_matching services who (p + 1) rules) refl (found services who (p + 1) rules)

module _ (book : RuleBook) (who : Asker) where
  grants_at : (b : Placed) → LeastOf book.services who 0 book.rules b → (place : ℕ) → place ≡ b.place → Grants book who place
  grants_at b f place e =
      let at = f.place in
      let same : f.index ≡ place = omega arith in
      record {
        rule = f.rule;
        there = subst (λ (n : ℕ). slice_get book.rules n ≡ Some f.rule) same f.there;
        matches = rule_from_test book.services who f.rule f.matches;
        least = λ other r is m k.
            let not_less : comes_before r.name b.name ≡ false = f.least other r is (test_from_rule book.services who r m) in
            let less : comes_before r.name b.name ≡ true = subst (λ (n : List ℕ). comes_before r.name n ≡ true) f.named k in
            cc;
        first = λ earlier r below is m e. f.first earlier r (omega arith) is (test_from_rule book.services who r m) (e ∙ f.named);
      }

  some_grants : (o : Option Placed) → Found book.services who 0 book.rules o → IfSome (place_of o) (Grants book who)
  some_grants None f = tt
  some_grants (Some b) f = grants_at b f b.place refl

  none_grants : (o : Option Placed) → Found book.services who 0 book.rules o → IfNone (place_of o) (NoneMatches book who)
  none_grants None f =
      λ place rule is m. let no = f.none place rule is in let yes = test_from_rule book.services who rule m in cc
  none_grants (Some b) f = tt

  -- where a rule is found, it grants
  pub granting_grants : IfSome (granting_rule book who) (Grants book who)
  granting_grants =
      some_grants (least_matching book.services who 0 book.rules) (found book.services who 0 book.rules)

  -- where none is found, none matches
  pub none_matches : IfNone (granting_rule book who) (NoneMatches book who)
  none_matches =
      none_grants (least_matching book.services who 0 book.rules) (found book.services who 0 book.rules)
