-- A rule that an account check names grants, and where none is named none matches.
use Rattle.std.proofs.Common.{◌≡◌, ℕ, Bool, true, false, List, refl, ap, ◌∙◌, subst, sym}
use Rattle.std.specs.Prelude.{Option, Some, None, IfSome, IfNone}
use Rattle.sd_rules.specs.declared.keys.Key.TheVariants as keys
use Rattle.sd_rules.specs.declared.records.Answered.{Answered}
use Rattle.sd_rules.specs.declared.records.Answered.TheVariants.{Found, Absent}
use Rattle.sd_rules.specs.declared.records.Record.TheVariants as records
use Rattle.sd_rules.specs.declared.records.RuleBook.{RuleBook}
use Rattle.sd_rules.specs.declared.events.Event.{Event}
use Rattle.sd_rules.specs.declared.events.Event.TheVariants as events
use Rattle.sd_rules.specs.declared.replies.Entry.{Entry}
use Rattle.sd_rules.specs.declared.settings.AccessMode.{AccessMode}
use Rattle.sd_rules.specs.declared.settings.AccessMode.TheVariants.{Permit, Deny, Simple, Ipa}
use Rattle.sd_rules.specs.declared.settings.Settings.{Settings}
use Rattle.sd_rules.specs.Past.{Standing, newest}
use Rattle.sd_rules.specs.Access.{Asker, asker_of, granting_rule, simple_allows, user_groups, reply_by_rule, reply_by_book, reply_by_rules, reply_by_lists, access_by}
use Rattle.sd_rules.specs.Steps.{reply_to}
use Rattle.sd_hbac.specs.Grants.{Grants, NoneMatches}
use Rattle.sd_hbac.proofs.Least.{granting_grants, none_matches}
use Rattle.sd_core.specs.Laws.{IsDeniedByRules, AccessNames, GoesByRules}

same_book : (a b : RuleBook) → Found (records.Rules a) ≡ Found (records.Rules b) → a ≡ b
same_book a b e = cc

same_standing : (a b : Standing) → Some a ≡ Some b → a ≡ b
same_standing a b e = cc

module _ (s : Settings) (past : List Entry) (user service : List ℕ) (mode : s.access ≡ Ipa) where
  abbrev who : Asker
  who = asker_of s past user service

  -- where the newest answer holds no book, no rule of one matches
  no_book : (x : Answered) → ((book : RuleBook) → x ≡ Found (records.Rules book) → ⊥) → (a : Standing) → newest past keys.Rules ≡ Some a → a.answered ≡ x → IsDeniedByRules s past user service
  no_book x none a is holds = record {
    by_rules = mode;
    none = λ b book n h. absurd (none book (sym holds ∙ ap (λ (c : Standing). c.answered) (same_standing a b (sym is ∙ n)) ∙ h));
  }

  by_rule : (book : RuleBook) (a : Standing) → newest past keys.Rules ≡ Some a → a.answered ≡ Found (records.Rules book) → (r : Option ℕ) →
      IfSome r (Grants book who) → IfNone r (NoneMatches book who) → AccessNames s past user service (reply_by_rule a.number r)
  by_rule book a is holds None f g = record {
    by_rules = mode;
    none = λ b other n h.
        subst (λ (c : RuleBook). NoneMatches c who) (same_book book other (sym holds ∙ ap (λ (c : Standing). c.answered) (same_standing a b (sym is ∙ n)) ∙ h)) g;
  }
  by_rule book a is holds (Some place) f g = record {
    by_rules = mode;
    answer = a;
    book = book;
    is_newest = is;
    named = refl;
    holds = holds;
    grants = f;
  }

  by_book : (x : Answered) (a : Standing) → newest past keys.Rules ≡ Some a → a.answered ≡ x → AccessNames s past user service (reply_by_book who a.number x)
  by_book Absent a is holds = no_book Absent (λ book e. cc) a is holds
  by_book (Found (records.Rules book)) a is holds =
      by_rule book a is holds (granting_rule book who) (granting_grants book who) (none_matches book who)
  by_book (Found (records.User x)) a is holds = no_book (Found (records.User x)) (λ book e. cc) a is holds
  by_book (Found (records.Group x)) a is holds = no_book (Found (records.Group x)) (λ book e. cc) a is holds
  by_book (Found (records.Groups x)) a is holds = no_book (Found (records.Groups x)) (λ book e. cc) a is holds
  by_book (Found (records.Host x)) a is holds = no_book (Found (records.Host x)) (λ book e. cc) a is holds

  by_newest : (x : Option Standing) → newest past keys.Rules ≡ x → AccessNames s past user service (reply_by_rules who x)
  by_newest None is = record { by_rules = mode; none = λ b book n h. absurd (none_is_not b (sym is ∙ n)) }
    where
      none_is_not : (b : Standing) → None ≡ Some b → ⊥
      none_is_not b e = cc
  by_newest (Some a) is = by_book a.answered a is refl

lists_law : (s : Settings) (past : List Entry) (user service : List ℕ) (b : Bool) → AccessNames s past user service (reply_by_lists b)
lists_law s past user service true = tt
lists_law s past user service false = tt

access_law : (s : Settings) (past : List Entry) (user service : List ℕ) (m : AccessMode) → s.access ≡ m → AccessNames s past user service (access_by m s past user service)
access_law s past user service Permit h = tt
access_law s past user service Deny h = tt
access_law s past user service Simple h = lists_law s past user service (simple_allows s.simple user (user_groups past user))
access_law s past user service Ipa h = by_newest s past user service h (newest past keys.Rules) refl

pub goes_by_rules : (s : Settings) (past : List Entry) (number t : ℕ) (event : Event) → GoesByRules s past event (reply_to s past number t event)
goes_by_rules s past number t (events.Access user service) = access_law s past user service s.access refl
goes_by_rules s past number t _ = tt
