-- Compiled rules say what the newest answer says, after each entry and after a forget.
use Rattle.std.proofs.Common.{◌≡◌, ℕ, ◌*◌, ◌<◌, ◌≤◌, ◌^◌, true, List, ◌∷◌, length, arith, refl, sym, ap, subst, ◌∙◌}
use Rattle.std.specs.Prelude.{Option, Some, None}
use Rattle.sd_rules.specs.declared.keys.Key.TheVariants as keys
use Rattle.sd_rules.specs.declared.records.Answered.{Answered}
use Rattle.sd_rules.specs.declared.records.Answered.TheVariants.{Found, Absent}
use Rattle.sd_rules.specs.declared.records.Record.TheVariants as records
use Rattle.sd_rules.specs.declared.records.RuleBook.{RuleBook}
use Rattle.sd_rules.specs.declared.events.Event.{Event}
use Rattle.sd_rules.specs.declared.events.Event.TheVariants as events
use Rattle.sd_rules.specs.declared.replies.Entry.{Entry}
use Rattle.sd_rules.specs.Access.{Asker, granting_rule, reply_by_rule, reply_by_book}
use Rattle.sd_rules.specs.Needed.{needed}
use Rattle.sd_rules.specs.Past.{Standing, answer_by, answer_in, spoken, newest, or_else}
use Rattle.sd_rules.specs.TextBytes.{bytes_of_answered, text_bytes}
use Rattle.sd_hbac.specs.Compiled.{granted}
use Rattle.sd_forgetting.specs.Orderly.{IsOrderly}
use Rattle.sd_forgetting.proofs.Forgets.{needed_kept}
use Rattle.sd_past.specs.Closing.{closes_place}
use Rattle.sd_books.specs.Bounds.{bytes_of_standing}
use Rattle.sd_books.specs.declared.rulings.Numbered.{Numbered}
use Rattle.sd_books.specs.Ruled.{book_in, IsCompiledOf, SaysRules, SaysAfter, chosen}
use Rattle.sd_books.proofs.Sizes.{rules_within_bytes, spoken_within, answer_within, newest_within}

-- the reply by a book, where one was answered
abbrev reply_by : Asker → ℕ → Option RuleBook → Option ℕ
reply_by who n None = None
reply_by who n (Some book) = granting_rule book who

by_book_in : (who : Asker) (n : ℕ) (answered : Answered) → reply_by_rule n (reply_by who n (book_in answered)) ≡ reply_by_book who n answered
by_book_in who n Absent = refl
by_book_in who n (Found (records.Rules book)) = refl
by_book_in who n (Found (records.User x)) = refl
by_book_in who n (Found (records.Group x)) = refl
by_book_in who n (Found (records.Groups x)) = refl
by_book_in who n (Found (records.Host x)) = refl

pub says_none : SaysRules None None
says_none = record { each = λ who. refl }

pub says_no_book : (a : Standing) → book_in a.answered ≡ None → SaysRules None (Some a)
says_no_book a is = record {
  each = λ who.
      ap (λ (b : Option RuleBook). reply_by_rule a.number (reply_by who a.number b)) (sym is) ∙ by_book_in who a.number a.answered;
}

pub says_compiled : (a : Standing) (book : RuleBook) (rules : Numbered) → book_in a.answered ≡ Some book → IsCompiledOf a.number book rules → SaysRules (Some rules) (Some a)
says_compiled a book rules is made = record {
  each = λ who.
      ap (λ (n : ℕ). reply_by_rule n (granted rules.sets who)) made.numbered
      ∙ (ap (λ (r : Option ℕ). reply_by_rule a.number r) (made.compiled.each who)
      ∙ (ap (λ (b : Option RuleBook). reply_by_rule a.number (reply_by who a.number b)) (sym is) ∙ by_book_in who a.number a.answered));
}

-- a book that was answered has fewer rules than bytes
pub rules_below : (answered : Answered) (book : RuleBook) → book_in answered ≡ Some book → bytes_of_answered answered < 2 ^ 32 → length book.rules < 2 ^ 32
rules_below Absent book is h = cc
rules_below (Found (records.Rules b)) book is h =
    let same : b ≡ book = cc in
    let few = rules_within_bytes b.rules in
    subst (λ (x : RuleBook). length x.rules < 2 ^ 32) same (omega arith)
rules_below (Found (records.User x)) book is h = cc
rules_below (Found (records.Group x)) book is h = cc
rules_below (Found (records.Groups x)) book is h = cc
rules_below (Found (records.Host x)) book is h = cc

-- the answer of a new entry is no longer than the journal with it
pub told_below : (past : List Entry) (e : Entry) → text_bytes (e ∷ past) < 2 ^ 32 → bytes_of_standing (spoken keys.Rules (answer_in past e)) < 2 ^ 32
told_below past e h =
    let own = spoken_within keys.Rules (answer_in past e) in
    let held = answer_within past e e.event in
    omega (arith, own, held, h)

-- so is the newest answer of a journal that is opened
pub opened_below : (past list : List Entry) (o : Option Standing) → o ≡ newest past keys.Rules → past ≡ list → text_bytes list ≤ 512 * 1024 * 1024 → bytes_of_standing o < 2 ^ 32
opened_below past list o is same fits =
    let within = newest_within list keys.Rules in
    let at : o ≡ newest list keys.Rules = is ∙ ap (λ (es : List Entry). newest es keys.Rules) same in
    subst (λ (x : Option Standing). bytes_of_standing x < 2 ^ 32) (sym at) (omega (arith, within, fits))

-- after an entry that answers the question for the rules, and after any other
pub says_after : {R : Type 0} (Says : R → Option Standing → Type 0) (past : List Entry) (e : Entry) (a : Standing) (made : R) → spoken keys.Rules (answer_in past e) ≡ Some a
    → Says made (Some a) → SaysAfter Says past e (Some made)
says_after Says past e a made is says =
    subst (λ (o : Option Standing). Says made (or_else o (newest past keys.Rules))) (sym is) says

pub says_still : {R : Type 0} (Says : R → Option Standing → Type 0) (past : List Entry) (e : Entry) → spoken keys.Rules (answer_in past e) ≡ None → SaysAfter Says past e None
says_still Says past e is = ap (λ (o : Option Standing). or_else o (newest past keys.Rules)) is

-- what closes an open number or lets a ticket go answers nothing
no_answer : (past : List Entry) (e : Entry) (event : Event) → e.event ≡ event → closes_place past event ≡ true → spoken keys.Rules (answer_in past e) ≡ None
no_answer past e (events.Abandon n) is h = ap (λ (x : Event). spoken keys.Rules (answer_by past e x)) is
no_answer past e (events.Leave t) is h = ap (λ (x : Event). spoken keys.Rules (answer_by past e x)) is
no_answer past e _ is h = cc

pub closing_tells_none : (past : List Entry) (e : Entry) → closes_place past e.event ≡ true → spoken keys.Rules (answer_in past e) ≡ None
closing_tells_none past e h = no_answer past e e.event refl h

-- what is kept after an entry was put behind the others
pub says_then : {R : Type 0} (Says : R → Option Standing → Type 0) (past new : List Entry) (e : Entry) (made : Option R) (before after : R) → SaysAfter Says past e made
    → Says before (newest past keys.Rules) → after ≡ chosen made before → new ≡ e ∷ past → Says after (newest new keys.Rules)
says_then Says past new e None before after same says is grown =
    subst (λ (es : List Entry). Says after (newest es keys.Rules)) (sym grown)
    (subst (λ (o : Option Standing). Says after o) (sym same) (subst (λ (r : _). Says r (newest past keys.Rules)) (sym is) says))
says_then Says past new e (Some made) before after told says is grown =
    subst (λ (es : List Entry). Says after (newest es keys.Rules)) (sym grown)
    (subst (λ (r : _). Says r (newest (e ∷ past) keys.Rules)) (sym is) told)

-- a forget keeps the newest answer
pub says_forgotten : {R : Type 0} (Says : R → Option Standing → Type 0) (next : ℕ) (past new : List Entry) (rules : R) → IsOrderly next past → new ≡ needed past
    → Says rules (newest past keys.Rules) → Says rules (newest new keys.Rules)
says_forgotten Says next past new rules orderly is says =
    let kept = needed_kept next past orderly in
    subst (λ (es : List Entry). Says rules (newest es keys.Rules)) (sym is)
    (subst (λ (o : Option Standing). Says rules o) (kept.answers.is_newest keys.Rules) says)
