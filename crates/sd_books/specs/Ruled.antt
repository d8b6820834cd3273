-- The rules of the newest answer, compiled, and what they say of account checks.
use Rattle.std.specs.Prelude.{◌≡◌, ℕ, List, ◌∷◌, Option, Some, None}
use Rattle.sd_rules.specs.declared.keys.Key.TheVariants as keys
use Rattle.sd_rules.specs.declared.records.Answered.{Answered}
use Rattle.sd_rules.specs.declared.records.Answered.TheVariants.{Found}
use Rattle.sd_rules.specs.declared.records.Record.TheVariants as records
use Rattle.sd_rules.specs.declared.records.RuleBook.{RuleBook}
use Rattle.sd_rules.specs.declared.replies.Entry.{Entry}
use Rattle.sd_rules.specs.declared.replies.NotBy.TheVariants as not_by
use Rattle.sd_rules.specs.declared.replies.Reply.{Reply}
use Rattle.sd_rules.specs.declared.replies.Reply.TheVariants.{Denied}
use Rattle.sd_rules.specs.Access.{Asker, reply_by_rule, reply_by_rules}
use Rattle.sd_rules.specs.Past.{Standing, newest}
use Rattle.sd_hbac.specs.Compiled.{granted, Compiles}
use Rattle.sd_books.specs.declared.rulings.Numbered.{Numbered}

-- the rules that were answered
abbrev pub book_in : Answered → Option RuleBook
book_in (Found (records.Rules book)) = Some book
book_in _ = None

-- the compiled rules of a book, with the number of the answer that holds it
pub record IsCompiledOf (number : ℕ) (book : RuleBook) (rules : Numbered) : Type 0 where
  pub numbered : rules.number ≡ number
  pub compiled : Compiles book rules.sets

-- the reply to an account check by compiled rules
abbrev pub reply_by_compiled : Option Numbered → Asker → Reply
reply_by_compiled None who = Denied not_by.NoRule
reply_by_compiled (Some rules) who = reply_by_rule rules.number (granted rules.sets who)

-- compiled rules say of each check what an answer says, or what is said where there is none
pub record SaysRules (rules : Option Numbered) (answer : Option Standing) : Type 0 where
  pub each : (who : Asker) → reply_by_compiled rules who ≡ reply_by_rules who answer

-- what was made for an entry says what the newest answer says after it; nothing was made where that answer is still the newest
abbrev pub SaysAfter : {R : Type 0} → (R → Option Standing → Type 0) → List Entry → Entry → Option R → Type 0
SaysAfter Says past e None = newest (e ∷ past) keys.Rules ≡ newest past keys.Rules
SaysAfter Says past e (Some made) = Says made (newest (e ∷ past) keys.Rules)

-- what was made, and else what is kept
abbrev pub chosen : {X : Type 0} → Option X → X → X
chosen None kept = kept
chosen (Some made) kept = made
