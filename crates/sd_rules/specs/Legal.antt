-- Legal journals: each entry made since the opening is what the rules make of the entries before it.
use Rattle.std.specs.Prelude.{◌≡◌, List, [], ◌∷◌, ◌++◌}
use Rattle.sd_rules.specs.declared.replies.Entry.{Entry}
use Rattle.sd_rules.specs.Steps.{Daemon, number_after, moment_after, reply_to}

-- An entry has the number and the reply that the entries before it give, and its moment is no earlier than theirs.
pub record IsMade (opened : Daemon) (past : List Entry) (e : Entry) : Type 0 where
  pub number : e.number ≡ number_after opened.next past
  pub moment : e.moment ≡ moment_after opened.floor past e.moment
  pub reply : e.reply ≡ reply_to opened.settings past e.number e.moment e.event

-- the entries made since a daemon was opened, the newest first, are each made over those before it
abbrev pub IsLegal : Daemon → List Entry → Type 0
IsLegal opened [] = Unit {0}
IsLegal opened (e ∷ since) = IsMade opened (since ++ opened.past) e × IsLegal opened since
