-- A login as the code has it, in the words of the definitions.
use Rattle.sd_rules.specs.Logins as logins
use Rattle.sd_rules.specs.declared.limits.Login.{Login}

abbrev pub login : Login → logins.Login
login l = record { number = l.number; moment = l.moment; hashed = l.hashed }
