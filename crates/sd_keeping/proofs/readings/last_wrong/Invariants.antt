use Rattle.std.proofs.Common.{◌≡◌, ◌==◌, reverse, take}
use Rattle.std.specs.Prelude.{not}
use Rattle.sd_rules.specs.declared.replies.Entry.{Entry}
use Rattle.sd_rules.specs.Logins as logins
use Rattle.sd_rules.specs.Needed as needed
use Rattle.sd_keeping.proofs.readings.last_wrong.Given as goal

-- what the entries before the place say is what all say
abbrev pub invariant-loop-place : goal.invariant-loop-place
invariant-loop-place l =
    needed.last_where (λ (x : Entry). not (logins.wrongs l.user x.event x.reply == 0)) (reverse (take l.place l.entries))
    ≡ needed.last_where (λ (x : Entry). not (logins.wrongs l.user x.event x.reply == 0)) (reverse l.entries)
