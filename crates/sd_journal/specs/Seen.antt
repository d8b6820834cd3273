-- What the code's references show, in the words of the definitions.
use Rattle.sd_rules.specs.Past as past
use Rattle.sd_journal.specs.declared.past.Standing.{Standing}

abbrev pub standing : Standing → past.Standing
standing a = record { number = a.number; moment = a.moment; own = a.own.now; answered = a.answered.now; marked = a.marked }
