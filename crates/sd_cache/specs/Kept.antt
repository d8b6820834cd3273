-- What is kept of an answer.
use Rattle.std.specs.Prelude.{ℕ, Bool}
use Rattle.sd_rules.specs.declared.keys.Key.{Key}
use Rattle.sd_rules.specs.declared.records.Answered.{Answered}
use Rattle.sd_rules.specs.Past.{Standing}
use Rattle.sd_cache.specs.declared.kept.Newest.{Newest}

-- an answer, as a journal has it
abbrev pub standing : ℕ → ℕ → Key → Answered → Bool → Standing
standing number moment own answered marked =
    record { number = number; moment = moment; own = own; answered = answered; marked = marked }

-- an answer, as it is kept
abbrev pub kept_of : Standing → Newest
kept_of a = record { number = a.number; moment = a.moment; own = a.own; answered = a.answered; marked = a.marked }
