-- An answer as it stands, from what is kept of it.
use Rattle.sd_rules.specs.Past.{Standing}
use Rattle.sd_cache.specs.declared.kept.Newest.{Newest}

abbrev pub standing_of : Newest → Standing
standing_of kept =
    record { number = kept.number; moment = kept.moment; own = kept.own; answered = kept.answered; marked = kept.marked }
