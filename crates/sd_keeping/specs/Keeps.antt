-- The row that is kept of an entry which holds no answer that is kept. All are the entries of the journal and past are those
-- before the entry, the newest first.
use Rattle.std.specs.Prelude.{List, Option}
use Rattle.sd_rules.specs.declared.events.Row.{Row}
use Rattle.sd_rules.specs.declared.replies.Entry.{Entry}
use Rattle.sd_rules.specs.KeptRows.{fall_row, login_row, or_row, wrong_row}
use Rattle.sd_rules.specs.Needed.{user_guessed, user_logged_in}

abbrev pub wrong_or_fall_row : List Entry → Entry → Option Row
wrong_or_fall_row all e = or_row (wrong_row all e (user_guessed e.event)) (fall_row all e e.event)

abbrev pub row_beside_answers : List Entry → List Entry → Entry → Option Row
row_beside_answers all past e =
    or_row (login_row all e (user_logged_in past e.event e.reply)) (wrong_or_fall_row all e)
