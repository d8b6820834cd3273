-- The line of a journal's entry.
use Rattle.std.specs.Prelude.{ℕ, ◌++◌, codes, List}
use Rattle.std.specs.Fmt.{decimal}
use Rattle.sd_rules.specs.declared.replies.Entry.{Entry}
use Rattle.sd_wire.specs.EventTexts.{event_text}
use Rattle.sd_wire.specs.ReplyTexts.{reply_text}

-- number and moment, each with a space behind it
abbrev pub stamp : Entry → List ℕ
stamp entry = decimal entry.number ++ (codes " " ++ (decimal entry.moment ++ codes " "))

-- number, moment, event and reply, parted by spaces
abbrev pub entry_line : Entry → List ℕ
entry_line entry = stamp entry ++ (event_text entry.event ++ (codes " " ++ reply_text entry.reply))
