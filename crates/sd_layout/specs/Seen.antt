-- A head as the code keeps it.
use Rattle.std.specs.Option.{option_copied}
use Rattle.sd_layout.specs.declared.head.Head as declared
use Rattle.sd_layout.specs.Head.{Head}
use Rattle.sd_lines.specs.Words.{pieces_in}

abbrev pub head_seen : declared.Head → Head
head_seen h = record { origin = h.origin; is_whole = h.is_whole; number = h.number; body = pieces_in 10 (option_copied h.body) }
