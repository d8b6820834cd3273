use Rattle.std.proofs.Common.{drop, length, ◌-◌}
use Rattle.sd_turn.proofs.turn.Turn.append.Given as goal

abbrev pub ghosts-count : goal.ghosts-count
ghosts-count g a = record { entries = drop (length (g.V.Chronicle.history a._held.now.value).entries - 1) (g.V.Chronicle.history a._held.now.value).entries }
