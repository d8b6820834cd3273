use Rattle.std.proofs.Common.{◌≡◌, take}
use Rattle.sd_conf.specs.Lines.{settings_seen}
use Rattle.sd_conf.specs.Chosen as chosen
use Rattle.sd_conf.proofs.choices.newest.Given as goal

-- the last line of the option is among those that are left
abbrev pub invariant-loop-place : goal.invariant-loop-place
invariant-loop-place l = chosen.newest (settings_seen (take l.place l.entries)) l.domain l.fn.option ≡ chosen.newest (settings_seen l.entries) l.domain l.fn.option
