use Rattle.std.proofs.Common.{◌≡◌, drop}
use Rattle.sd_ldif.specs.Forms.{without_spaces}
use Rattle.sd_ldif.proofs.forms.without_spaces.Given as goal

-- only spaces were passed
abbrev pub invariant-loop-at : goal.invariant-loop-at
invariant-loop-at l = without_spaces (drop l.at l.bytes) ≡ without_spaces l.bytes
