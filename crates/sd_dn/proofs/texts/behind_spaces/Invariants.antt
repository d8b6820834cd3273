use Rattle.std.proofs.Common.{◌≡◌, drop}
use Rattle.sd_dn.specs.Remaining.{remaining, AtType, AtEquals, AtValue, OnValue}
use Rattle.sd_dn.proofs.texts.behind_spaces.Given as goal

-- what is left goes on as the whole does
abbrev pub invariant-loop-place : goal.invariant-loop-place
invariant-loop-place l =
    (remaining (drop l.place l.text) AtType ≡ remaining l.text AtType)
    × (remaining (drop l.place l.text) AtEquals ≡ remaining l.text AtEquals)
    × (remaining (drop l.place l.text) AtValue ≡ remaining l.text AtValue)
    × (remaining (drop l.place l.text) (OnValue l.place) ≡ remaining l.text (OnValue 0))
