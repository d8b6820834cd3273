use Rattle.std.proofs.Common.{◌≡◌, ◌++◌, take}
use Rattle.sd_idmap.specs.Sids as sids
use Rattle.sd_idmap.proofs.sids.push_domain.Given as goal

-- the text of the numbers so far stands at the end
abbrev pub invariant-loop-number : goal.invariant-loop-number
invariant-loop-number l = l.out.items ≡ l.fn.out.items ++ sids.text_of (take l.number-index l.domain)
