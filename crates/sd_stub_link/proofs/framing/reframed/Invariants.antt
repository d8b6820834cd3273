use Rattle.std.proofs.Common.{◌≡◌, ◌≤◌, List, length}
use Rattle.std.specs.List.{flat_map}
use Rattle.sd_ldap.specs.Values.{MessageValue}
use Rattle.sd_ldap.specs.Spelling.{message_bytes}
use Rattle.sd_stub_link.proofs.Frames.{Left}
use Rattle.sd_stub_link.proofs.framing.reframed.Given as goal

-- of all messages some are framed, and the others are still left
abbrev pub invariant-loop-contents : goal.invariant-loop-contents
invariant-loop-contents l =
    ((all : List MessageValue) → l.fn.bytes ≡ flat_map message_bytes all → Left l.outer all l.out.items l.reader.rest)
    × (length l.reader.rest ≤ length l.fn.bytes)

abbrev pub decreases-loop-contents : goal.decreases-loop-contents
decreases-loop-contents l = length l.reader.rest
