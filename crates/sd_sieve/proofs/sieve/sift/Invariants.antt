use Rattle.std.proofs.Common.{◌≡◌, ◌-◌, ◌^◌, min, reverse, take}
use Rattle.std.specs.Prelude.{vec_capacity}
use Rattle.sd_rules.specs.Needed.{forgotten_among}
use Rattle.sd_rules.specs.TextBytes.{text_bytes}
use Rattle.sd_sieve.proofs.KeptLaws.{IsSifted}
use Rattle.sd_sieve.proofs.sieve.sift.Given as goal

-- the entries before the place are sifted, the text of those handed back is counted, and the room is what it was
abbrev pub invariant-loop-place : goal.invariant-loop-place
invariant-loop-place l =
    IsSifted l.initial.entries.items l.entries.items l.kept.items l.count l.place
    × ((l.text_bytes ≡ min (text_bytes (forgotten_among (reverse l.initial.entries.items) (reverse (take l.place l.initial.entries.items)))) (2 ^ 64 - 1))
    × (vec_capacity l.kept ≡ vec_capacity l.initial.kept))
