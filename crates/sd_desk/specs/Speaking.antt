-- What is known of a request by whoever opened it, of a journal in which its entry may be forgotten since.
use Rattle.std.specs.Prelude.{◌≡◌, ℕ, ◌<◌, true, Option, Some, None}
use Rattle.sd_rules.specs.declared.keys.Key.{Key}
use Rattle.sd_rules.specs.Past.{key_of}
use Rattle.sd_rules.specs.Steps.{Daemon}
use Rattle.sd_core.specs.Sound.{falls_from}

-- no key, or this one
abbrev pub OrNone : Key → Option Key → Type 0
OrNone k None = Unit {0}
OrNone k (Some q) = q ≡ k

-- The number was given, and its entry, where it is there, asked for this key.
pub record Speaks (number : ℕ) (key : Key) (d : Daemon) : Type 0 where
  pub numbers : falls_from d.next d.past ≡ true
  pub below : number < d.next
  pub asked : OrNone key (key_of d.past number)
