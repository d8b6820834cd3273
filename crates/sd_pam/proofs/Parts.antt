-- What follows the lookup of a part.
use Rattle.std.proofs.Common.{◌≡◌, ℕ, Bool, true, List, Option, Some, None, refl}
use Rattle.sd_rules.specs.declared.settings.AccessMode.{AccessMode}
use Rattle.sd_rules.specs.declared.settings.AccessMode.TheVariants as modes
use Rattle.sd_rules.specs.declared.scripts.Led.{Led}
use Rattle.sd_rules.specs.declared.scripts.LookupStage.TheVariants as stages
use Rattle.sd_rules.specs.AccessScript.{AccessCourse, Gathering, Checking, gather}
use Rattle.sd_pam.specs.declared.closing.Part.{Part}
use Rattle.sd_pam.specs.declared.closing.Part.TheVariants as parts
use Rattle.sd_pam.specs.declared.closing.Renewals.{Renewals}
use Rattle.sd_pam.specs.Closings.{key_of, is_free, is_free_after}
use Rattle.sd_pam.specs.Checks.{next_part, keys_after}

abbrev pub gathering_of : List ℕ → AccessMode → List Led → Option Part → AccessCourse
gathering_of user mode led (Some next) = Gathering (key_of user next) (keys_after user mode next) led stages.Ask
gathering_of user mode led None = Checking led

pub next_gathered : (user : List ℕ) (mode : AccessMode) (part : Part) (led : List Led) →
    gather (keys_after user mode part) led ≡ gathering_of user mode led (next_part mode part)
next_gathered user modes.Permit parts.User led = refl
next_gathered user modes.Deny parts.User led = refl
next_gathered user modes.Simple parts.User led = refl
next_gathered user modes.Ipa parts.User led = refl
next_gathered user modes.Permit parts.Groups led = refl
next_gathered user modes.Deny parts.Groups led = refl
next_gathered user modes.Simple parts.Groups led = refl
next_gathered user modes.Ipa parts.Groups led = refl
next_gathered user mode parts.Host led = refl
next_gathered user mode parts.Rules led = refl

abbrev pub is_free_for : Renewals → Option Part → Bool
is_free_for r (Some next) = is_free next r
is_free_for r None = true

pub next_free : (r : Renewals) (mode : AccessMode) (part : Part) → is_free_after part r ≡ true →
    is_free_for r (next_part mode part) ≡ true
next_free r modes.Permit parts.User h = refl
next_free r modes.Deny parts.User h = refl
next_free r modes.Simple parts.User h = h
next_free r modes.Ipa parts.User h = h
next_free r modes.Permit parts.Groups h = refl
next_free r modes.Deny parts.Groups h = refl
next_free r modes.Simple parts.Groups h = refl
next_free r modes.Ipa parts.Groups h = h
next_free r mode parts.Host h = h
next_free r mode parts.Rules h = refl
