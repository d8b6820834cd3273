-- How a login or an account check closes, as its code has it, seen as the script's own.
use Rattle.std.specs.Prelude.{ℕ, Bool, true, false, ◌&&◌, List, [], ◌∷◌, Option, Some, None}
use Rattle.sd_rules.specs.declared.keys.Key.{Key}
use Rattle.sd_rules.specs.declared.keys.Key.TheVariants as keys
use Rattle.sd_rules.specs.declared.scripts.Led.{Led}
use Rattle.sd_rules.specs.Closings as scripts
use Rattle.sd_pam.specs.declared.closing.Closing.{Closing}
use Rattle.sd_pam.specs.declared.closing.Closing.TheVariants as closings
use Rattle.sd_pam.specs.declared.closing.Part.{Part}
use Rattle.sd_pam.specs.declared.closing.Part.TheVariants as parts
use Rattle.sd_pam.specs.declared.closing.Renewals.{Renewals}

-- the key of a part of an account check of this user
abbrev pub key_of : List ℕ → Part → Key
key_of user parts.User = keys.User user
key_of user parts.Groups = keys.GroupsOf user
key_of user parts.Host = keys.Host
key_of user parts.Rules = keys.Rules

-- the requests that are led, in the order of the parts
abbrev pub led_for : Key → Option ℕ → List Led → List Led
led_for key (Some request) led = record { request = request; key = key } ∷ led
led_for key None led = led

abbrev pub led : List ℕ → Renewals → List Led
led user r = led_for (keys.User user) r.user (led_for (keys.GroupsOf user) r.groups (led_for keys.Host r.host (led_for keys.Rules r.rules [])))

-- no request is led by this part or a later one
abbrev pub is_none : Option ℕ → Bool
is_none (Some request) = false
is_none None = true

abbrev pub is_free : Part → Renewals → Bool
is_free parts.User r = is_none r.user && (is_none r.groups && (is_none r.host && is_none r.rules))
is_free parts.Groups r = is_none r.groups && (is_none r.host && is_none r.rules)
is_free parts.Host r = is_none r.host && is_none r.rules
is_free parts.Rules r = is_none r.rules

-- a closing
abbrev pub seen : List ℕ → Closing → scripts.Closing
seen user (closings.Saying said renewals) = scripts.Saying said (led user renewals)
seen user (closings.Renewing part stage renewals) = scripts.Renewing (key_of user part) stage (led user renewals)
seen user closings.Over = scripts.Over

-- no request is led by a later part
abbrev pub is_free_after : Part → Renewals → Bool
is_free_after parts.User r = is_free parts.Groups r
is_free_after parts.Groups r = is_free parts.Host r
is_free_after parts.Host r = is_free parts.Rules r
is_free_after parts.Rules r = true
