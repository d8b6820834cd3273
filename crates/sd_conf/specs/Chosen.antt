-- What the keys' lines choose, where the one domain is known. Of the lines of an option the last one counts.
use Rattle.std.specs.Prelude.{ℕ, ◌+◌, ◌-◌, ◌^◌, min, Bool, true, false, ◌&&◌, ◌||◌, not, if◌then◌else◌, List, [], ◌∷◌, length, reverse, count_by, Option, Some, None, is_some, is_none, unwrap_or, nat_lt}
use Rattle.std.specs.Option.{option_map, option_and_then}
use Rattle.sd_rules.specs.declared.settings.AccessMode.{AccessMode}
use Rattle.sd_rules.specs.declared.settings.AccessMode.TheVariants.{Permit, Deny, Simple, Ipa}
use Rattle.sd_dn.specs.Reading.{is_dn}
use Rattle.sd_conf.specs.declared.options.Part.TheVariants.{Sssd, Nss, Pam, Domain}
use Rattle.sd_conf.specs.declared.options.Rule.{Rule}
use Rattle.sd_conf.specs.declared.options.ConfOption.{ConfOption}
use Rattle.sd_conf.specs.declared.options.ConfOption.TheVariants as options
use Rattle.sd_conf.specs.declared.values.Provider.{Provider}
use Rattle.sd_conf.specs.declared.values.Provider.TheVariants as providers
use Rattle.sd_conf.specs.declared.servers.Server.{Server}
use Rattle.sd_conf.specs.declared.choices.Choices.{Choices}
use Rattle.sd_pieces.specs.Digits.{number_of}
use Rattle.sd_conf.specs.Texts.{items_of, flag_of}
use Rattle.sd_conf.specs.Lines.{Setting, settings_seen, or_else}
use Rattle.sd_conf.specs.Options.{line_of, all_options, is_section, is_line_of, is_known}
use Rattle.sd_conf.specs.Values.{provider_of, access_of, servers_of, fits, base_of_name}

-- the keys' lines, newest first, and the domain
pub record Chosen : Type 0 where
  pub settings : List Setting
  pub domain : List ℕ

-- the last line of an option
abbrev pub newest : List Setting → List ℕ → ConfOption → Option Setting
newest [] domain option = None
newest (s ∷ older) domain option = if is_line_of (line_of option) domain s then Some s else newest older domain option

abbrev pub last_line : Chosen → ConfOption → Option Setting
last_line c option = newest c.settings c.domain option

abbrev pub value : Chosen → ConfOption → Option (List ℕ)
value c option = option_map (λ s. s.value) (last_line c option)

abbrev pub is_given : Chosen → ConfOption → Bool
is_given c option = is_some (value c option)

abbrev pub number : Chosen → ConfOption → ℕ → ℕ
number c option otherwise = unwrap_or (option_and_then number_of (value c option)) otherwise

abbrev pub flag : Chosen → ConfOption → Bool
flag c option = unwrap_or (option_and_then flag_of (value c option)) false

abbrev pub text : Chosen → ConfOption → List ℕ → List ℕ
text c option otherwise = unwrap_or (value c option) otherwise

abbrev pub texts : Chosen → ConfOption → List ℕ → List (List ℕ)
texts c option otherwise = items_of (text c option otherwise)

-- ---- providers and servers

abbrev pub provider : Chosen → Option Provider
provider c = option_and_then provider_of (value c options.IdProvider)

abbrev pub is_ipa_provider : Option Provider → Bool
is_ipa_provider None = false
is_ipa_provider (Some providers.Ldap) = false
is_ipa_provider (Some providers.Ipa) = true

abbrev pub is_ipa : Chosen → Bool
is_ipa c = is_ipa_provider (provider c)

abbrev pub access : Chosen → AccessMode
access c = unwrap_or (option_and_then access_of (value c options.AccessProvider)) Permit

abbrev pub servers : Chosen → Bool → ConfOption → List Server
servers c is_uri option = unwrap_or (option_and_then (servers_of is_uri) (value c option)) []

-- the option of IPA counts with that provider alone, and where no line of the option of LDAP stands
abbrev pub by_ipa : Chosen → ConfOption → Bool
by_ipa c ldap_option = is_ipa c && not (is_given c ldap_option)

abbrev pub servers_by : Chosen → Bool → ConfOption → ConfOption → List Server
servers_by c true ldap_option ipa_option = servers c false ipa_option
servers_by c false ldap_option ipa_option = servers c true ldap_option

abbrev pub primaries : Chosen → List Server
primaries c = servers_by c (by_ipa c options.LdapUri) options.LdapUri options.IpaServer

abbrev pub backups : Chosen → List Server
backups c = servers_by c (by_ipa c options.LdapBackupUri) options.LdapBackupUri options.IpaBackupServer

abbrev pub backup_option : Chosen → ConfOption
backup_option c = if by_ipa c options.LdapBackupUri then options.IpaBackupServer else options.LdapBackupUri

-- ---- bad values

-- the line of the backup option, where it makes more than 64 servers of all
abbrev pub crowded : Chosen → Option ℕ
crowded c = if nat_lt 64 (length (primaries c) + length (backups c)) then option_map (λ s. s.line) (last_line c (backup_option c)) else None

abbrev pub bad_setting : Rule → Option Setting → Option ℕ
bad_setting rule None = None
bad_setting rule (Some s) = if fits rule s.value then None else Some s.line

-- the line of an option whose value may not stand
abbrev pub bad_line : Chosen → ConfOption → Option ℕ
bad_line c option = bad_setting (line_of option).rule (last_line c option)

abbrev pub lesser : Option ℕ → Option ℕ → Option ℕ
lesser None other = other
lesser (Some m) None = Some m
lesser (Some m) (Some n) = Some (min m n)

abbrev pub least_bad : Chosen → Option ℕ → List ConfOption → Option ℕ
least_bad c line [] = line
least_bad c line (option ∷ others) = lesser (bad_line c option) (least_bad c line others)

-- the least line of a bad value
abbrev pub bad_value : Chosen → Option ℕ
bad_value c = least_bad c (crowded c) all_options

-- ---- what is missing

abbrev pub dn_text : List ℕ → Option (List ℕ)
dn_text bs = if is_dn bs then Some bs else None

abbrev pub base_by_name : Chosen → Option (List ℕ)
base_by_name c = if is_ipa c then dn_text (base_of_name (text c options.IpaDomain c.domain)) else None

-- the search base: as given, or with IPA made of the domain's name
abbrev pub base : Chosen → Option (List ℕ)
base c = or_else (value c options.LdapSearchBase) (base_by_name c)

abbrev pub is_ipa_access : AccessMode → Bool
is_ipa_access Permit = false
is_ipa_access Deny = false
is_ipa_access Simple = false
is_ipa_access Ipa = true

abbrev pub has_none : List Server → Bool
has_none [] = true
has_none (s ∷ ss) = false

abbrev pub lacks_hostname : Chosen → Bool
lacks_hostname c = is_ipa_access (access c) && not (is_given c options.IpaHostname)

-- the first option that is missing
abbrev pub missing : Chosen → Option ConfOption
missing c =
    if is_none (provider c) then Some options.IdProvider
    else if has_none (primaries c) then Some options.LdapUri
    else if is_none (base c) then Some options.LdapSearchBase
    else if lacks_hostname c then Some options.IpaHostname
    else None

-- ---- keys that the table doesn't have

abbrev pub is_read : List ℕ → List ℕ → Bool
is_read domain section = ((is_section Sssd domain section || is_section Nss domain section) || is_section Pam domain section) || is_section Domain domain section

abbrev pub is_unknown : List ℕ → Setting → Bool
is_unknown domain s = is_read domain s.section && not (is_known domain s)

-- a count, as far as it is told
abbrev pub told : ℕ → ℕ
told n = min n (2 ^ 32 - 1)

abbrev pub unknown : Chosen → ℕ
unknown c = told (count_by (is_unknown c.domain) (reverse c.settings))

-- ---- what the code keeps

abbrev pub chosen : Choices → Chosen
chosen c = record { settings = settings_seen c.entries.items; domain = c.domain.now }
