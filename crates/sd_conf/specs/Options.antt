-- The table of the options, after sssd.conf(5), sssd-ldap(5), sssd-ipa(5) and sssd-simple(5).
use Rattle.std.specs.Prelude.{ℕ, ◌^◌, ◌-◌, Bool, false, ◌&&◌, ◌==◌, if◌then◌else◌, List, [], ◌∷◌, Option, Some, None, codes}
use Rattle.std.specs.List.{list_any}
use Rattle.sd_rules.specs.Keys.{same_name}
use Rattle.sd_conf.specs.declared.options.Part.{Part}
use Rattle.sd_conf.specs.declared.options.Part.TheVariants.{Sssd, Nss, Pam, Domain}
use Rattle.sd_conf.specs.declared.options.Rule.{Rule}
use Rattle.sd_conf.specs.declared.options.Rule.TheVariants as rules
use Rattle.sd_conf.specs.declared.options.ConfOption.{ConfOption}
use Rattle.sd_conf.specs.declared.options.ConfOption.TheVariants as options
use Rattle.sd_conf.specs.declared.options.Row.{Row}
use Rattle.sd_conf.specs.Lines.{Setting}

-- a row of the table: in which section the option stands, its key, what its value may be
pub record Line : Type 0 where
  pub part : Part
  pub key : List ℕ
  pub rule : Rule

abbrev pub line : Part → List ℕ → Rule → Line
line part key rule = record { part = part; key = key; rule = rule }

-- seconds, minutes, days and counts without a range of their own
abbrev pub count : Rule
count = rules.Number 0 (2 ^ 32 - 1)

abbrev pub line_of : ConfOption → Line
line_of options.Domains = line Sssd (codes "domains") rules.Any
line_of options.Services = line Sssd (codes "services") rules.Any
line_of options.ConfigFileVersion = line Sssd (codes "config_file_version") rules.Any
line_of options.JournalLimit = line Sssd (codes "journal_limit") (rules.Number 8 1000000)
line_of options.EntryNegativeTimeout = line Nss (codes "entry_negative_timeout") count
line_of options.EntryCacheNowaitPercentage = line Nss (codes "entry_cache_nowait_percentage") (rules.Number 0 99)
line_of options.FilterUsers = line Nss (codes "filter_users") rules.Any
line_of options.FilterGroups = line Nss (codes "filter_groups") rules.Any
line_of options.Pwfield = line Nss (codes "pwfield") (rules.Length 0 255)
line_of options.OfflineCredentialsExpiration = line Pam (codes "offline_credentials_expiration") count
line_of options.OfflineFailedLoginAttempts = line Pam (codes "offline_failed_login_attempts") count
line_of options.OfflineFailedLoginDelay = line Pam (codes "offline_failed_login_delay") count
line_of options.IdProvider = line Domain (codes "id_provider") rules.IdProvider
line_of options.AuthProvider = line Domain (codes "auth_provider") rules.AuthProvider
line_of options.AccessProvider = line Domain (codes "access_provider") rules.AccessProvider
line_of options.EntryCacheTimeout = line Domain (codes "entry_cache_timeout") count
line_of options.EntryCacheUserTimeout = line Domain (codes "entry_cache_user_timeout") count
line_of options.EntryCacheGroupTimeout = line Domain (codes "entry_cache_group_timeout") count
line_of options.CacheCredentials = line Domain (codes "cache_credentials") rules.Flag
line_of options.CachedAuthTimeout = line Domain (codes "cached_auth_timeout") count
line_of options.OfflineTimeout = line Domain (codes "offline_timeout") count
line_of options.LdapUri = line Domain (codes "ldap_uri") rules.Uris
line_of options.LdapBackupUri = line Domain (codes "ldap_backup_uri") rules.Uris
line_of options.IpaServer = line Domain (codes "ipa_server") rules.Hosts
line_of options.IpaBackupServer = line Domain (codes "ipa_backup_server") rules.Hosts
line_of options.IpaDomain = line Domain (codes "ipa_domain") rules.Any
line_of options.IpaHostname = line Domain (codes "ipa_hostname") (rules.Length 1 255)
line_of options.LdapSearchBase = line Domain (codes "ldap_search_base") rules.Dn
line_of options.LdapGroupNestingLevel = line Domain (codes "ldap_group_nesting_level") (rules.Number 0 100)
line_of options.IpaHbacRefresh = line Domain (codes "ipa_hbac_refresh") count
line_of options.SimpleAllowUsers = line Domain (codes "simple_allow_users") rules.Any
line_of options.SimpleDenyUsers = line Domain (codes "simple_deny_users") rules.Any
line_of options.SimpleAllowGroups = line Domain (codes "simple_allow_groups") rules.Any
line_of options.SimpleDenyGroups = line Domain (codes "simple_deny_groups") rules.Any

-- all options
abbrev pub all_options : List ConfOption
all_options =
    options.Domains ∷ options.Services ∷ options.ConfigFileVersion ∷ options.JournalLimit
    ∷ options.EntryNegativeTimeout ∷ options.EntryCacheNowaitPercentage ∷ options.FilterUsers ∷ options.FilterGroups ∷ options.Pwfield
    ∷ options.OfflineCredentialsExpiration ∷ options.OfflineFailedLoginAttempts ∷ options.OfflineFailedLoginDelay
    ∷ options.IdProvider ∷ options.AuthProvider ∷ options.AccessProvider
    ∷ options.EntryCacheTimeout ∷ options.EntryCacheUserTimeout ∷ options.EntryCacheGroupTimeout ∷ options.CacheCredentials ∷ options.CachedAuthTimeout ∷ options.OfflineTimeout
    ∷ options.LdapUri ∷ options.LdapBackupUri ∷ options.IpaServer ∷ options.IpaBackupServer ∷ options.IpaDomain ∷ options.IpaHostname
    ∷ options.LdapSearchBase ∷ options.LdapGroupNestingLevel ∷ options.IpaHbacRefresh
    ∷ options.SimpleAllowUsers ∷ options.SimpleDenyUsers ∷ options.SimpleAllowGroups ∷ options.SimpleDenyGroups ∷ []

-- what stands behind a text's beginning, where it begins so
abbrev pub behind : List ℕ → List ℕ → Option (List ℕ)
behind [] bytes = Some bytes
behind (p ∷ ps) [] = None
behind (p ∷ ps) (b ∷ bs) = if b == p then behind ps bs else None

abbrev pub is_domain : List ℕ → Option (List ℕ) → Bool
is_domain domain None = false
is_domain domain (Some name) = same_name name domain

-- the sections `sssd`, `nss`, `pam`, and `domain/D` of the one domain D
abbrev pub is_section : Part → List ℕ → List ℕ → Bool
is_section Sssd domain section = same_name section (codes "sssd")
is_section Nss domain section = same_name section (codes "nss")
is_section Pam domain section = same_name section (codes "pam")
is_section Domain domain section = is_domain domain (behind (codes "domain/") section)

-- a key's line is a line of this option
abbrev pub is_line_of : Line → List ℕ → Setting → Bool
is_line_of line domain setting = same_name setting.key line.key && is_section line.part domain setting.section

-- a key's line is the line of an option of the table
abbrev pub is_known : List ℕ → Setting → Bool
is_known domain setting = list_any (λ option. is_line_of (line_of option) domain setting) all_options

-- ---- what the code keeps

abbrev pub seen_row : Row → Line
seen_row row = line row.part row.key.now row.rule
