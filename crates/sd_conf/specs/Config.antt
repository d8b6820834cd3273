-- The configuration that a text says, or why it is refused.
use Rattle.std.specs.Prelude.{◌≡◌, ℕ, List, [], ◌∷◌, ◌++◌, length, Option, Some, None, Result, Ok, Err, unwrap_or, codes}
use Rattle.sd_rules.specs.declared.settings.Settings.{Settings}
use Rattle.sd_rules.specs.declared.settings.SimpleLists.{SimpleLists}
use Rattle.sd_conf.specs.declared.options.ConfOption.{ConfOption}
use Rattle.sd_conf.specs.declared.options.ConfOption.TheVariants as options
use Rattle.sd_conf.specs.declared.config.Config.{Config}
use Rattle.sd_conf.specs.declared.ConfFault.{ConfFault}
use Rattle.sd_conf.specs.declared.ConfFault.TheVariants as faults
use Rattle.sd_pieces.specs.Pieces.{pieces}
use Rattle.sd_conf.specs.Lines.{Form, Setting, forms_of, settings_in, fault_in}
use Rattle.sd_conf.specs.Options.{line_of}
use Rattle.sd_conf.specs.Chosen.{Chosen, number, flag, text, texts, access, primaries, backups, base, missing, bad_value, unknown, told}

abbrev pub simple_lists : Chosen → SimpleLists
simple_lists c = record {
  allow_users = texts c options.SimpleAllowUsers [];
  deny_users = texts c options.SimpleDenyUsers [];
  allow_groups = texts c options.SimpleAllowGroups [];
  deny_groups = texts c options.SimpleDenyGroups [];
}

-- the options that replies rest on, with their defaults
abbrev pub settings : Chosen → Settings
settings c = record {
  user_timeout = number c options.EntryCacheUserTimeout (number c options.EntryCacheTimeout 5400);
  group_timeout = number c options.EntryCacheGroupTimeout (number c options.EntryCacheTimeout 5400);
  negative_timeout = number c options.EntryNegativeTimeout 15;
  nowait = number c options.EntryCacheNowaitPercentage 50;
  offline_timeout = number c options.OfflineTimeout 60;
  hbac_refresh = number c options.IpaHbacRefresh 5;
  expiration_days = number c options.OfflineCredentialsExpiration 0;
  attempts = number c options.OfflineFailedLoginAttempts 0;
  delay_minutes = number c options.OfflineFailedLoginDelay 5;
  cached_auth_timeout = number c options.CachedAuthTimeout 0;
  journal_limit = number c options.JournalLimit 1000000;
  primaries = length (primaries c);
  backups = length (backups c);
  cache_credentials = flag c options.CacheCredentials;
  filter_users = texts c options.FilterUsers (codes "root");
  filter_groups = texts c options.FilterGroups (codes "root");
  access = access c;
  simple = simple_lists c;
  hostname = text c options.IpaHostname [];
}

abbrev pub config : Chosen → Config
config c = record {
  settings = settings c;
  domain = c.domain;
  base = unwrap_or (base c) [];
  servers = primaries c ++ backups c;
  level = number c options.LdapGroupNestingLevel 2;
  pwfield = text c options.Pwfield (codes "*");
  unknown = unknown c;
}

-- ---- the order of refusals

abbrev pub where_complete : Chosen → Option ConfOption → Result Config ConfFault
where_complete c (Some option) = Err (faults.Missing (line_of option).key)
where_complete c None = Ok (config c)

abbrev pub where_fitting : Chosen → Option ℕ → Result Config ConfFault
where_fitting c (Some line) = Err (faults.BadValue line)
where_fitting c None = where_complete c (missing c)

-- of the one domain
abbrev pub of_domain : Chosen → Result Config ConfFault
of_domain c = where_fitting c (bad_value c)

abbrev pub chosen_of : List Setting → List ℕ → Chosen
chosen_of settings domain = record { settings = settings; domain = domain }

-- one domain is wanted
abbrev pub of_domains : List Setting → List (List ℕ) → Result Config ConfFault
of_domains settings [] = Err faults.NoDomain
of_domains settings (domain ∷ []) = of_domain (chosen_of settings domain)
of_domains settings (domain ∷ other ∷ others) = Err (faults.ManyDomains (told (length (domain ∷ other ∷ others))))

-- `domains` stands in the section `sssd`, whatever the domain is
abbrev pub of_settings : List Setting → Result Config ConfFault
of_settings settings = of_domains settings (texts (chosen_of settings []) options.Domains [])

abbrev pub where_formed : List Setting → Option ConfFault → Result Config ConfFault
where_formed settings (Some fault) = Err fault
where_formed settings None = of_settings settings

abbrev pub of_forms : List Form → Result Config ConfFault
of_forms forms = where_formed (settings_in forms) (fault_in forms)

-- What a text says: the configuration, or the refusal. The first line without a form or before any section
-- comes first, then the domains, the least line of a bad value, and the first option that is missing.
abbrev pub conf_of : List ℕ → Result Config ConfFault
conf_of text = of_forms (forms_of (pieces 10 text))

-- What was answered is what is said, unless memory ran out.
abbrev pub Fails : ConfFault → Result Config ConfFault → Type 0
Fails faults.Memory said = Unit {0}
Fails (faults.BadLine line) said = said ≡ Err (faults.BadLine line)
Fails (faults.NoSection line) said = said ≡ Err (faults.NoSection line)
Fails (faults.BadValue line) said = said ≡ Err (faults.BadValue line)
Fails (faults.ManyDomains count) said = said ≡ Err (faults.ManyDomains count)
Fails faults.NoDomain said = said ≡ Err faults.NoDomain
Fails (faults.Missing name) said = said ≡ Err (faults.Missing name)

abbrev pub Answers : Result Config ConfFault → Result Config ConfFault → Type 0
Answers (Ok config) said = said ≡ Ok config
Answers (Err fault) said = Fails fault said
