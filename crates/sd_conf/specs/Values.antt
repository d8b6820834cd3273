-- What values mean: providers, servers, and which values an option's rule lets stand.
use Rattle.std.specs.Prelude.{ℕ, ◌-◌, Bool, true, false, ◌&&◌, ◌||◌, not, ◌==◌, if◌then◌else◌, List, [], ◌∷◌, ◌++◌, length, filter, Option, Some, None, is_some, slice_index, take, nat_lt, nat_le, codes}
use Rattle.std.specs.List.{list_all, flat_map}
use Rattle.std.specs.Char.{is_ascii_alphanumeric}
use Rattle.sd_rules.specs.Keys.{same_name}
use Rattle.sd_rules.specs.declared.settings.AccessMode.{AccessMode}
use Rattle.sd_rules.specs.declared.settings.AccessMode.TheVariants.{Permit, Deny, Simple, Ipa}
use Rattle.sd_dn.specs.Reading.{is_dn}
use Rattle.sd_conf.specs.declared.options.Rule.{Rule}
use Rattle.sd_conf.specs.declared.options.Rule.TheVariants as rules
use Rattle.sd_conf.specs.declared.values.Provider.{Provider}
use Rattle.sd_conf.specs.declared.values.Provider.TheVariants as providers
use Rattle.sd_conf.specs.declared.servers.Server.{Server}
use Rattle.sd_pieces.specs.Pieces.{cut_of, pieces}
use Rattle.sd_pieces.specs.Digits.{number_of}
use Rattle.sd_conf.specs.Texts.{items_of, flag_of, is_empty}
use Rattle.sd_conf.specs.Options.{behind}

abbrev pub provider_of : List ℕ → Option Provider
provider_of bs =
    if same_name bs (codes "ldap") then Some providers.Ldap
    else if same_name bs (codes "ipa") then Some providers.Ipa
    else None

abbrev pub access_of : List ℕ → Option AccessMode
access_of bs =
    if same_name bs (codes "permit") then Some Permit
    else if same_name bs (codes "deny") then Some Deny
    else if same_name bs (codes "simple") then Some Simple
    else if same_name bs (codes "ipa") then Some Ipa
    else None

-- ---- servers

-- a letter, a digit, `.`, `-` or `_`
abbrev pub is_host_byte : ℕ → Bool
is_host_byte b = ((is_ascii_alphanumeric b || b == 46) || b == 45) || b == 95

abbrev pub is_host : List ℕ → Bool
is_host bs = (nat_lt 0 (length bs) && nat_le (length bs) 255) && list_all is_host_byte bs

abbrev pub server : List ℕ → ℕ → Server
server host port = record { host = host; port = port }

-- the port of LDAP where none is given
abbrev pub host_server : List ℕ → Option Server
host_server host = if is_host host then Some (server host 389) else None

abbrev pub in_port_range : Option ℕ → Option ℕ
in_port_range None = None
in_port_range (Some n) = if nat_le 1 n && nat_le n 65535 then Some n else None

abbrev pub at_port : List ℕ → Option ℕ → Option Server
at_port host None = None
at_port host (Some port) = if is_host host then Some (server host port) else None

-- `HOST` or `HOST:PORT`
abbrev pub address_of : List ℕ → Option (List ℕ) → Option Server
address_of host None = host_server host
address_of host (Some port) = at_port host (in_port_range (number_of port))

-- without a `/` at the end
abbrev pub without_slash : List ℕ → List ℕ
without_slash bs = if nat_lt 0 (length bs) && slice_index bs (length bs - 1) == 47 then take (length bs - 1) bs else bs

abbrev pub behind_scheme : Option (List ℕ) → Option Server
behind_scheme None = None
behind_scheme (Some rest) = address_of (cut_of 58 (without_slash rest)).0 (cut_of 58 (without_slash rest)).1

-- `ldap://HOST`, with `:PORT` and a last `/` allowed
abbrev pub uri_server : List ℕ → Option Server
uri_server bs = behind_scheme (behind (codes "ldap://") bs)

abbrev pub server_of : Bool → List ℕ → Option Server
server_of is_uri bs = if is_uri then uri_server bs else host_server bs

abbrev pub joined : Option Server → Option (List Server) → Option (List Server)
joined None others = None
joined (Some s) None = None
joined (Some s) (Some others) = Some (s ∷ others)

-- an item `_srv_` is passed over
abbrev pub servers_in : Bool → List (List ℕ) → Option (List Server)
servers_in is_uri [] = Some []
servers_in is_uri (x ∷ xs) = if same_name x (codes "_srv_") then servers_in is_uri xs else joined (server_of is_uri x) (servers_in is_uri xs)

-- 64 servers at most
abbrev pub few : Option (List Server) → Option (List Server)
few None = None
few (Some servers) = if nat_le (length servers) 64 then Some servers else None

abbrev pub servers_of : Bool → List ℕ → Option (List Server)
servers_of is_uri value = few (servers_in is_uri (items_of value))

-- ---- the rules

abbrev pub is_within : ℕ → ℕ → Option ℕ → Bool
is_within least greatest None = false
is_within least greatest (Some n) = nat_le least n && nat_le n greatest

-- the value may stand
abbrev pub fits : Rule → List ℕ → Bool
fits rules.Any value = true
fits (rules.Number least greatest) value = is_within least greatest (number_of value)
fits rules.Flag value = is_some (flag_of value)
fits rules.IdProvider value = is_some (provider_of value)
fits rules.AuthProvider value = not (same_name value (codes "none"))
fits rules.AccessProvider value = is_some (access_of value)
fits (rules.Length least greatest) value = nat_le least (length value) && nat_le (length value) greatest
fits rules.Uris value = is_some (servers_of true value)
fits rules.Hosts value = is_some (servers_of false value)
fits rules.Dn value = is_dn value

-- ---- the base made of a domain's name

abbrev pub labels_of : List ℕ → List (List ℕ)
labels_of name = filter (λ x. not (is_empty x)) (pieces 46 name)

abbrev pub further_labels : List (List ℕ) → List ℕ
further_labels labels = flat_map (λ label. codes ",dc=" ++ label) labels

-- `dc=LABEL` of each label, joined by `,`
abbrev pub base_of_labels : List (List ℕ) → List ℕ
base_of_labels [] = []
base_of_labels (label ∷ labels) = (codes "dc=" ++ label) ++ further_labels labels

abbrev pub base_of_name : List ℕ → List ℕ
base_of_name name = base_of_labels (labels_of name)

-- ---- what a loop keeps

abbrev pub with_front : List Server → Option (List Server) → Option (List Server)
with_front front None = None
with_front front (Some others) = Some (front ++ others)
