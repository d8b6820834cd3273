-- What a lookup and a bind at a server come to is never want of memory.
use Rattle.std.proofs.Common.{◌≡◌, ℕ, Bool, true, false, cond, List, [], ◌∷◌, Option, Some, None, Result, Ok, Err, refl}
use Rattle.sd_base.specs.declared.Why.{Why}
use Rattle.sd_base.specs.declared.Why.TheVariants as whys
use Rattle.sd_rules.specs.declared.keys.Key.{Key}
use Rattle.sd_rules.specs.declared.keys.Key.TheVariants as keys
use Rattle.sd_rules.specs.declared.records.Record.{Record}
use Rattle.sd_rules.specs.declared.records.Record.TheVariants as records
use Rattle.sd_rules.specs.declared.tasks.Bound.{Bound}
use Rattle.sd_rules.specs.declared.tasks.Bound.TheVariants as bounds
use Rattle.sd_rules.specs.declared.tasks.Fetched.{Fetched}
use Rattle.sd_rules.specs.declared.tasks.Fetched.TheVariants as fetches
use Rattle.sd_rules.specs.Scripts.{is_out_of_memory, is_bind_out_of_memory}
use Rattle.sd_ldap.specs.declared.entry.DirEntry.{DirEntry}
use Rattle.sd_conf.specs.declared.config.Config.{Config}
use Rattle.sd_dial.specs.Entries.{shortest, four_octets}
use Rattle.sd_client.specs.Talk.{bind_message, search_message}
use Rattle.sd_asking.specs.Sizes.{content_size, is_too_long}
use Rattle.sd_asking.specs.Binding.{ToldBound, code, failed, told_bind}
use Rattle.sd_fetch.specs.Lookup.{fitting, found_as, found_from, group_of, groups_in, host_of, looked_up, members_in, one_of, user_of, with_groups, with_members}
use Rattle.sd_fetch.specs.Searches.{first_search}
use Rattle.sd_fetch.specs.Told.{searches_of, first_failure}
use Rattle.sd_stub.specs.declared.Mode.{Mode}
use Rattle.sd_stub.specs.declared.Mode.TheVariants as modes
use Rattle.sd_provider.specs.Servers.{behind_in, bound_in, bound_told, fetched_coded, fetched_in, fetched_told, is_empty_code, is_server_code}
use Rattle.sd_world.specs.Tasks.{Site, fetched_at, bound_at}

abbrev Comes : Fetched → Type 0
Comes f = is_out_of_memory f ≡ false

either : (b : Bool) (x y : Fetched) → Comes x → Comes y → Comes (cond b x y)
either true x y f g = f
either false x y f g = g

from_found : {A : Type 0} → (made : A → Record) (r : Result A (List ℕ)) → Comes (found_from made r)
from_found made (Ok found) = refl
from_found made (Err name) = refl

as_found : (config : Config) (key : Key) (entries : List DirEntry) (e : DirEntry) → Comes (found_as config key entries e)
as_found config (keys.User name) entries e = from_found records.User (user_of config (keys.User name) e)
as_found config (keys.Uid uid) entries e = from_found records.User (user_of config (keys.Uid uid) e)
as_found config (keys.Group name) entries e = from_found (with_members (members_in config entries e)) (group_of config (keys.Group name) e)
as_found config (keys.Gid gid) entries e = from_found (with_members (members_in config entries e)) (group_of config (keys.Gid gid) e)
as_found config (keys.GroupsOf name) entries e = from_found (with_groups (groups_in config entries e)) (user_of config (keys.GroupsOf name) e)
as_found config keys.Host entries e = from_found records.Host (host_of config e)
as_found config keys.Rules entries e = refl

of_one : (found : DirEntry → Fetched) → ((e : DirEntry) → Comes (found e)) → (es : List DirEntry) → Comes (one_of found es)
of_one found f [] = refl
of_one found f (e ∷ []) = f e
of_one found f (e ∷ other ∷ others) = refl

looks_up : (config : Config) (entries : List DirEntry) (key : Key) → Comes (looked_up config entries key)
unfolding looked_up
looks_up config entries keys.Rules = refl
looks_up config entries key = of_one (λ e. found_as config key entries e) (as_found config key entries) (fitting config key entries)

by_told : (failure : Option Why) (found : Fetched) → Comes found → Comes (fetched_told failure found)
by_told (Some why) found h = refl
by_told None found h = h

by_coded : (config : Config) (key : Key) (result : ℕ) → Comes (fetched_coded config key result)
by_coded config key result =
    either (is_empty_code result) (looked_up config [] key) _ (looks_up config [] key)
    (either (is_server_code result) (fetches.Failed (whys.Code result)) (fetches.Refused result) refl refl)

fetches_in : (mode : Mode) (config : Config) (entries : List DirEntry) (key : Key) → Comes (fetched_in mode config entries key)
unfolding fetched_in
fetches_in modes.Up config entries key =
    by_told (first_failure (behind_in shortest entries) 0 1 (searches_of config entries key)) (looked_up config entries key) (looks_up config entries key)
fetches_in modes.Long config entries key =
    by_told (first_failure (behind_in four_octets entries) 0 1 (searches_of config entries key)) (looked_up config entries key) (looks_up config entries key)
fetches_in modes.Down config entries key = refl
fetches_in modes.Cut config entries key = refl
fetches_in modes.Indef config entries key =
    either (is_too_long (content_size (search_message 1 (first_search config key)))) (fetches.Failed whys.Link) (fetches.Failed (whys.Bytes 1)) refl refl
fetches_in (modes.Code result) config entries key =
    either (is_too_long (content_size (search_message 1 (first_search config key)))) (fetches.Failed whys.Link) (fetched_coded config key result) refl
    (by_coded config key result)

pub never_wanting : (s : Site) (server : ℕ) (key : Key) → is_out_of_memory (fetched_at s server key) ≡ false
never_wanting s server key = fetches_in _ s.config _ key

-- ---- binds

abbrev Binds : Bound → Type 0
Binds b = is_bind_out_of_memory b ≡ false

either_bind : (b : Bool) (x y : Bound) → Binds x → Binds y → Binds (cond b x y)
either_bind true x y f g = f
either_bind false x y f g = g

by_told_bind : (told : ToldBound) → Binds (bound_told told)
by_told_bind (code result) = refl
by_told_bind (failed why) = refl

binds_in : (mode : Mode) (entries : List DirEntry) (dn password : List ℕ) → Binds (bound_in mode entries dn password)
unfolding bound_in
binds_in modes.Up entries dn password = by_told_bind (told_bind (behind_in shortest entries) 0 1 dn password)
binds_in modes.Long entries dn password = by_told_bind (told_bind (behind_in four_octets entries) 0 1 dn password)
binds_in modes.Down entries dn password = refl
binds_in modes.Cut entries dn password = refl
binds_in modes.Indef entries dn password =
    either_bind (is_too_long (content_size (bind_message 1 dn password))) (bounds.Failed whys.Link) (bounds.Failed (whys.Bytes 1)) refl refl
binds_in (modes.Code result) entries dn password =
    either_bind (is_too_long (content_size (bind_message 1 dn password))) (bounds.Failed whys.Link) (bounds.Code result) refl refl

pub never_bound_wanting : (s : Site) (server : ℕ) (dn password : List ℕ) → is_bind_out_of_memory (bound_at s server dn password) ≡ false
never_bound_wanting s server dn password = binds_in _ _ dn password
