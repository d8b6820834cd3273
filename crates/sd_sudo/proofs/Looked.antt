-- What a lookup in a directory in memory says.
use Rattle.std.specs.Prelude.{IfOk, IfErr}
use Rattle.std.proofs.Common.{◌≡◌, ℕ, List, [], ◌∷◌, Option, Some, None, Result, Ok, Err, refl, sym, ap, subst, ◌∙◌}
use Rattle.sd_base.specs.declared.Why.{Why}
use Rattle.sd_rules.specs.declared.keys.Key.{Key}
use Rattle.sd_rules.specs.declared.keys.Key.TheVariants as keys
use Rattle.sd_rules.specs.declared.records.Record.{Record}
use Rattle.sd_rules.specs.declared.records.Record.TheVariants as records
use Rattle.sd_rules.specs.declared.tasks.Fetched.{Fetched}
use Rattle.sd_rules.specs.declared.tasks.Fetched.TheVariants as fetches
use Rattle.sd_conf.specs.declared.config.Config.{Config}
use Rattle.sd_ldap.specs.declared.entry.DirEntry.{DirEntry}
use Rattle.sd_fetch.specs.Lookup.{found_from, user_of, group_of, host_of, with_members, with_groups, members_in, groups_in, found_as, one_of, fitting, looked_up}
use Rattle.sd_provider.specs.Servers.{fetched_told, fetched_in}
use Rattle.sd_stub.specs.declared.Mode.TheVariants as modes
use Rattle.sd_sudo.specs.declared.lookups.Halt.{Halt}
use Rattle.sd_sudo.specs.Lookups.{limit_at, IsMet, Meets, Passes, HaltsBy, found_in, found_for, found_or_halt}

-- ---- a lookup never fails by itself

from_never : {A : Type 0} (made : A → Record) (r : Result A (List ℕ)) (why : Why) → found_from made r ≡ fetches.Failed why → ⊥
from_never made (Ok found) why h = absurd cc
from_never made (Err name) why h = absurd cc

as_never : (config : Config) (key : Key) (entries : List DirEntry) (e : DirEntry) (why : Why) → found_as config key entries e ≡ fetches.Failed why → ⊥
as_never config (keys.User name) entries e why h = from_never records.User (user_of config (keys.User name) e) why h
as_never config (keys.Uid uid) entries e why h = from_never records.User (user_of config (keys.Uid uid) e) why h
as_never config (keys.Group name) entries e why h = from_never (with_members (members_in config entries e)) (group_of config (keys.Group name) e) why h
as_never config (keys.Gid gid) entries e why h = from_never (with_members (members_in config entries e)) (group_of config (keys.Gid gid) e) why h
as_never config (keys.GroupsOf name) entries e why h = from_never (with_groups (groups_in config entries e)) (user_of config (keys.GroupsOf name) e) why h
as_never config keys.Host entries e why h = from_never records.Host (host_of config e) why h
as_never config keys.Rules entries e why h = absurd cc

one_never : (found : DirEntry → Fetched) → ((e : DirEntry) (why : Why) → found e ≡ fetches.Failed why → ⊥) → (es : List DirEntry) (why : Why) → one_of found es ≡ fetches.Failed why → ⊥
one_never found f [] why h = absurd cc
one_never found f (e ∷ []) why h = f e why h
one_never found f (e ∷ other ∷ others) why h = absurd cc

never : (config : Config) (entries : List DirEntry) (key : Key) (why : Why) → looked_up config entries key ≡ fetches.Failed why → ⊥
unfolding looked_up
never config entries (keys.User name) why h = one_never (found_as config (keys.User name) entries) (as_never config (keys.User name) entries) (fitting config (keys.User name) entries) why h
never config entries (keys.Uid uid) why h = one_never (found_as config (keys.Uid uid) entries) (as_never config (keys.Uid uid) entries) (fitting config (keys.Uid uid) entries) why h
never config entries (keys.Group name) why h = one_never (found_as config (keys.Group name) entries) (as_never config (keys.Group name) entries) (fitting config (keys.Group name) entries) why h
never config entries (keys.Gid gid) why h = one_never (found_as config (keys.Gid gid) entries) (as_never config (keys.Gid gid) entries) (fitting config (keys.Gid gid) entries) why h
never config entries (keys.GroupsOf name) why h = one_never (found_as config (keys.GroupsOf name) entries) (as_never config (keys.GroupsOf name) entries) (fitting config (keys.GroupsOf name) entries) why h
never config entries keys.Host why h = one_never (found_as config keys.Host entries) (as_never config keys.Host entries) (fitting config keys.Host entries) why h
never config entries keys.Rules why h = absurd cc

-- ---- by the first limit and what is found

of_lookup : (limit : Option Why) (found : Fetched) → limit ≡ None → IfOk (found_or_halt found) (λ (o : Option Record). (limit ≡ None) × (o ≡ found_in found))
of_lookup limit (fetches.Found thing) e = (e, refl)
of_lookup limit fetches.Absent e = (e, refl)
of_lookup limit (fetches.Many count) e = (e, refl)
of_lookup limit (fetches.Refused code) e = tt
of_lookup limit (fetches.Failed why) e = tt
of_lookup limit fetches.Memory e = tt

ok_by : (limit : Option Why) (found : Fetched) → IfOk (found_or_halt (fetched_told limit found)) (λ (o : Option Record). (limit ≡ None) × (o ≡ found_in found))
ok_by None found = of_lookup None found refl
ok_by (Some why) found = tt

no_halt : (found : Fetched) (P : Type 0) → ((why : Why) → found ≡ fetches.Failed why → ⊥) → IfErr (found_or_halt found) (λ (halt : Halt). HaltsBy halt P)
no_halt (fetches.Found thing) P f = tt
no_halt fetches.Absent P f = tt
no_halt (fetches.Many count) P f = tt
no_halt (fetches.Refused code) P f = tt
no_halt (fetches.Failed why) P f = absurd (f why refl)
no_halt fetches.Memory P f = tt

err_by : (limit : Option Why) (found : Fetched) → ((why : Why) → found ≡ fetches.Failed why → ⊥) → IfErr (found_or_halt (fetched_told limit found)) (λ (halt : Halt). HaltsBy halt (IsMet limit))
err_by None found f = no_halt found (IsMet None) f
err_by (Some why) found f = (why, refl)

module _ (config : Config) (entries : List DirEntry) (key : Key) (fetched : Fetched) (result : Result (Option Record) Halt) (is : fetched ≡ fetched_in modes.Up config entries key) (by : result ≡ found_or_halt fetched) where
  so : result ≡ found_or_halt (fetched_told (limit_at config entries key) (looked_up config entries key))
  unfolding fetched_in
  so = by ∙ ap found_or_halt is

  pub looked_ok : IfOk result (λ (found : Option Record). Passes config entries key × (found ≡ found_for config entries key))
  looked_ok = subst (λ (r : Result (Option Record) Halt). IfOk r (λ (found : Option Record). Passes config entries key × (found ≡ found_for config entries key))) (sym so) (ok_by (limit_at config entries key) (looked_up config entries key))

  pub looked_halt : IfErr result (λ (halt : Halt). HaltsBy halt (Meets config entries key))
  looked_halt = subst (λ (r : Result (Option Record) Halt). IfErr r (λ (halt : Halt). HaltsBy halt (Meets config entries key))) (sym so) (err_by (limit_at config entries key) (looked_up config entries key) (never config entries key))
