-- What a directory says of the sudo rules of a user.
use Rattle.std.specs.Prelude.{◌≡◌, ℕ, Bool, true, false, ◌⊎◌, List, Some, None, Result, Ok, Err}
use Rattle.std.specs.List.{list_any}
use Rattle.sd_rules.specs.declared.keys.Key.TheVariants as keys
use Rattle.sd_rules.specs.declared.records.User.{User}
use Rattle.sd_conf.specs.declared.config.Config.{Config}
use Rattle.sd_ldap.specs.declared.entry.DirEntry.{DirEntry}
use Rattle.sd_match.specs.Answering.{same_bytes}
use Rattle.sd_roles.specs.declared.roles.Role.{Role}
use Rattle.sd_sudo.specs.declared.answer.Answer.{Answer}
use Rattle.sd_sudo.specs.declared.answer.Answer.TheVariants as answers
use Rattle.sd_sudo.specs.declared.lookups.Halt.{Halt}
use Rattle.sd_sudo.specs.Lookups.{Meets, Passes, HaltsBy}
use Rattle.sd_sudo.specs.Askers.{user_named, asker_of}
use Rattle.sd_sudo.specs.Ruling.{AreRules, RulesMeet}

-- the configuration keeps the name out: filter_users
abbrev pub is_filtered : Config → List ℕ → Bool
is_filtered config name = list_any (λ other. same_bytes other name) config.settings.filter_users

-- the name is kept out; or nobody or more than one has it
abbrev pub HasNoUser : Config → List DirEntry → List ℕ → Type 0
HasNoUser config entries name =
    (is_filtered config name ≡ true)
    ⊎ ((is_filtered config name ≡ false) × Passes config entries (keys.User name) × (user_named config entries name ≡ None))

-- the rules that apply to a user, where no search meets a limit
pub record HasRules (config : Config) (entries : List DirEntry) (name : List ℕ) (user : User) (applied : List Role) : Type 0 where
  pub groups : Passes config entries (keys.GroupsOf name)
  pub own_group : Passes config entries (keys.Gid user.gid)
  pub are : AreRules entries config.base (asker_of config entries name user) applied

-- the rules that apply to the one user of a name
pub record AreRulesOf (config : Config) (entries : List DirEntry) (name : List ℕ) (applied : List Role) : Type 0 where
  pub let_in : is_filtered config name ≡ false
  pub within : Passes config entries (keys.User name)
  pub user : User
  pub is_user : user_named config entries name ≡ Some user
  pub rules : HasRules config entries name user applied

abbrev pub IsAnswer : Config → List DirEntry → List ℕ → Answer → Type 0
IsAnswer config entries name answers.NoUser = HasNoUser config entries name
IsAnswer config entries name (answers.Rules applied) = AreRulesOf config entries name applied.items

-- ---- limits

-- a search for the groups of a user, for rules or for their netgroups meets a limit
abbrev pub MeetsFor : Config → List DirEntry → List ℕ → User → Type 0
MeetsFor config entries name user =
    (Meets config entries (keys.GroupsOf name) ⊎ Meets config entries (keys.Gid user.gid))
    ⊎ RulesMeet entries config.base

-- a search that is sent meets a limit
abbrev pub IsLimited : Config → List DirEntry → List ℕ → Type 0
IsLimited config entries name =
    (is_filtered config name ≡ false)
    × (Meets config entries (keys.User name) ⊎ ((user : User) × (user_named config entries name ≡ Some user) × MeetsFor config entries name user))

-- ---- together

-- an answer, or what ended the searches before there was one
abbrev pub IsOutcome : Config → List DirEntry → List ℕ → Result Answer Halt → Type 0
IsOutcome config entries name (Ok answer) = IsAnswer config entries name answer
IsOutcome config entries name (Err halt) = HaltsBy halt (IsLimited config entries name)
