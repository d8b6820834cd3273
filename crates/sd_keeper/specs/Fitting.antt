-- What has a spelling: numbers of four octets or of eight, and texts and lists whose length has four.
use Rattle.std.specs.Prelude.{ℕ, ◌<◌, ◌^◌, List, length, Option, IfSome}
use Rattle.std.specs.List.{AllByRecursion}
use Rattle.sd_rules.specs.declared.events.Row.{Row}
use Rattle.sd_rules.specs.declared.events.Row.TheVariants as rows
use Rattle.sd_rules.specs.declared.keys.Key.{Key}
use Rattle.sd_rules.specs.declared.keys.Key.TheVariants as keys
use Rattle.sd_rules.specs.declared.records.Answered.{Answered}
use Rattle.sd_rules.specs.declared.records.Answered.TheVariants.{Found, Absent}
use Rattle.sd_rules.specs.declared.records.Element.{Element}
use Rattle.sd_rules.specs.declared.records.Group.{Group}
use Rattle.sd_rules.specs.declared.records.GroupRef.{GroupRef}
use Rattle.sd_rules.specs.declared.records.Groups.{Groups}
use Rattle.sd_rules.specs.declared.records.Host.{Host}
use Rattle.sd_rules.specs.declared.records.Record.{Record}
use Rattle.sd_rules.specs.declared.records.Record.TheVariants as records
use Rattle.sd_rules.specs.declared.records.Rule.{Rule}
use Rattle.sd_rules.specs.declared.records.RuleBook.{RuleBook}
use Rattle.sd_rules.specs.declared.records.Service.{Service}
use Rattle.sd_rules.specs.declared.records.User.{User}
use Rattle.sd_creds.specs.Texts.{IsHash}

abbrev pub IsNumber : ℕ → Type 0
IsNumber n = n < 2 ^ 32

abbrev pub IsLong : ℕ → Type 0
IsLong n = n < 2 ^ 64

abbrev pub IsText : List ℕ → Type 0
IsText bytes = length bytes < 2 ^ 32

abbrev pub IsList : {T : Type 0} → (T → Type 0) → List T → Type 0
IsList IsItem items = (length items < 2 ^ 32) × AllByRecursion IsItem items

abbrev pub IsOptional : Option ℕ → Type 0
IsOptional o = IfSome o IsNumber

abbrev pub IsUser : User → Type 0
IsUser u = IsText u.dn × (IsText u.name × (IsNumber u.uid × (IsNumber u.gid × (IsText u.gecos × (IsText u.home × IsText u.shell)))))

abbrev pub IsGroup : Group → Type 0
IsGroup g = IsText g.dn × (IsText g.name × (IsNumber g.gid × IsList IsText g.members))

abbrev pub IsGroupRef : GroupRef → Type 0
IsGroupRef r = IsText r.name × IsOptional r.gid

abbrev pub AreGroups : Groups → Type 0
AreGroups g = IsText g.user × IsList IsGroupRef g.groups

abbrev pub IsHost : Host → Type 0
IsHost h = IsText h.name × IsList IsText h.groups

abbrev pub IsElement : Element → Type 0
IsElement e = Unit {0} × (IsList IsText e.names × IsList IsText e.groups)

abbrev pub IsRule : Rule → Type 0
IsRule r = IsText r.name × (Unit {0} × (IsElement r.users × (IsElement r.hosts × IsElement r.services)))

abbrev pub IsService : Service → Type 0
IsService s = IsText s.name × IsList IsText s.groups

abbrev pub IsBook : RuleBook → Type 0
IsBook b = IsList IsRule b.rules × IsList IsService b.services

abbrev pub IsRecord : Record → Type 0
IsRecord (records.User u) = IsUser u
IsRecord (records.Group g) = IsGroup g
IsRecord (records.Groups g) = AreGroups g
IsRecord (records.Host h) = IsHost h
IsRecord (records.Rules b) = IsBook b

abbrev pub IsAnswer : Answered → Type 0
IsAnswer (Found r) = IsRecord r
IsAnswer Absent = Unit {0}

abbrev pub IsKey : Key → Type 0
IsKey (keys.User name) = IsText name
IsKey (keys.Uid uid) = IsNumber uid
IsKey (keys.Group name) = IsText name
IsKey (keys.Gid gid) = IsNumber gid
IsKey (keys.GroupsOf name) = IsText name
IsKey keys.Host = Unit {0}
IsKey keys.Rules = Unit {0}

abbrev pub IsRow : Row → Type 0
IsRow (rows.Head version next moment) = IsNumber version × (IsLong next × IsLong moment)
IsRow (rows.Answer n m k answered voided) = IsLong n × (IsLong m × (IsKey k × (IsAnswer answered × Unit {0})))
IsRow (rows.Hash n m name hash) = IsLong n × (IsLong m × (IsText name × IsHash hash))
IsRow (rows.Wrong n m name count) = IsLong n × (IsLong m × (IsText name × IsLong count))
IsRow (rows.Fall n m server) = IsLong n × (IsLong m × IsNumber server)
IsRow (rows.Online n m name) = IsLong n × (IsLong m × IsText name)
