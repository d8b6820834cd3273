-- Rows as bytes: the one spelling of each.
use Rattle.std.specs.Prelude.{ℕ, Bool, List, [], ◌∷◌, ◌++◌, length, Option, Some, None, if◌then◌else◌}
use Rattle.std.specs.List.{flat_map}
use Rattle.std.specs.Int.{w32, w64, to_be_bytes}
use Rattle.sd_rules.specs.declared.events.Row.{Row}
use Rattle.sd_rules.specs.declared.events.Row.TheVariants as rows
use Rattle.sd_rules.specs.declared.keys.Key.{Key}
use Rattle.sd_rules.specs.declared.keys.Key.TheVariants as keys
use Rattle.sd_rules.specs.declared.records.Answered.{Answered}
use Rattle.sd_rules.specs.declared.records.Answered.TheVariants.{Found, Absent}
use Rattle.sd_rules.specs.declared.records.Element.{Element}
use Rattle.sd_rules.specs.declared.records.Group.{Group}
use Rattle.sd_rules.specs.declared.records.GroupRef.{GroupRef}
use Rattle.sd_rules.specs.declared.records.Groups.{Groups}
use Rattle.sd_rules.specs.declared.records.Host.{Host}
use Rattle.sd_rules.specs.declared.records.Record.{Record}
use Rattle.sd_rules.specs.declared.records.Record.TheVariants as records
use Rattle.sd_rules.specs.declared.records.Rule.{Rule}
use Rattle.sd_rules.specs.declared.records.RuleBook.{RuleBook}
use Rattle.sd_rules.specs.declared.records.Service.{Service}
use Rattle.sd_rules.specs.declared.records.User.{User}
use Rattle.sd_creds.specs.Texts.{text_of}

-- numbers in four octets and in eight, the highest first
unfoldable pub number : ℕ → List ℕ
number n = to_be_bytes w32 n

unfoldable pub long : ℕ → List ℕ
long n = to_be_bytes w64 n

-- a text: how many bytes it has, and the bytes
unfoldable pub text : List ℕ → List ℕ
text bytes = number (length bytes) ++ bytes

-- a list: how many items it has, and the items
unfoldable pub list : {T : Type 0} → (T → List ℕ) → List T → List ℕ
list item items = number (length items) ++ flat_map item items

abbrev pub flag : Bool → List ℕ
flag b = (if b then 1 else 0) ∷ []

-- what may be missing: a flag, and the number where there is one
abbrev pub optional : Option ℕ → List ℕ
optional None = 0 ∷ []
optional (Some n) = 1 ∷ number n

abbrev pub user : User → List ℕ
user u = text u.dn ++ (text u.name ++ (number u.uid ++ (number u.gid ++ (text u.gecos ++ (text u.home ++ text u.shell)))))

abbrev pub group : Group → List ℕ
group g = text g.dn ++ (text g.name ++ (number g.gid ++ list text g.members))

abbrev pub group_ref : GroupRef → List ℕ
group_ref r = text r.name ++ optional r.gid

abbrev pub groups : Groups → List ℕ
groups g = text g.user ++ list group_ref g.groups

abbrev pub host : Host → List ℕ
host h = text h.name ++ list text h.groups

abbrev pub element : Element → List ℕ
element e = flag e.all ++ (list text e.names ++ list text e.groups)

abbrev pub rule : Rule → List ℕ
rule r = text r.name ++ (flag r.enabled ++ (element r.users ++ (element r.hosts ++ element r.services)))

abbrev pub service : Service → List ℕ
service s = text s.name ++ list text s.groups

abbrev pub book : RuleBook → List ℕ
book b = list rule b.rules ++ list service b.services

-- a variant: its place among the variants, and what it holds
abbrev pub found : Record → List ℕ
found (records.User u) = 0 ∷ user u
found (records.Group g) = 1 ∷ group g
found (records.Groups g) = 2 ∷ groups g
found (records.Host h) = 3 ∷ host h
found (records.Rules b) = 4 ∷ book b

abbrev pub answer : Answered → List ℕ
answer (Found r) = 0 ∷ found r
answer Absent = 1 ∷ []

abbrev pub key : Key → List ℕ
key (keys.User name) = 0 ∷ text name
key (keys.Uid uid) = 1 ∷ number uid
key (keys.Group name) = 2 ∷ text name
key (keys.Gid gid) = 3 ∷ number gid
key (keys.GroupsOf name) = 4 ∷ text name
key keys.Host = 5 ∷ []
key keys.Rules = 6 ∷ []

-- a row: its kind, and what it holds; a hash is spelled as a text
abbrev pub row_bytes : Row → List ℕ
row_bytes (rows.Head version next moment) = 0 ∷ (number version ++ (long next ++ long moment))
row_bytes (rows.Answer n m k answered voided) = 1 ∷ (long n ++ (long m ++ (key k ++ (answer answered ++ flag voided))))
row_bytes (rows.Hash n m name hash) = 2 ∷ (long n ++ (long m ++ (text name ++ text (text_of hash))))
row_bytes (rows.Wrong n m name count) = 3 ∷ (long n ++ (long m ++ (text name ++ long count)))
row_bytes (rows.Fall n m server) = 4 ∷ (long n ++ (long m ++ number server))
row_bytes (rows.Online n m name) = 5 ∷ (long n ++ (long m ++ text name))
