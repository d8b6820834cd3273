-- Reading bytes from the front, as functions of the bytes: a field is a value and the bytes behind it.
use Rattle.std.specs.Prelude.{◌≡◌, ℕ, zero, suc, ◌==◌, nat_lt, Bool, true, false, List, [], ◌∷◌, length, take, drop, Option, Some, None, Result, Ok, Err, if◌then◌else◌}
use Rattle.std.specs.Int.{Width, w32, w64, byte_len, from_be_bytes}
use Rattle.sd_rules.specs.declared.events.Row.{Row}
use Rattle.sd_rules.specs.declared.events.Row.TheVariants as rows
use Rattle.sd_rules.specs.declared.keys.Key.{Key}
use Rattle.sd_rules.specs.declared.keys.Key.TheVariants as keys
use Rattle.sd_rules.specs.declared.records.Answered.{Answered}
use Rattle.sd_rules.specs.declared.records.Answered.TheVariants.{Found, Absent}
use Rattle.sd_rules.specs.declared.records.Element.{Element}
use Rattle.sd_rules.specs.declared.records.Group.{Group}
use Rattle.sd_rules.specs.declared.records.GroupRef.{GroupRef}
use Rattle.sd_rules.specs.declared.records.Groups.{Groups}
use Rattle.sd_rules.specs.declared.records.Host.{Host}
use Rattle.sd_rules.specs.declared.records.Record.{Record}
use Rattle.sd_rules.specs.declared.records.Record.TheVariants as records
use Rattle.sd_rules.specs.declared.records.Rule.{Rule}
use Rattle.sd_rules.specs.declared.records.RuleBook.{RuleBook}
use Rattle.sd_rules.specs.declared.records.Service.{Service}
use Rattle.sd_rules.specs.declared.records.User.{User}
use Rattle.sd_keeper.specs.declared.rows.Version.{Version}
use Rattle.sd_keeper.specs.declared.rows.Version.TheVariants as versions
use Rattle.sd_keeper.specs.declared.field.FieldFault.{FieldFault}
use Rattle.sd_keeper.specs.declared.field.FieldFault.TheVariants as faults

infixl 10 ◌>>=◌
abbrev pub ◌>>=◌ : {A B : Type 0} → Option A → (A → Option B) → Option B
(Some x) >>= f = f x
None >>= f = None

-- what a reader of the code answers, seen by view, is what reading gives, unless memory ran out
abbrev pub Fails : {Y : Type 0} → FieldFault → Option Y → Type 0
Fails faults.Memory read = Unit {0}
Fails faults.Bad read = read ≡ None

abbrev pub Gives : {X Y : Type 0} → (X → Y) → Result X FieldFault → Option Y → Type 0
Gives view (Ok x) read = read ≡ Some (view x)
Gives view (Err fault) read = Fails fault read

-- one field behind another, and a field that is made of another
abbrev pub pair_at : {A B : Type 0} → (List ℕ → Option (A × List ℕ)) → (List ℕ → Option (B × List ℕ)) → List ℕ → Option ((A × B) × List ℕ)
pair_at first second bytes = first bytes >>= λ x. second x.1 >>= λ y. Some ((x.0, y.0), y.1)

abbrev pub made_at : {A B : Type 0} → (A → B) → (List ℕ → Option (A × List ℕ)) → List ℕ → Option (B × List ℕ)
made_at make field bytes = field bytes >>= λ x. Some (make x.0, x.1)

abbrev pub digits_at : Width → List ℕ → Option (ℕ × List ℕ)
digits_at w bytes =
    if nat_lt (length bytes) (byte_len w) then None else Some (from_be_bytes w (take (byte_len w) bytes), drop (byte_len w) bytes)

unfoldable pub number_at : List ℕ → Option (ℕ × List ℕ)
number_at bytes = digits_at w32 bytes

unfoldable pub long_at : List ℕ → Option (ℕ × List ℕ)
long_at bytes = digits_at w64 bytes

abbrev pub cut_at : ℕ × List ℕ → Option (List ℕ × List ℕ)
cut_at n = if nat_lt (length n.1) n.0 then None else Some (take n.0 n.1, drop n.0 n.1)

unfoldable pub text_at : List ℕ → Option (List ℕ × List ℕ)
text_at bytes = number_at bytes >>= cut_at

unfoldable pub items_at : {T : Type 0} → (List ℕ → Option (T × List ℕ)) → ℕ → List ℕ → Option (List T × List ℕ)
items_at item zero bytes = Some ([], bytes)
items_at item (suc n) bytes = item bytes >>= λ first. items_at item n first.1 >>= λ others. Some (first.0 ∷ others.0, others.1)

unfoldable pub list_at : {T : Type 0} → (List ℕ → Option (T × List ℕ)) → List ℕ → Option (List T × List ℕ)
list_at item bytes = number_at bytes >>= λ n. items_at item n.0 n.1

abbrev pub flag_by : ℕ → List ℕ → Option (Bool × List ℕ)
flag_by b rest = if b == 0 then Some (false, rest) else if b == 1 then Some (true, rest) else None

unfoldable pub flag_at : List ℕ → Option (Bool × List ℕ)
flag_at [] = None
flag_at (b ∷ rest) = flag_by b rest

abbrev pub optional_by : ℕ → List ℕ → Option (Option ℕ × List ℕ)
optional_by b rest =
    if b == 0 then Some (None, rest) else if b == 1 then made_at (λ n. Some n) number_at rest else None

unfoldable pub optional_at : List ℕ → Option (Option ℕ × List ℕ)
optional_at [] = None
optional_at (b ∷ rest) = optional_by b rest

abbrev pub user_of : List ℕ × (List ℕ × (ℕ × (ℕ × (List ℕ × (List ℕ × List ℕ))))) → User
user_of p =
    record { dn = p.0; name = p.1.0; uid = p.1.1.0; gid = p.1.1.1.0; gecos = p.1.1.1.1.0; home = p.1.1.1.1.1.0; shell = p.1.1.1.1.1.1 }

unfoldable pub user_at : List ℕ → Option (User × List ℕ)
user_at = made_at user_of (pair_at text_at (pair_at text_at (pair_at number_at (pair_at number_at (pair_at text_at (pair_at text_at text_at))))))

abbrev pub group_of : List ℕ × (List ℕ × (ℕ × List (List ℕ))) → Group
group_of p = record { dn = p.0; name = p.1.0; gid = p.1.1.0; members = p.1.1.1 }

unfoldable pub group_at : List ℕ → Option (Group × List ℕ)
group_at = made_at group_of (pair_at text_at (pair_at text_at (pair_at number_at (list_at text_at))))

abbrev pub group_ref_of : List ℕ × Option ℕ → GroupRef
group_ref_of p = record { name = p.0; gid = p.1 }

unfoldable pub group_ref_at : List ℕ → Option (GroupRef × List ℕ)
group_ref_at = made_at group_ref_of (pair_at text_at optional_at)

abbrev pub groups_of : List ℕ × List GroupRef → Groups
groups_of p = record { user = p.0; groups = p.1 }

unfoldable pub groups_at : List ℕ → Option (Groups × List ℕ)
groups_at = made_at groups_of (pair_at text_at (list_at group_ref_at))

abbrev pub host_of : List ℕ × List (List ℕ) → Host
host_of p = record { name = p.0; groups = p.1 }

unfoldable pub host_at : List ℕ → Option (Host × List ℕ)
host_at = made_at host_of (pair_at text_at (list_at text_at))

abbrev pub element_of : Bool × (List (List ℕ) × List (List ℕ)) → Element
element_of p = record { all = p.0; names = p.1.0; groups = p.1.1 }

unfoldable pub element_at : List ℕ → Option (Element × List ℕ)
element_at = made_at element_of (pair_at flag_at (pair_at (list_at text_at) (list_at text_at)))

abbrev pub rule_of : List ℕ × (Bool × (Element × (Element × Element))) → Rule
rule_of p = record { name = p.0; enabled = p.1.0; users = p.1.1.0; hosts = p.1.1.1.0; services = p.1.1.1.1 }

unfoldable pub rule_at : List ℕ → Option (Rule × List ℕ)
rule_at = made_at rule_of (pair_at text_at (pair_at flag_at (pair_at element_at (pair_at element_at element_at))))

abbrev pub service_of : List ℕ × List (List ℕ) → Service
service_of p = record { name = p.0; groups = p.1 }

unfoldable pub service_at : List ℕ → Option (Service × List ℕ)
service_at = made_at service_of (pair_at text_at (list_at text_at))

abbrev pub book_of : List Rule × List Service → RuleBook
book_of p = record { rules = p.0; services = p.1 }

unfoldable pub book_at : List ℕ → Option (RuleBook × List ℕ)
book_at = made_at book_of (pair_at (list_at rule_at) (list_at service_at))

abbrev pub record_by : ℕ → List ℕ → Option (Record × List ℕ)
record_by kind rest =
    if kind == 0 then made_at records.User user_at rest
    else if kind == 1 then made_at records.Group group_at rest
    else if kind == 2 then made_at records.Groups groups_at rest
    else if kind == 3 then made_at records.Host host_at rest
    else if kind == 4 then made_at records.Rules book_at rest
    else None

unfoldable pub record_at : List ℕ → Option (Record × List ℕ)
record_at [] = None
record_at (kind ∷ rest) = record_by kind rest

abbrev pub answer_by : ℕ → List ℕ → Option (Answered × List ℕ)
answer_by kind rest =
    if kind == 0 then made_at Found record_at rest
    else if kind == 1 then Some (Absent, rest)
    else None

unfoldable pub answer_at : List ℕ → Option (Answered × List ℕ)
answer_at [] = None
answer_at (kind ∷ rest) = answer_by kind rest

abbrev pub key_by : ℕ → List ℕ → Option (Key × List ℕ)
key_by kind rest =
    if kind == 0 then made_at keys.User text_at rest
    else if kind == 1 then made_at keys.Uid number_at rest
    else if kind == 2 then made_at keys.Group text_at rest
    else if kind == 3 then made_at keys.Gid number_at rest
    else if kind == 4 then made_at keys.GroupsOf text_at rest
    else if kind == 5 then Some (keys.Host, rest)
    else if kind == 6 then Some (keys.Rules, rest)
    else None

unfoldable pub key_at : List ℕ → Option (Key × List ℕ)
key_at [] = None
key_at (kind ∷ rest) = key_by kind rest

-- all of the bytes
abbrev pub whole : {T : Type 0} → Option (T × List ℕ) → Option T
whole None = None
whole (Some x) = if length x.1 == 0 then Some x.0 else None

abbrev pub head_of : ℕ × (ℕ × ℕ) → Row
head_of p = rows.Head p.0 p.1.0 p.1.1

unfoldable pub head_at : List ℕ → Option (Row × List ℕ)
head_at = made_at head_of (pair_at number_at (pair_at long_at long_at))

abbrev pub answer_row_of : ℕ × (ℕ × (Key × (Answered × Bool))) → Row
answer_row_of p = rows.Answer p.0 p.1.0 p.1.1.0 p.1.1.1.0 p.1.1.1.1

unfoldable pub answer_row_at : List ℕ → Option (Row × List ℕ)
answer_row_at = made_at answer_row_of (pair_at long_at (pair_at long_at (pair_at key_at (pair_at answer_at flag_at))))

abbrev pub wrong_of : ℕ × (ℕ × (List ℕ × ℕ)) → Row
wrong_of p = rows.Wrong p.0 p.1.0 p.1.1.0 p.1.1.1

unfoldable pub wrong_at : List ℕ → Option (Row × List ℕ)
wrong_at = made_at wrong_of (pair_at long_at (pair_at long_at (pair_at text_at long_at)))

abbrev pub fall_of : ℕ × (ℕ × ℕ) → Row
fall_of p = rows.Fall p.0 p.1.0 p.1.1

unfoldable pub fall_at : List ℕ → Option (Row × List ℕ)
fall_at = made_at fall_of (pair_at long_at (pair_at long_at number_at))

abbrev pub online_of : ℕ × (ℕ × List ℕ) → Row
online_of p = rows.Online p.0 p.1.0 p.1.1

unfoldable pub online_at : List ℕ → Option (Row × List ℕ)
online_at = made_at online_of (pair_at long_at (pair_at long_at text_at))

-- version 1 has no rows of online logins
abbrev pub online_by : Version → List ℕ → Option (Row × List ℕ)
online_by versions.First bytes = None
online_by versions.Second bytes = online_at bytes

-- a row that holds no hash, by its kind
abbrev pub plain_at : Version → ℕ → List ℕ → Option (Row × List ℕ)
plain_at version kind rest =
    if kind == 0 then head_at rest
    else if kind == 1 then answer_row_at rest
    else if kind == 3 then wrong_at rest
    else if kind == 4 then fall_at rest
    else if kind == 5 then online_by version rest
    else None

-- what a row of a hash holds: number, moment, user and the hash's text
unfoldable pub hashed_at : List ℕ → Option ((ℕ × (ℕ × (List ℕ × List ℕ))) × List ℕ)
hashed_at = pair_at long_at (pair_at long_at (pair_at text_at text_at))
