-- What a directory answers, over the list of its entries.
use Rattle.std.specs.Prelude.{ℕ, ◌+◌, Bool, true, false, not, ◌&&◌, ◌||◌, ◌==◌, nat_lt, nat_le, if◌then◌else◌, List, [], ◌∷◌, ◌++◌, length, map, filter, take, codes}
use Rattle.std.specs.List.{list_any, flat_map}
use Rattle.std.specs.Cmp.Lexicographic.{pointwise}
use Rattle.sd_dn.specs.declared.Pair.{Pair}
use Rattle.sd_dn.specs.Comparing.{same_text, same_dn, ends_with}
use Rattle.sd_dn.specs.Texts.{spelled, both_meet, same_dn_text}
use Rattle.sd_ldap.specs.declared.result.LdapResult.{LdapResult}
use Rattle.sd_ldap.specs.declared.entry.Attribute.{Attribute}
use Rattle.sd_ldap.specs.declared.entry.DirEntry.{DirEntry}
use Rattle.sd_ldap.specs.Values.{SearchValue, OperationValue, MessageValue, bind_request, bind_response, unbind, search, entry, done, reference, other}
use Rattle.sd_ldap.specs.MessageReading.{DecodedValue, whole, unfinished, wrong, decode_of}
use Rattle.sd_ldap.specs.Spelling.{message_bytes}
use Rattle.sd_match.specs.Matching.{matches, has_unsupported}

-- a result has an empty DN and an empty message
abbrev pub told : ℕ → LdapResult
told code = record { code = code; dn = []; message = [] }

abbrev pub reply : ℕ → OperationValue → MessageValue
reply id operation = record { id = id; operation = operation }

-- byte for byte
abbrev pub same_bytes : List ℕ → List ℕ → Bool
same_bytes = pointwise ◌==◌

abbrev pub is_empty : List ℕ → Bool
is_empty text = length text == 0

-- ---- binds

abbrev pub is_password : Attribute → Bool
is_password a = same_text a.name (codes "userPassword")

-- the password is among the entry's
abbrev pub has_password : List ℕ → DirEntry → Bool
has_password password e = list_any (λ (a : Attribute). is_password a && list_any (λ value. same_bytes value password) a.values) e.attributes

-- an entry of this DN has the password
abbrev pub is_right : List DirEntry → List ℕ → List ℕ → Bool
is_right entries name password = list_any (λ (e : DirEntry). same_dn_text e.dn name && has_password password e) entries

-- 0 for nobody without a password, 53 for a name without one, 0 for the right password, else 49
abbrev pub bind_code : List DirEntry → List ℕ → List ℕ → ℕ
bind_code entries name password =
    if is_empty password then (if is_empty name then 0 else 53)
    else if is_right entries name password then 0
    else 49

-- ---- searches

-- one level below
abbrev pub is_child : List (List Pair) → List (List Pair) → Bool
is_child dn base = (length dn == length base + 1) && ends_with dn base

-- the base itself, its direct children, or the base and all below it
abbrev pub in_scope : ℕ → List (List Pair) → List (List Pair) → Bool
in_scope scope dn base = if scope == 0 then same_dn dn base else if scope == 1 then is_child dn base else ends_with dn base

-- an entry whose text is no DN is nowhere, and so is a base that is none
abbrev pub is_at_or_under : List ℕ → DirEntry → Bool
is_at_or_under base e = both_meet ends_with (spelled e.dn) (spelled base)

abbrev pub is_found : SearchValue → DirEntry → Bool
is_found s e = both_meet (in_scope s.scope) (spelled e.dn) (spelled s.base) && matches s.filter e.attributes

-- the entries found, in their order
abbrev pub found : List DirEntry → SearchValue → List DirEntry
found entries s = filter (λ (e : DirEntry). is_found s e) entries

-- ---- what is sent of an entry

-- no attribute in particular, or `*`, asks for all
abbrev pub asks_for_all : List (List ℕ) → Bool
asks_for_all asked = (length asked == 0) || list_any (λ text. same_bytes text (codes "*")) asked

abbrev pub is_asked : List (List ℕ) → Attribute → Bool
is_asked asked a = asks_for_all asked || list_any (λ text. same_text text a.name) asked

-- passwords are never sent
abbrev pub is_sent : List (List ℕ) → Attribute → Bool
is_sent asked a = not (is_password a) && is_asked asked a

abbrev pub sent_values : Bool → List (List ℕ) → List (List ℕ)
sent_values types_only values = if types_only then [] else values

-- an attribute, or its type alone
abbrev pub sent_attribute : Bool → Attribute → Attribute
sent_attribute types_only a = record { name = a.name; values = sent_values types_only a.values }

-- the attributes asked for, in their order and spelling
abbrev pub sent_attributes : Bool → List (List ℕ) → List Attribute → List Attribute
sent_attributes types_only asked attributes = map (λ (a : Attribute). sent_attribute types_only a) (filter (λ (a : Attribute). is_sent asked a) attributes)

abbrev pub sent : SearchValue → DirEntry → DirEntry
sent s e = record { dn = e.dn; attributes = sent_attributes s.types_only s.attributes e.attributes }

-- ---- how many are sent

-- more are found than may be sent, where there is a limit
abbrev pub is_past_limit : ℕ → List DirEntry → Bool
is_past_limit size entries = nat_lt 0 size && nat_lt size (length entries)

abbrev pub limited : ℕ → List DirEntry → List DirEntry
limited size entries = if is_past_limit size entries then take size entries else entries

-- 0 after all of them, 4 after as many as the limit
abbrev pub search_code : ℕ → List DirEntry → ℕ
search_code size entries = if is_past_limit size entries then 4 else 0

-- the entries, each in a message, then the code
abbrev pub found_replies : ℕ → SearchValue → List DirEntry → List MessageValue
found_replies id s entries =
    map (λ (e : DirEntry). reply id (entry (sent s e))) (limited s.size entries) ++ reply id (done (told (search_code s.size entries))) ∷ []

-- 53 where a part of the filter is not supported, 32 where no entry is at or under the base
abbrev pub search_replies : List DirEntry → ℕ → SearchValue → List MessageValue
search_replies entries id s =
    if has_unsupported s.filter then reply id (done (told 53)) ∷ []
    else if list_any (λ (e : DirEntry). is_at_or_under s.base e) entries then found_replies id s (found entries s)
    else reply id (done (told 32)) ∷ []

-- ---- messages

abbrev pub replies_by : List DirEntry → ℕ → OperationValue → List MessageValue
replies_by entries id (bind_request version name password) = reply id (bind_response (told (bind_code entries name password))) ∷ []
replies_by entries id unbind = []
replies_by entries id (search request) = search_replies entries id request
replies_by entries id (bind_response result) = reply id (done (told 53)) ∷ []
replies_by entries id (entry found) = reply id (done (told 53)) ∷ []
replies_by entries id (done result) = reply id (done (told 53)) ∷ []
replies_by entries id reference = reply id (done (told 53)) ∷ []
replies_by entries id (other tag) = reply id (done (told 53)) ∷ []

-- the messages that answer a message
abbrev pub replies_to : List DirEntry → MessageValue → List MessageValue
replies_to entries m = replies_by entries m.id m.operation

-- the bytes that answer a message
abbrev pub reply_bytes : List DirEntry → MessageValue → List ℕ
reply_bytes entries m = flat_map message_bytes (replies_to entries m)

abbrev pub answer_decoded : List DirEntry → ℕ → DecodedValue → List ℕ
answer_decoded entries len (whole message used) = if used == len then reply_bytes entries message else []
answer_decoded entries len unfinished = []
answer_decoded entries len (wrong at) = []

-- The bytes that answer a piece of bytes: where it is exactly one message, of at most 16 MiB, those of the
-- replies to that message, else none.
abbrev pub answer_to : List DirEntry → List ℕ → List ℕ
answer_to entries piece = answer_decoded entries (length piece) (decode_of piece)
