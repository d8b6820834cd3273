-- What the words of the tools ask of a netgroup.
use Rattle.std.specs.Prelude.{ℕ, if◌then◌else◌, List, [], ◌∷◌, Option, Some, None, codes}
use Rattle.sd_match.specs.Answering.{same_bytes}
use Rattle.sd_netgroup.specs.declared.words.Member.{Member}
use Rattle.sd_netgroup.specs.declared.words.Question.{Question}

-- `*` asks nothing of a field
abbrev pub field_of : List ℕ → Option (List ℕ)
field_of word = if same_bytes word (codes "*") then None else Some word

-- its triples
abbrev pub about_where : List ℕ → List ℕ → Option Question
about_where tool name = if same_bytes tool (codes "netgroup") then Some (record { name = name; member = None }) else None

abbrev pub member_of : List ℕ → List ℕ → List ℕ → Member
member_of host user domain = record { host = field_of host; user = field_of user; domain = field_of domain }

-- whether a host, a user and a domain are in it
abbrev pub about_member_where : List ℕ → List ℕ → List ℕ → List ℕ → List ℕ → Option Question
about_member_where tool name host user domain =
    if same_bytes tool (codes "innetgr") then Some (record { name = name; member = Some (member_of host user domain) }) else None

-- `netgroup CONF LDIF NAME` and `innetgr CONF LDIF NAME HOST USER DOMAIN`
abbrev pub question_of : List (List ℕ) → Option Question
question_of (tool ∷ conf ∷ ldif ∷ name ∷ []) = about_where tool name
question_of (tool ∷ conf ∷ ldif ∷ name ∷ host ∷ user ∷ domain ∷ []) = about_member_where tool name host user domain
question_of _ = None
