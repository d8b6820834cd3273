-- Which words ask for what.
use Rattle.std.specs.Prelude.{◌≡◌, ◌≢◌, ◌≤◌, ℕ, Bool, true, false, codes, List, [], ◌∷◌, Option, Some, None, if◌then◌else◌}
use Rattle.sd_ldap_server.specs.Addresses.{is_address}
use Rattle.sd_storm.specs.Words as loads
use Rattle.sd_rules.specs.Keys.{same_name}
use Rattle.sd_tools.specs.Options.{requests_of}
use Rattle.sd_tools.specs.Queries.{query_of}
use Rattle.sd_serve.specs.declared.words.Kind.{Kind}
use Rattle.sd_serve.specs.declared.words.Kind.TheVariants as kinds

-- a word alone
abbrev pub kind_of_word : List ℕ → Kind
kind_of_word word =
    if same_name word (codes "scenario") then kinds.Scenario
    else if same_name word (codes "idmap") then kinds.Idmap
    else if same_name word (codes "--help") then kinds.Help
    else if same_name word (codes "--version") then kinds.Version
    else kinds.Unknown

-- a load of so many requests, where a number of them is named
abbrev pub kind_by_load : Option ℕ → Kind
kind_by_load (Some requests) = kinds.Storm
kind_by_load None = kinds.Unknown

-- two words in all
abbrev pub kind_of_two : List ℕ → List ℕ → Kind
kind_of_two word second = if same_name word (codes "storm") then kind_by_load (loads.requests_of second) else kinds.Unknown

-- a directory is served where its address has a form
abbrev pub kind_by_address : List ℕ → Kind
kind_by_address address = if is_address address then kinds.Directory else kinds.Unknown

-- three
abbrev pub kind_of_three : List ℕ → List ℕ → Kind
kind_of_three word third =
    if same_name word (codes "serve") then kinds.Serve
    else if same_name word (codes "directory") then kind_by_address third
    else kinds.Unknown

-- four
abbrev pub kind_of_four : List ℕ → Kind
kind_of_four word =
    if same_name word (codes "serve") then kinds.Serve
    else if same_name word (codes "netgroup") then kinds.Netgroup
    else if same_name word (codes "sudo") then kinds.Sudo
    else kinds.Unknown

-- seven
abbrev pub kind_of_seven : List ℕ → Kind
kind_of_seven word = if same_name word (codes "innetgr") then kinds.Netgroup else kinds.Unknown

-- by the second, and the words behind it
abbrev pub kind_by_rest : List ℕ → List ℕ → List (List ℕ) → Kind
kind_by_rest word second [] = kind_of_two word second
kind_by_rest word second (third ∷ []) = kind_of_three word third
kind_by_rest word second (third ∷ fourth ∷ []) = kind_of_four word
kind_by_rest word second (third ∷ fourth ∷ fifth ∷ sixth ∷ seventh ∷ []) = kind_of_seven word
kind_by_rest word second _ = kinds.Unknown

-- a word with a path behind it, and the words behind that
abbrev pub kind_of_tool : List ℕ → List ℕ → List (List ℕ) → Kind
kind_of_tool tool operand rest =
    if same_name tool (codes "query") then kinds.Query
    else if same_name tool (codes "cache") then kinds.Cache
    else kind_by_rest tool operand rest

abbrev pub kind_of : List (List ℕ) → Kind
kind_of [] = kinds.Unknown
kind_of (word ∷ []) = kind_of_word word
kind_of (tool ∷ operand ∷ rest) = kind_of_tool tool operand rest

-- the word behind the first: the path of a socket, of a configuration or of an LDIF, or how many requests a load has
abbrev pub operand_of : List (List ℕ) → List ℕ
operand_of (tool ∷ operand ∷ rest) = operand
operand_of _ = []

-- the words behind that
abbrev pub behind_operand : List (List ℕ) → List (List ℕ)
behind_operand (tool ∷ operand ∷ rest) = rest
behind_operand _ = []

abbrev pub first_of : List (List ℕ) → List ℕ
first_of [] = []
first_of (first ∷ rest) = first

-- there is another word behind the first: the path of a store
abbrev pub has_second : List (List ℕ) → Bool
has_second (first ∷ second ∷ rest) = true
has_second _ = false

-- the words behind a tool have no form
abbrev pub LacksForm : Kind → List (List ℕ) → Type 0
LacksForm kinds.Query rest = query_of rest ≡ None
LacksForm kinds.Cache rest = requests_of rest ≡ None
LacksForm kinds.Unknown rest = Unit {0}
LacksForm _ rest = ⊥

-- the words of a program have no form
abbrev pub HasNoForm : List (List ℕ) → Type 0
HasNoForm words = LacksForm (kind_of words) (behind_operand words)

-- the words of a query that ends the daemon
abbrev pub is_stop : List (List ℕ) → Bool
is_stop (word ∷ []) = same_name word (codes "stop")
is_stop _ = false

-- the words need nothing of the host: neither files, nor a store, nor clients
abbrev pub NeedsNoHost : Kind → Type 0
NeedsNoHost kinds.Serve = ⊥
NeedsNoHost kinds.Netgroup = ⊥
NeedsNoHost kinds.Sudo = ⊥
NeedsNoHost kinds.Directory = ⊥
NeedsNoHost _ = Unit {0}

-- the words read the input
abbrev pub ReadsInput : Kind → Type 0
ReadsInput kinds.Scenario = Unit {0}
ReadsInput kinds.Idmap = Unit {0}
ReadsInput kinds.Query = Unit {0}
ReadsInput _ = ⊥

-- the statuses of the program: 0, and 2 to 17
abbrev pub IsStatus : ℕ → Type 0
IsStatus status = (status ≢ 1) × (status ≤ 17)
