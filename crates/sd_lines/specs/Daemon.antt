-- Lines of the moment, of servers, and of what happens to the daemon at once.
use Rattle.std.specs.Prelude.{ℕ, nat_le, ◌^◌, ◌-◌, List, [], ◌∷◌, Option, Some, None, codes, if◌then◌else◌}
use Rattle.sd_rules.specs.Keys.{same_name}
use Rattle.sd_rules.specs.declared.keys.What.TheVariants as whats
use Rattle.sd_stub.specs.declared.Mode.{Mode}
use Rattle.sd_stub.specs.declared.Mode.TheVariants as modes
use Rattle.sd_lines.specs.declared.lines.Line.{Line}
use Rattle.sd_lines.specs.declared.lines.Line.TheVariants.{At, Server, Void, Bad}
use Rattle.sd_pieces.specs.Digits.{number_up_to}
use Rattle.sd_lines.specs.Words.{is_word, id_of}

-- ---- at T: the moment that is handed in from here on

abbrev pub at_line : Option ℕ → Line
at_line (Some moment) = At moment
at_line None = Bad

abbrev pub at_moment : Option (List ℕ) → Line
at_moment (Some moment) = at_line (number_up_to (2 ^ 64 - 1) moment)
at_moment None = Bad

-- ---- server I MODE

abbrev pub plain_mode : List ℕ → Option Mode
plain_mode w =
    if same_name w (codes "up") then Some modes.Up
    else if same_name w (codes "down") then Some modes.Down
    else if same_name w (codes "cut") then Some modes.Cut
    else if same_name w (codes "indef") then Some modes.Indef
    else if same_name w (codes "long") then Some modes.Long
    else None

-- result codes of LDAP that are taken here are 1 to 90
abbrev pub code_mode : Option ℕ → Option Mode
code_mode None = None
code_mode (Some code) = if nat_le 1 code then Some (modes.Code code) else None

abbrev pub mode_of : List (List ℕ) → Option Mode
mode_of (w ∷ []) = plain_mode w
mode_of (w ∷ code ∷ []) = if same_name w (codes "code") then code_mode (number_up_to 90 code) else None
mode_of _ = None

abbrev pub server_line : Option ℕ → Option Mode → Line
server_line (Some server) (Some mode) = Server server mode
server_line (Some server) None = Bad
server_line None mode = Bad

abbrev pub server_by_words : Option (List ℕ × List (List ℕ)) → Line
server_by_words (Some ws) = server_line (id_of ws.0) (mode_of ws.1)
server_by_words None = Bad

-- ---- void all, void users, void groups, void user WORD, void group WORD: invalidations

abbrev pub void_of_all : List ℕ → Line
void_of_all kind =
    if same_name kind (codes "all") then Void whats.All
    else if same_name kind (codes "users") then Void whats.Users
    else if same_name kind (codes "groups") then Void whats.Groups
    else Bad

abbrev pub void_of_named : List ℕ → List ℕ → Line
void_of_named kind name =
    if same_name kind (codes "user") then Void (whats.User name)
    else if same_name kind (codes "group") then Void (whats.Group name)
    else Bad

abbrev pub void_of_one : List ℕ → List ℕ → Line
void_of_one kind name = if is_word name then void_of_named kind name else Bad

abbrev pub void_form : List (List ℕ) → Line
void_form (kind ∷ []) = void_of_all kind
void_form (kind ∷ name ∷ []) = void_of_one kind name
void_form _ = Bad
