-- Lines that put users and groups.
use Rattle.std.specs.Prelude.{ℕ, ◌==◌, List, [], ◌∷◌, Option, Some, None, if◌then◌else◌}
use Rattle.sd_lines.specs.declared.lines.Line.{Line}
use Rattle.sd_lines.specs.declared.lines.Line.TheVariants.{User, Group, Bad}
use Rattle.sd_lines.specs.declared.lines.Member.{Member}
use Rattle.sd_lines.specs.declared.lines.Member.TheVariants as members
use Rattle.sd_lines.specs.Words.{is_short_name, is_word, id_of, tag_of, all_of}

-- ---- user NAME UID GID [PASSWORD]

-- the password of the words behind the numbers, where these words have a form
abbrev pub password_of : List (List ℕ) → Option (Option (List ℕ))
password_of [] = Some None
password_of (w ∷ []) = if is_word w then Some (Some w) else None
password_of _ = None

abbrev pub user_with : List ℕ → ℕ → ℕ → Option (Option (List ℕ)) → Line
user_with name uid gid None = Bad
user_with name uid gid (Some password) =
    if is_short_name name then User (record { name = name; uid = uid; gid = gid; password = password }) else Bad

abbrev pub user_line : List ℕ → Option ℕ → Option ℕ → List (List ℕ) → Line
user_line name (Some uid) (Some gid) rest = user_with name uid gid (password_of rest)
user_line name (Some uid) None rest = Bad
user_line name None gid rest = Bad

abbrev pub user_by_words : Option (List ℕ × (List ℕ × (List ℕ × List (List ℕ)))) → Line
user_by_words (Some ws) = user_line ws.0 (id_of ws.1.0) (id_of ws.1.1.0) ws.1.1.1
user_by_words None = Bad

-- ---- group NAME GID MEMBER..., a MEMBER being u:NAME or g:NAME

abbrev pub member_by_tag : Option (ℕ × List ℕ) → Option Member
member_by_tag None = None
member_by_tag (Some t) =
    if is_short_name t.1 then (if t.0 == 117 then Some (members.User t.1) else if t.0 == 103 then Some (members.Group t.1) else None)
    else None

abbrev pub member_of : List ℕ → Option Member
member_of w = member_by_tag (tag_of w)

-- the members of all words, where each is one
abbrev pub members_of : List (List ℕ) → Option (List Member)
members_of ws = all_of member_of ws

abbrev pub group_with : List ℕ → ℕ → Option (List Member) → Line
group_with name gid None = Bad
group_with name gid (Some found) = if is_short_name name then Group (record { name = name; gid = gid; members = found }) else Bad

abbrev pub group_line : List ℕ → Option ℕ → List (List ℕ) → Line
group_line name None ws = Bad
group_line name (Some gid) ws = group_with name gid (members_of ws)

abbrev pub group_by_words : Option (List ℕ × (List ℕ × List (List ℕ))) → Line
group_by_words (Some ws) = group_line ws.0 (id_of ws.1.0) ws.1.1
group_by_words None = Bad
