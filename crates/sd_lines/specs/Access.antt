-- Lines that put hosts, services and access rules, and lines that take entries out.
use Rattle.std.specs.Prelude.{ℕ, Bool, false, not, ◌&&◌, ◌==◌, List, [], ◌∷◌, Option, Some, None, codes, if◌then◌else◌}
use Rattle.std.specs.List.{list_all}
use Rattle.sd_rules.specs.Keys.{same_name}
use Rattle.sd_lines.specs.declared.lines.Kind.{Kind}
use Rattle.sd_lines.specs.declared.lines.Kind.TheVariants as kinds
use Rattle.sd_lines.specs.declared.lines.Line.{Line}
use Rattle.sd_lines.specs.declared.lines.Line.TheVariants.{Host, Service, Rule, Remove, Bad}
use Rattle.sd_lines.specs.declared.lines.Item.{Item}
use Rattle.sd_lines.specs.declared.lines.Side.{Side}
use Rattle.sd_lines.specs.declared.lines.Side.TheVariants as sides
use Rattle.sd_lines.specs.declared.lines.Whom.{Whom}
use Rattle.sd_lines.specs.declared.lines.Whom.TheVariants as whoms
use Rattle.sd_lines.specs.Words.{is_short_name, tag_of, cut_of, all_of}

-- ---- host NAME GROUP... and service NAME GROUP...

abbrev pub are_short_names : List (List ℕ) → Bool
are_short_names ws = list_all is_short_name ws

abbrev pub host_by_words : Option (List ℕ × List (List ℕ)) → Line
host_by_words (Some ws) =
    if is_short_name ws.0 && are_short_names ws.1 then Host (record { name = ws.0; groups = ws.1 }) else Bad
host_by_words None = Bad

abbrev pub service_by_words : Option (List ℕ × List (List ℕ)) → Line
service_by_words (Some ws) =
    if is_short_name ws.0 && are_short_names ws.1 then Service (record { name = ws.0; groups = ws.1 }) else Bad
service_by_words None = Bad

-- ---- rule NAME [disabled] ITEM..., an ITEM being user=, host= or service= with all, g:GROUP, or a name behind the letter of
-- ---- its kind

abbrev pub side_of : List ℕ → Option Side
side_of w =
    if same_name w (codes "user") then Some sides.User
    else if same_name w (codes "host") then Some sides.Host
    else if same_name w (codes "service") then Some sides.Service
    else None

-- the letter that stands before a name: u, h and s
abbrev pub letter_of : Side → ℕ
letter_of sides.User = 117
letter_of sides.Host = 104
letter_of sides.Service = 115

abbrev pub whom_by_tag : Side → Option (ℕ × List ℕ) → Option Whom
whom_by_tag side None = None
whom_by_tag side (Some t) =
    if is_short_name t.1 then (if t.0 == letter_of side then Some (whoms.Name t.1) else if t.0 == 103 then Some (whoms.Group t.1) else None)
    else None

abbrev pub whom_of : Side → List ℕ → Option Whom
whom_of side w = if same_name w (codes "all") then Some whoms.All else whom_by_tag side (tag_of w)

abbrev pub item_with : Side → Option Whom → Option Item
item_with side None = None
item_with side (Some whom) = Some (record { side = side; whom = whom })

abbrev pub item_on : Option Side → List ℕ → Option Item
item_on None whom = None
item_on (Some side) whom = item_with side (whom_of side whom)

abbrev pub item_by_parts : List ℕ → Option (List ℕ) → Option Item
item_by_parts side None = None
item_by_parts side (Some whom) = item_on (side_of side) whom

-- the item of a word, which = parts
abbrev pub item_of : List ℕ → Option Item
item_of w = item_by_parts (cut_of 61 w).0 (cut_of 61 w).1

-- the items of all words, where each is one
abbrev pub items_of : List (List ℕ) → Option (List Item)
items_of ws = all_of item_of ws

abbrev pub is_word_disabled : List (List ℕ) → Bool
is_word_disabled [] = false
is_word_disabled (w ∷ ws) = same_name w (codes "disabled")

-- the words of the items
abbrev pub item_words : List (List ℕ) → List (List ℕ)
item_words [] = []
item_words (w ∷ ws) = if same_name w (codes "disabled") then ws else w ∷ ws

abbrev pub rule_with : List ℕ → Bool → Option (List Item) → Line
rule_with name is_enabled None = Bad
rule_with name is_enabled (Some found) =
    if is_short_name name then Rule (record { name = name; is_enabled = is_enabled; items = found }) else Bad

abbrev pub rule_by_words : Option (List ℕ × List (List ℕ)) → Line
rule_by_words (Some ws) = rule_with ws.0 (not (is_word_disabled ws.1)) (items_of (item_words ws.1))
rule_by_words None = Bad

-- ---- remove KIND NAME

abbrev pub kind_of : List ℕ → Option Kind
kind_of w =
    if same_name w (codes "user") then Some kinds.User
    else if same_name w (codes "group") then Some kinds.Group
    else if same_name w (codes "host") then Some kinds.Host
    else if same_name w (codes "service") then Some kinds.Service
    else if same_name w (codes "rule") then Some kinds.Rule
    else None

abbrev pub removed : Option Kind → List ℕ → Line
removed None name = Bad
removed (Some kind) name = if is_short_name name then Remove kind name else Bad

abbrev pub remove_by_words : Option (List ℕ × List ℕ) → Line
remove_by_words (Some ws) = removed (kind_of ws.0) ws.1
remove_by_words None = Bad
