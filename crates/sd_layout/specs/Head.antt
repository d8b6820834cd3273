-- The head of a scenario, which gives the configuration: a block, or any number of lines that set an option.
use Rattle.std.specs.Prelude.{ℕ, Bool, true, false, ◌&&◌, ◌+◌, ◌-◌, ◌++◌, not, is_some, unwrap_or, slice_get, List, [], ◌∷◌, Option, Some, None, codes, if◌then◌else◌}
use Rattle.sd_rules.specs.Keys.{same_name}
use Rattle.sd_conf.specs.declared.ConfFault.{ConfFault}
use Rattle.sd_conf.specs.declared.ConfFault.TheVariants as faults
use Rattle.sd_lines.specs.Words.{is_word, lines_of, first_word}
use Rattle.sd_lines.specs.Lines.{line_of, is_blank}
use Rattle.sd_layout.specs.Blocks.{begins_block, ends_block}

-- A configuration's text; for each of its lines the line of the scenario that it comes from; and the line that is at fault
-- where a refusal names none.
pub record Origin : Type 0 where
  pub text : List ℕ
  pub numbers : List ℕ
  pub last : ℕ

-- The head: where its configuration comes from, whether it is whole, the number of the first line behind it, and these lines.
pub record Head : Type 0 where
  pub origin : Origin
  pub is_whole : Bool
  pub number : ℕ
  pub body : List (List ℕ)

-- ---- a block, from the line `conf` to a line that is a dot alone

-- the text with a line of the scenario
abbrev pub with_line : Origin → ℕ → List ℕ → Origin
with_line o n line = record { text = o.text ++ (line ++ codes "\n"); numbers = o.numbers ++ n ∷ []; last = o.last }

abbrev pub ended : Origin → ℕ → Origin
ended o n = record { text = o.text; numbers = o.numbers; last = n }

-- a block that began at the line `first`, from the line n on; one without its end has a fault at its first line
abbrev pub block_from : ℕ → ℕ → Origin → List (List ℕ) → Head
block_from first n o [] = record { origin = ended o first; is_whole = false; number = n; body = [] }
block_from first n o (l ∷ ls) =
    if ends_block l then record { origin = ended o n; is_whole = true; number = n + 1; body = ls }
    else block_from first (n + 1) (with_line o n l) ls

-- ---- set SECTION OPTION = VALUE

-- the section of a word; that of the one domain is `domain/test`
abbrev pub section_of : List ℕ → Option (List ℕ)
section_of w =
    if same_name w (codes "sssd") then Some (codes "[sssd]\n")
    else if same_name w (codes "nss") then Some (codes "[nss]\n")
    else if same_name w (codes "pam") then Some (codes "[pam]\n")
    else if same_name w (codes "domain") then Some (codes "[domain/test]\n")
    else None

-- the text that such a line adds: its section, and the option with the rest of the line for its value
abbrev pub option_text : List ℕ → List ℕ → List ℕ → List ℕ
option_text section option value = section ++ (option ++ (codes " = " ++ (value ++ codes "\n")))

abbrev pub setting_by_words : Option (List ℕ) → List ℕ → List ℕ → Option (List ℕ) → Option (List ℕ)
setting_by_words (Some section) option equals value =
    if is_word option && same_name equals (codes "=") then Some (option_text section option (unwrap_or value [])) else None
setting_by_words None option equals value = None

-- what is left of a line, as the bytes of a line
abbrev pub rest_of : Option (List ℕ) → List ℕ
rest_of rest = unwrap_or rest []

abbrev pub setting_by_equals : Option (List ℕ) → List ℕ → List ℕ × Option (List ℕ) → Option (List ℕ)
setting_by_equals section option equals = setting_by_words section option equals.0 equals.1

abbrev pub setting_by_option : Option (List ℕ) → List ℕ × Option (List ℕ) → Option (List ℕ)
setting_by_option section option = setting_by_equals section option.0 (first_word (rest_of option.1))

abbrev pub setting_by_section : List ℕ × Option (List ℕ) → Option (List ℕ)
setting_by_section section = setting_by_option (section_of section.0) (first_word (rest_of section.1))

abbrev pub setting_by_set : List ℕ × Option (List ℕ) → Option (List ℕ)
setting_by_set w = if same_name w.0 (codes "set") then setting_by_section (first_word (rest_of w.1)) else None

-- the text that a line adds, where it sets an option
abbrev pub setting_of : List ℕ → Option (List ℕ)
setting_of line = setting_by_set (first_word line)

-- the text with that of a line that sets an option: a section's line and the option's
abbrev pub with_setting : Origin → ℕ → Option (List ℕ) → Origin
with_setting o n (Some text) = record { text = o.text ++ text; numbers = o.numbers ++ n ∷ n ∷ []; last = n }
with_setting o n None = o

-- the lines that set options, from the line n on; lines that are passed over may stand between them
abbrev pub settings_from : ℕ → Origin → List (List ℕ) → Head
settings_from n o [] = record { origin = o; is_whole = true; number = n; body = [] }
settings_from n o (l ∷ ls) =
    if is_blank (line_of l) then settings_from (n + 1) o ls
    else if is_some (setting_of l) then settings_from (n + 1) (with_setting o n (setting_of l)) ls
    else record { origin = o; is_whole = true; number = n; body = l ∷ ls }

-- ---- the head

-- the configuration where a scenario gives none: seven lines, none of which is refused
abbrev pub default_text : List ℕ
default_text = codes "[sssd]\ndomains = test\n[domain/test]\nid_provider = ldap\nldap_uri = ldap://s0\nldap_search_base = dc=test\nipa_hostname = client.test\n"

abbrev pub default_origin : Origin
default_origin = record { text = default_text; numbers = 1 ∷ 1 ∷ 1 ∷ 1 ∷ 1 ∷ 1 ∷ 1 ∷ []; last = 1 }

abbrev pub block_origin : Origin
block_origin = record { text = []; numbers = []; last = 1 }

abbrev pub head_from : ℕ → List (List ℕ) → Head
head_from n [] = settings_from n default_origin []
head_from n (l ∷ ls) =
    if is_blank (line_of l) then head_from (n + 1) ls
    else if begins_block (codes "conf") l then block_from n (n + 1) block_origin ls
    else settings_from n default_origin (l ∷ ls)

abbrev pub head_of : List ℕ → Head
head_of text = head_from 1 (lines_of text)

-- the line of the scenario that is at fault where a line of the configuration is
abbrev pub line_in : Origin → ℕ → ℕ
line_in o line = unwrap_or (slice_get o.numbers (line - 1)) o.last

-- the line of the scenario that is at fault where the configuration is refused
abbrev pub refused_line : Origin → ConfFault → ℕ
refused_line o (faults.BadLine line) = line_in o line
refused_line o (faults.NoSection line) = line_in o line
refused_line o (faults.BadValue line) = line_in o line
refused_line o (faults.ManyDomains count) = o.last
refused_line o faults.NoDomain = o.last
refused_line o (faults.Missing name) = o.last
refused_line o faults.Memory = o.last
