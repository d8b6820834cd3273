-- What is printed of sudo rules.
use Rattle.std.specs.Prelude.{ℕ, ◌++◌, List, codes}
use Rattle.std.specs.Fmt.{signed_decimal}
use Rattle.std.specs.List.{flat_map}
use Rattle.sd_ldap.specs.declared.entry.Attribute.{Attribute}
use Rattle.sd_wire.specs.Escapes.{field}
use Rattle.sd_roles.specs.declared.roles.Role.{Role}

-- a space, the attribute's name, a space and the value
abbrev pub value_line : List ℕ → List ℕ → List ℕ
value_line name value = codes " " ++ (name ++ (codes " " ++ (field value ++ codes "\n")))

-- a line for each value
abbrev pub value_lines : Attribute → List ℕ
value_lines a = flat_map (value_line a.name) a.values

-- the order, a space and the name, escaped
abbrev pub head_line : Role → List ℕ
head_line r = signed_decimal r.order ++ (codes " " ++ (field r.name ++ codes "\n"))

-- what is handed to sudo stands behind it
abbrev pub rule_lines : Role → List ℕ
rule_lines r = head_line r ++ flat_map value_lines r.handed

abbrev pub lines_of : List Role → List ℕ
lines_of roles = flat_map rule_lines roles
