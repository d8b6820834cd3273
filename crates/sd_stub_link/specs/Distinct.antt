-- Whether entries have DNs of their own, as a test.
use Rattle.std.specs.Prelude.{Bool, true, not, ◌&&◌, List, [], ◌∷◌}
use Rattle.std.specs.List.{list_any}
use Rattle.sd_dn.specs.Texts.{same_dn_text}
use Rattle.sd_ldap.specs.declared.entry.DirEntry.{DirEntry}

abbrev pub is_own_dn : DirEntry → List DirEntry → Bool
is_own_dn e others = not (list_any (λ (other : DirEntry). same_dn_text e.dn other.dn) others)

-- no two have equal DNs
unfoldable pub have_own_dns : List DirEntry → Bool
have_own_dns [] = true
have_own_dns (e ∷ es) = is_own_dn e es && have_own_dns es
