-- The parts that messages are made of.
use Rattle.std.specs.Prelude.{ℕ, ℤ, pos, negsuc, Bool, not, ◌==◌, ◌&&◌, nat_le, if◌then◌else◌, List, [], ◌∷◌, Result, Ok, Err}
use Rattle.sd_ber.specs.declared.fault.BerFault.{BerFault}
use Rattle.sd_ber.specs.Reading.{Reading, Opened, element_at, integer_at}
use Rattle.sd_ldap.specs.declared.entry.Attribute.{Attribute}
use Rattle.sd_ldap.specs.declared.entry.DirEntry.{DirEntry}
use Rattle.sd_ldap.specs.declared.result.LdapResult.{LdapResult}
use Rattle.sd_ldap.specs.Monad.{◌>>=◌, ended, all_of}

-- the next element: where there is none its place is that of the end
abbrev pub placed : {A : Type 0} → ℕ → Result A BerFault → Result A ℕ
placed at (Ok x) = Ok x
placed at (Err fault) = Err at

unfoldable pub part_at : Reading → Result Opened ℕ
part_at r = placed r.at (element_at r)

-- the contents of the next element, which has this tag, and what comes after it
unfoldable pub expected : ℕ → Reading → Result (Reading × Reading) ℕ
expected tag r = do
  part ← part_at r
  if part.tag == tag then Ok (part.contents, part.after) else Err r.at

unfoldable pub text_in : ℕ → Reading → Result (List ℕ × Reading) ℕ
text_in tag r = do
  part ← expected tag r
  Ok (part.0.rest, part.1)

-- a number within bounds; the element that holds it is at a place
abbrev pub within : ℕ → ℕ → ℕ → ℤ → Result ℕ ℕ
within at least most (pos n) = if nat_le least n && nat_le n most then Ok n else Err at
within at least most (negsuc n) = Err at

unfoldable pub number_in : ℕ → ℕ → ℕ → Reading → Result (ℕ × Reading) ℕ
number_in tag least most r = do
  part ← expected tag r
  value ← placed r.at (integer_at r.at part.0.rest)
  n ← within r.at least most value
  Ok (n, part.1)

abbrev pub truth_of : ℕ → List ℕ → Result Bool ℕ
truth_of at [] = Err at
truth_of at (octet ∷ []) = Ok (not (octet == 0))
truth_of at (octet ∷ second ∷ octets) = Err at

unfoldable pub truth_in : Reading → Result (Bool × Reading) ℕ
truth_in r = do
  part ← expected 1 r
  b ← truth_of r.at part.0.rest
  Ok (b, part.1)

-- texts to the end
unfoldable pub texts_in : Reading → Result (List (List ℕ)) ℕ
texts_in r = all_of (text_in 4) r

-- elements of any kind to the end, read over
unfoldable pub tag_in : Reading → Result (ℕ × Reading) ℕ
tag_in r = do
  part ← part_at r
  Ok (part.tag, part.after)

unfoldable pub passed : Reading → Result (List ℕ) ℕ
passed r = all_of tag_in r

-- a type and a set of values
unfoldable pub attribute_in : Reading → Result (Attribute × Reading) ℕ
attribute_in r = do
  part ← expected 48 r
  name ← text_in 4 part.0
  set ← expected 49 name.1
  values ← texts_in set.0
  attribute ← ended (record { name = name.0; values = values }) set.1
  Ok (attribute, part.1)

unfoldable pub attributes_in : Reading → Result (List Attribute) ℕ
attributes_in r = all_of attribute_in r

unfoldable pub entry_in : Reading → Result DirEntry ℕ
entry_in r = do
  dn ← text_in 4 r
  list ← expected 48 dn.1
  attributes ← attributes_in list.0
  ended (record { dn = dn.0; attributes = attributes }) list.1

-- a code, a DN, a message and further elements
unfoldable pub result_in : Reading → Result LdapResult ℕ
result_in r = do
  code ← number_in 10 0 4294967295 r
  dn ← text_in 4 code.1
  message ← text_in 4 dn.1
  more ← passed message.1
  Ok (record { code = code.0; dn = dn.0; message = message.0 })
