-- An entry that fits a key is found by the search for it.
use Rattle.std.proofs.Common.{◌≡◌, ℕ, ◌<◌, ◌^◌, Bool, true, false, ◌&&◌, ◌||◌, List, [], ◌∷◌, length, Option, Some, None, Result, Ok, Err, refl, sym, ap, subst, ◌∙◌, cond, arith}
use Rattle.std.specs.Prelude.{nat_le, ◌==◌, codes}
use Rattle.std.specs.List.{list_any, list_all, find, slice_get}
use Rattle.std.specs.Option.{option_and_then}
use Rattle.std.specs.Fmt.{decimal}
use Rattle.std.specs.Cmp.Lexicographic.{bytes_decides}
use Rattle.std.proofs.lemmas.Bool.{and_from, and_parts, eq-eqb, eqb-true, leb-true, le-leb}
use Rattle.std.proofs.lemmas.Fmt.{decimal_nonempty}
use Rattle.sd_dn.specs.Comparing.{same_text}
use Rattle.sd_dn.proofs.Same.{self_text}
use Rattle.sd_ldap.specs.declared.entry.Attribute.{Attribute}
use Rattle.sd_ldap.specs.Filters.{equal}
use Rattle.sd_ldap.specs.declared.entry.DirEntry.{DirEntry}
use Rattle.sd_rules.specs.declared.keys.Key.{Key}
use Rattle.sd_rules.specs.declared.keys.Key.TheVariants as keys
use Rattle.sd_rules.specs.declared.settings.Settings.{Settings}
use Rattle.sd_rules.specs.Keys.{same_name}
use Rattle.sd_conf.specs.declared.config.Config.{Config}
use Rattle.sd_entry.specs.Values.{or_else, own_first, first_of, has_class, is_digit, value_of, is_number, number_of}
use Rattle.sd_match.specs.Matching.{has_value, are_digits, equal_numbers, matches}
use Rattle.sd_schema.specs.Values.{◌>>=◌, wanted, own_holds, holds, own_like, first_like, number_at}
use Rattle.sd_schema.specs.Accounts.{held_name, equal_to, user_name, account_of, fitting_user, group_name, fitting_group}
use Rattle.sd_schema.specs.Access.{fitting_host}
use Rattle.sd_nested.proofs.In.{any_more}
use Rattle.sd_fetch.specs.Searches.{class_with, first_search}
use Rattle.sd_fetch.specs.Lookup.{is_fit, fits}
use Rattle.sd_fetch.proofs.Numerals.{value_decimal, all_digits}

-- ---- results in steps

pub inner_fits : {A B : Type 0} (m : Result A (List ℕ)) (f : A → Result B (List ℕ)) → is_fit (m >>= f) ≡ true → is_fit m ≡ true
inner_fits (Ok x) f h = refl
inner_fits (Err name) f h = absurd cc

pub class_fits : {A : Type 0} (b : Bool) (name : List ℕ) (f : Unit {0} → Result A (List ℕ)) → is_fit (cond b (Ok tt) (Err name) >>= f) ≡ true → (b ≡ true) × (is_fit (f tt) ≡ true)
class_fits true name f h = (refl, h)
class_fits false name f h = absurd cc

wanted_fits : {A B : Type 0} (name : List ℕ) (o : Option A) (f : A → Result B (List ℕ)) → is_fit (wanted name o >>= f) ≡ true → (x : A) × (o ≡ Some x) × (is_fit (f x) ≡ true)
wanted_fits name None f h = absurd cc
wanted_fits name (Some x) f h = (x, refl, h)

-- ---- values

pub letters_too : (a b : List ℕ) → same_name a b ≡ true → same_text a b ≡ true
letters_too a b h = subst (λ (x : List ℕ). same_text a x ≡ true) ((bytes_decides a b).0 h) (self_text a)

some_same : {A : Type 0} (a b : A) → Some a ≡ Some b → a ≡ b
some_same a b e = cc

head_has : (test : List ℕ → Bool) (values : List (List ℕ)) (v : List ℕ) → slice_get values 0 ≡ Some v → test v ≡ true → list_any test values ≡ true
head_has test [] v e h = absurd cc
head_has test (x ∷ xs) v e h = rw (some_same x v e, h) refl

own_has : (test : List ℕ → Bool) (values : List (List ℕ)) (v : List ℕ) (b : Bool) → cond b (slice_get values 0) None ≡ Some v → test v ≡ true → (b && list_any test values) ≡ true
own_has test values v true e h = head_has test values v e h
own_has test values v false e h = absurd cc

or_true : (a b : Bool) → a ≡ true → (a || b) ≡ true
or_true a b e = rw e refl

or_later_true : (a b : Bool) → b ≡ true → (a || b) ≡ true
or_later_true true b e = refl
or_later_true false b e = e

else_has : (own : Option (List ℕ)) (later : Option (List ℕ)) (v : List ℕ) (a b : Bool) → or_else own later ≡ Some v → (own ≡ Some v → a ≡ true) → (later ≡ Some v → b ≡ true) → (a || b) ≡ true
else_has (Some x) later v a b e f g = or_true a b (f e)
else_has None later v a b e f g = or_later_true a b (g e)

pub first_has : (name : List ℕ) (test : List ℕ → Bool) (attributes : List Attribute) (v : List ℕ) → first_of name attributes ≡ Some v → test v ≡ true → has_value name test attributes ≡ true
first_has name test [] v e h = absurd cc
first_has name test (a ∷ rest) v e h =
    else_has (own_first name a) (first_of name rest) v (same_text a.name name && list_any test a.values) (has_value name test rest) e
    (λ own. own_has test a.values v (same_text a.name name) own h) (λ later. first_has name test rest v later h)

found_any : (test : List ℕ → Bool) (x : List ℕ) (found : Option (List ℕ)) (any b : Bool) (v : List ℕ) → cond b (Some x) found ≡ Some v → (found ≡ Some v → any ≡ true) → (b || any) ≡ true
found_any test x found any true v e f = refl
found_any test x found any false v e f = f e

find_has : (test : List ℕ → Bool) (values : List (List ℕ)) (v : List ℕ) → find test values ≡ Some v → list_any test values ≡ true
find_has test [] v e = absurd cc
find_has test (x ∷ xs) v e = found_any test x (find test xs) (list_any test xs) (test x) v e (λ later. find_has test xs v later)

own_like_has : (test : List ℕ → Bool) (values : List (List ℕ)) (v : List ℕ) (b : Bool) → cond b (find test values) None ≡ Some v → (b && list_any test values) ≡ true
own_like_has test values v true e = find_has test values v e
own_like_has test values v false e = absurd cc

like_has : (name text : List ℕ) (attributes : List Attribute) (v : List ℕ) → first_like name text attributes ≡ Some v → has_value name (λ value. same_text value text) attributes ≡ true
like_has name text [] v e = absurd cc
like_has name text (a ∷ rest) v e =
    else_has (own_like name text a) (first_like name text rest) v (same_text a.name name && list_any (λ value. same_text value text) a.values) (has_value name (λ value. same_text value text) rest) e
    (λ own. own_like_has (λ value. same_text value text) a.values v (same_text a.name name) own) (λ later. like_has name text rest v later)

holds_has : (name text : List ℕ) (attributes : List Attribute) → holds name text attributes ≡ true → has_value name (λ value. same_text value text) attributes ≡ true
holds_has name text attributes h =
    any_more (λ (a : Attribute). own_holds name text a) (λ (a : Attribute). same_text a.name name && list_any (λ value. same_text value text) a.values)
    (λ a e. let p = and_parts (same_text a.name name) (list_any (λ value. same_name value text) a.values) e in
    and_from (same_text a.name name) (list_any (λ value. same_text value text) a.values) p.0
    (any_more (λ value. same_name value text) (λ value. same_text value text) (λ value s. letters_too value text s) a.values p.1))
    attributes h

held_so : (b : Bool) (name v : List ℕ) → cond b (Some name) None ≡ Some v → b ≡ true
held_so true name v e = refl
held_so false name v e = absurd cc

-- ---- numbers

numbered : (b : Bool) (n v : ℕ) → cond b (Some v) None ≡ Some n → (b ≡ true) × (v ≡ n)
numbered true n v e = (refl, cc)
numbered false n v e = absurd cc

record IsNumbered (text : List ℕ) (n : ℕ) : Type 0 where
  number : is_number text ≡ true
  value : value_of text ≡ n

number_first : (o : Option (List ℕ)) (n : ℕ) → option_and_then number_of o ≡ Some n → (text : List ℕ) × (o ≡ Some text) × IsNumbered text n
number_first None n e = absurd cc
number_first (Some text) n e = let p = numbered (is_number text) n (value_of text) e in (text, refl, record { number = p.0; value = p.1 })

equal_so : (asked : ℕ) (o : Option ℕ) (n : ℕ) → equal_to asked o ≡ Some n → o ≡ Some asked
equal_so asked None n e = absurd cc
equal_so asked (Some number) n e = let p = numbered (number == asked) n number e in ap Some (eqb-true number asked p.0)

by_value : (b : Bool) (x y : Bool) → b ≡ true → x ≡ true → cond b x y ≡ true
by_value b x y e h = rw e h

number_equals : (text : List ℕ) (n : ℕ) → IsNumbered text n → equal_numbers text (decimal n) ≡ true
number_equals text n k =
    let p = and_parts (nat_le 1 (length text)) (nat_le (length text) 10 && (list_all is_digit text && nat_le (value_of text) 4294967295)) k.number in
    let q = and_parts (nat_le (length text) 10) (list_all is_digit text && nat_le (value_of text) 4294967295) p.1 in
    let r = and_parts (list_all is_digit text) (nat_le (value_of text) 4294967295) q.1 in
    let small : n < 2 ^ 64 = omega (arith, leb-true (value_of text) 4294967295 r.1, k.value) in
    let mine : are_digits text ≡ true = and_from (nat_le 1 (length text)) (list_all is_digit text) p.0 r.0 in
    let own : are_digits (decimal n) ≡ true = and_from (nat_le 1 (length (decimal n))) (list_all is_digit (decimal n)) (le-leb 1 (length (decimal n)) (omega (arith, decimal_nonempty n small))) (all_digits n small) in
    by_value (are_digits text && are_digits (decimal n)) (value_of text == value_of (decimal n)) (same_text text (decimal n)) (and_from (are_digits text) (are_digits (decimal n)) mine own)
    (eq-eqb (value_of text) (value_of (decimal n)) (k.value ∙ sym (value_decimal n small)))

-- ---- keys

-- an entry of a class, with a value that passes, is matched
class_matched : (class name value : List ℕ) (attributes : List Attribute) → has_class class attributes ≡ true → matches (equal name value) attributes ≡ true → matches (class_with class name value) attributes ≡ true
class_matched class name value attributes c v = and_from (has_class class attributes) (matches (equal name value) attributes && true) c (and_from (matches (equal name value) attributes) true v refl)

name_matched : (name text : List ℕ) (attributes : List Attribute) (n : List ℕ) → held_name name text attributes ≡ Some n → has_value name (λ value. same_text value text) attributes ≡ true
name_matched name text attributes n e = holds_has name text attributes (held_so (holds name text attributes) text n e)

number_matched : (name : List ℕ) (number : ℕ) (attributes : List Attribute) (n : ℕ) → equal_to number (number_at name attributes) ≡ Some n → has_value name (λ value. equal_numbers value (decimal number)) attributes ≡ true
number_matched name number attributes n e =
    let p = number_first (first_of name attributes) number (equal_so number (number_at name attributes) n e) in
    first_has name (λ value. equal_numbers value (decimal number)) attributes p.0 p.1 (number_equals p.0 number p.2)

user_by_name : (name : List ℕ) (dn : List ℕ) (attributes : List Attribute) (settings : Settings) → is_fit (fitting_user dn attributes settings (keys.User name)) ≡ true → matches (class_with (codes "posixAccount") (codes "uid") name) attributes ≡ true
user_by_name name dn attributes settings h =
    let p = class_fits (has_class (codes "posixAccount") attributes) (codes "objectClass") _ (inner_fits (account_of attributes settings (keys.User name)) _ h) in
    let q = wanted_fits (codes "uid") (held_name (codes "uid") name attributes) _ p.1 in
    class_matched (codes "posixAccount") (codes "uid") name attributes p.0 (name_matched (codes "uid") name attributes q.0 q.1)

groups_by_name : (name : List ℕ) (dn : List ℕ) (attributes : List Attribute) (settings : Settings) → is_fit (fitting_user dn attributes settings (keys.GroupsOf name)) ≡ true → matches (class_with (codes "posixAccount") (codes "uid") name) attributes ≡ true
groups_by_name name dn attributes settings h =
    let p = class_fits (has_class (codes "posixAccount") attributes) (codes "objectClass") _ (inner_fits (account_of attributes settings (keys.GroupsOf name)) _ h) in
    let q = wanted_fits (codes "uid") (held_name (codes "uid") name attributes) _ p.1 in
    class_matched (codes "posixAccount") (codes "uid") name attributes p.0 (name_matched (codes "uid") name attributes q.0 q.1)

user_by_number : (uid : ℕ) (dn : List ℕ) (attributes : List Attribute) (settings : Settings) → is_fit (fitting_user dn attributes settings (keys.Uid uid)) ≡ true → matches (class_with (codes "posixAccount") (codes "uidNumber") (decimal uid)) attributes ≡ true
user_by_number uid dn attributes settings h =
    let p = class_fits (has_class (codes "posixAccount") attributes) (codes "objectClass") _ (inner_fits (account_of attributes settings (keys.Uid uid)) _ h) in
    let q = wanted_fits (codes "uid") (user_name attributes settings.filter_users (keys.Uid uid)) _ p.1 in
    let r = wanted_fits (codes "uidNumber") (equal_to uid (number_at (codes "uidNumber") attributes)) _ q.2 in
    class_matched (codes "posixAccount") (codes "uidNumber") (decimal uid) attributes p.0 (number_matched (codes "uidNumber") uid attributes r.0 r.1)

group_by_name : (name : List ℕ) (dn : List ℕ) (attributes : List Attribute) (settings : Settings) → is_fit (fitting_group dn attributes settings (keys.Group name)) ≡ true → matches (class_with (codes "posixGroup") (codes "cn") name) attributes ≡ true
group_by_name name dn attributes settings h =
    let p = class_fits (has_class (codes "posixGroup") attributes) (codes "objectClass") _ h in
    let q = wanted_fits (codes "cn") (held_name (codes "cn") name attributes) _ p.1 in
    class_matched (codes "posixGroup") (codes "cn") name attributes p.0 (name_matched (codes "cn") name attributes q.0 q.1)

group_by_number : (gid : ℕ) (dn : List ℕ) (attributes : List Attribute) (settings : Settings) → is_fit (fitting_group dn attributes settings (keys.Gid gid)) ≡ true → matches (class_with (codes "posixGroup") (codes "gidNumber") (decimal gid)) attributes ≡ true
group_by_number gid dn attributes settings h =
    let p = class_fits (has_class (codes "posixGroup") attributes) (codes "objectClass") _ h in
    let q = wanted_fits (codes "cn") (group_name attributes settings.filter_groups (keys.Gid gid)) _ p.1 in
    let r = wanted_fits (codes "gidNumber") (equal_to gid (number_at (codes "gidNumber") attributes)) _ q.2 in
    class_matched (codes "posixGroup") (codes "gidNumber") (decimal gid) attributes p.0 (number_matched (codes "gidNumber") gid attributes r.0 r.1)

host_by_name : (attributes : List Attribute) (base hostname : List ℕ) → is_fit (fitting_host attributes base hostname) ≡ true → matches (class_with (codes "ipaHost") (codes "fqdn") hostname) attributes ≡ true
host_by_name attributes base hostname h =
    let p = class_fits (has_class (codes "ipaHost") attributes) (codes "objectClass") _ h in
    let q = wanted_fits (codes "fqdn") (first_like (codes "fqdn") hostname attributes) _ p.1 in
    class_matched (codes "ipaHost") (codes "fqdn") hostname attributes p.0 (like_has (codes "fqdn") hostname attributes q.0 q.1)

-- an entry that fits a key is matched by the filter of its search
pub fits_matched : (config : Config) (key : Key) (e : DirEntry) → fits config key e ≡ true → matches (first_search config key).filter e.attributes ≡ true
fits_matched config (keys.User name) e h = user_by_name name e.dn e.attributes config.settings h
fits_matched config (keys.Uid uid) e h = user_by_number uid e.dn e.attributes config.settings h
fits_matched config (keys.Group name) e h = group_by_name name e.dn e.attributes config.settings h
fits_matched config (keys.Gid gid) e h = group_by_number gid e.dn e.attributes config.settings h
fits_matched config (keys.GroupsOf name) e h = groups_by_name name e.dn e.attributes config.settings h
fits_matched config keys.Host e h = host_by_name e.attributes config.base config.settings.hostname h
fits_matched config keys.Rules e h = absurd cc
