-- Names and keys that are equal are the same, and `==` says of two keys what the definitions say.
use Rattle.std.proofs.Common.{◌≡◌, ℕ, Bool, true, false, ◌==◌, ◌&&◌, List, refl, ap, arith}
use Rattle.std.proofs.lemmas.Bool.Decides.{nat_tests}
use Rattle.std.specs.Cmp.Lexicographic.{bytes_decides}
use Rattle.sd_rules.specs.declared.keys.Key.{Key}
use Rattle.sd_rules.specs.declared.keys.Key.TheVariants.{User, Uid, Group, Gid, GroupsOf, Host, Rules}
use Rattle.sd_rules.specs.contracts.keys.KeyPartialEq.TheImpl as key_equality
use Rattle.sd_rules.specs.Keys.{same_key, same_name}

pub name_is : (a b : List ℕ) → same_name a b ≡ true → a ≡ b
name_is a b h = (bytes_decides a b).0 h

pub name_same : (a : List ℕ) → same_name a a ≡ true
name_same a = (bytes_decides a a).1 refl

number_is : (a b : ℕ) → (a == b) && true ≡ true → a ≡ b
number_is a b h = grind (arith, nat_tests)

number_same : (a : ℕ) → ((a == a) && true) ≡ true
number_same a = grind (arith, nat_tests)

pub same_key_is : (a b : Key) → same_key a b ≡ true → a ≡ b
same_key_is (User a) (User b) h = ap User (name_is a b h)
same_key_is (Uid a) (Uid b) h = ap Uid (number_is a b h)
same_key_is (Group a) (Group b) h = ap Group (name_is a b h)
same_key_is (Gid a) (Gid b) h = ap Gid (number_is a b h)
same_key_is (GroupsOf a) (GroupsOf b) h = ap GroupsOf (name_is a b h)
same_key_is Host Host h = refl
same_key_is Rules Rules h = refl
same_key_is _ _ h = cc

pub same_key_same : (a : Key) → same_key a a ≡ true
same_key_same (User a) = name_same a
same_key_same (Uid a) = number_same a
same_key_same (Group a) = name_same a
same_key_same (Gid a) = number_same a
same_key_same (GroupsOf a) = name_same a
same_key_same Host = refl
same_key_same Rules = refl

-- ---- what `==` says

abbrev pub keys_equal : Key → Key → Bool
keys_equal = (key_equality.ghosts).eq

and_true : (b : Bool) → b ≡ (b && true)
and_true true = refl
and_true false = refl

pub keys_equal_is : (a b : Key) → keys_equal a b ≡ same_key a b
keys_equal_is (User a) (User b) = refl
keys_equal_is (Uid a) (Uid b) = and_true (a == b)
keys_equal_is (Group a) (Group b) = refl
keys_equal_is (Gid a) (Gid b) = and_true (a == b)
keys_equal_is (GroupsOf a) (GroupsOf b) = refl
keys_equal_is Host Host = refl
keys_equal_is Rules Rules = refl
keys_equal_is _ _ = refl
