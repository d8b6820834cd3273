-- Tests, and what follows from them.
use Rattle.std.proofs.Common.{◌≡◌, ℕ, ◌<◌, Bool, true, false, arith, refl, sym}
use Rattle.std.specs.Prelude.{Some, None, nat_lt, ◌==◌, ◌&&◌, ◌||◌, if◌then◌else◌}
use Rattle.std.proofs.lemmas.Bool.Decides.{nat_tests}

pub not_true : false ≡ true → ⊥
not_true h = cc

pub none_is_not : {X : Type 0} (x : X) → None ≡ Some x → ⊥
none_is_not x e = cc

pub same_some : {X : Type 0} (x y : X) → Some x ≡ Some y → x ≡ y
same_some x y e = cc

pub both : (a b : Bool) → a ≡ true → b ≡ true → (a && b) ≡ true
both true b f g = g
both false b f g = f

pub first_holds : (a b : Bool) → (a && b) ≡ true → a ≡ true
first_holds true b h = refl
first_holds false b h = h

pub second_holds : (a b : Bool) → (a && b) ≡ true → b ≡ true
second_holds true b h = h
second_holds false b h = absurd (not_true h)

pub or_left : (a b : Bool) → a ≡ true → (a || b) ≡ true
or_left true b h = refl
or_left false b h = absurd (not_true h)

pub or_right : (a b : Bool) → b ≡ true → (a || b) ≡ true
or_right true b h = refl
or_right false b h = h

pub either : {P : Type 0} (a b : Bool) → (a || b) ≡ true → (a ≡ true → P) → (b ≡ true → P) → P
either true b h f g = f refl
either false b h f g = g h

pub cases : {P : Type 0} (a : Bool) → (a ≡ true → P) → (a ≡ false → P) → P
cases true f g = f refl
cases false f g = g refl

pub is_false : (a : Bool) → (a ≡ true → ⊥) → a ≡ false
is_false true f = absurd (f refl)
is_false false f = refl

pub clash : {P : Type 0} (a : Bool) → a ≡ true → a ≡ false → P
clash true f g = absurd (not_true (sym g))
clash false f g = absurd (not_true f)

pub both_ways : (a b : Bool) → (a ≡ true → b ≡ true) → (b ≡ true → a ≡ true) → a ≡ b
both_ways true true f g = refl
both_ways true false f g = sym (f refl)
both_ways false true f g = g refl
both_ways false false f g = refl

pub if_true : {X : Type 0} (a : Bool) (x y : X) → a ≡ true → (if a then x else y) ≡ x
if_true true x y h = refl
if_true false x y h = absurd (not_true h)

pub if_false : {X : Type 0} (a : Bool) (x y : X) → a ≡ false → (if a then x else y) ≡ y
if_false true x y h = absurd (not_true (sym h))
if_false false x y h = refl

pub or_false : (a b : Bool) → a ≡ false → (a || b) ≡ b
or_false true b h = absurd (not_true (sym h))
or_false false b h = refl

pub same_number : (n : ℕ) → (n == n) ≡ true
same_number n = grind (arith, nat_tests)

pub equal_numbers : (a b : ℕ) → (a == b) ≡ true → a ≡ b
equal_numbers a b h = grind (arith, nat_tests)

pub is_equal : (a b : ℕ) → a ≡ b → (a == b) ≡ true
is_equal a b h = grind (arith, nat_tests)

pub is_less : (a b : ℕ) → nat_lt a b ≡ true → a < b
is_less a b h = grind (arith, nat_tests)

pub less : (a b : ℕ) → a < b → nat_lt a b ≡ true
less a b h = grind (arith, nat_tests)

pub differ : (a b : ℕ) → a < b → (a == b) ≡ false
differ a b h = grind (arith, nat_tests)

pub differ_above : (a b : ℕ) → b < a → (a == b) ≡ false
differ_above a b h = grind (arith, nat_tests)
