-- What the attributes of an entry hold, and how a record is refused. Attributes' names are compared without ASCII case.
use Rattle.std.specs.Prelude.{◌≡◌, ℕ, Bool, false, ◌&&◌, nat_le, if◌then◌else◌, List, [], ◌∷◌, length, Option, Some, None, Result, Ok, Err, codes}
use Rattle.std.specs.List.{list_any, find}
use Rattle.std.specs.Option.{option_and_then}
use Rattle.sd_rules.specs.Keys.{same_name}
use Rattle.sd_dn.specs.Comparing.{same_text}
use Rattle.sd_ldap.specs.declared.entry.Attribute.{Attribute}
use Rattle.sd_entry.specs.Values.{first_of, has_class, number_of, or_else}
use Rattle.sd_schema.specs.declared.Unfit.{Unfit}
use Rattle.sd_schema.specs.declared.Unfit.TheVariants as faults

-- a record, or the name of the first attribute that is missing or does not fit
infixl 10 ◌>>=◌
abbrev pub ◌>>=◌ : {A B : Type 0} → Result A (List ℕ) → (A → Result B (List ℕ)) → Result B (List ℕ)
(Ok x) >>= f = f x
(Err name) >>= f = Err name

-- what an attribute has to hold
abbrev pub wanted : {A : Type 0} → List ℕ → Option A → Result A (List ℕ)
wanted name None = Err name
wanted name (Some value) = Ok value

-- the entry has to be of a class
abbrev pub of_class : List ℕ → List Attribute → Result (Unit {0}) (List ℕ)
of_class class attributes = if has_class class attributes then Ok tt else Err (codes "objectClass")

-- a value of an attribute of this name is this text, byte for byte
abbrev pub own_holds : List ℕ → List ℕ → Attribute → Bool
own_holds name text a = same_text a.name name && list_any (λ value. same_name value text) a.values

abbrev pub holds : List ℕ → List ℕ → List Attribute → Bool
holds name text attributes = list_any (λ (a : Attribute). own_holds name text a) attributes

-- the first value that is this text without ASCII case
abbrev pub own_like : List ℕ → List ℕ → Attribute → Option (List ℕ)
own_like name text a = if same_text a.name name then find (λ value. same_text value text) a.values else None

abbrev pub first_like : List ℕ → List ℕ → List Attribute → Option (List ℕ)
first_like name text [] = None
first_like name text (a ∷ rest) = or_else (own_like name text a) (first_like name text rest)

-- the first value, where it is not empty
abbrev pub filled : Option (List ℕ) → Option (List ℕ)
filled None = None
filled (Some value) = if nat_le 1 (length value) then Some value else None

-- the first value, where it is a number
abbrev pub number_at : List ℕ → List Attribute → Option ℕ
number_at name attributes = option_and_then number_of (first_of name attributes)

-- the first value, or nothing
abbrev pub text_of : Option (List ℕ) → List ℕ
text_of None = []
text_of (Some value) = value

-- the first value is this text, without ASCII case
abbrev pub is_like : List ℕ → Option (List ℕ) → Bool
is_like text None = false
is_like text (Some value) = same_text value text

-- ---- what a function of the program says

-- a fault is the one that is said, unless memory was wanting
abbrev pub IsUnfit : Unfit → List ℕ → Type 0
IsUnfit faults.Memory name = Unit {0}
IsUnfit (faults.Attribute unfit) name = unfit ≡ name

abbrev pub Fails : {A : Type 0} → Unfit → Result A (List ℕ) → Type 0
Fails faults.Memory said = Unit {0}
Fails (faults.Attribute name) said = said ≡ Err name

abbrev pub Answers : {X A : Type 0} → (X → A) → Result X Unfit → Result A (List ℕ) → Type 0
Answers view (Ok x) said = said ≡ Ok (view x)
Answers view (Err fault) said = Fails fault said
