-- Reading that may fail at a place, and what a function of the program says of it.
use Rattle.std.specs.Prelude.{◌≡◌, ℕ, zero, suc, List, [], ◌∷◌, length, ◌==◌, if◌then◌else◌, Result, Ok, Err, IsOk, true, false}
use Rattle.sd_ber.specs.Reading.{Reading, Opened}
use Rattle.sd_ldap.specs.declared.fault.ReadFault.{ReadFault}
use Rattle.sd_ldap.specs.declared.fault.ReadFault.TheVariants.{Memory, Bad}

infixl 10 ◌>>=◌
abbrev pub ◌>>=◌ : {A B : Type 0} → Result A ℕ → (A → Result B ℕ) → Result B ℕ
(Ok x) >>= f = f x
(Err at) >>= f = Err at

-- a fault is the one that reading meets, unless memory was wanting
abbrev pub Fails : {A : Type 0} → ReadFault → Result A ℕ → Type 0
Fails Memory read = Unit {0}
Fails (Bad at) read = read ≡ Err at

-- what a function gave is what reading gives
abbrev pub Makes : {X A : Type 0} → (X → A) → Result X ReadFault → Result A ℕ → Type 0
Makes view (Ok x) read = read ≡ Ok (view x)
Makes view (Err fault) read = Fails fault read

-- the same, where reading goes on behind it
abbrev pub Gives : {X A : Type 0} → (X → A) → Result X ReadFault → Reading → Result (A × Reading) ℕ → Type 0
Gives view (Ok x) after read = read ≡ Ok (view x, after)
Gives view (Err fault) after read = Fails fault read

-- the same, of an element of any tag
abbrev pub GivesPart : Result (ℕ × Reading) ReadFault → Reading → Result Opened ℕ → Type 0
GivesPart (Ok part) after read = read ≡ Ok (record { tag = part.0; contents = part.1; after = after })
GivesPart (Err fault) after read = Fails fault read

-- the same of what is read over
abbrev pub Passes : {A : Type 0} → Result (Unit {0}) ReadFault → Result (List A) ℕ → Type 0
Passes (Ok x) read = IsOk read
Passes (Err fault) read = Fails fault read

-- whether reading is at the end, else where it stands
abbrev pub IsEnd : Result (Unit {0}) ReadFault → Reading → Type 0
IsEnd (Ok x) r = (length r.rest == 0) ≡ true
IsEnd (Err Memory) r = ⊥
IsEnd (Err (Bad at)) r = (at ≡ r.at) × ((length r.rest == 0) ≡ false)

-- nothing may follow
abbrev pub ended : {A : Type 0} → A → Reading → Result A ℕ
ended x r = if length r.rest == 0 then Ok x else Err r.at

-- one after another to the end; the number bounds the turns, and the count of the bytes is enough
unfoldable pub each : {A : Type 0} → (Reading → Result (A × Reading) ℕ) → ℕ → Reading → Result (List A) ℕ
each one zero r = ended [] r
each one (suc n) r = if length r.rest == 0 then Ok [] else (one r >>= λ x. each one n x.1 >>= λ xs. Ok (x.0 ∷ xs))

abbrev pub all_of : {A : Type 0} → (Reading → Result (A × Reading) ℕ) → Reading → Result (List A) ℕ
all_of one r = each one (length r.rest) r
