-- Places of a list: those that are enough to find what is marked.
use Rattle.std.specs.Prelude.{◌≡◌, ◌⊎◌, ◌++◌, ℕ, suc, ◌≤◌, ◌==◌, nat_lt, Bool, true, false, not, ◌&&◌, if◌then◌else◌, List, [], ◌∷◌, filter, slice_get, Option, Some, None}

-- the places rise, and each marked place is among them; the first mark is of this place
abbrev pub covers : List Bool → ℕ → List ℕ → Bool
covers [] k [] = true
covers [] k (p ∷ ps) = false
covers (m ∷ ms) k [] = not m && covers ms (suc k) []
covers (m ∷ ms) k (p ∷ ps) = if p == k then covers ms (suc k) ps else (not m && covers ms (suc k) (p ∷ ps))

-- a place among others, in order and once
abbrev pub with_place : List ℕ → ℕ → List ℕ
with_place [] p = p ∷ []
with_place (q ∷ qs) p = if p == q then q ∷ qs else if nat_lt p q then p ∷ q ∷ qs else q ∷ with_place qs p

-- the places rise, the first of them is at least so great
abbrev pub RisesFrom : ℕ → List ℕ → Type 0
RisesFrom k [] = Unit {0}
RisesFrom k (p ∷ ps) = (k ≤ p) × RisesFrom (suc p) ps

-- ---- slots: each holds something, or nothing

abbrev pub with_some : {X : Type 0} → Option X → List X → List X
with_some (Some x) rest = x ∷ rest
with_some None rest = rest

-- what the slots hold, in their order
abbrev pub present : {X : Type 0} → List (Option X) → List X
present [] = []
present (slot ∷ slots) = with_some slot (present slots)

abbrev pub flat : {X : Type 0} → Option (Option X) → Option X
flat (Some slot) = slot
flat None = None

-- what the slot of a place holds
abbrev pub at_slot : {X : Type 0} → List (Option X) → ℕ → Option X
at_slot slots p = flat (slice_get slots p)

-- none or one more, which holds nothing
abbrev pub HasGrown : {X : Type 0} → List (Option X) → List (Option X) → Type 0
HasGrown old new = (new ≡ old) ⊎ (new ≡ old ++ None ∷ [])

-- what is at places
abbrev pub picked_by : {X : Type 0} → (ℕ → Option X) → List ℕ → List X
picked_by at [] = []
picked_by at (p ∷ ps) = with_some (at p) (picked_by at ps)

abbrev pub picked : {X : Type 0} → List (Option X) → List ℕ → List X
picked slots places = picked_by (λ (p : ℕ). at_slot slots p) places

-- what passes a test is at the places
abbrev pub AreEnough : {X : Type 0} → (X → Bool) → List (Option X) → List ℕ → Type 0
AreEnough test slots places = filter test (picked slots places) ≡ filter test (present slots)

abbrev pub passes_at : {X : Type 0} → (X → Bool) → Option X → Bool
passes_at test (Some x) = test x
passes_at test None = false

-- wherever one test passes, another does
abbrev pub AllImply : {X : Type 0} → (X → Bool) → (X → Bool) → List X → Type 0
AllImply test other [] = Unit {0}
AllImply test other (x ∷ xs) = (test x ≡ true → other x ≡ true) × AllImply test other xs
