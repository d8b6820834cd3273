-- Which texts spell which triple of a netgroup.
use Rattle.std.specs.Prelude.{◌≡◌, ℕ, Bool, true, ◌||◌, ◌==◌, not, if◌then◌else◌, List, [], ◌∷◌, ◌++◌, Result, Ok, Err}
use Rattle.std.specs.List.{list_all}
use Rattle.sd_pieces.specs.Steps as steps
use Rattle.sd_triples.specs.declared.triples.Triple.{Triple}
use Rattle.sd_triples.specs.declared.reading.TripleFault.{TripleFault}
use Rattle.sd_triples.specs.declared.reading.TripleFault.TheVariants as faults

-- `(` `)` `,`
abbrev pub is_reserved : ℕ → Bool
is_reserved b = b == 40 || (b == 41 || b == 44)

abbrev pub is_field : List ℕ → Bool
is_field bytes = list_all (λ b. not (is_reserved b)) bytes

-- bytes without the spaces in front of them
abbrev pub without_front : List ℕ → List ℕ
without_front [] = []
without_front (b ∷ bs) = if b == 32 then without_front bs else b ∷ bs

-- one byte more in front, which a space is only where more stands behind it
abbrev pub with_byte : ℕ → List ℕ → List ℕ
with_byte b [] = if b == 32 then [] else b ∷ []
with_byte b (c ∷ cs) = b ∷ c ∷ cs

-- bytes without the spaces behind them
abbrev pub without_end : List ℕ → List ℕ
without_end [] = []
without_end (b ∷ bs) = with_byte b (without_end bs)

-- bytes without the spaces at both ends
abbrev pub trimmed : List ℕ → List ℕ
trimmed bytes = without_end (without_front bytes)

-- the text of three fields
abbrev pub written : List ℕ → List ℕ → List ℕ → List ℕ
written host user domain = 40 ∷ (host ++ (44 ∷ (user ++ (44 ∷ (domain ++ 41 ∷ [])))))

abbrev pub triple_of : List ℕ → List ℕ → List ℕ → Triple
triple_of host user domain = record { host = trimmed host; user = trimmed user; domain = trimmed domain }

-- The text has three fields, which are those of the triple with spaces round them.
pub record Spells (text : List ℕ) (triple : Triple) : Type 0 where
  pub host : List ℕ
  pub user : List ℕ
  pub domain : List ℕ
  pub host_fits : is_field host ≡ true
  pub user_fits : is_field user ≡ true
  pub domain_fits : is_field domain ≡ true
  pub text_is : text ≡ written host user domain
  pub meaning : triple ≡ triple_of host user domain

-- The place of the first byte with which no triple goes on, or the length of a text that ends too soon: the
-- bytes before it go on to a triple in some way, and with the byte there they don't in any.
abbrev pub IsFirstBad : List ℕ → ℕ → Type 0
IsFirstBad text place = steps.IsFirstBad Spells text place

-- What was answered for a text that spells the triple: it, unless memory ran out.
abbrev pub Reads : Result Triple TripleFault → Triple → Type 0
Reads (Ok read) triple = read ≡ triple
Reads (Err (faults.BadTriple place)) triple = ⊥
Reads (Err faults.Memory) triple = Unit {0}
