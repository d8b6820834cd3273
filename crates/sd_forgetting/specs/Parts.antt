-- Parts of a journal, and the entries of numbers.
use Rattle.std.specs.Prelude.{ℕ, Bool, true, ◌&&◌, ◌==◌, ◌≡◌, ◌⊎◌, nat_lt, nat_le, List, [], ◌∷◌, Option, Some, None, if◌then◌else◌}
use Rattle.sd_rules.specs.declared.replies.Entry.{Entry}
use Rattle.sd_rules.specs.Past.{or_else}

-- the part of a past that a test keeps, where the test sees an entry and those before it
abbrev pub part : (List Entry → Entry → Bool) → List Entry → List Entry
part keep [] = []
part keep (e ∷ past) = if keep past e then e ∷ part keep past else part keep past

-- the entry of a number
abbrev pub entry_at : List Entry → ℕ → Option Entry
entry_at [] n = None
entry_at (e ∷ past) n = if e.number == n then Some e else entry_at past n

-- the last entry that meets a test
abbrev pub last_entry : (Entry → Bool) → List Entry → Option Entry
last_entry test [] = None
last_entry test (e ∷ past) = or_else (if test e then Some e else None) (last_entry test past)

-- an entry stands in a list, with these before it
abbrev pub IsAt : List Entry → Entry → List Entry → Type 0
IsAt [] e past = ⊥
IsAt (x ∷ xs) e past = ((x ≡ e) × (xs ≡ past)) ⊎ IsAt xs e past

-- the numbers of the entries fall from below a number, the newest first
abbrev pub numbers_fall : ℕ → List Entry → Bool
numbers_fall next [] = true
numbers_fall next (e ∷ past) = nat_lt e.number next && numbers_fall e.number past

-- no entry is of a later moment than one that stands after it
abbrev pub moments_fall : ℕ → List Entry → Bool
moments_fall latest [] = true
moments_fall latest (e ∷ past) = nat_le e.moment latest && moments_fall e.moment past
