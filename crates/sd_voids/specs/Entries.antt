-- Journals whose numbers rise, and the entries of numbers. A past is the list of the entries made so far, the newest first.
use Rattle.std.specs.Prelude.{◌≡◌, ℕ, Bool, true, reverse, ◌&&◌, ◌==◌, nat_lt, List, [], ◌∷◌, Option, Some, None, if◌then◌else◌}
use Rattle.sd_rules.specs.declared.replies.Entry.{Entry}

-- the numbers of the entries fall from below a number
abbrev pub numbers_fall : ℕ → List Entry → Bool
numbers_fall next [] = true
numbers_fall next (e ∷ past) = nat_lt e.number next && numbers_fall e.number past

-- they fall
abbrev pub falls : List Entry → Bool
falls [] = true
falls (e ∷ past) = numbers_fall e.number past

-- the entry of a number
abbrev pub entry_at : List Entry → ℕ → Option Entry
entry_at [] n = None
entry_at (e ∷ past) n = if e.number == n then Some e else entry_at past n

-- a part of the entries, given the oldest first, has numbers that rise, and for a number the same entry as the whole
pub record Searches (part whole : List Entry) (n : ℕ) : Type 0 where
  pub numbers : falls (reverse part) ≡ true
  pub same : entry_at (reverse part) n ≡ entry_at (reverse whole) n
