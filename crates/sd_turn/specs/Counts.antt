-- How often a number stands in a list.
use Rattle.std.specs.Prelude.{◌≡◌, ℕ, ◌≤◌, ◌==◌, ◌&&◌, List, count_by, nat_le, nat_lt, if◌then◌else◌}

abbrev pub occurrences : ℕ → List ℕ → ℕ
occurrences n ns = count_by (λ m. m == n) ns

-- No number stands twice in the list.
abbrev pub AreDistinct : List ℕ → Type 0
AreDistinct ns = (n : ℕ) → occurrences n ns ≤ 1

-- 1 at a number from `first` on and below `next`, and 0 at any other
abbrev pub once_between : ℕ → ℕ → ℕ → ℕ
once_between first next n = if nat_le first n && nat_lt n next then 1 else 0

-- Each number from `first` on and below `next` stands in the list once, and no other number does.
abbrev pub AreAllBetween : ℕ → ℕ → List ℕ → Type 0
AreAllBetween first next ns = (n : ℕ) → occurrences n ns ≡ once_between first next n
