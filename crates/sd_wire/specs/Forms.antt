-- The forms that printed texts have: a word with numbers behind it, or a number within words.
use Rattle.std.specs.Prelude.{◌≡◌, ℕ, ◌++◌, codes, List, length, take}
use Rattle.std.specs.Fmt.{decimal}
use Rattle.sd_wire.specs.Escapes.{field}

-- a word, with the space behind it, and a number
abbrev pub numbered : List ℕ → ℕ → List ℕ
numbered word n = word ++ decimal n

-- a word and two numbers, parted by a space
abbrev pub numbered_twice : List ℕ → ℕ → ℕ → List ℕ
numbered_twice word n m = word ++ (decimal n ++ (codes " " ++ decimal m))

-- a word, a number, and words behind it
abbrev pub numbered_within : List ℕ → ℕ → List ℕ → List ℕ
numbered_within word n words = word ++ (decimal n ++ words)

-- a word and a field
abbrev pub worded : List ℕ → List ℕ → List ℕ
worded word name = word ++ field name

-- what stood in a buffer still stands in its front
abbrev pub Keeps : List ℕ → List ℕ → Type 0
Keeps old new = take (length old) new ≡ old
