-- MurmurHash3 for 32 bits (Austin Appleby's x86_32), over the bytes of a text.
use Rattle.std.specs.Prelude.{ℕ, ◌+◌, ◌*◌, ◌/◌, ◌%◌, ◌^◌, List, [], ◌∷◌, length, bit_xor}
use Rattle.std.specs.Int.{rotate_left, w32}

-- a block of four bytes, the first of which counts least
abbrev pub block_of : ℕ → ℕ → ℕ → ℕ → ℕ
block_of a b c d = a + 256 * (b + 256 * (c + 256 * d))

-- multiplied, rotated by 15 and multiplied again
abbrev pub scrambled : ℕ → ℕ
scrambled k = (rotate_left w32 ((k * 0xcc9e2d51) % 2 ^ 32) 15 * 0x1b873593) % 2 ^ 32

-- a whole block goes into the hash
abbrev pub mixed : ℕ → ℕ → ℕ
mixed h k = (rotate_left w32 (bit_xor h (scrambled k)) 13 * 5 + 0xe6546b64) % 2 ^ 32

-- the blocks of four bytes, and then the one to three bytes that are left
abbrev pub blocks_mixed : ℕ → List ℕ → ℕ
blocks_mixed h [] = h
blocks_mixed h (a ∷ []) = bit_xor h (scrambled (block_of a 0 0 0))
blocks_mixed h (a ∷ b ∷ []) = bit_xor h (scrambled (block_of a b 0 0))
blocks_mixed h (a ∷ b ∷ c ∷ []) = bit_xor h (scrambled (block_of a b c 0))
blocks_mixed h (a ∷ b ∷ c ∷ d ∷ rest) = blocks_mixed (mixed h (block_of a b c d)) rest

-- xor itself shifted right
abbrev pub folded : ℕ → ℕ → ℕ
folded by h = bit_xor h (h / 2 ^ by)

-- the last steps, which spread each bit over all
abbrev pub finished : ℕ → ℕ
finished h = folded 16 ((folded 13 ((folded 16 h * 0x85ebca6b) % 2 ^ 32) * 0xc2b2ae35) % 2 ^ 32)

abbrev pub murmur : ℕ → List ℕ → ℕ
murmur seed text = finished (bit_xor (blocks_mixed seed text) (length text % 2 ^ 32))
