-- The slot of a text, one of m: a hash of its words and of the bytes after them, of 32 bits, scaled down to m. Nothing is proved of it but that it
-- is below m, so another hash can take its place.
use Rattle.std.specs.Prelude.{ℕ, ◌*◌, ◌/◌, ◌%◌, List, [], ◌∷◌, length, drop}
use Rattle.std.specs.Int.Bits.{bit_xor}
use Rattle.words.specs.Words.{words}

-- a product, its upper half folded into its lower
unfoldable pub folded : ℕ → ℕ → ℕ
folded a b = bit_xor ((a * b) / 4294967296) ((a * b) % 4294967296)

unfoldable pub hash_from : (mult h : ℕ) → List ℕ → ℕ
hash_from mult h [] = h
hash_from mult h (b ∷ bs) = hash_from mult (folded (bit_xor h b) mult) bs

unfoldable pub hash_of : (mult : ℕ) → List ℕ → ℕ
hash_of mult x = hash_from mult (hash_from mult mult (words x)) (drop (length x / 4 * 4) x)

unfoldable pub slot_of : (mult m : ℕ) → List ℕ → ℕ
slot_of mult m x = hash_of mult x % 4294967296 * m / 4294967296
