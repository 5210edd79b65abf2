-- The slot of a key, one of m: two products modulo 2^32 with a shift between, the first by a multiplier that differs from sheet to sheet, scaled
-- down to m. Nothing is proved of it but that it is below m, so another hash can take its place.
use Rattle.std.specs.Prelude.{ℕ, ◌*◌, ◌/◌, ◌%◌, ◌^◌}
use Rattle.std.specs.Int.Bits.{bit_xor}

abbrev pub mixed : ℕ → ℕ
mixed h = bit_xor h (h / 2 ^ 15)

unfoldable pub slot_of : (mult m v : ℕ) → ℕ
slot_of mult m v = mixed (v * mult % 2 ^ 32) * 2654435769 % 2 ^ 32 * m / 2 ^ 32
