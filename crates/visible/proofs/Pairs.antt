-- The parts of a pair, if there is one.
use Rattle.std.proofs.Common.{◌≡◌, ap, ℕ, Option, None, Some}

abbrev first : Option (ℕ × ℕ) → ℕ
first (Some p) = p.0
first None = 0

abbrev second : Option (ℕ × ℕ) → ℕ
second (Some p) = p.1
second None = 0

pub same_pair : {a b c d : ℕ} → ◌≡◌ {A = Option (ℕ × ℕ)} (Some (a, b)) (Some (c, d)) → (a ≡ c) × (b ≡ d)
same_pair e = (ap first e, ap second e)
