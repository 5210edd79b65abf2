-- The name of a variable that has no row in the binding table: "`__var` and its id in decimal without leading zeros, as `var_name` in 000 does"
-- (document 02, CR 5).
use Rattle.std.specs.Prelude.{ℕ, ◌^◌, ◌<◌, ◌≡◌, List, ◌∷◌, Option, None, Some}
use Rattle.words.specs.Decimal.{decimal}

unfoldable pub var_name : ℕ → List ℕ
var_name v = 95 ∷ 95 ∷ 118 ∷ 97 ∷ 114 ∷ decimal v

-- whether a text is such a name, and of which variable
abbrev pub VarId : List ℕ → Option ℕ → Type 0
VarId text (Some v) = text ≡ var_name v
VarId text None = (v : ℕ) → v < 2 ^ 32 → text ≡ var_name v → ⊥
