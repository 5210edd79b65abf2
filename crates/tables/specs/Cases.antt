-- Names of variables without a row, computed. An edit of their text is refused here.
use Rattle.std.specs.Prelude.{◌≡◌, refl, [], ◌∷◌, map}
use Rattle.words.specs.Decimal.{low_digits, width_within, width, decimal}
use Rattle.tables.specs.VarName.{var_name}

-- `__var0`, `__var7` and `__var120`
pub var_names : map var_name (0 ∷ 7 ∷ 120 ∷ [])
    ≡ (95 ∷ 95 ∷ 118 ∷ 97 ∷ 114 ∷ 48 ∷ [])
    ∷ (95 ∷ 95 ∷ 118 ∷ 97 ∷ 114 ∷ 55 ∷ [])
    ∷ (95 ∷ 95 ∷ 118 ∷ 97 ∷ 114 ∷ 49 ∷ 50 ∷ 48 ∷ [])
    ∷ []
unfolding var_name decimal width width_within low_digits
var_names = refl
