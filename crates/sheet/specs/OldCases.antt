-- Expressions 25 of whole sheets, counted: head and arms. Edits of the count are refused here.
use Rattle.std.specs.Prelude.{◌≡◌, refl, List, [], ◌∷◌}
use Rattle.expr.specs.Olds.{olds_e}
use Rattle.clauses.specs.Tree.{Clause, Arm, arm}
use Rattle.clauses.specs.Olds.{olds_c, olds_cs, olds_a, olds_as}
use Rattle.clauses.specs.OldCases.{old_where}
use Rattle.sheet.specs.Statement.{Statement}
use Rattle.sheet.specs.Olds.{old_exists}

abbrev sheet_of : List Clause → List Arm → Statement
sheet_of head arms = record { names = []; bindings = []; head = head; arms = arms; start = 0; stop = 0 }

-- "in the whole sheet"
pub whole : old_exists (sheet_of (old_where ∷ []) (arm 0 0 (old_where ∷ old_where ∷ []) ∷ [])) ≡ 3
unfolding old_exists olds_as olds_a olds_cs olds_c olds_e
whole = refl

pub none : old_exists (sheet_of [] []) ≡ 0
unfolding old_exists olds_as olds_cs
none = refl
