-- A condition's text, "printed with the fewest brackets": they stand around an operand whose level is looser than its place allows.
use Rattle.std.specs.Prelude.{ℕ, suc, Bool, true, false, List, ◌++◌, ltb}
use Rattle.condition.specs.Cond.{Cond, atom, unary, binary, binary_level, unary_level, left_level, binary_sign, unary_sign, atom_text, bracketed}

-- a pair of brackets where one is wanted
abbrev pub wrap : Bool → List ℕ → List ℕ
wrap true s = bracketed s
wrap false s = s

-- the text in a place whose bare operands have at least this level
unfoldable pub printed : ℕ → Cond → List ℕ
printed m (atom n) = atom_text n
printed m (unary o x) = wrap (ltb (unary_level o) m) (unary_sign o ++ printed (unary_level o) x)
printed m (binary o l r) = wrap (ltb (binary_level o) m) (printed (left_level o) l ++ (binary_sign o ++ printed (suc (binary_level o)) r))
