-- Every head has a word, and so has every expression.
use Prim.Native.Nat.{◌≤◌}
use native.Mathlib.Omega.{arith}
use lib.ListN.{length, length-append}
use Rattle.heads.specs.Form.{form_words}
use Rattle.heads.specs.declared.Form.{Form}
use Rattle.heads.specs.declared.Form.TheVariants.{Leaf, Var, Unresolved, Prop, Two, Slice, Many, BinOp, UnaryOp, Case, IsNull, PatternPredicate, ListComprehension, PatternComprehension, ListPredicate, MapProjection}
use Rattle.expr.specs.Tree.{Expr, var, unresolved, node, predicate, comprehension}
use Rattle.expr.specs.Write.{write_e}

pub form-word : (f : Form) → 1 ≤ length (form_words f)
unfolding form_words
form-word (Leaf k) = omega arith
form-word (Var v) = omega arith
form-word (Unresolved x) = omega arith
form-word (Prop x) = omega arith
form-word (Two k) = omega arith
form-word (Slice b) = omega arith
form-word (Many k n) = omega arith
form-word (BinOp o) = omega arith
form-word (UnaryOp o) = omega arith
form-word (Case b n) = omega arith
form-word IsNull = omega arith
form-word PatternPredicate = omega arith
form-word (ListComprehension g) = omega arith
form-word (PatternComprehension a b g) = omega arith
form-word (ListPredicate g) = omega arith
form-word (MapProjection n) = omega arith

pub a_word : (e : Expr) → 1 ≤ length (write_e e)
unfolding write_e form_words
a_word (var v) = omega arith
a_word (unresolved x) = omega arith
a_word (node f es) = simp length-append (omega (arith, form-word f))
a_word (predicate s) = simp length-append (omega arith)
a_word (comprehension a b s es) = simp length-append (omega arith)
