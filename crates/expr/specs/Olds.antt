-- How many expressions 25 (ExistsSubqueryDeferred) a tree has, whatever stands around them: "the number of such expressions in the whole sheet"
-- (document 02, CR 6).
use Rattle.std.specs.Prelude.{ℕ, ◌+◌, cond, eqb}
use Rattle.heads.specs.declared.Form.{Form}
use Rattle.heads.specs.declared.Form.TheVariants.{Leaf, Var, Unresolved, Prop, Two, Slice, Many, BinOp, UnaryOp, Case, IsNull, PatternPredicate, ListComprehension, PatternComprehension, ListPredicate, MapProjection}
use Rattle.expr.specs.Tree.{Expr, var, unresolved, node, predicate, comprehension, Exprs, done, more, mark, Steps, end, part, elem}

abbrev pub old_code : ℕ
old_code = 25

-- 1 for the head of such an expression, 0 for any other
abbrev pub old_in : Form → ℕ
old_in (Leaf k) = cond (eqb k old_code) 1 0
old_in (Var v) = 0
old_in (Unresolved x) = 0
old_in (Prop x) = 0
old_in (Two k) = 0
old_in (Slice b) = 0
old_in (Many k n) = 0
old_in (BinOp o) = 0
old_in (UnaryOp o) = 0
old_in (Case b n) = 0
old_in IsNull = 0
old_in PatternPredicate = 0
old_in (ListComprehension g) = 0
old_in (PatternComprehension a b g) = 0
old_in (ListPredicate g) = 0
old_in (MapProjection n) = 0

unfoldable mutual
  pub olds_e : Expr → ℕ
  olds_e (var v) = 0
  olds_e (unresolved x) = 0
  olds_e (node f es) = old_in f + olds es
  olds_e (predicate s) = olds_s s
  olds_e (comprehension a b s es) = olds_s s + olds es

  pub olds : Exprs → ℕ
  olds done = 0
  olds (more e es) = olds_e e + olds es
  olds (mark w es) = olds es

  pub olds_s : Steps → ℕ
  olds_s end = 0
  olds_s (part p s) = olds_s s
  olds_s (elem k a b v es s) = olds es + olds_s s
