-- The tree of an expression: "A BinOp or UnaryOp is printed as a sign between or before its operands; every other expression is an atom, `e`
-- and its word position in the sheet".
use Rattle.std.specs.Prelude.{ℕ, ◌+◌, List, [], ◌∷◌, length, drop}
use Rattle.heads.specs.declared.Form.{Form}
use Rattle.heads.specs.declared.Form.TheVariants.{Leaf, Var, Unresolved, Prop, Two, Slice, Many, BinOp, UnaryOp, Case, IsNull, PatternPredicate, ListComprehension, PatternComprehension, ListPredicate, MapProjection}
use Rattle.expr.specs.Tree.{Expr, var, unresolved, node, predicate, comprehension, Exprs, done, more, mark}
use Rattle.expr.specs.Read.{read_expr}
use Rattle.expr.specs.Write.{write_e}
use Rattle.condition.specs.Cond.{Cond, atom, unary, binary}
use Rattle.condition.specs.Printed.{printed}
use Rattle.condition_text.specs.Write.{PutOn}
use Rattle.condition_text.specs.declared.page.Page.{Page}

-- an operator's tree over its operands' trees; any other number of operands is none that a sheet has
abbrev pub unary_of : ℕ → ℕ → List Cond → Cond
unary_of at o [] = atom at
unary_of at o (x ∷ []) = unary o x
unary_of at o (x ∷ (y ∷ xs)) = atom at

-- the same of a BinOp
abbrev pub binary_of : ℕ → ℕ → List Cond → Cond
binary_of at o [] = atom at
binary_of at o (x ∷ []) = atom at
binary_of at o (x ∷ (y ∷ [])) = binary o x y
binary_of at o (x ∷ (y ∷ (z ∷ xs))) = atom at

-- the tree of a head at a word
abbrev pub headed : ℕ → Form → List Cond → Cond
headed at (Leaf k) xs = atom at
headed at (Var v) xs = atom at
headed at (Unresolved x) xs = atom at
headed at (Prop x) xs = atom at
headed at (Two k) xs = atom at
headed at (Slice b) xs = atom at
headed at (Many k n) xs = atom at
headed at (BinOp o) xs = binary_of at o xs
headed at (UnaryOp o) xs = unary_of at o xs
headed at (Case b n) xs = atom at
headed at IsNull xs = atom at
headed at PatternPredicate xs = atom at
headed at (ListComprehension g) xs = atom at
headed at (PatternComprehension a b g) xs = atom at
headed at (ListPredicate g) xs = atom at
headed at (MapProjection n) xs = atom at

-- an expression whose first word is number `at`; a row of them, one after the other
unfoldable mutual
  pub cond_e : Expr → ℕ → Cond
  cond_e (var v) at = atom at
  cond_e (unresolved x) at = atom at
  cond_e (node f es) at = headed at f (cond_es es (at + 2))
  cond_e (predicate s) at = atom at
  cond_e (comprehension a b s es) at = atom at

  pub cond_es : Exprs → ℕ → List Cond
  cond_es done at = []
  cond_es (more e es) at = cond_e e at ∷ cond_es es (at + length (write_e e))
  cond_es (mark w es) at = cond_es es (at + 1)

-- the text of an expression whose first word is number `at`, in a place whose bare operands have at least level m
abbrev pub printed_at : ℕ → ℕ → Expr → List ℕ
printed_at m at e = printed m (cond_e e at)

-- the expression at a word is printed on a page, in a place whose bare operands have at least level m
abbrev pub PutExpr : List ℕ → ℕ → ℕ → ℕ → ℕ → Page → Page → ℕ → Type 0
PutExpr ws names room m at old new next = PutOn (read_expr names room (drop at ws)) write_e (printed_at m at) ws at old new next
