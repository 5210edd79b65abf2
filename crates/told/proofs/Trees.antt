-- Rows of expressions of a clause are well-formed: those of a Where, Set, Remove or Delete, projections with others after them, and sort
-- keys.
use Prim.Native.Nat.{ℕ}
use mathlib.Core.List.{List, [], ◌∷◌}
use Rattle.expr.specs.Tree.{Exprs, done}
use Rattle.expr.specs.Well.{WellE, Wells}
use Rattle.clauses.specs.Tree.{Projection, projection, Reading, where', set, remove, delete, Keys, unsorted, sorted, exprs, keys_of}
use Rattle.clauses.specs.Read.{max_depth}
use Rattle.clauses.specs.Well.{Each, WellProjection, WellReading, WellKeys}

-- which marks stand among the expressions
abbrev pub kind_of : Reading → ℕ
kind_of where' = 0
kind_of set = 1
kind_of remove = 2
kind_of delete = 0

module _ (names : ℕ) where
  pub reading-well : (r : Reading) (es : Exprs) → WellReading names r es → Wells names (kind_of r) es max_depth
  unfolding WellReading
  reading-well where' es h = h.2
  reading-well set es h = h.2
  reading-well remove es h = h.2
  reading-well delete es h = h.2

  pub done-well : Wells names 0 done max_depth
  unfolding WellE
  done-well = tt

  pub row-well : (ps : List Projection) (f : Exprs) → Each (WellProjection names) ps → Wells names 0 f max_depth → Wells names 0 (exprs ps f) max_depth
  unfolding exprs Each WellProjection WellE
  row-well [] f h g = g
  row-well (projection a e ∷ ps) f h g = (h.0.1, row-well ps f h.1 g)

  pub keys-well : (ks : Keys) → WellKeys names ks → Wells names 0 (keys_of ks) max_depth
  unfolding WellKeys keys_of
  keys-well unsorted h = done-well
  keys-well (sorted es) h = reading-well delete es h
