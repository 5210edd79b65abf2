-- Clauses and arms as trees (document 01, "Clause", "Projections", "Arm").
use Rattle.std.specs.Prelude.{ℕ, List, [], ◌∷◌, Option}
use Rattle.expr.specs.Tree.{Expr, Exprs, done, more, Steps}

pub data Projection : Type 0 where
  projection : (alias : Option ℕ) → Expr → Projection

pub data Yield : Type 0 where
  yield : (name : ℕ) (alias : Option ℕ) (variable : ℕ) → Yield

pub data Opening : Type 0 where
  match : (optional : ℕ) → Opening  -- 1
  create merge : Opening  -- 6, 7

pub data Reading : Type 0 where
  where' : Reading  -- 2
  set remove : Reading  -- 8, 9: each item's code is a mark before its expressions
  delete : Reading  -- 10

-- the sort keys: nothing in the kinds 3 and 4; in 12 and 13 a count, perhaps 0, and so many
pub data Keys : Type 0 where
  unsorted : Keys
  sorted : Exprs → Keys

pub data Clause : Type 0 where
  opening : Opening → (start stop : ℕ) → Steps → Clause  -- Match, Create, Merge
  reading : Reading → (start stop : ℕ) → Exprs → Clause  -- Where, Set, Remove, Delete
  with' : (start stop : ℕ) → List Projection → (filter : Exprs) → Keys → Clause  -- 3, 12
  return : (start stop : ℕ) → List Projection → Keys → Clause  -- 4, 13
  unwind : (start stop variable : ℕ) → Expr → Clause  -- 5
  call : (start stop : ℕ) → Exprs → List Yield → Clause  -- 11

pub data Arm : Type 0 where
  arm : (start stop : ℕ) → List Clause → Arm

-- the expressions of projections, then others
unfoldable pub exprs : List Projection → Exprs → Exprs
exprs [] es = es
exprs (projection a e ∷ ps) es = more e (exprs ps es)

-- the sort expressions
unfoldable pub keys_of : Keys → Exprs
keys_of unsorted = done
keys_of (sorted es) = es
