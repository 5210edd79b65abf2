-- The five lists (document 01, "What comes out"), as views of the log.
use Rattle.std.specs.Prelude.{ℕ, Bool, cond, ◌&&◌, List, [], ◌∷◌, ◌++◌, eqb, Option, None, Some}
use Rattle.scope.specs.Graph.{Scope, same_name, Carried, carried, Entry, entry}
use Rattle.sheet.specs.Statement.{Statement}
use Rattle.semantics.specs.Log.{Finding, Answer, Bound, bound, Write, write, scopes_in, binds_in, carries_in, answers_in, finds_in}
use Rattle.semantics.specs.World.{world_of}
use Rattle.semantics.specs.Resolve.{Pair, pair, log}
use Rattle.semantics.specs.Kinds.{kinds}

-- "in order of first making": the first making gives the place, the last one the variable and the kind; what it replaced is kept
unfoldable pub put : Bound → List Entry → List Entry
put (bound s x v k) [] = entry s x v k None ∷ []
put (bound s x v k) (entry t y u j r ∷ es) = cond (eqb s t && same_name x y) (entry s x v k (Some u) ∷ es) (entry t y u j r ∷ put (bound s x v k) es)

unfoldable pub puts : List Bound → List Entry → List Entry
puts [] es = es
puts (b ∷ bs) es = puts bs (put b es)

-- "ordered by first write, the last write's answer"
unfoldable pub note : Write → List Write → List Write
note (write i a) [] = write i a ∷ []
note (write i a) (write j b ∷ ws) = cond (eqb i j) (write i a ∷ ws) (write j b ∷ note (write i a) ws)

unfoldable pub notes : List Write → List Write → List Write
notes [] ws = ws
notes (x ∷ xs) ws = notes xs (note x ws)

module _ (warns : Bool) (s : Statement) where
  -- "Scopes: kind, parent, span"
  unfoldable pub scopes : List Scope
  scopes = scopes_in (log warns s)

  -- "Bindings: scope, name, variable, kind, the variable replaced if any"
  unfoldable pub bindings : List Entry
  bindings = puts (binds_in (log warns s)) []

  -- "Carried: barrier, name, variable"
  unfoldable pub carried_list : List Carried
  carried_list = carries_in (log warns s)

  -- "Recorded: use id, answer"
  unfoldable pub recorded : List Write
  recorded = notes (answers_in (log warns s)) []

  -- "the `resolve` ones before the `check_kinds` ones"
  unfoldable pub findings : List Finding
  findings = finds_in (log warns s) ++ kinds (world_of warns s) s.head

-- The answer that a recorded list has for a use id.
unfoldable pub answer_for : ℕ → List Write → Option Answer
answer_for i [] = None
answer_for i (write j b ∷ ws) = cond (eqb i j) (Some b) (answer_for i ws)

-- The pairs that barrier b carries, in order.
unfoldable pub pairs_at : ℕ → List Carried → List Pair
pairs_at b [] = []
pairs_at b (carried c x v ∷ l) = cond (eqb b c) (pair x v ∷ pairs_at b l) (pairs_at b l)

-- `unfolding lists` opens the views.
unfoldable pub lists : Unit {0}
unfolding put puts note notes scopes bindings carried_list recorded findings answer_for pairs_at
lists = tt
