-- What a WITH carries and binds can stand apart from the rest of a log: the carried list has the names and variables, and a Root under a barrier
-- binds what that barrier carries. So the bindings list comes from the rest of the log and the carried list. Only contracts need these.
use Rattle.std.specs.Prelude.{ℕ, suc, ◌≡◌, Bool, true, false, cond, List, [], ◌∷◌, ◌++◌, eqb, Option, None, Some}
use Rattle.scope.specs.Graph.{root_scope, Scope, scope, Carried, carried}
use Rattle.sheet.specs.Statement.{Statement}
use Rattle.semantics.specs.Log.{Bound, bound, Event, open', bind, carry, answer, find, binds_in, carries_in}
use Rattle.semantics.specs.World.{kind_of, world_of}
use Rattle.semantics.specs.Resolve.{log}

-- a log without what its WITHs carry and bind
abbrev pub written_one : Event → List Event → List Event
written_one (open' s) l = open' s ∷ l
written_one (bind true g b) l = l
written_one (bind false g b) l = bind false g b ∷ l
written_one (carry c) l = l
written_one (answer a) l = answer a ∷ l
written_one (find f) l = find f ∷ l

unfoldable pub written : List Event → List Event
written [] = []
written (e ∷ l) = written_one e (written l)

-- the barrier above a scope that is a WITH's new Root
abbrev pub barrier_of : Scope → Option ℕ
barrier_of (scope k None a b) = None
barrier_of (scope k (Some p) a b) = cond (eqb k root_scope) (Some p) None

module _ (kind : ℕ → ℕ) where
  -- what barrier b carries, of entries that begin with it, bound in its Root, which has the next number; and the entries after them
  unfoldable pub adopted : ℕ → List Carried → List Bound
  adopted b [] = []
  adopted b (carried c x v ∷ cs) = cond (eqb b c) (bound (suc b) x v (kind v) ∷ adopted b cs) []

  unfoldable pub beyond : ℕ → List Carried → List Carried
  beyond b [] = []
  beyond b (carried c x v ∷ cs) = cond (eqb b c) (beyond b cs) (carried c x v ∷ cs)

  -- the bindings that a log makes, oldest first, with the entries that its barriers carry
  abbrev pub adopted_by : Option ℕ → List Carried → List Bound
  adopted_by None cs = []
  adopted_by (Some b) cs = adopted b cs

  abbrev pub beyond_by : Option ℕ → List Carried → List Carried
  beyond_by None cs = cs
  beyond_by (Some b) cs = beyond b cs

  unfoldable pub woven : List Event → List Carried → List Bound
  woven [] cs = []
  woven (open' s ∷ l) cs = adopted_by (barrier_of s) cs ++ woven l (beyond_by (barrier_of s) cs)
  woven (bind o g b ∷ l) cs = b ∷ woven l cs
  woven (carry c ∷ l) cs = woven l cs
  woven (answer a ∷ l) cs = woven l cs
  woven (find f ∷ l) cs = woven l cs

-- all that a statement binds
abbrev pub Woven : Bool → Statement → Type 0
Woven warns st = binds_in (log warns st) ≡ woven (kind_of (world_of warns st)) (written (log warns st)) (carries_in (log warns st))
