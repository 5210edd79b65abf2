-- The uses of names and variables, each with what is visible there, and what each leaves in the lists (document 01, "Walking clauses
-- (000)": "E1001 comes at each visit of an Unresolved name not visible, except `*`, recorded unresolved without it").
use Rattle.std.specs.Prelude.{ℕ, ◌≡◌, ◌↔◌, Bool, true, cond, not, ◌&&◌, eqb, Option, None, Some}
use mathlib.Core.List.{List, [], ◌∷◌, ◌++◌, flat_map, Memᴰ}
use Rattle.words.specs.Fnv.{use_id}
use Rattle.scope.specs.Graph.{with_barrier, return_scope, comprehension_scope, Scope, Name, indexed, same_name}
use Rattle.scope.specs.Lookup.{Looked, at, nothing, refused, parent_at, kind_at}
use Rattle.expr.specs.Tree.{Expr, var, unresolved, node, predicate, comprehension, Exprs, done, more, mark, Steps, end, part, elem}
use Rattle.clauses.specs.Tree.{Projection, Clause, opening, reading, with', return, unwind, call, Arm, arm, exprs, keys_of}
use Rattle.tables.specs.Row.{Row, row}
use Rattle.sheet.specs.Statement.{Statement}
use Rattle.semantics.specs.Log
use Rattle.semantics.specs.Log.{Finding, finding, Answer, found, missing, Write, write, Event, answer, find, answers_in}
use Rattle.semantics.specs.World.{World, hush, variable, opens, bytes_of, kind_of, world_of}
use Rattle.semantics.specs.Resolve.{Hit, variable_of, Seen, seen, State, enter, leave, standing, bind_path, bind_elem, resolve, resolves, bind_pattern, carried_by, barrier, fresh, aliases, clause, clauses, start, log}
use Rattle.semantics.specs.Lists.{scopes, findings}

-- A Var with its id, or an Unresolved with its name, the scope where it stands and the visible list.
pub data Use : Type 0 where
  by_var : (id : ℕ) → Use
  by_name : (name scope : ℕ) (visible : List Seen) → Use

-- "not visible": no entry of the visible list has the name x; and the test of it.
abbrev pub Lacks : Name → List Seen → Type 0
Lacks x vis = (h : Hit) (p : ℕ) → Memᴰ (seen x h p) vis → ⊥

unfoldable pub lacks : Name → List Seen → Bool
lacks x [] = true
lacks x (seen y h p ∷ vis) = not (same_name x y) && lacks x vis

-- what the visible list has for a name
unfoldable pub seen_as : Name → List Seen → Looked
seen_as x [] = nothing
seen_as x (seen y h p ∷ vis) = cond (same_name x y) (at (variable_of h) p) (seen_as x vis)

-- 1 where a scope has a WithBarrier as its parent, else 0
unfoldable pub under_barrier : List Scope → Option ℕ → ℕ
under_barrier ss None = 0
under_barrier ss (Some p) = cond (eqb (kind_at ss p) with_barrier) 1 0

unfoldable pub via_at : List Scope → ℕ → ℕ
via_at ss s = under_barrier ss (parent_at ss s)

-- what is recorded of a name that has this binding: "via_projection is true exactly when the scope of the binding that answered the use, for
-- a WITH's sort key perhaps one before that WITH, has a WithBarrier as its parent" (document 02, CR 3)
unfoldable pub recorded_as : World → List Scope → Looked → Answer
recorded_as w ss (at v s) = found v (kind_of w v) (via_at ss s)
recorded_as w ss nothing = missing
recorded_as w ss (refused c) = missing

-- "A Var records its own id, visible or not, if the sheet's bindings section has it"; "a Var's own record keeps false" (document 02, CR 3)
unfoldable pub of_row : ℕ → Option Row → List Write
of_row v None = []
of_row v (Some (row i x k a b)) = write v (found v k 0) ∷ []

module _ (w : World) where
  -- The uses of a tree in walk order, each with what the walk has visible there. A PatternPredicate is not resolved, a hushed name is no
  -- use.
  unfoldable mutual
    pub uses_e : Expr → State → List Use
    uses_e (var v) s = by_var v ∷ []
    uses_e (unresolved x) s = cond (w.hushed x) [] (by_name x s.cur s.visible ∷ [])
    uses_e (node f es) s = uses_es es s
    uses_e (predicate p) s = []
    uses_e (comprehension a b p es) s = uses_s p (enter comprehension_scope a b s) ++ uses_es es (bind_pattern w p (enter comprehension_scope a b s))

    pub uses_es : Exprs → State → List Use
    uses_es done s = []
    uses_es (more e es) s = uses_e e s ++ uses_es es (resolve w e s)
    uses_es (mark m es) s = uses_es es s

    pub uses_s : Steps → State → List Use
    uses_s end s = []
    uses_s (part p r) s = uses_s r (bind_path w (variable p) s)
    uses_s (elem k a b v es r) s = let t = bind_elem w k (variable v) s in uses_es es t ++ uses_s r (resolves w es t)

module _ (w : World) where
  -- Where a WITH's sort keys are resolved: in its new Root, with the list before it too.
  unfoldable pub sort_at : ℕ → ℕ → List Projection → Exprs → State → State
  sort_at a b ps f s =
      let cs = carried_by w ps s.visible in
      let t = fresh w b cs (barrier w a b cs (resolves w (exprs ps f) s)) in
      standing (t.visible ++ s.visible) t.cur t

  -- "Unwind's list, Call's arguments .. are not resolved."
  unfoldable pub uses_c : Clause → State → List Use
  uses_c (opening o a b p) s = uses_s w p (enter (opens o) a b s)
  uses_c (reading r a b es) s = uses_es w es s
  uses_c (with' a b ps f ks) s = uses_es w (exprs ps f) s ++ uses_es w (keys_of ks) (sort_at a b ps f s)
  uses_c (return a b ps ks) s =
      let t = leave s (enter return_scope a b s) in
      uses_es w (exprs ps done) t ++ uses_es (hush (aliases ps) w) (keys_of ks) (resolves w (exprs ps done) t)
  uses_c (unwind a b v e) s = []
  uses_c (call a b es ys) s = []

  -- Each clause goes on where those before it end, each arm at scope 0 with nothing visible.
  unfoldable pub uses_cs : List Clause → State → List Use
  uses_cs [] s = []
  uses_cs (c ∷ cs) s = uses_c c s ++ uses_cs cs (clause w c s)

  unfoldable pub uses_as : List Arm → State → List Use
  uses_as [] s = []
  uses_as (arm a b cs ∷ rest) s = uses_cs cs (standing [] 0 s) ++ uses_as rest (clauses w cs (standing [] 0 s))

  -- E1001 of a name that is not visible, except `*`.
  unfoldable pub e1001 : Use → List Finding
  e1001 (by_var v) = []
  e1001 (by_name x p vis) = cond (lacks (indexed x) vis && not (w.is_star x)) (finding Log.e1001 0 0 (Some (indexed x)) 0 0 ∷ []) []

  -- The record of a name: its use id, and the answer by the newest binding that the visible list has for it.
  unfoldable pub record_of : List Scope → Use → List Write
  record_of ss (by_var v) = of_row v (w.row v)
  record_of ss (by_name x p vis) = write (w.id x) (recorded_as w ss (seen_as (indexed x) vis)) ∷ []

  -- The unresolved record of a name that is not visible, `*` or not.
  unfoldable pub unresolved_of : Use → List Write
  unresolved_of (by_var v) = []
  unresolved_of (by_name x p vis) = cond (lacks (indexed x) vis) (write (w.id x) missing ∷ []) []

-- All uses of a statement: the head's, then the arms'.
unfoldable pub uses : Bool → Statement → List Use
uses warns s = let w = world_of warns s in uses_cs w s.head (start s) ++ uses_as w s.arms (clauses w s.head (start s))

-- The findings with a code, and the unresolved records, of a list in order.
unfoldable pub coded : ℕ → Finding → List Finding
coded c (finding d a b x o t) = cond (eqb c d) (finding d a b x o t ∷ []) []

unfoldable pub with_code : ℕ → List Finding → List Finding
with_code c = flat_map (coded c)

unfoldable pub unresolved_as : Write → List Write
unresolved_as (write i (found v k r)) = []
unresolved_as (write i missing) = write i missing ∷ []

unfoldable pub unresolved_in : List Write → List Write
unresolved_in = flat_map unresolved_as

-- At one use, l being what an Unresolved with the name x says where vis is visible: its only finding, and its only unresolved record.
pub record Arises (s : Statement) (x : ℕ) (vis : List Seen) (l : List Event) : Type 0 where
  pub finds : (f : Finding) → Memᴰ (find f) l ↔ ((f ≡ finding Log.e1001 0 0 (Some (indexed x)) 0 0) × Lacks (indexed x) vis × (bytes_of s x ≡ 42 ∷ [] → ⊥))
  pub records : (i : ℕ) → Memᴰ (answer (write i missing)) l ↔ ((i ≡ use_id (bytes_of s x)) × Lacks (indexed x) vis)

-- Over a statement: the lists hold, in order, what the uses leave.
pub record OfUses (warns : Bool) (s : Statement) : Type 0 where
  pub finds : with_code Log.e1001 (findings warns s) ≡ flat_map (e1001 (world_of warns s)) (uses warns s)
  pub records : answers_in (log warns s) ≡ flat_map (record_of (world_of warns s) (scopes warns s)) (uses warns s)
  pub unresolved : unresolved_in (answers_in (log warns s)) ≡ flat_map (unresolved_of (world_of warns s)) (uses warns s)
