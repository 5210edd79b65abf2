-- The resolve walk (document 01, "Walking clauses (000)") as steps of a state. The sentences in quotes are document 01's, and
-- document 02's where it is named.
use Rattle.std.specs.Prelude.{ℕ, suc, Bool, true, false, cond, not, ◌&&◌, ◌||◌, List, [], ◌∷◌, ◌++◌, reverse, eqb, Option, None, Some}
use Rattle.scope.specs.Graph.{root_scope, unwind_scope, call_scope, with_barrier, return_scope, comprehension_scope, scope, Name, indexed, same_name, carried}
use Rattle.expr.specs.Tree.{Expr, var, unresolved, node, predicate, comprehension, Exprs, done, more, mark, Steps, end, part, elem}
use Rattle.clauses.specs.Tree.{Projection, projection, Yield, yield, Clause, opening, reading, with', return, unwind, call, Arm, arm, exprs, keys_of}
use Rattle.tables.specs.Row.{path_kind, value_kind, Row, row}
use Rattle.sheet.specs.Statement.{Statement}
use Rattle.semantics.specs.Log.{e1001, e1002, finding, found, missing, bound, write, Event, open', bind, carry, answer, find}
use Rattle.semantics.specs.World.{World, hush, world_of, variable, opens, Direct, a_var, a_name, other, direct, yield_name, name_of, kind_of, worlds}

-- What a visible name is bound to: its variable, and via_projection (document 02, CR 3), 1 if the binding came over a WITH and else 0. A
-- visible name, what it is bound to, and the scope that binds it; and a pair that a WITH carries.
pub data Hit : Type 0 where
  hit : (variable via : ℕ) → Hit

pub data Seen : Type 0 where
  seen : Name → Hit → (scope : ℕ) → Seen

pub data Pair : Type 0 where
  pair : Name → (variable : ℕ) → Pair

-- Where the walk stands.
pub record State : Type 0 where
  pub visible : List Seen  -- "Visible list: newest binding first"
  pub cur : ℕ  -- the current scope
  pub last : ℕ  -- the highest scope number so far
  pub log : List Event  -- what was said, newest first

unfoldable pub variable_of : Hit → ℕ
variable_of (hit v o) = v

-- what the newest binding of a name binds it to; and whether the scope c binds it
unfoldable pub lookup : Name → List Seen → Option Hit
lookup x [] = None
lookup x (seen y h p ∷ vis) = cond (same_name x y) (Some h) (lookup x vis)

unfoldable pub binds : ℕ → Name → List Seen → Bool
binds c x [] = false
binds c x (seen y h p ∷ vis) = same_name x y && eqb p c || binds c x vis

-- a variable that has a row, under its name; and a name that is found
unfoldable pub if_row : Option Row → ℕ → List Pair
if_row None v = []
if_row (Some (row i x k a b)) v = pair (indexed x) v ∷ []

unfoldable pub if_some : Option Hit → Name → List Pair
if_some None x = []
if_some (Some h) x = pair x (variable_of h) ∷ []

-- pairs without those of a name; and each visible name once, with its newest variable, newest first
unfoldable pub without : Name → List Pair → List Pair
without x [] = []
without x (pair y v ∷ ps) = cond (same_name x y) (without x ps) (pair y v ∷ without x ps)

unfoldable pub once : List Seen → List Pair
once [] = []
once (seen x h p ∷ vis) = pair x (variable_of h) ∷ without x (once vis)

-- The steps. An event is said, always or if a test holds; a scope is opened under the current one, which it becomes; a name is bound in
-- the current scope, and visible from then on; what is visible and current is again as in s.
abbrev pub say : Event → State → State
say e s = record { visible = s.visible; cur = s.cur; last = s.last; log = e ∷ s.log }

unfoldable pub say_if : Bool → Event → State → State
say_if true e s = say e s
say_if false e s = s

abbrev pub enter : ℕ → ℕ → ℕ → State → State
enter k a b s = record { visible = s.visible; cur = suc s.last; last = suc s.last; log = open' (scope k (Some s.cur) a b) ∷ s.log }

abbrev pub bind_over : Bool → Name → ℕ → ℕ → State → State
bind_over over x v k s =
    record {
      visible = seen x (hit v (cond over 1 0)) s.cur ∷ s.visible;
      cur = s.cur;
      last = s.last;
      log = bind over (binds s.cur x s.visible) (bound s.cur x v k) ∷ s.log;
    }

abbrev pub bind_name : Name → ℕ → ℕ → State → State
bind_name = bind_over false

abbrev pub leave : State → State → State
leave s t = record { visible = s.visible; cur = s.cur; last = t.last; log = t.log }

abbrev pub standing : List Seen → ℕ → State → State
standing vis c s = record { visible = vis; cur = c; last = s.last; log = s.log }

module _ (w : World) where
  -- "A Var records its own id, visible or not, if the sheet's bindings section has it"; "a Var's own record keeps false" (document 02, CR 3)
  unfoldable pub use_var : ℕ → Option Row → State → State
  use_var v None s = s
  use_var v (Some (row i x k a b)) s = say (answer (write v (found v k 0))) s

  -- "E1001 comes at each visit of an Unresolved name not visible, except `*`, recorded unresolved without it"
  unfoldable pub use_name : ℕ → Option Hit → State → State
  use_name x (Some (hit v o)) s = say (answer (write (w.id x) (found v (kind_of w v) o))) s
  use_name x None s = say_if (not (w.is_star x)) (find (finding e1001 0 0 (Some (indexed x)) 0 0)) (say (answer (write (w.id x) missing)) s)

  -- "a name equal to an alias of the same clause is no use .. and gives no finding and no record" (document 02, CR 1)
  unfoldable pub visit : Bool → ℕ → Option Hit → State → State
  visit true x o s = s
  visit false x o s = use_name x o s

  -- "E1002, only with warnings on, arises from a path or a yield whose name its own scope already binds"
  unfoldable pub bind_anew : ℕ → ℕ → Name → ℕ → ℕ → State → State
  bind_anew a b x v k s = say_if (w.warns && binds s.cur x s.visible) (find (finding e1002 a b (Some x) 0 0)) (bind_name x v k s)

  -- "Nodes and relationships bind only a name not visible"
  unfoldable pub bind_new : Option Hit → Name → ℕ → ℕ → State → State
  bind_new None x v k s = bind_name x v k s
  bind_new (Some h) x v k s = s

  -- "Patterns, yields and Unwind bind with their position's kind"
  unfoldable pub bind_path : Option ℕ → State → State
  bind_path None s = s
  bind_path (Some v) s = bind_anew 0 0 (name_of w v) v path_kind s

  unfoldable pub bind_elem : ℕ → Option ℕ → State → State
  bind_elem k None s = s
  bind_elem k (Some v) s = bind_new (lookup (name_of w v) s.visible) (name_of w v) v k s

  -- "the two walks call each other". "PatternPredicate .. not resolved"; a comprehension's names are visible within it alone.
  unfoldable mutual
    pub resolve : Expr → State → State
    resolve (var v) s = use_var v (w.row v) s
    resolve (unresolved x) s = visit (w.hushed x) x (lookup (indexed x) s.visible) s
    resolve (node f es) s = resolves es s
    resolve (predicate p) s = s
    resolve (comprehension a b p es) s = leave s (resolves es (bind_pattern p (enter comprehension_scope a b s)))

    pub resolves : Exprs → State → State
    resolves done s = s
    resolves (more e es) s = resolves es (resolve e s)
    resolves (mark m es) s = resolves es s

    pub bind_pattern : Steps → State → State
    bind_pattern end s = s
    bind_pattern (part p r) s = bind_pattern r (bind_path (variable p) s)
    bind_pattern (elem k a b v es r) s = bind_pattern r (resolves es (bind_elem k (variable v) s))

  -- "Carried: an aliased Var under its alias; an unaliased Var with a binding under its name; an unaliased Unresolved that is found". "An
  -- aliased Unresolved name is carried under its alias if it is found, else not. An alias of any other expression save Var is carried with
  -- the use id of the alias as its variable" (document 02, CR 2). What an unaliased star carries stands below, also where `*` itself is visible
  unfoldable pub carries : Option ℕ → Direct → List Seen → List Pair
  carries (Some x) (a_var v) vis = pair (indexed x) v ∷ []
  carries (Some x) (a_name y) vis = if_some (lookup (indexed y) vis) (indexed x)
  carries (Some x) other vis = pair (indexed x) (w.id x) ∷ []
  carries None (a_var v) vis = if_row (w.row v) v
  carries None (a_name x) vis = cond (w.is_star x) [] (if_some (lookup (indexed x) vis) (indexed x))
  carries None other vis = []

  unfoldable pub projected : List Projection → List Seen → List Pair
  projected [] vis = []
  projected (projection a e ∷ ps) vis = carries a (direct e) vis ++ projected ps vis

  -- whether a projection is an unaliased star, and whether one of several is: "Several stars in one WITH act as one" (document 02, CR 2)
  unfoldable pub is_all : Option ℕ → Direct → Bool
  is_all (Some x) d = false
  is_all None (a_var v) = false
  is_all None (a_name x) = w.is_star x
  is_all None other = false

  unfoldable pub any_star : List Projection → Bool
  any_star [] = false
  any_star (projection a e ∷ ps) = is_all a (direct e) || any_star ps

  -- "An unaliased star now carries each visible name once with its newest variable, the oldest such binding first, before other
  -- projections" (document 02, CR 2)
  unfoldable pub starred : List Projection → List Seen → List Pair
  starred ps vis = cond (any_star ps) (reverse (once vis)) []

  unfoldable pub carried_by : List Projection → List Seen → List Pair
  carried_by ps vis = starred ps vis ++ projected ps vis

  -- pairs carried by the current scope; and bound there: "carried names .. take the table's" kind
  unfoldable pub carry_all : List Pair → State → State
  carry_all [] s = s
  carry_all (pair x v ∷ ps) s = carry_all ps (say (carry (carried s.cur x v)) s)

  unfoldable pub bind_all : List Pair → State → State
  bind_all [] s = s
  bind_all (pair x v ∷ ps) s = bind_all ps (bind_over true x v (kind_of w v) s)

  -- WITH "opens a WithBarrier, then a Root with the span (end, end), and binds the carried names there": all that is visible then
  unfoldable pub barrier : ℕ → ℕ → List Pair → State → State
  barrier a b ps s = carry_all ps (enter with_barrier a b s)

  unfoldable pub fresh : ℕ → List Pair → State → State
  fresh b ps s = bind_all ps (enter root_scope b b (standing [] s.cur s))

  -- Yields bind in order; "the span is the clause's for a yield's E1002"
  unfoldable pub yields : ℕ → ℕ → List Yield → State → State
  yields a b [] s = s
  yields a b (yield x y v ∷ ys) s = yields a b ys (bind_anew a b (indexed (yield_name x y)) v value_kind s)

-- the aliases of projections
unfoldable pub alias_in : Option ℕ → List ℕ
alias_in None = []
alias_in (Some x) = x ∷ []

unfoldable pub aliases : List Projection → List ℕ
aliases [] = []
aliases (projection a e ∷ ps) = alias_in a ++ aliases ps

module _ (w : World) where
  -- A WITH's sort keys, "each .. resolved after the new scope is bound: a name is sought there, then in the list before the WITH", vis; "the
  -- list after the WITH is the carried pairs alone" (document 02, CR 1)
  unfoldable pub sort_by : Exprs → List Seen → State → State
  sort_by ks vis s = leave s (resolves w ks (standing (s.visible ++ vis) s.cur s))

  -- "Match, Create, Merge, Unwind, Call and Return open a child; Return's expressions look from outside it. WITH resolves projections and
  -- filter outside". "Where, Set, Remove and Delete open nothing. Unwind's list, Call's arguments .. are not resolved." A RETURN's sort keys
  -- "are sought as its projections are" (document 02, CR 1).
  unfoldable pub clause : Clause → State → State
  clause (opening o a b p) s = bind_pattern w p (enter (opens o) a b s)
  clause (reading r a b es) s = resolves w es s
  clause (with' a b ps f ks) s =
      let cs = carried_by w ps s.visible in
      sort_by (keys_of ks) s.visible (fresh w b cs (barrier w a b cs (resolves w (exprs ps f) s)))
  clause (return a b ps ks) s =
      standing s.visible (suc s.last)
      (resolves (hush (aliases ps) w) (keys_of ks) (resolves w (exprs ps done) (leave s (enter return_scope a b s))))
  clause (unwind a b v e) s = bind_name (name_of w v) v value_kind (enter unwind_scope a b s)
  clause (call a b es ys) s = yields w a b ys (enter call_scope a b s)

  unfoldable pub clauses : List Clause → State → State
  clauses [] s = s
  clauses (c ∷ cs) s = clauses cs (clause c s)

  -- "then each arm from scope 0", with nothing visible
  unfoldable pub arms : List Arm → State → State
  arms [] s = s
  arms (arm a b cs ∷ rest) s = arms rest (clauses cs (standing [] 0 s))

-- "Head, then each arm from scope 0, a Root with the statement's span"
unfoldable pub start : Statement → State
start s = record { visible = []; cur = 0; last = 0; log = open' (scope root_scope None s.start s.stop) ∷ [] }

unfoldable pub run : Bool → Statement → State
run warns s = arms (world_of warns s) s.arms (clauses (world_of warns s) s.head (start s))

-- the log, oldest first
unfoldable pub log : Bool → Statement → List Event
log warns s = reverse (run warns s).log

-- `unfolding walk` opens all of the walk.
unfoldable pub walk : Unit {0}
unfolding worlds variable_of lookup binds if_row if_some without once say_if use_var use_name visit bind_anew bind_new bind_path bind_elem resolve carries projected is_all any_star starred carried_by carry_all bind_all barrier fresh yields alias_in aliases sort_by clause clauses arms start run log exprs keys_of
walk = tt
