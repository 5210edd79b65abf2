-- The walk over a statement is followed, event by event (`walked`). `Walked l us m`: it goes from the log l to m, both newest first, and us are
-- its uses on the way. A name is used where the log shows what is visible (`Stood`, Shows), and its record is by that (`use_says`), since the
-- marks are right (Vias); a comprehension's scope is as Inners has it (`Aside`). `Sight`: where an expression looks, the World with the names
-- that are hushed, and the list beyond. Sort keys look otherwise than the rest of their clause: a RETURN's hush its aliases, a WITH's have the
-- list before it beyond.
use Rattle.std.specs.Prelude.{Option, None, Some}
use Prim.Native.Nat.{ℕ, suc, ◌≤◌, ◌<◌}
use native.Mathlib.Nat.{le_refl}
use native.Mathlib.Omega.{arith}
use mathlib.Core.Path.{◌≡◌, refl, sym, ◌∙◌, ap, subst}
use mathlib.Core.Bool.{Bool, true, false, cond, not, ◌&&◌}
use mathlib.Core.List.{List, [], ◌∷◌, ◌++◌, map, reverse_aux}
use lib.Dec.{eqb}
use Rattle.scope.specs.Graph.{return_scope, with_barrier, call_scope, root_scope, comprehension_scope, scope, Carried, Name, indexed, same_name}
use Rattle.scope.specs.Lookup.{Looked, at}
use Rattle.heads.specs.Answer.{is_in}
use Rattle.expr.specs.Tree.{Expr, var, unresolved, node, predicate, comprehension, Exprs, done, more, mark, Steps, end, part, elem}
use Rattle.clauses.specs.Tree.{Yield, yield, Opening, match, create, merge, Clause, opening, reading, with', return, unwind, call, Arm, arm, exprs, keys_of}
use Rattle.tables.specs.Row.{value_kind, path_kind, Row, row}
use Rattle.sheet.specs.Statement.{Statement}
use Rattle.semantics.specs.Log
use Rattle.semantics.specs.Log.{e1002, Finding, finding, found, missing, Bound, write, Event, open', bind, carry, answer, find}
use Rattle.semantics.specs.World.{World, hush, variable, opens, yield_name, name_of, kind_of, world_of}
use Rattle.semantics.specs.Resolve.{Hit, hit, variable_of, Seen, seen, Pair, pair, State, lookup, say, say_if, enter, bind_name, leave, standing, use_var, use_name, visit, bind_anew, bind_new, bind_path, bind_elem, resolve, resolves, bind_pattern, carried_by, carry_all, bind_all, barrier, fresh, yields, aliases, sort_by, clause, clauses, arms, start, run, log}
use Rattle.semantics.specs.Lists.{scopes}
use Rattle.theorems.specs.Site.{Cut, whole, in_head, in_arm, silent, entry, before}
use Rattle.theorems.specs.Uses.{Use, by_var, by_name, lacks, seen_as, recorded_as, of_row, e1001, record_of, uses_e, uses_es, uses_s, sort_at, uses_c, uses_cs, uses_as, uses}
use Rattle.theorems.specs.Agree
use Rattle.theorems.proofs.Adds.{after, pattern-after, barrier-after, fresh-after, clauses-after, arms-after}
use Rattle.theorems.proofs.Keeps.{keeps, all_keep}
use Rattle.theorems.proofs.Within.{enter-W, path-W, elem-W, resolve-W, resolves-W, pattern-W, barrier-W, fresh-W, clauses-W, arms-W}
use Rattle.theorems.proofs.Placed.{silent-W}
use Rattle.theorems.proofs.Shows.{opening-kind, Shows, enter-A, path-A, elem-A, resolves-A, pattern-A, clause-A, left-A, arm-start-A, root-at-A, ahead-A, root-A, arm-A}
use Rattle.theorems.proofs.Inners.{all_le, le-wide, back, Ends, ends-back, ends-Es, ends-S, Inner, inner}
use Rattle.theorems.proofs.Vias.{Marks, Marked, Binds, kept, still, enter-V, ahead-V, path-V, elem-V, pattern-V, root-V, clause-V, start-V}

-- E1001 at a name
abbrev pub its-finding : ℕ → Finding
its-finding x = finding Log.e1001 0 0 (Some (indexed x)) 0 0

module _ (warns : Bool) (st : Statement) where
  abbrev pub W : World
  W = world_of warns st

  abbrev pub all : List Event
  all = (run warns st).log

  pub record Sight : Type 0 where
    pub world : World
    pub hushed : List ℕ
    pub known : world ≡ hush hushed W
    pub beyond : List Seen
    pub hidden : Agree.Beyond warns st beyond

  -- outside of sort keys: nothing is hushed, and nothing stands beyond
  base : W ≡ hush [] W
  unfolding world_of is_in
  base = refl

  abbrev plain : Sight
  plain = record { world = W; hushed = []; known = base; beyond = []; hidden = Agree.nowhere }

  -- what a use says, oldest first: its record, and E1001 where that arises
  abbrev pub use_says : Use → List Event
  use_says u = map answer (record_of W (scopes warns st) u) ++ map find (e1001 W u)

  -- After a log: an event that no use says; a use; and a further log, by steps.
  pub data Aside : Event → List Event → Type 0 where
    other_scope : {k : ℕ} {p : Option ℕ} {a b : ℕ} {l : List Event} → eqb k comprehension_scope ≡ false → Aside (open' (scope k p a b)) l
    inner_scope : (v : Sight) (s : State) {a b : ℕ} (q : Steps) → Inner all v.world v.beyond s a b q → Aside (open' (scope comprehension_scope (Some s.cur) a b)) s.log
    binding : {o g : Bool} {b : Bound} {l : List Event} → Aside (bind o g b) l
    carrying : {c : Carried} {l : List Event} → Aside (carry c) l
    repeating : {a b : ℕ} {x : Option Name} {l : List Event} → Aside (find (finding e1002 a b x 0 0)) l

  pub data Stood : Use → List Event → Type 0 where
    of_var : {v : ℕ} {l : List Event} → Stood (by_var v) l
    of_name : {x : ℕ} (v : Sight) (s : State) → Shows [] v.beyond s → Stood (by_name x s.cur s.visible) s.log

  pub data Walked : List Event → List Use → List Event → Type 0 where
    none' : {l : List Event} → Walked l [] l
    says : {e : Event} {l m : List Event} {us : List Use} → Aside e l → Walked (e ∷ l) us m → Walked l us m
    meets : {u : Use} {l m : List Event} {us : List Use} → Stood u l → Walked (reverse_aux (use_says u) l) us m → Walked l (u ∷ us) m

  then : {l m n : List Event} {us vs : List Use} → Walked l us m → Walked m vs n → Walked l (us ++ vs) n
  then none' b = b
  then (says h a) b = says h (then a b)
  then (meets h a) b = meets h (then a b)

  -- Steps without uses.
  module _ (w : World) where
    walk-if : (b : Bool) (i j : ℕ) (x : Option Name) (s : State) → Walked s.log [] (say_if b (find (finding e1002 i j x 0 0)) s).log
    unfolding say_if
    walk-if true i j x s = says repeating none'
    walk-if false i j x s = none'

    walk-anew : (i j : ℕ) (x : Name) (v k : ℕ) (s : State) → Walked s.log [] (bind_anew w i j x v k s).log
    unfolding bind_anew
    walk-anew i j x v k s = says binding (walk-if _ i j (Some x) (bind_name x v k s))

    walk-path : (o : Option ℕ) (s : State) → Walked s.log [] (bind_path w o s).log
    unfolding bind_path
    walk-path None s = none'
    walk-path (Some v) s = walk-anew 0 0 (name_of w v) v path_kind s

    walk-new : (o : Option Hit) (x : Name) (v k : ℕ) (s : State) → Walked s.log [] (bind_new w o x v k s).log
    unfolding bind_new
    walk-new None x v k s = says binding none'
    walk-new (Some u) x v k s = none'

    walk-elem : (k : ℕ) (o : Option ℕ) (s : State) → Walked s.log [] (bind_elem w k o s).log
    unfolding bind_elem
    walk-elem k None s = none'
    walk-elem k (Some v) s = walk-new (lookup (name_of w v) s.visible) (name_of w v) v k s

    walk-carry : (ps : List Pair) (s : State) → Walked s.log [] (carry_all w ps s).log
    unfolding carry_all
    walk-carry [] s = none'
    walk-carry (pair x v ∷ ps) s = says carrying (walk-carry ps _)

    walk-bind : (ps : List Pair) (s : State) → Walked s.log [] (bind_all w ps s).log
    unfolding bind_all
    walk-bind [] s = none'
    walk-bind (pair x v ∷ ps) s = says binding (walk-bind ps _)

    walk-yields : (a b : ℕ) (ys : List Yield) (s : State) → Walked s.log [] (yields w a b ys s).log
    unfolding yields
    walk-yields a b [] s = none'
    walk-yields a b (yield x y v ∷ ys) s = then (walk-anew a b (indexed (yield_name x y)) v value_kind s) (walk-yields a b ys _)

  opening-other : (o : Opening) → eqb (opens o) comprehension_scope ≡ false
  unfolding opens
  opening-other (match o) = refl
  opening-other create = refl
  opening-other merge = refl

  -- A use says that, whichever names are hushed: with right marks a name's record is the one by the scope of its binding.
  var-said : (xs : List ℕ) (v : ℕ) (s : State) → (use_var (hush xs W) v (W.row v) s).log ≡ reverse_aux (use_says (by_var v)) s.log
  unfolding use_var record_of of_row e1001
  var-said xs v s = go (W.row v)
    where
      go : (r : Option Row) → (use_var (hush xs W) v r s).log ≡ reverse_aux (map answer (of_row v r) ++ []) s.log
      go None = refl
      go (Some (row i x k a b)) = refl

  -- what a name says, by what the visible list has for it, and whether it lacks it
  abbrev name_says : ℕ → Looked → Bool → List Event
  name_says x k b = answer (write (W.id x) (recorded_as W (scopes warns st) k)) ∷ map find (cond (b && not (W.is_star x)) (its-finding x ∷ []) [])

  name-said : (xs : List ℕ) (x p : ℕ) (vis : List Seen) → Marks all vis → (s : State) → (use_name (hush xs W) x (lookup (indexed x) vis) s).log ≡ reverse_aux (use_says (by_name x p vis)) s.log
  unfolding use_name lookup seen_as recorded_as variable_of kind_of Marks record_of e1001 lacks scopes log
  name-said xs x p [] m s = go (W.is_star x)
    where
      go : (b : Bool) → (say_if (not b) (find (its-finding x)) (say (answer (write (W.id x) missing)) s)).log
          ≡ reverse_aux (map find (cond (not b) (its-finding x ∷ []) [])) (answer (write (W.id x) missing) ∷ s.log)
      go true = unfold say_if in refl
      go false = unfold say_if in refl
  name-said xs x p (seen y (hit v o) q ∷ vis) m s = go (same_name (indexed x) y) (name-said xs x p vis m.1 s)
    where
      go : (b : Bool) → (use_name (hush xs W) x (lookup (indexed x) vis) s).log ≡ reverse_aux (name_says x (seen_as (indexed x) vis) (lacks (indexed x) vis)) s.log
          → (use_name (hush xs W) x (cond b (Some (hit v o)) (lookup (indexed x) vis)) s).log ≡ reverse_aux (name_says x (cond b (at v q) (seen_as (indexed x) vis)) (not b && lacks (indexed x) vis)) s.log
      go true e = ap (λ i. answer (write (W.id x) (found v (kind_of W v) i)) ∷ s.log) (sym m.0)
      go false e = e

  -- Expressions, os being the scopes that patterns around are still in.
  module _ (v : Sight) where
    abbrev w : World
    w = v.world

    abbrev far : List Seen
    far = v.beyond

    walk-use : (u : Use) {l m : List Event} → Stood u l → m ≡ reverse_aux (use_says u) l → Walked l (u ∷ []) m
    walk-use u {l} {m} h e = meets h (subst (λ k. Walked k [] m) e none')

    walk-var : (u : ℕ) (s : State) → Walked s.log (by_var u ∷ []) (use_var w u (w.row u) s).log
    walk-var u s = walk-use (by_var u) of_var (ap (λ (k : World). (use_var k u (k.row u) s).log) v.known ∙ var-said v.hushed u s)

    walk-visit : (hushed : Bool) (x : ℕ) {s : State} → Shows [] far s → Marked all s
        → Walked s.log (cond hushed [] (by_name x s.cur s.visible ∷ [])) (visit w hushed x (lookup (indexed x) s.visible) s).log
    unfolding visit
    walk-visit true x h n = none'
    walk-visit false x {s} h n =
        walk-use (by_name x s.cur s.visible) (of_name v s h)
        (ap (λ (k : World). (use_name k x (lookup (indexed x) s.visible) s).log) v.known ∙ name-said v.hushed x s.cur s.visible n.marks s)

    mutual
      unfolding resolve uses_e all_le

      walk-E : (t : Expr) (os : List ℕ) {s : State} → all_le os s.last → Shows [] far s → Marked all s → Ends all os (resolve w t s) → Walked s.log (uses_e w t s) (resolve w t s).log
      walk-E (var u) os {s} low h n e = walk-var u s
      walk-E (unresolved x) os low h n e = walk-visit (w.hushed x) x h n
      walk-E (node f es) os low h n e = walk-Es es os low h n e
      walk-E (predicate q) os low h n e = none'
      walk-E (comprehension a b q es) os {s} low h n e =
          let t = enter comprehension_scope a b s in
          let u = bind_pattern w q t in
          let ft = enter-W w 0 0 comprehension_scope a b h.fine in
          let g = pattern-W w 0 0 q {s = t} (omega arith) (le_refl _) ft in
          let e0 : Ends all os (resolves w es u) = record { pre = e.pre; clear = e.clear } in
          let e1 = ends-Es all w es u g.fine e0 in
          let ht = enter-A w comprehension_scope a b refl h in
          let nt = enter-V all comprehension_scope a b refl h.fine (ends-S all w q t (omega arith) (le_refl _) ft e1).pre n in
          says (inner_scope v s q (inner all w far s a b q os low h e1))
          (then (walk-S q os {s = t} (omega arith) (le_refl _) (le-wide os (omega arith) low) ht nt e1)
          (walk-Es es os {s = u} (le-wide os (omega (arith, g.later)) low) (pattern-A w q {s = t} (omega arith) ht) (pattern-V all w q nt).marked e0))

      walk-Es : (t : Exprs) (os : List ℕ) {s : State} → all_le os s.last → Shows [] far s → Marked all s → Ends all os (resolves w t s) → Walked s.log (uses_es w t s) (resolves w t s).log
      walk-Es done os low h n e = none'
      walk-Es (more x es) os {s} low h n e =
          let r = resolve-W w 0 0 x h.fine in
          then (walk-E x os low h n (ends-Es all w es (resolve w x s) r.fine e))
          (walk-Es es os (le-wide os r.later low) (resolves-A w (more x done) h) (kept all (keeps w x s) n) e)
      walk-Es (mark k es) os low h n e = walk-Es es os low h n e

      walk-S : (q : Steps) (os : List ℕ) {s : State} → 0 < s.cur → s.cur ≤ s.last → all_le os s.last → Shows [] far s → Binds all false s → Ends all os (bind_pattern w q s)
          → Walked s.log (uses_s w q s) (bind_pattern w q s).log
      walk-S end os z l low h n e = none'
      walk-S (part p r) os {s} z l low h n e =
          let g = path-W w 0 0 (variable p) z l h.fine in
          then (walk-path w (variable p) s)
          (walk-S r os (omega (arith, g.cur)) (omega (arith, g.cur, g.later)) (le-wide os g.later low) (path-A w (variable p) z h) (path-V all w (variable p) n) e)
      walk-S (elem k a b p es r) os {s} z l low h n e =
          let t = bind_elem w k (variable p) s in
          let u = resolves w es t in
          let g = elem-W w 0 0 k (variable p) z l h.fine in
          let j = resolves-W w 0 0 es g.fine in
          let ht = elem-A w k (variable p) z h in
          let nt = elem-V all w k (variable p) n in
          let e1 = ends-S all w r u (omega (arith, g.cur, j.cur)) (omega (arith, g.cur, g.later, j.cur, j.later)) j.fine e in
          then (walk-elem w k (variable p) s)
          (then (walk-Es es (u.cur ∷ os) (omega (arith, g.cur, g.later, j.cur), le-wide os g.later low) ht nt.marked e1)
          (walk-S r os (omega (arith, g.cur, j.cur)) (omega (arith, g.cur, g.later, j.cur, j.later)) (le-wide os (omega (arith, g.later, j.later)) low) (resolves-A w es ht) (still all (all_keep w es t) nt) e))

  -- Clauses and arms. A WITH's sort keys have the list before it beyond: each WITH of the clauses has a site of the statement.
  abbrev Sites : List Clause → State → Type 0
  Sites cs s = (c : Cut) → cs ≡ whole c → Agree.Beyond warns st (clauses W c.before s).visible

  walk-C : (c : Clause) (rest : List Clause) {s : State} → Sites (c ∷ rest) s → Shows [] [] s → Marked all s → Ends all [] (clause W c s) → Walked s.log (uses_c W c s) (clause W c s).log
  unfolding clause uses_c barrier fresh sort_by sort_at all_le
  walk-C (opening o a b q) rest {s} sites h n e =
      let t = enter (opens o) a b s in
      let nt = enter-V all (opens o) a b (opening-kind o) h.fine (back all (bind_pattern W q) t (pattern-after W t.log q (silent t)) e.pre) n in
      says (other_scope (opening-other o)) (walk-S plain q [] {s = t} (omega arith) (le_refl _) tt (enter-A W (opens o) a b (opening-kind o) h) nt e)
  walk-C (reading r a b es) rest sites h n e = walk-Es plain es [] tt h n e
  walk-C (with' a b ps f ks) rest {s} sites h n e =
      let cs = carried_by W ps s.visible in
      let t = resolves W (exprs ps f) s in
      let l = t.last in
      let F : State → State = λ x. fresh W b cs (barrier W a b cs x) in
      let p : F t ≡ after t.log (F (silent t))
      = ap (fresh W b cs) (barrier-after W t.log a b cs (silent t)) ∙ fresh-after W t.log b cs (barrier W a b cs (silent t)) in
      let g = fresh-W W l (suc l) b cs (barrier-W W l (suc l) a b cs (silent-W l t refl)) in
      let u = barrier W a b cs t in
      let ht = resolves-A W (exprs ps f) h in
      let hr = ahead-A W s.visible (root-at-A W a b cs ht) in
      let k : Sight = record { world = W; hushed = []; known = base; beyond = s.visible; hidden = unfold clauses whole in sites (record { before = []; start = a; stop = b; projections = ps; filter = f; keys = ks; after = rest }) refl } in
      let o = standing ((F t).visible ++ s.visible) (F t).cur (F t) in
      let e0 : Ends all [] (resolves W (keys_of ks) o) = record { pre = e.pre; clear = e.clear } in
      let e1 = ends-Es all W (keys_of ks) o hr.fine e0 in
      let e2 : Ends all [] (F t) = record { pre = e1.pre; clear = e1.clear } in
      then (walk-Es plain (exprs ps f) [] tt h n (ends-back all F t p g.within (omega (arith, g.low, ap (λ (x : State). x.last) p)) e2))
      (says (other_scope refl) (then (walk-carry W cs (enter with_barrier a b t))
      (says (other_scope refl) (then (walk-bind W cs (enter root_scope b b (standing [] u.cur u)))
      (walk-Es k (keys_of ks) [] {s = o} tt hr (ahead-V all n (root-V all W a b cs ht.fine e2.pre)) e0)))))
  walk-C (return a b ps ks) rest {s} sites h n e =
      let t = leave s (enter return_scope a b s) in
      let r = resolves W (exprs ps done) t in
      let v = hush (aliases ps) W in
      let k : Sight = record { world = v; hushed = aliases ps; known = refl; beyond = []; hidden = Agree.nowhere } in
      let ht = left-A W return_scope a b h in
      let hr = resolves-A W (exprs ps done) ht in
      let nt : Marked all t = record { marks = n.marks; kind = n.kind } in
      let e0 : Ends all [] (resolves v (keys_of ks) r) = record { pre = e.pre; clear = e.clear } in
      says (other_scope refl)
      (then (walk-Es plain (exprs ps done) [] {s = t} tt ht nt (ends-Es all v (keys_of ks) r hr.fine e0))
      (walk-Es k (keys_of ks) [] {s = r} tt hr (kept all (all_keep W (exprs ps done) t) nt) e0))
  walk-C (unwind a b v x) rest sites h n e = says (other_scope refl) (says binding none')
  walk-C (call a b es ys) rest {s} sites h n e = says (other_scope refl) (walk-yields W a b ys (enter call_scope a b s))

  ends-Cs : (cs : List Clause) (s : State) → Ends all [] (clauses W cs s) → Ends all [] s
  ends-Cs cs s e =
      let n = s.last in
      let p = clauses-after W s.log cs (silent s) in
      let g = clauses-W W n (suc n) cs (silent-W n s refl) in
      ends-back all (clauses W cs) s p g.within (omega (arith, g.low, ap (λ (x : State). x.last) p)) e

  walk-Cs : (cs : List Clause) {s : State} → Sites cs s → Shows [] [] s → Marked all s → Ends all [] (clauses W cs s) → Walked s.log (uses_cs W cs s) (clauses W cs s).log
  unfolding clauses uses_cs whole
  walk-Cs [] sites h n e = none'
  walk-Cs (c ∷ cs) {s} sites h n e =
      let e1 = ends-Cs cs (clause W c s) e in
      then (walk-C c cs sites h n e1)
      (walk-Cs cs
      (λ d q. sites (record { before = c ∷ d.before; start = d.start; stop = d.stop; projections = d.projections; filter = d.filter; keys = d.keys; after = d.after }) (ap (◌∷◌ c) q))
      (clause-A W c h) (clause-V all W c h.fine e1.pre n) e)

  ends-As : (ts : List Arm) (s : State) → Ends all [] (arms W ts s) → Ends all [] s
  ends-As ts s e =
      let n = s.last in
      let p = arms-after W s.log ts (silent s) in
      let g = arms-W W n (suc n) ts (silent-W n s refl) in
      ends-back all (arms W ts) s p g.within (omega (arith, g.low, ap (λ (x : State). x.last) p)) e

  abbrev ArmSites : List Arm → State → Type 0
  ArmSites ts s = (before : List Arm) (a b : ℕ) (c : Cut) (later : List Arm) → ts ≡ before ++ arm a b (whole c) ∷ later
      → Agree.Beyond warns st (clauses W c.before (standing [] 0 (arms W before s))).visible

  walk-As : (ts : List Arm) (s : State) → ArmSites ts s → Shows [] [] (standing [] 0 s) → ((t : State) → Marked all (standing [] 0 t)) → Ends all [] (arms W ts s)
      → Walked s.log (uses_as W ts s) (arms W ts s).log
  unfolding arms uses_as
  walk-As [] s sites h n e = none'
  walk-As (arm a b cs ∷ ts) s sites h n e =
      let t = clauses W cs (standing [] 0 s) in
      then (walk-Cs cs (λ c q. sites [] a b c ts (ap (λ z. arm a b z ∷ ts) q)) h (n s) (ends-As ts t e))
      (walk-As ts t (λ before i j c later q. sites (arm a b cs ∷ before) i j c later (ap (◌∷◌ (arm a b cs)) q)) (arm-start-A W cs s h) n e)

  pub walked : Walked [] (uses warns st) all
  unfolding run uses before entry start
  walked =
      let e : Ends all [] (run warns st) = record { pre = record { rest = []; goes = refl }; clear = λ n x d i o. refl } in
      let t = clauses W st.head (start st) in
      let e1 = ends-As st.arms t e in
      let n = start-V all st (ends-Cs st.head (start st) e1).pre in
      says (other_scope refl)
      (then (walk-Cs st.head (λ c q. Agree.ahead (in_head c) q) (root-A warns st) (n (start st)) e1)
      (walk-As st.arms t (λ earlier a b c later q. Agree.ahead (in_arm earlier a b c later) q) (unfold arms in arm-A warns st []) n e))
