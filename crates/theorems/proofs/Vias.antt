-- The marks of what is visible are right (`Marks`): via is 1 exactly where the scope of the binding has a WithBarrier as its parent, in the
-- finished list of scopes (document 02, CR 3). `Marked` says it of a state, whose current scope is no barrier; `Binds over`, of one that may
-- also bind there, over a WITH or not. Each step keeps it: `kept` and `still`, what binds nothing; `enter-V`, `path-V`, `elem-V`, `pattern-V`;
-- `root-V`, a WITH's new Root; `ahead-V`, its sort keys; `clause-V`; `start-V`, where head and arms begin. L is the finished log, newest first;
-- what was said so far is its beginning (`Pre`).
use Rattle.std.specs.Prelude.{Option, None, Some}
use Prim.Native.Nat.{ℕ, suc}
use mathlib.Core.Path.{◌≡◌, refl, sym, ◌∙◌, ap, subst}
use mathlib.Core.Bool.{Bool, true, false, cond, ◌&&◌}
use mathlib.Core.List.{List, [], ◌∷◌, ◌++◌, reverse}
use lib.Dec.{eqb}
use lib.ListN.{length}
use Rattle.scope.specs.Graph.{return_scope, with_barrier, call_scope, unwind_scope, root_scope, Scope, scope, Name, indexed}
use Rattle.scope.specs.Lookup.{parent_at, kind_at}
use Rattle.expr.specs.Tree.{done, Steps, end, part, elem}
use Rattle.clauses.specs.Tree.{Yield, yield, Clause, opening, reading, with', return, unwind, call, exprs, keys_of}
use Rattle.tables.specs.Row.{value_kind, path_kind}
use Rattle.sheet.specs.Statement.{Statement}
use Rattle.semantics.specs.Log.{e1002, finding, Event, open', find, scopes_in, logs}
use Rattle.semantics.specs.World.{World, hush, variable, opens, yield_name, name_of, kind_of}
use Rattle.semantics.specs.Resolve.{Hit, hit, Seen, seen, Pair, pair, State, lookup, binds, enter, bind_name, bind_over, leave, standing, bind_anew, bind_new, bind_path, bind_elem, resolves, bind_pattern, carried_by, carry_all, bind_all, barrier, fresh, yields, aliases, sort_by, clause, start}
use Rattle.theorems.specs.Site.{silent}
use Rattle.theorems.specs.Uses.{under_barrier, via_at}
use Rattle.theorems.proofs.Views.{scopes-append}
use Rattle.theorems.proofs.Adds.{resolves-after, pattern-after, carry-after, bind-after, yields-after}
use Rattle.theorems.proofs.Keeps.{Keeps, say_if-keeps, all_keep}
use Rattle.theorems.proofs.Within.{Well, standing-W, resolves-W, barrier-W}
use Rattle.theorems.proofs.Placed.{carry-is}
use Rattle.theorems.proofs.Looks.{parent-at, kind-at}
use Rattle.theorems.proofs.Shows.{opening-kind, count}
use Rattle.theorems.proofs.Inners.{Pre, back, cut}

module _ (L : List Event) where
  abbrev ss : List Scope
  ss = scopes_in (reverse L)

  unfoldable pub Marks : List Seen → Type 0
  Marks [] = Unit {0}
  Marks (seen x (hit v o) p ∷ vis) = (via_at ss p ≡ o) × Marks vis

  marks-join : (a b : List Seen) → Marks a → Marks b → Marks (a ++ b)
  unfolding Marks
  marks-join [] b m n = n
  marks-join (seen x (hit v o) p ∷ a) b m n = (m.0, marks-join a b m.1 n)

  pub record Marked (s : State) : Type 0 where
    pub marks : Marks s.visible
    pub kind : eqb (kind_at ss s.cur) with_barrier ≡ false

  pub record Binds (over : Bool) (s : State) : Type 0 where
    pub marked : Marked s
    pub via : via_at ss s.cur ≡ cond over 1 0

  pub kept : {s t : State} → Keeps s t → Marked s → Marked t
  kept k h = record { marks = subst Marks (sym k.visible) h.marks; kind = ap (λ c. eqb (kind_at ss c) with_barrier) k.cur ∙ h.kind }

  pub still : {over : Bool} {s t : State} → Keeps s t → Binds over s → Binds over t
  still k h = record { marked = kept k h.marked; via = ap (via_at ss) k.cur ∙ h.via }

  -- the scope that was just opened
  opened-at : (k a b : ℕ) {s : State} → Well 0 0 s → Pre L (enter k a b s).log → (parent_at ss (suc s.last) ≡ Some s.cur) × (kind_at ss (suc s.last) ≡ k)
  unfolding logs
  opened-at k a b {s} f p =
      let l = scopes_in (reverse s.log) in
      let o = scope k (Some s.cur) a b in
      let n : length l ≡ suc s.last = count f in
      let e : ss ≡ l ++ o ∷ scopes_in (reverse p.rest) = ap scopes_in (cut L (open' o) s.log p) ∙ scopes-append (reverse s.log) (open' o ∷ reverse p.rest) in
      rw (e, ← n) (parent-at l _ k (Some s.cur) a b, kind-at l _ k (Some s.cur) a b)

  pub enter-V : (k a b : ℕ) {s : State} → eqb k with_barrier ≡ false → Well 0 0 s → Pre L (enter k a b s).log → Marked s → Binds false (enter k a b s)
  unfolding via_at under_barrier
  enter-V k a b {s} e f p h =
      let o = opened-at k a b f p in
      record { marked = record { marks = h.marks; kind = ap (λ j. eqb j with_barrier) o.1 ∙ e }; via = ap (under_barrier ss) o.0 ∙ ap (λ c. cond c 1 0) h.kind }

  pub ahead-V : {s t : State} → Marked s → Marked t → Marked (standing (t.visible ++ s.visible) t.cur t)
  ahead-V {s} {t} h n = record { marks = marks-join t.visible s.visible n.marks h.marks; kind = n.kind }

  bind-V : (over : Bool) (x : Name) (v k : ℕ) {s : State} → Binds over s → Binds over (bind_over over x v k s)
  unfolding Marks
  bind-V over x v k h = record { marked = record { marks = (h.via, h.marked.marks); kind = h.marked.kind }; via = h.via }

  module _ (w : World) where
    anew-V : (a b : ℕ) (x : Name) (v k : ℕ) {s : State} → Binds false s → Binds false (bind_anew w a b x v k s)
    unfolding bind_anew
    anew-V a b x v k {s} h = still (say_if-keeps (w.warns && binds s.cur x s.visible) (find (finding e1002 a b (Some x) 0 0)) (bind_name x v k s)) (bind-V false x v k h)

    new-V : (o : Option Hit) (x : Name) (v k : ℕ) {s : State} → Binds false s → Binds false (bind_new w o x v k s)
    unfolding bind_new
    new-V None x v k h = bind-V false x v k h
    new-V (Some u) x v k h = h

    pub path-V : (o : Option ℕ) {s : State} → Binds false s → Binds false (bind_path w o s)
    unfolding bind_path
    path-V None h = h
    path-V (Some v) h = anew-V 0 0 (name_of w v) v path_kind h

    pub elem-V : (k : ℕ) (o : Option ℕ) {s : State} → Binds false s → Binds false (bind_elem w k o s)
    unfolding bind_elem
    elem-V k None h = h
    elem-V k (Some v) {s} h = new-V (lookup (name_of w v) s.visible) (name_of w v) v k h

    pub pattern-V : (q : Steps) {s : State} → Binds false s → Binds false (bind_pattern w q s)
    unfolding bind_pattern
    pattern-V end h = h
    pattern-V (part p r) h = pattern-V r (path-V (variable p) h)
    pattern-V (elem k a b v es r) {s} h = pattern-V r (still (all_keep w es (bind_elem w k (variable v) s)) (elem-V k (variable v) h))

    yields-V : (a b : ℕ) (ys : List Yield) {s : State} → Binds false s → Binds false (yields w a b ys s)
    unfolding yields
    yields-V a b [] h = h
    yields-V a b (yield x y v ∷ ys) h = yields-V a b ys (anew-V a b (indexed (yield_name x y)) v value_kind h)

    pairs-V : (ps : List Pair) {s : State} → Binds true s → Binds true (bind_all w ps s)
    unfolding bind_all
    pairs-V [] h = h
    pairs-V (pair x v ∷ ps) h = pairs-V ps (bind-V true x v (kind_of w v) h)

    -- the new Root of a WITH after t, with what it binds
    pub root-V : (a b : ℕ) (cs : List Pair) {t : State} → Well 0 0 t → Pre L (fresh w b cs (barrier w a b cs t)).log → Marked (fresh w b cs (barrier w a b cs t))
    unfolding fresh barrier Marks via_at under_barrier
    root-V a b cs {t} f p =
        let n = enter with_barrier a b t in
        let u = carry_all w cs n in
        let v = standing [] u.cur u in
        let r = enter root_scope b b v in
        let p1 = back L (bind_all w cs) r (bind-after w r.log cs (silent r)) p in
        let p2 = back L (enter root_scope b b) v refl p1 in
        let p3 = back L (carry_all w cs) n (carry-after w n.log cs (silent n)) p2 in
        let i = opened-at with_barrier a b f p3 in
        let o = opened-at root_scope b b (standing-W w 0 0 [] u.cur (barrier-W w 0 0 a b cs f)) p1 in
        (pairs-V cs {s = r} (record { marked = record { marks = tt; kind = ap (λ j. eqb j with_barrier) o.1 }; via = rw (o.0, (carry-is w cs n).2, i.1) refl })).marked

  pub clause-V : (w : World) (c : Clause) {s : State} → Well 0 0 s → Pre L (clause w c s).log → Marked s → Marked (clause w c s)
  unfolding clause sort_by
  clause-V w (opening o a b q) {s} f p h =
      let t = enter (opens o) a b s in
      (pattern-V w q (enter-V (opens o) a b (opening-kind o) f (back L (bind_pattern w q) t (pattern-after w t.log q (silent t)) p) h)).marked
  clause-V w (reading r a b es) {s} f p h = kept (all_keep w es s) h
  clause-V w (with' a b ps g ks) {s} f p h =
      let cs = carried_by w ps s.visible in
      let t = fresh w b cs (barrier w a b cs (resolves w (exprs ps g) s)) in
      let o = standing (t.visible ++ s.visible) t.cur t in
      let n = root-V w a b cs (resolves-W w 0 0 (exprs ps g) f).fine (back L (resolves w (keys_of ks)) o (resolves-after w o.log (keys_of ks) (silent o)) p) in
      record { marks = n.marks; kind = n.kind }
  clause-V w (return a b ps ks) {s} f p h =
      let t = leave s (enter return_scope a b s) in
      let r = resolves w (exprs ps done) t in
      let v = hush (aliases ps) w in
      let p1 = back L (resolves v (keys_of ks)) r (resolves-after v r.log (keys_of ks) (silent r)) p in
      let p2 = back L (resolves w (exprs ps done)) t (resolves-after w t.log (exprs ps done) (silent t)) p1 in
      record { marks = h.marks; kind = (enter-V return_scope a b refl f p2 h).marked.kind }
  clause-V w (unwind a b v e) {s} f p h =
      let t = enter unwind_scope a b s in
      (bind-V false (name_of w v) v value_kind (enter-V unwind_scope a b refl f (back L (bind_name (name_of w v) v value_kind) t refl p) h)).marked
  clause-V w (call a b es ys) {s} f p h =
      let t = enter call_scope a b s in
      (yields-V w a b ys (enter-V call_scope a b refl f (back L (yields w a b ys) t (yields-after w t.log a b ys (silent t)) p) h)).marked

  -- where the head and the arms begin
  pub start-V : (st : Statement) → Pre L (start st).log → (s : State) → Marked (standing [] 0 s)
  unfolding start Marks logs kind_at
  start-V st p s = record { marks = tt; kind = rw (cut L _ [] p) refl }
