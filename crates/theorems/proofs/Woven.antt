-- A log without what its WITHs carry and bind, and the bindings that it makes with the carried list (specs/Woven). `written-reverse`: the
-- same read in either direction; `scopes-written`, `answers-written`, `finds-written`: three views of a log don't see what its WITHs carry
-- and bind. `Weaves kind s`: whatever is written and carried later, the log of s gives its bindings, if the first carried later stands at a
-- barrier above the last scope. Each step keeps it (`resolves-V`, `pattern-V`, `root-V`, `clause-V`, `clauses-V`, `arms-V`), and so
-- `woven-log` of a statement.
use Rattle.std.specs.Prelude.{Option, None, Some}
use Prim.Native.Nat.{ℕ, suc, ◌<◌}
use native.Mathlib.Nat.{le_refl}
use native.Mathlib.Omega.{arith}
use mathlib.Core.Path.{◌≡◌, refl, sym, ◌∙◌, ap, ap₂}
use mathlib.Core.Bool.{Bool, true, false, not, ◌&&◌}
use mathlib.Core.List.{List, [], ◌∷◌, ◌++◌, reverse, reverse_aux}
use lib.Dec.{eqb}
use Rattle.scope.specs.Graph.{comprehension_scope, return_scope, with_barrier, call_scope, unwind_scope, root_scope, scope, Carried, carried, Name, indexed}
use Rattle.expr.specs.Tree.{Expr, var, unresolved, node, predicate, comprehension, Exprs, done, more, mark, Steps, end, part, elem}
use Rattle.clauses.specs.Tree.{Opening, match, create, merge, Yield, yield, Clause, opening, reading, with', return, unwind, call, Arm, arm, exprs, keys_of}
use Rattle.tables.specs.Row.{value_kind, path_kind, Row, row}
use Rattle.sheet.specs.Statement.{Statement}
use Rattle.semantics.specs.Log.{e1001, e1002, Finding, finding, Write, Bound, bound, Event, open', bind, carry, answer, find, scopes_in, binds_in, carries_in, answers_in, finds_in, logs}
use Rattle.semantics.specs.World.{World, hush, variable, opens, yield_name, name_of, kind_of, world_of}
use Rattle.semantics.specs.Resolve.{Hit, hit, Seen, Pair, pair, State, lookup, binds, say, say_if, enter, bind_name, bind_over, standing, use_var, use_name, visit, bind_anew, bind_new, bind_path, bind_elem, resolve, resolves, bind_pattern, carried_by, carry_all, bind_all, barrier, fresh, yields, aliases, sort_by, clause, clauses, arms, start, run, log}
use Rattle.theorems.specs.Woven.{written, adopted, beyond, woven, Woven}
use Rattle.theorems.proofs.Tests.{ne→eqb, eqb_same}

-- What is written of a log in either direction, and of its views.
written-turned : (l m : List Event) → written (reverse_aux l m) ≡ reverse_aux (written l) (written m)
unfolding written
written-turned [] m = refl
written-turned (open' s ∷ l) m = written-turned l (open' s ∷ m)
written-turned (bind true g b ∷ l) m = written-turned l (bind true g b ∷ m)
written-turned (bind false g b ∷ l) m = written-turned l (bind false g b ∷ m)
written-turned (carry c ∷ l) m = written-turned l (carry c ∷ m)
written-turned (answer a ∷ l) m = written-turned l (answer a ∷ m)
written-turned (find f ∷ l) m = written-turned l (find f ∷ m)

pub written-reverse : (l : List Event) → written (reverse l) ≡ reverse (written l)
unfolding written
written-reverse l = written-turned l []

pub scopes-written : (l : List Event) → scopes_in (written l) ≡ scopes_in l
unfolding written logs
scopes-written [] = refl
scopes-written (open' s ∷ l) = ap (◌∷◌ s) (scopes-written l)
scopes-written (bind true g b ∷ l) = scopes-written l
scopes-written (bind false g b ∷ l) = scopes-written l
scopes-written (carry c ∷ l) = scopes-written l
scopes-written (answer a ∷ l) = scopes-written l
scopes-written (find f ∷ l) = scopes-written l

pub answers-written : (l : List Event) → answers_in (written l) ≡ answers_in l
unfolding written logs
answers-written [] = refl
answers-written (open' s ∷ l) = answers-written l
answers-written (bind true g b ∷ l) = answers-written l
answers-written (bind false g b ∷ l) = answers-written l
answers-written (carry c ∷ l) = answers-written l
answers-written (answer a ∷ l) = ap (◌∷◌ a) (answers-written l)
answers-written (find f ∷ l) = answers-written l

pub finds-written : (l : List Event) → finds_in (written l) ≡ finds_in l
unfolding written logs
finds-written [] = refl
finds-written (open' s ∷ l) = finds-written l
finds-written (bind true g b ∷ l) = finds-written l
finds-written (bind false g b ∷ l) = finds-written l
finds-written (carry c ∷ l) = finds-written l
finds-written (answer a ∷ l) = finds-written l
finds-written (find f ∷ l) = ap (◌∷◌ f) (finds-written l)

binds-turned : (l m : List Event) → binds_in (reverse_aux l m) ≡ reverse_aux (binds_in l) (binds_in m)
unfolding logs
binds-turned [] m = refl
binds-turned (open' s ∷ l) m = binds-turned l (open' s ∷ m)
binds-turned (bind o g b ∷ l) m = binds-turned l (bind o g b ∷ m)
binds-turned (carry c ∷ l) m = binds-turned l (carry c ∷ m)
binds-turned (answer a ∷ l) m = binds-turned l (answer a ∷ m)
binds-turned (find f ∷ l) m = binds-turned l (find f ∷ m)

carries-turned : (l m : List Event) → carries_in (reverse_aux l m) ≡ reverse_aux (carries_in l) (carries_in m)
unfolding logs
carries-turned [] m = refl
carries-turned (open' s ∷ l) m = carries-turned l (open' s ∷ m)
carries-turned (bind o g b ∷ l) m = carries-turned l (bind o g b ∷ m)
carries-turned (carry c ∷ l) m = carries-turned l (carry c ∷ m)
carries-turned (answer a ∷ l) m = carries-turned l (answer a ∷ m)
carries-turned (find f ∷ l) m = carries-turned l (find f ∷ m)

-- The first of what is carried, if any, stands at a barrier above n.
abbrev Above : ℕ → List Carried → Type 0
Above n [] = Unit {0}
Above n (carried c x v ∷ cs) = n < c

above_down : {m n : ℕ} (cs : List Carried) → m < suc n → Above n cs → Above m cs
above_down [] p h = tt
above_down (carried c x v ∷ cs) p h = omega arith

-- Pairs carried at the barrier n, and bound in the scope n.
unfoldable carried_at : ℕ → List Pair → List Carried
carried_at n [] = []
carried_at n (pair x v ∷ ps) = carried n x v ∷ carried_at n ps

above-pairs : (n : ℕ) (ps : List Pair) (cs : List Carried) → Above n cs → Above n (carried_at (suc n) ps ++ cs)
unfolding carried_at
above-pairs n [] cs h = h
above-pairs n (pair x v ∷ ps) cs h = le_refl _

module _ (kind : ℕ → ℕ) where
  unfoldable bound_at : ℕ → List Pair → List Bound
  bound_at n [] = []
  bound_at n (pair x v ∷ ps) = bound n x v (kind v) ∷ bound_at n ps

  -- A Root adopts what its barrier carries, and no more.
  adopts-none : (n : ℕ) (cs : List Carried) → Above n cs → (adopted kind n cs ≡ []) × (beyond kind n cs ≡ cs)
  unfolding adopted beyond
  adopts-none n [] h = (refl, refl)
  adopts-none n (carried c x v ∷ cs) h = rw (ne→eqb n c (λ e. omega arith)) (refl, refl)

  adopts : (n : ℕ) (ps : List Pair) (cs : List Carried) → Above n cs → (adopted kind n (carried_at n ps ++ cs) ≡ bound_at (suc n) ps) × (beyond kind n (carried_at n ps ++ cs) ≡ cs)
  unfolding adopted beyond carried_at bound_at
  adopts n [] cs h = adopts-none n cs h
  adopts n (pair x v ∷ ps) cs h = let g = adopts n ps cs h in rw (eqb_same n) (ap (◌∷◌ (bound (suc n) x v (kind v))) g.0, g.1)

  pub record Weaves (s : State) : Type 0 where
    pub weaves : (later : List Event) (cs : List Carried) → Above s.last cs
        → woven kind (reverse_aux (written s.log) later) (reverse_aux (carries_in s.log) cs) ≡ reverse_aux (binds_in s.log) (woven kind later cs)

reverse_twice : {A : Type 0} (l m k : List A) → reverse_aux (reverse_aux l m) k ≡ reverse_aux m (l ++ k)
reverse_twice [] m k = refl
reverse_twice (x ∷ l) m k = reverse_twice l (x ∷ m) k

opens-none : (o : Opening) → eqb (opens o) root_scope ≡ false
unfolding opens
opens-none (match o) = refl
opens-none create = refl
opens-none merge = refl

module _ (kind : ℕ → ℕ) (w : World) where
  -- the same log from elsewhere
  standing-V : (vis : List Seen) (c : ℕ) {s : State} → Weaves kind s → Weaves kind (standing vis c s)
  standing-V vis c h = record { weaves = h.weaves }

  answer-V : (a : Write) {s : State} → Weaves kind s → Weaves kind (say (answer a) s)
  unfolding written logs woven
  answer-V a h = record { weaves = λ l cs p. h.weaves (answer a ∷ l) cs p }

  find-V : (b : Bool) (f : Finding) {s : State} → Weaves kind s → Weaves kind (say_if b (find f) s)
  unfolding say_if written logs woven
  find-V true f h = record { weaves = λ l cs p. h.weaves (find f ∷ l) cs p }
  find-V false f h = h

  bind-V : (x : Name) (v k : ℕ) {s : State} → Weaves kind s → Weaves kind (bind_name x v k s)
  unfolding written logs woven
  bind-V x v k {s} h = record { weaves = λ l cs p. h.weaves (bind false (binds s.cur x s.visible) (bound s.cur x v k) ∷ l) cs p }

  enter-V : (k a b : ℕ) {s : State} → eqb k root_scope ≡ false → Weaves kind s → Weaves kind (enter k a b s)
  unfolding written logs woven
  enter-V k a b {s} e h = record {
    weaves = λ l cs p.
        h.weaves (open' (scope k (Some s.cur) a b) ∷ l) cs (above_down cs (omega arith) p) ∙ ap (reverse_aux (binds_in s.log)) (rw e refl);
  }

  var-V : (v : ℕ) (r : Option Row) {s : State} → Weaves kind s → Weaves kind (use_var w v r s)
  unfolding use_var
  var-V v None h = h
  var-V v (Some (row i x k a b)) h = answer-V _ h

  visit-V : (hushed : Bool) (x : ℕ) (o : Option Hit) {s : State} → Weaves kind s → Weaves kind (visit w hushed x o s)
  unfolding visit use_name
  visit-V true x o h = h
  visit-V false x (Some (hit v u)) h = answer-V _ h
  visit-V false x None h = find-V (not (w.is_star x)) (finding e1001 0 0 (Some (indexed x)) 0 0) (answer-V _ h)

  anew-V : (a b : ℕ) (x : Name) (v k : ℕ) {s : State} → Weaves kind s → Weaves kind (bind_anew w a b x v k s)
  unfolding bind_anew
  anew-V a b x v k {s} h = find-V (w.warns && binds s.cur x s.visible) (finding e1002 a b (Some x) 0 0) (bind-V x v k h)

  path-V : (o : Option ℕ) {s : State} → Weaves kind s → Weaves kind (bind_path w o s)
  unfolding bind_path
  path-V None h = h
  path-V (Some v) h = anew-V 0 0 (name_of w v) v path_kind h

  new-V : (o : Option Hit) (x : Name) (v k : ℕ) {s : State} → Weaves kind s → Weaves kind (bind_new w o x v k s)
  unfolding bind_new
  new-V None x v k h = bind-V x v k h
  new-V (Some u) x v k h = h

  elem-V : (k : ℕ) (o : Option ℕ) {s : State} → Weaves kind s → Weaves kind (bind_elem w k o s)
  unfolding bind_elem
  elem-V k None h = h
  elem-V k (Some v) {s} h = new-V (lookup (name_of w v) s.visible) (name_of w v) v k h

  mutual
    unfolding resolve

    resolve-V : (t : Expr) {s : State} → Weaves kind s → Weaves kind (resolve w t s)
    resolve-V (var v) h = var-V v (w.row v) h
    resolve-V (unresolved x) {s} h = visit-V (w.hushed x) x (lookup (indexed x) s.visible) h
    resolve-V (node f es) h = resolves-V es h
    resolve-V (predicate p) h = h
    resolve-V (comprehension a b p es) {s} h = standing-V s.visible s.cur (resolves-V es (pattern-V p (enter-V comprehension_scope a b refl h)))

    pub resolves-V : (t : Exprs) {s : State} → Weaves kind s → Weaves kind (resolves w t s)
    resolves-V done h = h
    resolves-V (more e es) h = resolves-V es (resolve-V e h)
    resolves-V (mark m es) h = resolves-V es h

    pub pattern-V : (t : Steps) {s : State} → Weaves kind s → Weaves kind (bind_pattern w t s)
    pattern-V end h = h
    pattern-V (part p r) h = pattern-V r (path-V (variable p) h)
    pattern-V (elem k a b v es r) h = pattern-V r (resolves-V es (elem-V k (variable v) h))

  yields-V : (a b : ℕ) (ys : List Yield) {s : State} → Weaves kind s → Weaves kind (yields w a b ys s)
  unfolding yields
  yields-V a b [] h = h
  yields-V a b (yield x y v ∷ ys) h = yields-V a b ys (anew-V a b (indexed (yield_name x y)) v value_kind h)

-- What a WITH carries, and what it binds.
record Carries (n : ℕ) (ps : List Pair) (s t : State) : Type 0 where
  pub last : t.last ≡ s.last
  pub cur : t.cur ≡ s.cur
  pub stays : written t.log ≡ written s.log
  pub none : binds_in t.log ≡ binds_in s.log
  pub adds : carries_in t.log ≡ reverse_aux (carried_at n ps) (carries_in s.log)

record Binds (kind : ℕ → ℕ) (n : ℕ) (ps : List Pair) (s t : State) : Type 0 where
  pub last : t.last ≡ s.last
  pub stays : written t.log ≡ written s.log
  pub none : carries_in t.log ≡ carries_in s.log
  pub adds : binds_in t.log ≡ reverse_aux (bound_at kind n ps) (binds_in s.log)

module _ (w : World) where
  carry-all : (ps : List Pair) (s : State) → Carries s.cur ps s (carry_all w ps s)
  unfolding carry_all carried_at written logs
  carry-all [] s = record { last = refl; cur = refl; stays = refl; none = refl; adds = refl }
  carry-all (pair x v ∷ ps) s =
      let h = carry-all ps (say (carry (carried s.cur x v)) s) in
      record { last = h.last; cur = h.cur; stays = h.stays; none = h.none; adds = h.adds }

  bind_all_lem : (ps : List Pair) (s : State) → Binds (kind_of w) s.cur ps s (bind_all w ps s)
  unfolding bind_all bound_at written logs
  bind_all_lem [] s = record { last = refl; stays = refl; none = refl; adds = refl }
  bind_all_lem (pair x v ∷ ps) s =
      let h = bind_all_lem ps (bind_over true x v (kind_of w v) s) in
      record { last = h.last; stays = h.stays; none = h.none; adds = h.adds }

  -- a barrier with its Root
  pub root-V : (a b : ℕ) (ps : List Pair) {s : State} → Weaves (kind_of w) s → Weaves (kind_of w) (fresh w b ps (barrier w a b ps s))
  unfolding fresh barrier written logs woven
  root-V a b ps {s} h = record {
    weaves = λ l cs p.
        let lower : Above n cs = above_down cs (omega (arith, i.last, j.last)) p in
        let adopt = adopts kind n ps cs lower in
        ap₂ (λ x y. woven kind (reverse_aux x l) (reverse_aux y cs))
        (j.stays ∙ ap₂ (λ c x. open' (scope root_scope (Some c) b b) ∷ x) i.cur i.stays)
        (j.none ∙ i.adds)
        ∙ ap (woven kind (reverse_aux (written s.log) (bar ∷ open' (scope root_scope (Some n) b b) ∷ l))) (reverse_twice (carried_at n ps) (carries_in s.log) cs)
        ∙ h.weaves (bar ∷ open' (scope root_scope (Some n) b b) ∷ l) (carried_at n ps ++ cs) (above-pairs s.last ps cs (above_down cs (omega arith) lower))
        ∙ ap (reverse_aux (binds_in s.log)) (ap₂ (λ x y. x ++ woven kind l y) adopt.0 adopt.1)
        ∙ sym
        (ap (λ x. reverse_aux x (woven kind l cs)) (j.adds ∙ ap₂ (λ c x. reverse_aux (bound_at kind (suc c) ps) x) i.last i.none)
        ∙ reverse_twice (bound_at kind (suc n) ps) (binds_in s.log) (woven kind l cs));
  }
    where
      kind : ℕ → ℕ
      kind = kind_of w

      n : ℕ
      n = suc s.last

      bar : Event
      bar = open' (scope with_barrier (Some s.cur) a b)

      u : State
      u = carry_all w ps (enter with_barrier a b s)

      i : Carries n ps (enter with_barrier a b s) u
      i = carry-all ps (enter with_barrier a b s)

      v : State
      v = enter root_scope b b (standing [] u.cur u)

      j : Binds kind v.cur ps v (bind_all w ps v)
      j = bind_all_lem ps v

  sort-V : (ks : Exprs) (vis : List Seen) {s : State} → Weaves (kind_of w) s → Weaves (kind_of w) (sort_by w ks vis s)
  unfolding sort_by
  sort-V ks vis {s} h = standing-V (kind_of w) w s.visible s.cur (resolves-V (kind_of w) w ks (standing-V (kind_of w) w (s.visible ++ vis) s.cur h))

  pub clause-V : (t : Clause) {s : State} → Weaves (kind_of w) s → Weaves (kind_of w) (clause w t s)
  unfolding clause
  clause-V (opening o a b p) h = pattern-V (kind_of w) w p (enter-V (kind_of w) w (opens o) a b (opens-none o) h)
  clause-V (reading r a b es) h = resolves-V (kind_of w) w es h
  clause-V (with' a b ps f ks) {s} h = sort-V (keys_of ks) s.visible (root-V a b (carried_by w ps s.visible) (resolves-V (kind_of w) w (exprs ps f) h))
  clause-V (return a b ps ks) {s} h =
      let g = standing-V (kind_of w) w s.visible s.cur (enter-V (kind_of w) w return_scope a b refl h) in
      standing-V (kind_of w) w s.visible (suc s.last) (resolves-V (kind_of w) (hush (aliases ps) w) (keys_of ks) (resolves-V (kind_of w) w (exprs ps done) g))
  clause-V (unwind a b v e) h = bind-V (kind_of w) w (name_of w v) v value_kind (enter-V (kind_of w) w unwind_scope a b refl h)
  clause-V (call a b es ys) h = yields-V (kind_of w) w a b ys (enter-V (kind_of w) w call_scope a b refl h)

  pub clauses-V : (ts : List Clause) {s : State} → Weaves (kind_of w) s → Weaves (kind_of w) (clauses w ts s)
  unfolding clauses
  clauses-V [] h = h
  clauses-V (t ∷ ts) h = clauses-V ts (clause-V t h)

  pub arms-V : (ts : List Arm) {s : State} → Weaves (kind_of w) s → Weaves (kind_of w) (arms w ts s)
  unfolding arms
  arms-V [] h = h
  arms-V (arm a b cs ∷ ts) h = arms-V ts (clauses-V cs (standing-V (kind_of w) w [] 0 h))

start-V : (kind : ℕ → ℕ) (st : Statement) → Weaves kind (start st)
unfolding start written logs woven
start-V kind st = record { weaves = λ l cs p. refl }

-- All that a statement binds.
pub woven-log : (warns : Bool) (st : Statement) → Woven warns st
unfolding log run logs written woven
woven-log warns st =
    let w = world_of warns st in
    let l = (run warns st).log in
    let h = arms-V w st.arms (clauses-V w st.head (start-V (kind_of w) st)) in
    binds-turned l [] ∙ sym (h.weaves [] [] tt) ∙ sym (ap₂ (woven (kind_of w)) (written-turned l []) (carries-turned l []))
