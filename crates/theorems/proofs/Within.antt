-- A walk binds only in scopes, and carries only at barriers, that it opens itself, and it numbers scopes as it opens them. `Within lo hi
-- l`: all that l binds and carries stands in scopes above lo, up to hi (`within-wide`: or a lower and a higher one; `within-join`: of two
-- logs, one above the other; `within-reverse`: read in either direction). `Well lo z s`: so the log of s, up to its last scope; with z
-- scopes before it, the count is the last number. `Runs s t`: from s to t the current scope stays, the last number doesn't fall, and t is
-- well. For each step `-W` says that a state stays well: `standing-W`, `enter-W`, `answer-W`, `find-W`, `carry-W`, `bind-W`, `anew-W`,
-- `new-W`, `path-W`, `elem-W`; the walks `resolve-W`, `resolves-W`, `pattern-W`; and the clauses' steps `carry_all-W`, `bind_all-W`,
-- `yields-W`, `barrier-W`, `fresh-W`, `sort-W`, `clause-W`, `clauses-W`, `arms-W`.
use Rattle.std.specs.Prelude.{Option, None, Some}
use Prim.Native.Nat.{ℕ, suc, ◌+◌, ◌≤◌, ◌<◌}
use native.Mathlib.Nat.{le_refl, le_trans}
use native.Mathlib.Omega.{arith}
use mathlib.Core.Path.{◌≡◌, refl, ◌∙◌}
use mathlib.Core.Bool.{Bool, true, false, not, ◌&&◌}
use mathlib.Core.List.{List, [], ◌∷◌, ◌++◌, reverse_aux}
use Rattle.scope.specs.Graph.{comprehension_scope, return_scope, with_barrier, call_scope, unwind_scope, root_scope, carried, Name, indexed}
use Rattle.expr.specs.Tree.{Expr, var, unresolved, node, predicate, comprehension, Exprs, done, more, mark, Steps, end, part, elem}
use Rattle.clauses.specs.Tree.{Yield, yield, Clause, opening, reading, with', return, unwind, call, Arm, arm, exprs, keys_of}
use Rattle.tables.specs.Row.{value_kind, path_kind, Row, row}
use Rattle.semantics.specs.Log.{e1002, e1001, Finding, finding, Write, bound, Event, open', bind, carry, answer, find, opened, logs}
use Rattle.semantics.specs.World.{World, hush, variable, opens, yield_name, name_of, kind_of}
use Rattle.semantics.specs.Resolve.{Hit, hit, Seen, Pair, pair, State, lookup, binds, say, say_if, enter, bind_over, standing, use_var, use_name, visit, bind_anew, bind_new, bind_path, bind_elem, resolve, resolves, bind_pattern, carried_by, carry_all, bind_all, barrier, fresh, yields, aliases, sort_by, clause, clauses, arms}

-- Every binding of the log stands in a scope, every carried name at a barrier, above lo and not above hi.
unfoldable pub inside : ℕ → ℕ → Event → Type 0
inside lo hi (open' s) = Unit {0}
inside lo hi (bind o g (bound s x v k)) = (lo < s) × (s ≤ hi)
inside lo hi (carry (carried b x v)) = (lo < b) × (b ≤ hi)
inside lo hi (answer a) = Unit {0}
inside lo hi (find f) = Unit {0}

pub data Within (lo hi : ℕ) : List Event → Type 0 where
  nil : Within lo hi []
  cons : {e : Event} {l : List Event} → inside lo hi e → Within lo hi l → Within lo hi (e ∷ l)

pub within-wide : {lo lo' hi hi' : ℕ} {l : List Event} → lo' ≤ lo → hi ≤ hi' → Within lo hi l → Within lo' hi' l
unfolding inside
within-wide a b nil = nil
within-wide a b (cons {e = open' s} h p) = cons tt (within-wide a b p)
within-wide a b (cons {e = bind o g (bound s x v k)} h p) = cons {e = bind o g (bound s x v k)} (omega arith, omega arith) (within-wide a b p)
within-wide a b (cons {e = carry (carried c x v)} h p) = cons {e = carry (carried c x v)} (omega arith, omega arith) (within-wide a b p)
within-wide a b (cons {e = answer i} h p) = cons tt (within-wide a b p)
within-wide a b (cons {e = find f} h p) = cons tt (within-wide a b p)

pub within-join : {lo mid hi : ℕ} {l m : List Event} → lo ≤ mid → mid ≤ hi → Within lo mid l → Within mid hi m → Within lo hi (l ++ m)
within-join a b p q = both (within-wide (le_refl _) b p) (within-wide a (le_refl _) q)
  where
    both : {lo hi : ℕ} {l m : List Event} → Within lo hi l → Within lo hi m → Within lo hi (l ++ m)
    both nil q = q
    both (cons h p) q = cons h (both p q)

pub within-reverse : {lo hi : ℕ} {l m : List Event} → Within lo hi l → Within lo hi m → Within lo hi (reverse_aux l m)
within-reverse nil q = q
within-reverse (cons h p) q = within-reverse p (cons h q)

-- A state's log: within its numbers from lo on, of which z were opened before.
pub record Well (lo z : ℕ) (s : State) : Type 0 where
  pub within : Within lo s.last s.log
  pub count : opened s.log + z ≡ suc s.last
  pub low : lo ≤ s.last

module _ (w : World) (lo z : ℕ) where
  abbrev Fine : State → Type 0
  Fine s = Well lo z s

  pub standing-W : (vis : List Seen) (c : ℕ) {s : State} → Fine s → Fine (standing vis c s)
  standing-W vis c h = record { within = h.within; count = h.count; low = h.low }

  -- from s to t
  pub record Runs (s t : State) : Type 0 where
    pub cur : t.cur ≡ s.cur
    pub later : s.last ≤ t.last
    pub fine : Fine t

  still : {s t : State} → t.cur ≡ s.cur → t.last ≡ s.last → Fine t → Runs s t
  still p q h = record { cur = p; later = omega arith; fine = h }

  then : {s t u : State} → Runs s t → Runs t u → Runs s u
  then p q = record { cur = q.cur ∙ p.cur; later = le_trans p.later q.later; fine = q.fine }

  -- one step
  pub enter-W : (k a b : ℕ) {s : State} → Fine s → Fine (enter k a b s)
  unfolding inside logs
  enter-W k a b {s} h = record { within = cons tt (within-wide (le_refl _) (omega arith) h.within); count = omega (arith, h.count); low = omega (arith, h.low) }

  pub answer-W : {s : State} (a : Write) → Fine s → Fine (say (answer a) s)
  unfolding inside logs
  answer-W a h = record { within = cons tt h.within; count = h.count; low = h.low }

  pub find-W : (b : Bool) {s : State} (f : Finding) → Fine s → Runs s (say_if b (find f) s)
  unfolding say_if inside logs
  find-W true f h = still refl refl (record { within = cons tt h.within; count = h.count; low = h.low })
  find-W false f h = still refl refl h

  pub carry-W : (x : Name) (v : ℕ) {s : State} → lo < s.cur → s.cur ≤ s.last → Fine s → Fine (say (carry (carried s.cur x v)) s)
  unfolding inside logs
  carry-W x v {s} p q h = record { within = cons {e = carry (carried s.cur x v)} (p, q) h.within; count = h.count; low = h.low }

  pub bind-W : (over : Bool) (x : Name) (v k : ℕ) {s : State} → lo < s.cur → s.cur ≤ s.last → Fine s → Runs s (bind_over over x v k s)
  unfolding inside logs
  bind-W over x v k {s} p q h = still refl refl (record { within = cons {e = bind over (binds s.cur x s.visible) (bound s.cur x v k)} (p, q) h.within; count = h.count; low = h.low })

  var-W : (v : ℕ) (r : Option Row) {s : State} → Fine s → Runs s (use_var w v r s)
  unfolding use_var
  var-W v None h = still refl refl h
  var-W v (Some (row i x k a b)) h = still refl refl (answer-W _ h)

  name-W : (x : ℕ) (o : Option Hit) {s : State} → Fine s → Runs s (use_name w x o s)
  unfolding use_name
  name-W x (Some (hit v u)) h = still refl refl (answer-W _ h)
  name-W x None {s} h = then (still refl refl (answer-W _ h)) (find-W (not (w.is_star x)) (finding e1001 0 0 (Some (indexed x)) 0 0) (answer-W _ h))

  visit-W : (hushed : Bool) (x : ℕ) (o : Option Hit) {s : State} → Fine s → Runs s (visit w hushed x o s)
  unfolding visit
  visit-W true x o h = still refl refl h
  visit-W false x o h = name-W x o h

  pub anew-W : (a b : ℕ) (x : Name) (v k : ℕ) {s : State} → lo < s.cur → s.cur ≤ s.last → Fine s → Runs s (bind_anew w a b x v k s)
  unfolding bind_anew
  anew-W a b x v k {s} p q h = let g = bind-W false x v k p q h in then g (find-W (w.warns && binds s.cur x s.visible) (finding e1002 a b (Some x) 0 0) g.fine)

  pub new-W : (o : Option Hit) (x : Name) (v k : ℕ) {s : State} → lo < s.cur → s.cur ≤ s.last → Fine s → Runs s (bind_new w o x v k s)
  unfolding bind_new
  new-W None x v k p q h = bind-W false x v k p q h
  new-W (Some u) x v k p q h = still refl refl h

  pub path-W : (o : Option ℕ) {s : State} → lo < s.cur → s.cur ≤ s.last → Fine s → Runs s (bind_path w o s)
  unfolding bind_path
  path-W None p q h = still refl refl h
  path-W (Some v) p q h = anew-W 0 0 (name_of w v) v path_kind p q h

  pub elem-W : (k : ℕ) (o : Option ℕ) {s : State} → lo < s.cur → s.cur ≤ s.last → Fine s → Runs s (bind_elem w k o s)
  unfolding bind_elem
  elem-W k None p q h = still refl refl h
  elem-W k (Some v) {s} p q h = new-W (lookup (name_of w v) s.visible) (name_of w v) v k p q h

  mutual
    unfolding resolve

    pub resolve-W : (t : Expr) {s : State} → Fine s → Runs s (resolve w t s)
    resolve-W (var v) h = var-W v (w.row v) h
    resolve-W (unresolved x) {s} h = visit-W (w.hushed x) x (lookup (indexed x) s.visible) h
    resolve-W (node f es) h = resolves-W es h
    resolve-W (predicate p) h = still refl refl h
    resolve-W (comprehension a b p es) {s} h =
        let g = pattern-W p {s = enter comprehension_scope a b s} (omega (arith, h.low)) (le_refl _) (enter-W comprehension_scope a b h) in
        let k = resolves-W es g.fine in
        record { cur = refl; later = omega (arith, g.later, k.later); fine = standing-W s.visible s.cur k.fine }

    pub resolves-W : (t : Exprs) {s : State} → Fine s → Runs s (resolves w t s)
    resolves-W done h = still refl refl h
    resolves-W (more e es) h = let g = resolve-W e h in then g (resolves-W es g.fine)
    resolves-W (mark m es) h = resolves-W es h

    pub pattern-W : (t : Steps) {s : State} → lo < s.cur → s.cur ≤ s.last → Fine s → Runs s (bind_pattern w t s)
    pattern-W end p q h = still refl refl h
    pattern-W (part v r) p q h =
        let g = path-W (variable v) p q h in
        then g (pattern-W r (omega (arith, g.cur)) (omega (arith, g.cur, g.later)) g.fine)
    pattern-W (elem k a b v es r) p q h =
        let g = elem-W k (variable v) p q h in
        let i = then g (resolves-W es g.fine) in
        then i (pattern-W r (omega (arith, i.cur)) (omega (arith, i.cur, i.later)) i.fine)

  pub carry_all-W : (ps : List Pair) {s : State} → lo < s.cur → s.cur ≤ s.last → Fine s → Runs s (carry_all w ps s)
  unfolding carry_all
  carry_all-W [] p q h = still refl refl h
  carry_all-W (pair x v ∷ ps) p q h = let g = still refl refl (carry-W x v p q h) in then g (carry_all-W ps p q g.fine)

  pub bind_all-W : (ps : List Pair) {s : State} → lo < s.cur → s.cur ≤ s.last → Fine s → Runs s (bind_all w ps s)
  unfolding bind_all
  bind_all-W [] p q h = still refl refl h
  bind_all-W (pair x v ∷ ps) p q h = let g = bind-W true x v (kind_of w v) p q h in then g (bind_all-W ps p q g.fine)

  pub yields-W : (a b : ℕ) (ys : List Yield) {s : State} → lo < s.cur → s.cur ≤ s.last → Fine s → Runs s (yields w a b ys s)
  unfolding yields
  yields-W a b [] p q h = still refl refl h
  yields-W a b (yield x y v ∷ ys) p q h =
      let g = anew-W a b (indexed (yield_name x y)) v value_kind p q h in
      then g (yields-W a b ys (omega (arith, g.cur)) (omega (arith, g.cur, g.later)) g.fine)

  pub barrier-W : (a b : ℕ) (ps : List Pair) {s : State} → Fine s → Fine (barrier w a b ps s)
  unfolding barrier
  barrier-W a b ps {s} h = (carry_all-W ps {s = enter with_barrier a b s} (omega (arith, h.low)) (le_refl _) (enter-W with_barrier a b h)).fine

  pub fresh-W : (b : ℕ) (ps : List Pair) {s : State} → Fine s → Fine (fresh w b ps s)
  unfolding fresh
  fresh-W b ps {s} h = (bind_all-W ps {s = enter root_scope b b (standing [] s.cur s)} (omega (arith, h.low)) (le_refl _) (enter-W root_scope b b (standing-W [] s.cur h))).fine

module _ (w : World) (lo z : ℕ) where
  pub sort-W : (ks : Exprs) (vis : List Seen) {s : State} → Well lo z s → Well lo z (sort_by w ks vis s)
  unfolding sort_by
  sort-W ks vis {s} h = standing-W w lo z s.visible s.cur (resolves-W w lo z ks (standing-W w lo z (s.visible ++ vis) s.cur h)).fine

  pub clause-W : (t : Clause) {s : State} → Well lo z s → Well lo z (clause w t s)
  unfolding clause
  clause-W (opening o a b p) {s} h = (pattern-W w lo z p {s = enter (opens o) a b s} (omega (arith, h.low)) (le_refl _) (enter-W w lo z (opens o) a b h)).fine
  clause-W (reading r a b es) h = (resolves-W w lo z es h).fine
  clause-W (with' a b ps f ks) {s} h =
      let cs = carried_by w ps s.visible in
      sort-W (keys_of ks) s.visible (fresh-W w lo z b cs (barrier-W w lo z a b cs (resolves-W w lo z (exprs ps f) h).fine))
  clause-W (return a b ps ks) {s} h =
      let g = resolves-W w lo z (exprs ps done) (standing-W w lo z s.visible s.cur (enter-W w lo z return_scope a b h)) in
      standing-W w lo z _ _ (resolves-W (hush (aliases ps) w) lo z (keys_of ks) g.fine).fine
  clause-W (unwind a b v e) {s} h = (bind-W w lo z false (name_of w v) v value_kind {s = enter unwind_scope a b s} (omega (arith, h.low)) (le_refl _) (enter-W w lo z unwind_scope a b h)).fine
  clause-W (call a b es ys) {s} h = (yields-W w lo z a b ys {s = enter call_scope a b s} (omega (arith, h.low)) (le_refl _) (enter-W w lo z call_scope a b h)).fine

  pub clauses-W : (ts : List Clause) {s : State} → Well lo z s → Well lo z (clauses w ts s)
  unfolding clauses
  clauses-W [] h = h
  clauses-W (t ∷ ts) h = clauses-W ts (clause-W t h)

  pub arms-W : (ts : List Arm) {s : State} → Well lo z s → Well lo z (arms w ts s)
  unfolding arms
  arms-W [] h = h
  arms-W (arm a b cs ∷ ts) {s} h = arms-W ts (clauses-W cs (standing-W w lo z [] 0 h))
