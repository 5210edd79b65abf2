-- A run only adds to the log, and never looks at it: what was said before stays under what it says. `after l s` is s with l said before; each
-- law says `step (after l s) ≡ after l (step s)`: `resolve-after`, `resolves-after`, `pattern-after`, `bind-after` (carried names),
-- `barrier-after`, `fresh-after`, `sort-after`, `clause-after`, `clauses-after`, `arms-after`.
use Rattle.std.specs.Prelude.{Option, None, Some}
use Prim.Native.Nat.{ℕ}
use mathlib.Core.Path.{◌≡◌, refl, ◌∙◌, ap}
use mathlib.Core.Bool.{Bool, true, false}
use mathlib.Core.List.{List, [], ◌∷◌, ◌++◌}
use Rattle.scope.specs.Graph.{comprehension_scope, return_scope, Name, indexed}
use Rattle.expr.specs.Tree.{Expr, var, unresolved, node, predicate, comprehension, Exprs, done, more, mark, Steps, end, part, elem}
use Rattle.clauses.specs.Tree.{Yield, yield, Clause, opening, reading, with', return, unwind, call, Arm, arm, exprs, keys_of}
use Rattle.tables.specs.Row.{Row, row}
use Rattle.semantics.specs.Log.{Event}
use Rattle.semantics.specs.World.{World, hush, variable}
use Rattle.semantics.specs.Resolve.{Hit, hit, Seen, Pair, pair, State, lookup, leave, standing, enter, say_if, use_var, use_name, visit, bind_anew, bind_new, bind_path, bind_elem, resolve, resolves, bind_pattern, carried_by, carry_all, bind_all, barrier, fresh, yields, aliases, sort_by, clause, clauses, arms}

-- s, with l said before
abbrev pub after : List Event → State → State
after l s = record { visible = s.visible; cur = s.cur; last = s.last; log = s.log ++ l }

module _ (w : World) (l : List Event) where
  say-after : (b : Bool) (e : Event) (s : State) → say_if b e (after l s) ≡ after l (say_if b e s)
  unfolding say_if
  say-after true e s = refl
  say-after false e s = refl

  var-after : (v : ℕ) (r : Option Row) (s : State) → use_var w v r (after l s) ≡ after l (use_var w v r s)
  unfolding use_var
  var-after v None s = refl
  var-after v (Some (row i x k a b)) s = refl

  name-after : (x : ℕ) (o : Option Hit) (s : State) → use_name w x o (after l s) ≡ after l (use_name w x o s)
  unfolding use_name
  name-after x (Some (hit v u)) s = refl
  name-after x None s = say-after _ _ _

  visit-after : (hushed : Bool) (x : ℕ) (o : Option Hit) (s : State) → visit w hushed x o (after l s) ≡ after l (visit w hushed x o s)
  unfolding visit
  visit-after true x o s = refl
  visit-after false x o s = name-after x o s

  path-after : (o : Option ℕ) (s : State) → bind_path w o (after l s) ≡ after l (bind_path w o s)
  unfolding bind_path bind_anew
  path-after None s = refl
  path-after (Some v) s = say-after _ _ _

  new-after : (o : Option Hit) (x : Name) (v k : ℕ) (s : State) → bind_new w o x v k (after l s) ≡ after l (bind_new w o x v k s)
  unfolding bind_new
  new-after None x v k s = refl
  new-after (Some u) x v k s = refl

  elem-after : (k : ℕ) (o : Option ℕ) (s : State) → bind_elem w k o (after l s) ≡ after l (bind_elem w k o s)
  unfolding bind_elem
  elem-after k None s = refl
  elem-after k (Some v) s = new-after _ _ v k s

  mutual
    unfolding resolve

    pub resolve-after : (t : Expr) (s : State) → resolve w t (after l s) ≡ after l (resolve w t s)
    resolve-after (var v) s = var-after v (w.row v) s
    resolve-after (unresolved x) s = visit-after (w.hushed x) x (lookup (indexed x) s.visible) s
    resolve-after (node f es) s = resolves-after es s
    resolve-after (predicate p) s = refl
    resolve-after (comprehension a b p es) s = ap (leave s) (ap (resolves w es) (pattern-after p (enter comprehension_scope a b s)) ∙ resolves-after es _)

    pub resolves-after : (t : Exprs) (s : State) → resolves w t (after l s) ≡ after l (resolves w t s)
    resolves-after done s = refl
    resolves-after (more e es) s = ap (resolves w es) (resolve-after e s) ∙ resolves-after es _
    resolves-after (mark m es) s = resolves-after es s

    pub pattern-after : (t : Steps) (s : State) → bind_pattern w t (after l s) ≡ after l (bind_pattern w t s)
    pattern-after end s = refl
    pattern-after (part p r) s = ap (bind_pattern w r) (path-after (variable p) s) ∙ pattern-after r _
    pattern-after (elem k a b v es r) s = ap (λ t. bind_pattern w r (resolves w es t)) (elem-after k (variable v) s) ∙ ap (bind_pattern w r) (resolves-after es _) ∙ pattern-after r _

  pub carry-after : (ps : List Pair) (s : State) → carry_all w ps (after l s) ≡ after l (carry_all w ps s)
  unfolding carry_all
  carry-after [] s = refl
  carry-after (pair x v ∷ ps) s = carry-after ps _

  pub bind-after : (ps : List Pair) (s : State) → bind_all w ps (after l s) ≡ after l (bind_all w ps s)
  unfolding bind_all
  bind-after [] s = refl
  bind-after (pair x v ∷ ps) s = bind-after ps _

  pub barrier-after : (a b : ℕ) (ps : List Pair) (s : State) → barrier w a b ps (after l s) ≡ after l (barrier w a b ps s)
  unfolding barrier
  barrier-after a b ps s = carry-after ps _

  pub fresh-after : (b : ℕ) (ps : List Pair) (s : State) → fresh w b ps (after l s) ≡ after l (fresh w b ps s)
  unfolding fresh
  fresh-after b ps s = bind-after ps _

  pub yields-after : (a b : ℕ) (ys : List Yield) (s : State) → yields w a b ys (after l s) ≡ after l (yields w a b ys s)
  unfolding yields bind_anew
  yields-after a b [] s = refl
  yields-after a b (yield x y v ∷ ys) s = ap (yields w a b ys) (say-after _ _ _) ∙ yields-after a b ys _

module _ (w : World) (l : List Event) where
  pub sort-after : (ks : Exprs) (vis : List Seen) (s : State) → sort_by w ks vis (after l s) ≡ after l (sort_by w ks vis s)
  unfolding sort_by
  sort-after ks vis s = ap (leave s) (resolves-after w l ks (standing (s.visible ++ vis) s.cur s))

  pub clause-after : (t : Clause) (s : State) → clause w t (after l s) ≡ after l (clause w t s)
  unfolding clause
  clause-after (opening o a b p) s = pattern-after w l p _
  clause-after (reading r a b es) s = resolves-after w l es s
  clause-after (with' a b ps f ks) s =
      let cs = carried_by w ps s.visible in
      let t = resolves w (exprs ps f) s in
      let u = barrier w a b cs t in
      ap (λ x. sort_by w (keys_of ks) s.visible (fresh w b cs (barrier w a b cs x))) (resolves-after w l (exprs ps f) s)
      ∙ ap (λ x. sort_by w (keys_of ks) s.visible (fresh w b cs x)) (barrier-after w l a b cs t)
      ∙ ap (sort_by w (keys_of ks) s.visible) (fresh-after w l b cs u) ∙ sort-after (keys_of ks) s.visible (fresh w b cs u)
  clause-after (return a b ps ks) s =
      let h = hush (aliases ps) w in
      ap (standing _ _) (ap (resolves h (keys_of ks)) (resolves-after w l (exprs ps done) (leave s (enter return_scope a b s))) ∙ resolves-after h l (keys_of ks) _)
  clause-after (unwind a b v e) s = refl
  clause-after (call a b es ys) s = yields-after w l a b ys _

  pub clauses-after : (ts : List Clause) (s : State) → clauses w ts (after l s) ≡ after l (clauses w ts s)
  unfolding clauses
  clauses-after [] s = refl
  clauses-after (t ∷ ts) s = ap (clauses w ts) (clause-after t s) ∙ clauses-after ts _

  pub arms-after : (ts : List Arm) (s : State) → arms w ts (after l s) ≡ after l (arms w ts s)
  unfolding arms
  arms-after [] s = refl
  arms-after (arm a b cs ∷ ts) s = ap (arms w ts) (clauses-after cs _) ∙ arms-after ts _
