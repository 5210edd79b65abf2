-- An expression leaves what is visible and current as it was: `keeps` of one, `all_keep` of several, `say_if-keeps` of an event.
use Rattle.std.specs.Prelude.{Option, None, Some}
use Prim.Native.Nat.{ℕ}
use mathlib.Core.Path.{◌≡◌, refl, ◌∙◌}
use mathlib.Core.Bool.{Bool, true, false, not}
use Rattle.scope.specs.Graph.{indexed}
use Rattle.expr.specs.Tree.{Expr, var, unresolved, node, predicate, comprehension, Exprs, done, more, mark}
use Rattle.tables.specs.Row.{Row, row}
use Rattle.semantics.specs.Log.{Event}
use Rattle.semantics.specs.World.{World}
use Rattle.semantics.specs.Resolve.{Hit, hit, State, lookup, say_if, use_var, use_name, visit, resolve, resolves}

pub record Keeps (s t : State) : Type 0 where
  pub visible : t.visible ≡ s.visible
  pub cur : t.cur ≡ s.cur

both : {s t u : State} → Keeps s t → Keeps t u → Keeps s u
both p q = record { visible = q.visible ∙ p.visible; cur = q.cur ∙ p.cur }

pub say_if-keeps : (b : Bool) (e : Event) (s : State) → Keeps s (say_if b e s)
unfolding say_if
say_if-keeps true e s = record { visible = refl; cur = refl }
say_if-keeps false e s = record { visible = refl; cur = refl }

module _ (w : World) where
  var-keeps : (v : ℕ) (r : Option Row) (s : State) → Keeps s (use_var w v r s)
  unfolding use_var
  var-keeps v None s = record { visible = refl; cur = refl }
  var-keeps v (Some (row i x k a b)) s = record { visible = refl; cur = refl }

  name-keeps : (x : ℕ) (o : Option Hit) (s : State) → Keeps s (use_name w x o s)
  unfolding use_name
  name-keeps x (Some (hit v u)) s = record { visible = refl; cur = refl }
  name-keeps x None s = let k = say_if-keeps (not (w.is_star x)) _ _ in record { visible = k.visible; cur = k.cur }

  visit-keeps : (b : Bool) (x : ℕ) (o : Option Hit) (s : State) → Keeps s (visit w b x o s)
  unfolding visit
  visit-keeps true x o s = record { visible = refl; cur = refl }
  visit-keeps false x o s = name-keeps x o s

  mutual
    unfolding resolve

    pub keeps : (t : Expr) (s : State) → Keeps s (resolve w t s)
    keeps (var v) s = var-keeps v (w.row v) s
    keeps (unresolved x) s = visit-keeps (w.hushed x) x (lookup (indexed x) s.visible) s
    keeps (node f es) s = all_keep es s
    keeps (predicate p) s = record { visible = refl; cur = refl }
    keeps (comprehension a b p es) s = record { visible = refl; cur = refl }

    pub all_keep : (t : Exprs) (s : State) → Keeps s (resolves w t s)
    all_keep done s = record { visible = refl; cur = refl }
    all_keep (more e es) s = both (keeps e s) (all_keep es _)
    all_keep (mark m es) s = all_keep es s
