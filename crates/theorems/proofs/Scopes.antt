-- Which scopes expressions open depends neither on what is visible nor on spans. `Opens m s c`: s has opened what c has but for spans, its
-- scope numbers moved up by m (`up`: 0 stays 0). Expressions keep it (`resolves-Opens`), whatever lists the two states have: a use or a
-- binding opens nothing (`Still`). `opens-log`: the scopes of the two logs, oldest first.
use Rattle.std.specs.Prelude.{Option, None, Some}
use Prim.Native.Nat.{ℕ, suc, ◌+◌}
use native.Mathlib.Omega.{arith}
use mathlib.Core.Path.{◌≡◌, refl, sym, ◌∙◌, ap, ap₂}
use mathlib.Core.Bool.{Bool, true, false, not}
use mathlib.Core.List.{List, [], ◌∷◌, map, reverse, reverse_aux}
use Rattle.scope.specs.Graph.{comprehension_scope, scope, Name}
use Rattle.expr.specs.Tree.{Expr, var, unresolved, node, predicate, comprehension, Exprs, done, more, mark, Steps, end, part, elem}
use Rattle.expr.specs.Erase.{erase_e, erases, erase_s}
use Rattle.tables.specs.Row.{path_kind, Row, row}
use Rattle.semantics.specs.Log.{Finding, Event, open', bind, carry, answer, find, scopes_in, logs}
use Rattle.semantics.specs.World.{World, variable, name_of}
use Rattle.semantics.specs.Resolve.{Hit, hit, State, lookup, say_if, enter, bind_name, use_var, use_name, visit, bind_anew, bind_new, bind_path, bind_elem, resolve, resolves, bind_pattern}
use Rattle.theorems.specs.Compare.{blank_scope, number_scope}
use Rattle.theorems.proofs.Views.{map-reverse}
use Rattle.theorems.proofs.Moved.{up}

-- from s to t nothing is opened
record Still (s t : State) : Type 0 where
  pub cur : t.cur ≡ s.cur
  pub last : t.last ≡ s.last
  pub scopes : scopes_in t.log ≡ scopes_in s.log

stay : {s : State} → Still s s
stay = record { cur = refl; last = refl; scopes = refl }

find-still : (b : Bool) (f : Finding) (s : State) → Still s (say_if b (find f) s)
unfolding say_if logs
find-still true f s = record { cur = refl; last = refl; scopes = refl }
find-still false f s = stay

module _ (w : World) where
  var-still : (v : ℕ) (r : Option Row) (s : State) → Still s (use_var w v r s)
  unfolding use_var logs
  var-still v None s = stay
  var-still v (Some (row i x k a b)) s = record { cur = refl; last = refl; scopes = refl }

  visit-still : (hushed : Bool) (x : ℕ) (o : Option Hit) (s : State) → Still s (visit w hushed x o s)
  unfolding visit use_name logs
  visit-still true x o s = stay
  visit-still false x (Some (hit v u)) s = record { cur = refl; last = refl; scopes = refl }
  visit-still false x None s = let h = find-still (not (w.is_star x)) _ _ in record { cur = h.cur; last = h.last; scopes = h.scopes }

  path-still : (o : Option ℕ) (s : State) → Still s (bind_path w o s)
  unfolding bind_path bind_anew logs
  path-still None s = stay
  path-still (Some v) s = let h = find-still _ _ (bind_name (name_of w v) v path_kind s) in record { cur = h.cur; last = h.last; scopes = h.scopes }

  new-still : (o : Option Hit) (x : Name) (v k : ℕ) (s : State) → Still s (bind_new w o x v k s)
  unfolding bind_new logs
  new-still None x v k s = record { cur = refl; last = refl; scopes = refl }
  new-still (Some u) x v k s = stay

  elem-still : (k : ℕ) (o : Option ℕ) (s : State) → Still s (bind_elem w k o s)
  unfolding bind_elem
  elem-still k None s = stay
  elem-still k (Some v) s = new-still (lookup (name_of w v) s.visible) (name_of w v) v k s

-- s has opened what c has but for spans, with the numbers moved up by m
pub record Opens (m : ℕ) (s c : State) : Type 0 where
  pub cur : s.cur ≡ up m c.cur
  pub last : s.last ≡ c.last + m
  pub scopes : map blank_scope (scopes_in s.log) ≡ map (number_scope (up m)) (scopes_in c.log)

pub opens-log : {m : ℕ} {s c : State} → Opens m s c → map blank_scope (scopes_in (reverse s.log)) ≡ map (number_scope (up m)) (scopes_in (reverse c.log))
unfolding logs
opens-log {m} {s} {c} h =
    ap (map blank_scope) (turned s.log []) ∙ map-reverse blank_scope (scopes_in s.log) []
    ∙ ap reverse h.scopes ∙ sym (ap (map (number_scope (up m))) (turned c.log []) ∙ map-reverse (number_scope (up m)) (scopes_in c.log) [])
  where
    turned : (l k : List Event) → scopes_in (reverse_aux l k) ≡ reverse_aux (scopes_in l) (scopes_in k)
    turned [] k = refl
    turned (open' s ∷ l) k = turned l (open' s ∷ k)
    turned (bind o g b ∷ l) k = turned l (bind o g b ∷ k)
    turned (carry c ∷ l) k = turned l (carry c ∷ k)
    turned (answer a ∷ l) k = turned l (answer a ∷ k)
    turned (find f ∷ l) k = turned l (find f ∷ k)

module _ (w : World) (m : ℕ) where
  still-Opens : {s c t d : State} → Opens m s c → Still s t → Still c d → Opens m t d
  still-Opens h p q = record {
    cur = p.cur ∙ h.cur ∙ ap (up m) (sym q.cur);
    last = omega (arith, h.last, p.last, q.last);
    scopes = ap (map blank_scope) p.scopes ∙ h.scopes ∙ ap (map (number_scope (up m))) (sym q.scopes);
  }

  enter-Opens : {s c : State} (k a b : ℕ) → Opens m s c → Opens m (enter k a b s) (enter k 0 0 c)
  unfolding logs blank_scope number_scope up
  enter-Opens k a b h = record { cur = ap suc h.last; last = omega (arith, h.last); scopes = ap₂ (λ n l. scope k (Some n) 0 0 ∷ l) h.cur h.scopes }

  mutual
    unfolding resolve erase_e

    resolve-Opens : (t : Expr) {s c : State} → Opens m s c → Opens m (resolve w t s) (resolve w (erase_e t) c)
    resolve-Opens (var v) h = still-Opens h (var-still w v (w.row v) _) (var-still w v (w.row v) _)
    resolve-Opens (unresolved x) h = still-Opens h (visit-still w (w.hushed x) x _ _) (visit-still w (w.hushed x) x _ _)
    resolve-Opens (node f es) h = resolves-Opens es h
    resolve-Opens (predicate p) h = h
    resolve-Opens (comprehension a b p es) h =
        let g = resolves-Opens es (pattern-Opens p (enter-Opens comprehension_scope a b h)) in
        record { cur = h.cur; last = g.last; scopes = g.scopes }

    pub resolves-Opens : (t : Exprs) {s c : State} → Opens m s c → Opens m (resolves w t s) (resolves w (erases t) c)
    resolves-Opens done h = h
    resolves-Opens (more e es) h = resolves-Opens es (resolve-Opens e h)
    resolves-Opens (mark n es) h = resolves-Opens es h

    pattern-Opens : (t : Steps) {s c : State} → Opens m s c → Opens m (bind_pattern w t s) (bind_pattern w (erase_s t) c)
    pattern-Opens end h = h
    pattern-Opens (part p r) h = pattern-Opens r (still-Opens h (path-still w (variable p) _) (path-still w (variable p) _))
    pattern-Opens (elem k a b v es r) h = pattern-Opens r (resolves-Opens es (still-Opens h (elem-still w k (variable v) _) (elem-still w k (variable v) _)))
